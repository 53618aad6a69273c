-- Runs of letters: what each prints where its width is above one.
use Rattle.std.proofs.Common.{◌≡◌, ℕ, ◌<◌, true, false, List, [], ◌∷◌, length, refl, sym, ap, arith}
use Rattle.std.proofs.lemmas.Bool.{and_right, lt-ltb}
use Rattle.std.specs.Prelude.{◌==◌, bytes_eq, encode_utf8}
use Rattle.termwiz_text.specs.Letter.{is_letter}
use Rattle.termwiz_text.proofs.LetterRuns.{letter_bytes, alone_letter}
use Rattle.termwiz_cell.specs.Attributes.{Attributes}
use Rattle.termwiz_cell.specs.CellValue.{clean}
use Rattle.termwiz_cell.proofs.Graphemes.{single_same}
use Rattle.termwiz_storage.specs.Letters.{letter_cell}
use Rattle.termwiz_screen.specs.declared.print.Piece.TheVariants.{Cell}
use Rattle.termwiz_screen.specs.Print.{piece_of, printed_cell}
use Rattle.termwiz_screen.proofs.Runs.{PrintsCell}

-- a text of three bytes is no line break
no_line_end : (a b c : ℕ) (t : List ℕ) → bytes_eq (a ∷ (b ∷ (c ∷ t))) (13 ∷ 10 ∷ []) ≡ false
no_line_end a b c t = and_right (a == 13) _ (and_right (b == 10) _ refl)

clean-three : (t : List ℕ) → length t ≡ 3 → clean t ≡ t
clean-three [] e = absurd (omega arith)
clean-three (a ∷ []) e = absurd (omega arith)
clean-three (a ∷ (b ∷ [])) e = absurd (omega arith)
clean-three (a ∷ (b ∷ (c ∷ t))) e = rw (no_line_end a b c t) refl

piece-three : (f : List ℕ → ℕ) (pen : Attributes) (t : List ℕ) → length t ≡ 3 → piece_of f pen t ≡ Cell (printed_cell f pen t)
piece-three f pen [] e = absurd (omega arith)
piece-three f pen (a ∷ []) e = absurd (omega arith)
piece-three f pen (a ∷ (b ∷ [])) e = absurd (omega arith)
piece-three f pen (a ∷ (b ∷ (c ∷ t))) e =
    let no_cr : bytes_eq (a ∷ (b ∷ (c ∷ t))) (13 ∷ []) ≡ false = and_right (a == 13) _ refl in
    let no_lf : bytes_eq (a ∷ (b ∷ (c ∷ t))) (10 ∷ []) ≡ false = and_right (a == 10) _ refl in
    rw (no_cr, no_lf, no_line_end a b c t) refl

pub PrintsCell-letter : (f : List ℕ → ℕ) (pen : Attributes) (c : ℕ) → is_letter c ≡ true → 1 < f (encode_utf8 c) → PrintsCell f pen (encode_utf8 c) (letter_cell c pen)
PrintsCell-letter f pen c h wide =
    let g : List ℕ = encode_utf8 c in
    let stays : clean g ≡ g = clean-three g (letter_bytes c h) in
    let two = lt-ltb 1 (f g) wide in
    record {
      is_text = piece-three f pen g (letter_bytes c h);
      cell_is = rw (single_same g (alone_letter c h), stays, two) refl;
      measured = record { alone = rw stays (alone_letter c h); is_clean = ap clean stays; wide_is = rw stays (sym two) };
    }
