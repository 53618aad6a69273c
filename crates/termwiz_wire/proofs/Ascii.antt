-- A text of ASCII needs no pieces, where each printable character has one column at most.
use Rattle.std.proofs.Common.{◌≡◌, ℕ, suc, ◌<◌, ◌≤◌, true, false, ◌&&◌, ◌==◌, inl, inr, List, [], ◌∷◌, map, length, refl, sym, ap, subst, ◌∙◌, arith}
use Rattle.std.proofs.lemmas.Bool.{cases_Bool, and_right, le-ltb, lt-ltb}
use Rattle.std.proofs.lemmas.Grind.{common_steps}
use Rattle.std.proofs.lemmas.Str.{chars-nil, encode_ascii, IsUtf8-encode}
use Rattle.std.specs.Prelude.{nat_lt}
use Rattle.std.specs.Str.{chars, IsUtf8, IsAscii}
use Rattle.unicode_segmentation.specs.Grapheme.{graphemes}
use Rattle.termwiz_text.specs.First.{IsFirst}
use Rattle.termwiz_text.specs.Letter.{begins_line_end, begins_simple, is_simple}
use Rattle.termwiz_text.specs.Plain.{is_plain}
use Rattle.termwiz_text.proofs.First.{graphemes-nil, line_end_before, first_simple, IsCharFront}
use Rattle.termwiz_text.proofs.Ascii.{chars_ascii, IsUtf8-past_ascii, past_ascii}
use Rattle.termwiz_cell.specs.Attributes.{default_attributes}
use Rattle.termwiz_cell.specs.CellValue.{clean, columns, is_control, space}
use Rattle.termwiz_cell.specs.Graphemes.{single}
use Rattle.termwiz_cell.specs.UsualWidths.{HasNarrowAscii}
use Rattle.termwiz_cell.proofs.Graphemes.{single_same}
use Rattle.termwiz_screen.specs.Print.{piece_of, printed_cell}
use Rattle.termwiz_wire.specs.Pieces.{needs_pieces, piece, piece_columns, pieces_of, runs, stands_out}
use Rattle.termwiz_wire.proofs.Runs.{runs_are, any-grouped}

-- the text that a cell shows for a character of ASCII has one column at most
shown-narrow : (f : List ℕ → ℕ) (c : ℕ) → c < 128 → HasNarrowAscii f → f space ≡ 1 → f (clean (c ∷ [])) ≤ 1
shown-narrow f c l n s = elim (cases_Bool (is_control c)) [
  | inl y ↦ rw y (omega arith)
  | inr other ↦ rw other (n c (printable c l other))
]
  where
    printable : (c : ℕ) → c < 128 → is_control c ≡ false → is_plain c ≡ true
    printable c l other = grind (arith, common_steps)

narrow-columns : (f : List ℕ → ℕ) (g : List ℕ) → f (clean (single g)) ≤ 1 → columns (printed_cell f default_attributes g) ≡ 1
narrow-columns f g h = rw (le-ltb 1 (f (clean (single g))) h) refl

few-columns : (f : List ℕ → ℕ) (c : ℕ) → graphemes true (c ∷ []) ≡ (c ∷ []) ∷ [] → f (clean (c ∷ [])) ≤ 1 → nat_lt 1 (piece_columns (piece_of f default_attributes (c ∷ []))) ≡ false
few-columns f c alone h = elim (cases_Bool (c == 13)) [
  | inl y ↦ rw y refl
  | inr no_cr ↦ elim (cases_Bool (c == 10)) [
    | inl y ↦ rw (no_cr, y) refl
    | inr no_lf ↦ rw (no_cr, no_lf, narrow-columns f (c ∷ []) (rw (single_same (c ∷ []) alone) h)) refl
  ]
]

one-out : (f : List ℕ → ℕ) (c : ℕ) → c < 128 → IsUtf8 (c ∷ []) → graphemes true (c ∷ []) ≡ (c ∷ []) ∷ [] → HasNarrowAscii f → f space ≡ 1 → stands_out (piece f (c ∷ [])) ≡ false
one-out f c l u alone n s =
    let one : chars (c ∷ []) ≡ c ∷ [] = chars_ascii c [] u l ∙ ap (λ cs. c ∷ cs) chars-nil in
    rw (few-columns f c alone (shown-narrow f c l n s), one) refl

line_end-out : (f : List ℕ → ℕ) → stands_out (piece f (13 ∷ (10 ∷ []))) ≡ false
line_end-out f = and_right (nat_lt 1 (length (chars (13 ∷ (10 ∷ []))))) false refl

step : (f : List ℕ → ℕ) (text g rest : List ℕ) → IsFirst text g rest → stands_out (piece f g) ≡ false → needs_pieces (pieces_of f rest) ≡ false → needs_pieces (pieces_of f text) ≡ false
step f text g rest is out none = ap (λ gs. needs_pieces (map (piece f) gs)) is.graphemes_are ∙ rw (out, none) refl

-- ---- its graphemes

front : (c : ℕ) (rest : List ℕ) → c < 128 → IsCharFront (c ∷ rest) c 1
front c rest l = record { rest = rest; split = past_ascii c rest l; len = sym (ap length (encode_ascii c l)) }

simple : (c : ℕ) → c < 128 → is_simple c ≡ true
simple c l = rw (lt-ltb c 128 l) refl

begins : (text : List ℕ) → IsUtf8 text → IsAscii text → begins_simple (chars text) ≡ true
begins [] u a = ap begins_simple chars-nil
begins (d ∷ t) u a = ap begins_simple (chars_ascii d t u (a 0)) ∙ simple d (a 0)

first_ascii : (c : ℕ) (rest : List ℕ) → IsUtf8 (c ∷ rest) → IsAscii (c ∷ rest) → begins_line_end (c ∷ rest) ≡ false → IsFirst (c ∷ rest) (c ∷ []) rest
first_ascii c rest u a other = first_simple (c ∷ rest) (c ∷ []) rest c 1 u other (front c rest (a 0)) refl refl (simple c (a 0)) (begins rest (IsUtf8-past_ascii c rest u (a 0)) (λ i. a (suc i)))

one_text : (c : ℕ) → c < 128 → IsUtf8 (c ∷ [])
one_text c l = subst IsUtf8 (encode_ascii c l) (IsUtf8-encode c (rw (lt-ltb c 0xD800 (omega arith)) refl))

-- a character that is no part of a CR LF, and what follows it
past_one : (f : List ℕ → ℕ) (c : ℕ) (rest : List ℕ) → IsUtf8 (c ∷ rest) → IsAscii (c ∷ rest) → HasNarrowAscii f → f space ≡ 1 → begins_line_end (c ∷ rest) ≡ false → needs_pieces (pieces_of f rest) ≡ false → needs_pieces (pieces_of f (c ∷ rest)) ≡ false
past_one f c rest u a n s other later = let is : IsFirst (c ∷ rest) (c ∷ []) rest = first_ascii c rest u a other in step f (c ∷ rest) (c ∷ []) rest is (one-out f c (a 0) (one_text c (a 0)) is.alone n s) later

none_out : (f : List ℕ → ℕ) (text : List ℕ) → IsUtf8 text → IsAscii text → HasNarrowAscii f → f space ≡ 1 → needs_pieces (pieces_of f text) ≡ false
none_out f [] u a n s = ap (λ gs. needs_pieces (map (piece f) gs)) graphemes-nil
none_out f (c ∷ []) u a n s = past_one f c [] u a n s refl (ap (λ gs. needs_pieces (map (piece f) gs)) graphemes-nil)
none_out f (c ∷ (d ∷ t)) u a n s =
    let later : IsUtf8 (d ∷ t) = IsUtf8-past_ascii c (d ∷ t) u (a 0) in
    elim (cases_Bool (c == 13 && d == 10)) [
      | inl y ↦ step f (c ∷ (d ∷ t)) (13 ∷ (10 ∷ [])) t (line_end_before (c ∷ (d ∷ t)) t u y refl) (line_end-out f) (none_out f t (IsUtf8-past_ascii d t later (a 1)) (λ i. a (suc (suc i))) n s)
      | inr other ↦ past_one f c (d ∷ t) u a n s other (none_out f (d ∷ t) later (λ i. a (suc i)) n s)
    ]

pub ascii_needs_none : (f : List ℕ → ℕ) (text : List ℕ) → IsUtf8 text → IsAscii text → HasNarrowAscii f → f space ≡ 1 → needs_pieces (runs f text) ≡ false
ascii_needs_none f text u a n s = ap needs_pieces (runs_are f text) ∙ any-grouped (pieces_of f text) ∙ none_out f text u a n s
