-- Runs of ASCII: what their characters print, and a wrap before them.
use Rattle.std.proofs.Common.{◌≡◌, ℕ, ◌+◌, ◌-◌, ◌<◌, ◌≤◌, inl, inr, true, false, List, [], ◌∷◌, ◌++◌, length, get_or, take, fold, refl, sym, ◌∙◌, ap, ap₂, subst, arith}
use Rattle.std.specs.Prelude.{nat_le}
use Rattle.std.specs.List.{All, list_all, slice_range}
use Rattle.std.specs.Str.{IsCharBoundary}
use Rattle.std.proofs.lemmas.List.Sums.{AllPass-from_list_all}
use Rattle.std.proofs.lemmas.Bool.{cases_Bool, le-ltb, leb-true, and_parts, ne_eqb}
use Rattle.std.proofs.lemmas.List.{get_or_append_left, get_or-take, length-take, drop_more}
use Rattle.std.proofs.lemmas.Str.{chars-nil}
use Rattle.unicode_segmentation.specs.Grapheme.{graphemes}
use Rattle.termwiz_text.specs.Letter.{begins_simple}
use Rattle.termwiz_text.specs.Plain.{is_plain}
use Rattle.termwiz_text.proofs.Plain.{graphemes_plain, utf8_one}
use Rattle.termwiz_cell.specs.Attributes.{Attributes}
use Rattle.termwiz_cell.specs.CellValue.{CellValue, plain_cell, clean, measured}
use Rattle.termwiz_screen.specs.declared.print.Piece.TheVariants.{Cell}
use Rattle.termwiz_cell.specs.Graphemes.{single}
use Rattle.termwiz_screen.specs.Kept.{Kept}
use Rattle.termwiz_screen.specs.Screen.{Screen}
use Rattle.termwiz_screen.specs.Print.{piece_of, print_piece, print_one, put_at_cursor, put_kept, printed_cell, piece_kept, one_kept, kept_after, wraps, wrapped, wrapped_kept, columns_left}
use Rattle.termwiz_screen.specs.Measured.{IsMeasured}
use Rattle.termwiz_cell.proofs.Graphemes.{graphemes-nothing, single_same}

plain_from : (b : ℕ) → is_plain b ≡ true → 32 ≤ b
plain_from b h = leb-true 32 b (and_parts (nat_le 0x20 b) (nat_le b 0x7E) h).0

plain_to : (b : ℕ) → is_plain b ≡ true → b ≤ 126
plain_to b h = leb-true b 126 (and_parts (nat_le 0x20 b) (nat_le b 0x7E) h).1

alone-plain : (b : ℕ) → is_plain b ≡ true → graphemes true (b ∷ []) ≡ (b ∷ []) ∷ []
alone-plain b h = graphemes_plain b [] (utf8_one b h) h (ap begins_simple chars-nil) ∙ ap (λ gs. (b ∷ []) ∷ gs) graphemes-nothing

clean-plain : (b : ℕ) → is_plain b ≡ true → clean (b ∷ []) ≡ b ∷ []
clean-plain b h =
    let low : 32 ≤ b = plain_from b h in
    let high : b ≤ 126 = plain_to b h in
    rw (le-ltb b 32 low, ne_eqb b 127 (omega arith)) refl

pub piece-plain : (f : List ℕ → ℕ) (pen : Attributes) (b : ℕ) → is_plain b ≡ true → piece_of f pen (b ∷ []) ≡ Cell (printed_cell f pen (b ∷ []))
piece-plain f pen b h =
    let low : 32 ≤ b = plain_from b h in
    rw (ne_eqb b 13 (omega arith), ne_eqb b 10 (omega arith)) refl

module _ (f : List ℕ → ℕ) (b : ℕ) (a : Attributes) (plain : is_plain b ≡ true) (narrow : f (b ∷ []) ≤ 1) where
  pub measured-plain : measured f (single (b ∷ [])) a ≡ plain_cell b a
  measured-plain = rw (single_same (b ∷ []) (alone-plain b plain), clean-plain b plain, le-ltb 1 (f (b ∷ [])) narrow) refl

  pub IsMeasured-plain : IsMeasured f (plain_cell b a)
  IsMeasured-plain = record { alone = alone-plain b plain; is_clean = clean-plain b plain; wide_is = sym (le-ltb 1 (f (b ∷ [])) narrow) }

-- a grapheme prints this cell, which is measured
pub record PrintsCell (f : List ℕ → ℕ) (pen : Attributes) (g : List ℕ) (c : CellValue) : Type 0 where
  pub is_text : piece_of f pen g ≡ Cell (printed_cell f pen g)
  pub cell_is : printed_cell f pen g ≡ c
  pub measured : IsMeasured f c

pub PrintsCell-plain : (f : List ℕ → ℕ) (pen : Attributes) (b : ℕ) → is_plain b ≡ true → f (b ∷ []) ≤ 1 → PrintsCell f pen (b ∷ []) (plain_cell b pen)
PrintsCell-plain f pen b h n = record { is_text = piece-plain f pen b h; cell_is = measured-plain f b pen h n; measured = IsMeasured-plain f b pen h n }

-- what a wrap keeps, and the room that it leaves
pub pen-wrapped : (s : Screen) → (wrapped s).pen ≡ s.pen
pen-wrapped s = elim (cases_Bool (wraps s)) [ inl w ↦ rw w refl | inr n ↦ rw n refl ]

pub room-wrapped : (s : Screen) (n : ℕ) → s.x ≤ s.width → n ≤ columns_left s → (wrapped s).x + n ≤ s.width
room-wrapped s n l h = elim (cases_Bool (wraps s)) [
  | inl w ↦ let m : n ≤ s.width = rw w at h in rw w (omega arith)
  | inr q ↦ let m : n ≤ s.width - s.x = rw q at h in rw q (omega arith)
]

-- a wrap may come before its grapheme
module _ (f : List ℕ → ℕ) (s : Screen) (k : Kept) (g : List ℕ) (gs : List (List ℕ)) (is_text : piece_of f s.pen g ≡ Cell (printed_cell f s.pen g)) (settled : wraps (wrapped s) ≡ false) where
  wrapped-twice : wrapped (wrapped s) ≡ wrapped s
  wrapped-twice = rw settled refl

  piece-wrapped : piece_of f (wrapped s).pen g ≡ Cell (printed_cell f s.pen g)
  piece-wrapped = ap (λ (a : Attributes). piece_of f a g) (pen-wrapped s) ∙ is_text

  print-wrapped : print_one f (wrapped s) g ≡ print_one f s g
  print-wrapped = ap (print_piece (wrapped s)) piece-wrapped ∙ ap (λ (z : Screen). put_at_cursor z (printed_cell f s.pen g)) wrapped-twice ∙ sym (ap (print_piece s) is_text)

  kept-wrapped : one_kept f (wrapped s) g (wrapped_kept s k) ≡ one_kept f s g k
  kept-wrapped =
      let once : wrapped_kept (wrapped s) (wrapped_kept s k) ≡ wrapped_kept s k = rw settled refl in
      ap (λ p. piece_kept (wrapped s) p (wrapped_kept s k)) piece-wrapped
      ∙ ap₂ (λ (z : Screen) (m : Kept). put_kept z (printed_cell f s.pen g) m) wrapped-twice once
      ∙ sym (ap (λ p. piece_kept s p k) is_text)

  pub screen-from_wrap : fold (print_one f) (wrapped s) (g ∷ gs) ≡ fold (print_one f) s (g ∷ gs)
  screen-from_wrap = ap (λ (z : Screen). fold (print_one f) z gs) print-wrapped

  pub kept-from_wrap : kept_after f (wrapped s) (wrapped_kept s k) (g ∷ gs) ≡ kept_after f s k (g ∷ gs)
  kept-from_wrap = ap₂ (λ (z : Screen) (m : Kept). kept_after f z m gs) print-wrapped kept-wrapped

-- a run of ASCII may be cut anywhere
pub boundary-plain : (bs : List ℕ) (i : ℕ) → list_all is_plain bs ≡ true → i ≤ length bs → IsCharBoundary bs i
boundary-plain bs i h l = (
  l,
  λ m n.
      let is : is_plain (get_or bs i 0) ≡ true = AllPass-from_list_all is_plain bs h i 0 m in
      let low : get_or bs i 0 ≤ 126 = plain_to (get_or bs i 0) is in
      absurd (omega arith),
)

-- what holds of a beginning holds of a shorter beginning of the same list
pub all-shorter : (P : ℕ → Type 0) (n : ℕ) (run rest short more : List ℕ) → run ++ rest ≡ short ++ more → length short ≤ n → n ≤ length run → All P (take n run) → All P short
all-shorter P n run rest short more e s l h = λ k d m.
    let left : get_or (run ++ rest) k d ≡ get_or run k d = get_or_append_left run rest d k (omega arith) in
    let right : get_or (short ++ more) k d ≡ get_or short k d = get_or_append_left short more d k m in
    let same : get_or (take n run) k d ≡ get_or short k d = get_or-take n run k d (omega arith) ∙ sym left ∙ ap (λ (t : List ℕ). get_or t k d) e ∙ right in
    subst P same (h k d (omega (arith, length-take n run)))

pub one_byte : (bs : List ℕ) (k : ℕ) → k < length bs → slice_range bs k (k + 1) ≡ get_or bs k 0 ∷ []
one_byte bs k l = let one : k + 1 - k ≡ 1 = omega arith in rw (one, drop_more bs k 0 l) refl

pub kept_after-append : (f : List ℕ → ℕ) (s : Screen) (k : Kept) (gs hs : List (List ℕ)) → kept_after f s k (gs ++ hs) ≡ kept_after f (fold (print_one f) s gs) (kept_after f s k gs) hs
kept_after-append f s k [] hs = refl
kept_after-append f s k (g ∷ gs) hs = kept_after-append f (print_one f s g) (one_kept f s g k) gs hs
