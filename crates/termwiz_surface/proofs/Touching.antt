-- Which rows changes touch.
use Rattle.std.proofs.Common.{◌≡◌, ℕ, ◌+◌, ◌-◌, true, false, inl, inr, min, List, [], ◌∷◌, ◌++◌, take, drop, replicate, fold, refl, sym, ◌∙◌, ap, ap₂, arith, length-take}
use Rattle.std.specs.Prelude.{Bool, ◌||◌, ◌==◌, nat_lt}
use Rattle.std.proofs.lemmas.Bool.{cases_eq, cases_lt, eq-eqb, ne_eqb, lt-ltb, le-ltb, le-leb, or_from, or_left, or_right}
use Rattle.std.proofs.lemmas.List.{append-nil, drop-drop, take-append-drop, take_all}
use Rattle.termwiz_cell.specs.Attributes.{Attributes}
use Rattle.termwiz_screen.specs.Kept.{Kept}
use Rattle.termwiz_screen.specs.Print.{wraps, wrapped, printed_cell, piece_of, print_one}
use Rattle.termwiz_screen.specs.Screen.{Screen}
use Rattle.termwiz_screen.specs.ScrollRegions.{region, with_region, region_up, region_down}
use Rattle.termwiz_screen.specs.declared.print.Piece.{Piece}
use Rattle.termwiz_screen.specs.declared.print.Piece.TheVariants.{Cell}
use Rattle.termwiz_screen.proofs.Runs.{pen-wrapped, screen-from_wrap}
use Rattle.termwiz_surface.specs.Touching.{cursor_row, one_touches, piece_touches, scroll_touches, touched_by, wrap_touches}

-- one test or another
pub or_assoc : (a b c : Bool) → ((a || b) || c) ≡ (a || (b || c))
or_assoc true b c = refl
or_assoc false b c = refl

-- ---- texts

module _ (f : List ℕ → ℕ) where
  -- graphemes, and others after them
  pub touched_by-append : (s : Screen) (gs hs : List (List ℕ)) (j : ℕ) → touched_by f s (gs ++ hs) j ≡ (touched_by f s gs j || touched_by f (fold (print_one f) s gs) hs j)
  touched_by-append s [] hs j = refl
  touched_by-append s (g ∷ gs) hs j =
      ap (λ b. one_touches f s g j || b) (touched_by-append (print_one f s g) gs hs j)
      ∙ sym (or_assoc (one_touches f s g j) (touched_by f (print_one f s g) gs j) (touched_by f (fold (print_one f) (print_one f s g) gs) hs j))

  -- a wrap may come before its grapheme
  module _ (s : Screen) (k : Kept) (g : List ℕ) (gs : List (List ℕ)) (is_text : piece_of f s.pen g ≡ Cell (printed_cell f s.pen g)) (settled : wraps (wrapped s) ≡ false) (j : ℕ) where
    piece-wrapped : piece_of f (wrapped s).pen g ≡ Cell (printed_cell f s.pen g)
    piece-wrapped = ap (λ (a : Attributes). piece_of f a g) (pen-wrapped s) ∙ is_text

    one-wrapped : one_touches f (wrapped s) g j ≡ cursor_row (wrapped s) j
    one-wrapped =
        let cell : piece_touches (wrapped s) (Cell (printed_cell f s.pen g)) j ≡ cursor_row (wrapped s) j = rw settled refl in
        ap (λ (p : Piece). piece_touches (wrapped s) p j) piece-wrapped ∙ cell

    one-first : one_touches f s g j ≡ (wrap_touches s j || cursor_row (wrapped s) j)
    one-first = ap (λ (p : Piece). piece_touches s p j) is_text

    pub touched-from_wrap : touched_by f s (g ∷ gs) j ≡ (wrap_touches s j || touched_by f (wrapped s) (g ∷ gs) j)
    touched-from_wrap =
        let rest : touched_by f (print_one f (wrapped s) g) gs j ≡ touched_by f (print_one f s g) gs j = ap (λ (z : Screen). touched_by f z gs j) (screen-from_wrap f s k g [] is_text settled) in
        ap (λ b. b || touched_by f (print_one f s g) gs j) one-first
        ∙ or_assoc (wrap_touches s j) (cursor_row (wrapped s) j) (touched_by f (print_one f s g) gs j)
        ∙ ap₂ (λ b d. wrap_touches s j || (b || d)) (sym one-wrapped) (sym rest)

-- ---- scrolls

-- the rows below index n, and the one at it
pub below-more : (n j : ℕ) → nat_lt j (n + 1) ≡ (nat_lt j n || j == n)
below-more n j = elim (cases_lt j n) [
  | inl before ↦ lt-ltb j (n + 1) (omega arith) ∙ sym (or_left (nat_lt j n) (j == n) (lt-ltb j n before))
  | inr from ↦ elim (cases_eq j n) [
    | inl e ↦ lt-ltb j (n + 1) (omega arith) ∙ sym (or_right (nat_lt j n) (j == n) (eq-eqb j n e))
    | inr other ↦ le-ltb j (n + 1) (omega arith) ∙ sym (or_from (nat_lt j n) (j == n) (le-ltb j n from) (ne_eqb j n other))
  ]
]

-- the rows that a scroll of a region from row 0 on drops are rows of the region
pub scroll-over : (n k m j : ℕ) → m ≡ min k n → scroll_touches 0 n k j ≡ (nat_lt j m || scroll_touches 0 n k j)
scroll-over n k m j e = elim (cases_lt j m) [
  | inl before ↦
      let moves : scroll_touches 0 n k j ≡ true = rw (lt-ltb 0 k (omega arith), le-leb 0 j (omega arith), lt-ltb j (0 + n) (omega arith)) refl in
      moves ∙ sym (or_left (nat_lt j m) (scroll_touches 0 n k j) (lt-ltb j m before))
  | inr from ↦ sym (ap (λ b. b || scroll_touches 0 n k j) (le-ltb j m from))
]

-- a scroll by 0 rows moves none
module _ {X : Type 0} (d : X) (xs : List X) (a n k : ℕ) (e : k ≡ 0) where
  none : min k n ≡ 0
  none = omega arith

  whole : with_region xs a n (region xs a n) ≡ xs
  whole =
      ap (λ (t : List X). take a xs ++ (take n (drop a xs) ++ t)) (sym (drop-drop n a xs))
      ∙ ap (λ (t : List X). take a xs ++ t) (take-append-drop n (drop a xs))
      ∙ take-append-drop a xs

  pub up-none : region_up d xs a n k ≡ xs
  up-none =
      ap (λ j. with_region xs a n (drop j (region xs a n) ++ replicate j d)) none
      ∙ ap (with_region xs a n) (append-nil (region xs a n))
      ∙ whole

  pub down-none : region_down d xs a n k ≡ xs
  down-none =
      let all : n - 0 ≡ n = omega arith in
      ap (λ j. with_region xs a n (replicate j d ++ take (n - j) (region xs a n))) none
      ∙ ap (λ j. with_region xs a n (take j (region xs a n))) all
      ∙ ap (with_region xs a n) (take_all n (region xs a n) (omega (arith, length-take n (drop a xs))))
      ∙ whole
