-- The columns of a screen's cursor, and those of a sequence's.
use Rattle.std.proofs.Common.{◌≡◌, ℕ, ◌+◌, ◌<◌, inl, inr, Bool, true, false, min, ℤ, pos, negsuc, neg_ℤ, zero-add, ◌+ℤ◌, ◌-ℤ◌, unsigned_abs, List, [], ◌∷◌, fold, refl, sym, ◌∙◌, ap, ap₂, if◌then◌else◌, arith}
use Rattle.std.specs.Prelude.{◌==◌}
use Rattle.std.specs.Int.{int_rem_euclid}
use Rattle.std.specs.Int.RustNames.{int_rem}
use Rattle.std.specs.Str.{bytes_eq}
use Rattle.std.proofs.lemmas.Bool.{cases_Bool}
use Rattle.std.proofs.lemmas.Int.{ints}
use Rattle.std.proofs.Math.Nat.{mod-eq_of_lt}
use Rattle.unicode_segmentation.specs.Grapheme.{graphemes}
use Rattle.termwiz_cell.specs.CellValue.{CellValue, columns}
use Rattle.termwiz_screen.specs.Print.{print_piece, print_one, printed_cell, wraps}
use Rattle.termwiz_screen.specs.Screen.{Screen}
use Rattle.termwiz_cell.specs.Sequence.{cell_place, grapheme_place, printed_columns}
use Rattle.termwiz_screen.specs.SequenceLaws.{TextsMoveAlike, MovesLeadThere}
use Rattle.termwiz_screen.specs.declared.print.Piece.TheVariants.{CarriageReturn, LineFeed, CarriageReturnLineFeed, Cell}

-- a screen of this width, whose cursor is in the column of this place
pub record IsAlike (w : ℕ) (s : Screen) (at : ℕ × ℤ) : Type 0 where
  pub width : s.width ≡ w
  pub column : s.x ≡ at.0

module _ (w : ℕ) (s : Screen) (at : ℕ × ℤ) (h : IsAlike w s at) where
  alike-cell : (c : CellValue) (n : ℕ) → columns c ≡ n → IsAlike w (print_piece s (Cell c)) (cell_place w at n)
  alike-cell c n e =
      let same : (at.0 == w) ≡ wraps s = ap₂ (λ (a b : ℕ). a == b) (sym h.column) (sym h.width) in
      elim (cases_Bool (wraps s)) [
        | inl p ↦ rw (same, p) (record { width = h.width; column = ap₂ min (zero-add (columns c) ∙ e) h.width })
        | inr n ↦ rw (same, n) (record { width = h.width; column = ap₂ min (ap₂ (λ (a b : ℕ). a + b) h.column e) h.width })
      ]

  alike-piece : (c : CellValue) (n : ℕ) → columns c ≡ n → (return feed both : Bool)
      → IsAlike w (print_piece s (if return then CarriageReturn else (if feed then LineFeed else (if both then CarriageReturnLineFeed else Cell c))))
      (if return then (0, at.1) else (if feed then (at.0, at.1 +ℤ pos 1) else (if both then (0, at.1 +ℤ pos 1) else cell_place w at n)))
  alike-piece c n e true feed both = record { width = h.width; column = refl }
  alike-piece c n e false true both = record { width = h.width; column = h.column }
  alike-piece c n e false false true = record { width = h.width; column = refl }
  alike-piece c n e false false false = alike-cell c n e

  alike-one : (f : List ℕ → ℕ) (g : List ℕ) → IsAlike w (print_one f s g) (grapheme_place f w at g)
  alike-one f g = alike-piece (printed_cell f s.pen g) (printed_columns f g) refl (bytes_eq g (13 ∷ [])) (bytes_eq g (10 ∷ [])) (bytes_eq g (13 ∷ 10 ∷ []))

alike-all : (f : List ℕ → ℕ) (w : ℕ) (s : Screen) (at : ℕ × ℤ) → IsAlike w s at → (gs : List (List ℕ)) → IsAlike w (fold (print_one f) s gs) (fold (grapheme_place f w) at gs)
alike-all f w s at h [] = h
alike-all f w s at h (g ∷ gs) = alike-all f w (print_one f s g) (grapheme_place f w at g) (alike-one w s at h f g) gs

pub texts_alike : TextsMoveAlike
texts_alike f s rows at text h = (alike-all f s.width s at (record { width = refl; column = h }) (graphemes true text)).column

small-rem : (a : ℤ) (n : ℕ) → unsigned_abs a < n → int_rem a (pos n) ≡ a
small-rem (pos a) n l = ap pos (mod-eq_of_lt l)
small-rem (negsuc a) n l = ap (λ (k : ℕ). neg_ℤ (pos k)) (mod-eq_of_lt l)

pub moves_lead : MovesLeadThere
moves_lead rows columns from to l m =
    let column : pos from.0 +ℤ (pos to.0 -ℤ pos from.0) ≡ pos to.0 = omega (arith, ints) in
    let row : from.1 +ℤ (to.1 -ℤ from.1) ≡ to.1 = omega (arith, ints) in
    let right : unsigned_abs (int_rem_euclid (pos from.0 +ℤ (pos to.0 -ℤ pos from.0)) (pos columns)) ≡ to.0 = ap (λ (z : ℤ). unsigned_abs (int_rem_euclid z (pos columns))) column ∙ mod-eq_of_lt l in
    let down : int_rem (from.1 +ℤ (to.1 -ℤ from.1)) (pos rows) ≡ to.1 = ap (λ (z : ℤ). int_rem z (pos rows)) row ∙ small-rem to.1 rows m in
    λ i. (right i, down i)
