-- Painting keeps the form of a stored row, and paints the row.
use Rattle.std.proofs.Common.{◌≡◌, ℕ, suc, ◌+◌, ◌<◌, ◌≤◌, inl, inr, true, min, max, List, [], ◌∷◌, length, replicate, refl, sym, ◌∙◌, ap, subst, arith}
use Rattle.std.proofs.lemmas.List.{get_or-take, get_or_past, length-replicate, length-take}
use Rattle.std.proofs.lemmas.Bool.{cases_lt, true≢false}
use Rattle.unicode_segmentation.specs.Grapheme.{graphemes}
use Rattle.unicode_segmentation.proofs.Computing.{unicode_segmentation}
use Rattle.termwiz_cell.specs.CellValue.{CellValue, blank, blank_of, half, is_wide, columns}
use Rattle.termwiz_storage.specs.Stored.{stored, set_cell}
use Rattle.termwiz_storage.proofs.Widths.{columns-wide}
use Rattle.termwiz_storage.proofs.SetCell.{IsSet, IsSet-set_cell, length-set_cell}
use Rattle.termwiz_cell.specs.Attributes.{Attributes, default_attributes}
use Rattle.termwiz_line.specs.Row.{row_of, paint}
use Rattle.termwiz_screen.specs.Rows.{painted_in}
use Rattle.termwiz_screen.specs.Measured.{IsMeasured, IsStored}
use Rattle.termwiz_line.proofs.RowOf.{length-row_of}
use Rattle.termwiz_line.proofs.StoredRows.{IsHalved, row_stored, row_ext, row-set_cell, set_keeps, wide_after, set_halves, stored-replicate}

pub graphemes-space : graphemes true (32 ∷ []) ≡ (32 ∷ []) ∷ []
unfolding unicode_segmentation
graphemes-space = refl

-- a law of widths
pub record IsLawful (f : List ℕ → ℕ) : Type 0 where
  pub space : f (32 ∷ []) ≡ 1

pub IsMeasured-blank : (f : List ℕ → ℕ) (a : Attributes) → IsLawful f → IsMeasured f (blank_of a)
IsMeasured-blank f a h = record { alone = graphemes-space; is_clean = refl; wide_is = rw h.space refl }

pub halved : (f : List ℕ → ℕ) (w : ℕ) (cs : List CellValue) → IsStored f w cs → IsHalved w (stored cs)
halved f w cs s = record { halves = s.halves }

pub IsStored-blank : (f : List ℕ → ℕ) (w : ℕ) → IsLawful f → 0 < w → IsStored f w (replicate w blank)
IsStored-blank f w h p = record {
  some = rw length-replicate p;
  within = rw length-replicate (omega arith);
  halves = λ k l t. absurd (true≢false (sym t ∙ ap is_wide (stored-replicate w k)));
  closed = λ k l t. absurd (true≢false (sym t ∙ ap is_wide (stored-replicate w k)));
  measured = λ k. rw (stored-replicate w k) (IsMeasured-blank f default_attributes h);
}

-- what is stored after a cell is painted
pub painted_stored : (w c : ℕ) (x : CellValue) (cs : List CellValue) (k : ℕ) → k < w → stored (painted_in w c x cs) k ≡ stored (set_cell c x cs) k
painted_stored w c x cs k l = get_or-take w (set_cell c x cs) k blank l

pub length-painted_in : (w c : ℕ) (x : CellValue) (cs : List CellValue) → length cs ≤ w → length (painted_in w c x cs) ≡ max (length cs) (min (c + columns x) w)
length-painted_in w c x cs l = length-take w (set_cell c x cs) ∙ ap (λ n. min w n) (length-set_cell c x cs) ∙ omega arith

module _ (f : List ℕ → ℕ) (w c : ℕ) (x : CellValue) (cs : List CellValue) (h : IsLawful f) (s : IsStored f w cs) (m : IsMeasured f x) (l : c < w) where
  is_set : IsSet (stored cs) c x (stored (set_cell c x cs))
  is_set = IsSet-set_cell c x cs

  len : length (painted_in w c x cs) ≡ max (length cs) (min (c + columns x) w)
  len = length-painted_in w c x cs s.within

  painted_halves : (k : ℕ) → suc k < w → is_wide (stored (painted_in w c x cs) k) ≡ true → stored (painted_in w c x cs) (suc k) ≡ half (stored (painted_in w c x cs) k)
  painted_halves k q t =
      let a : stored (painted_in w c x cs) k ≡ stored (set_cell c x cs) k = painted_stored w c x cs k (omega arith) in
      let b : stored (painted_in w c x cs) (suc k) ≡ stored (set_cell c x cs) (suc k) = painted_stored w c x cs (suc k) q in
      b ∙ set_halves w (stored cs) (stored (set_cell c x cs)) c x is_set (halved f w cs s) k q (sym (ap is_wide a) ∙ t) ∙ ap half (sym a)

  painted_closed : (k : ℕ) → suc k < w → is_wide (stored (painted_in w c x cs) k) ≡ true → suc k < length (painted_in w c x cs)
  painted_closed k q t =
      let a : stored (painted_in w c x cs) k ≡ stored (set_cell c x cs) k = painted_stored w c x cs k (omega arith) in
      elim (wide_after (stored cs) (stored (set_cell c x cs)) c x is_set k (sym (ap is_wide a) ∙ t)) [
        | inl p ↦ let two : columns x ≡ 2 = columns-wide x p.1 in let e : k ≡ c = p.0 in omega (arith, len)
        | inr p ↦ let old : suc k < length cs = s.closed k q p.0 in omega (arith, len)
      ]

  painted_measured : (k : ℕ) → IsMeasured f (stored (painted_in w c x cs) k)
  painted_measured k = elim (cases_lt k w) [
    | inl q ↦ subst (IsMeasured f) (sym (painted_stored w c x cs k q)) (set_keeps (IsMeasured f) (stored cs) (stored (set_cell c x cs)) c x is_set m (λ a. IsMeasured-blank f a h) s.measured k)
    | inr q ↦
        let past : length (painted_in w c x cs) ≤ k = let b : length cs ≤ w = s.within in omega (arith, len) in
        subst (IsMeasured f) (sym (get_or_past (painted_in w c x cs) k blank past)) (IsMeasured-blank f default_attributes h)
  ]

  pub IsStored-painted_in : IsStored f w (painted_in w c x cs)
  IsStored-painted_in = record {
    some = let p : 0 < length cs = s.some in omega (arith, len);
    within = let p : length cs ≤ w = s.within in omega (arith, len);
    halves = painted_halves;
    closed = painted_closed;
    measured = painted_measured;
  }

-- the painted row is the row of what is stored then
pub row-painted_in : (w c : ℕ) (x : CellValue) (cs : List CellValue) → IsHalved w (stored cs) → c < w → row_of w (painted_in w c x cs) ≡ paint (row_of w cs) c x
row-painted_in w c x cs h l =
    let s : IsSet (stored cs) c x (stored (set_cell c x cs)) = IsSet-set_cell c x cs in
    row_ext w (painted_in w c x cs) (row_of w (set_cell c x cs))
    (record {
      halves = λ k q t.
          let a : stored (painted_in w c x cs) k ≡ stored (set_cell c x cs) k = painted_stored w c x cs k (omega arith) in
          let b : stored (painted_in w c x cs) (suc k) ≡ stored (set_cell c x cs) (suc k) = painted_stored w c x cs (suc k) q in
          b ∙ set_halves w (stored cs) (stored (set_cell c x cs)) c x s h k q (sym (ap is_wide a) ∙ t) ∙ ap half (sym a);
    })
    (length-row_of w (set_cell c x cs))
    (λ k q. painted_stored w c x cs k q ∙ sym (row_stored w (set_cell c x cs) k (record { halves = λ j r t. set_halves w (stored cs) (stored (set_cell c x cs)) c x s h j r t }) q))
    ∙ row-set_cell w c x cs h l
