-- What a borrowed cell shows, and the cell that it stands for.
use Rattle.std.proofs.Common.{◌≡◌, ℕ, Bool, true, false, cond, refl, sym, ap, ◌∙◌}
use Rattle.std.specs.Prelude.{nat_lt}
use Rattle.termwiz_cell.specs.CellValue.{CellValue, cell_of, columns}
use Rattle.termwiz_storage.specs.CellRef.{Contents, contents, contents_of, ref_cell, ref_width}
use Rattle.termwiz_storage.specs.CellsLeft.{IsOfCell}
use Rattle.termwiz_storage.specs.declared.line.cellref.CellRef.{CellRef}

abbrev width_of : Bool → ℕ
width_of wide = cond wide 2 1

same_wide : (a b : Bool) → width_of a ≡ width_of b → a ≡ b
same_wide true true e = refl
same_wide true false e = cc
same_wide false true e = cc
same_wide false false e = refl

-- cells that show the same are equal
pub contents_of-injective : (a b : CellValue) → contents_of a ≡ contents_of b → a ≡ b
contents_of-injective a b e = λ i. record {
  text = (e i).text;
  wide = same_wide a.wide b.wide (ap (λ (c : Contents). c.width) e) i;
  attrs = (e i).attrs;
}

-- a borrowed cell that tells its cell's width shows what its cell shows
pub contents-own : (r : CellRef) → ref_width r ≡ columns (ref_cell r) → contents r ≡ contents_of (ref_cell r)
contents-own r e = λ i. record { text = (ref_cell r).text; width = e i; attrs = (ref_cell r).attrs }

pub ref_cell-is : (r : CellRef) (c : CellValue) → ref_width r ≡ columns (ref_cell r) → contents r ≡ contents_of c → ref_cell r ≡ c
ref_cell-is r c e h = contents_of-injective (ref_cell r) c (sym (contents-own r e) ∙ h)

pub contents-is : (r : CellRef) (c : CellValue) → ref_width r ≡ columns (ref_cell r) → ref_cell r ≡ c → contents r ≡ contents_of c
contents-is r c e h = contents-own r e ∙ ap contents_of h

-- the cell that is made of what it tells
pub cell_of-own : (r : CellRef) → IsOfCell r → cell_of (ref_cell r).text (ref_width r) (ref_cell r).attrs ≡ ref_cell r
cell_of-own r h = λ i. record {
  text = h.clean i;
  wide = (ap (nat_lt 1) h.width ∙ same (ref_cell r).wide) i;
  attrs = (ref_cell r).attrs;
}
  where
    same : (w : Bool) → nat_lt 1 (width_of w) ≡ w
    same true = refl
    same false = refl
