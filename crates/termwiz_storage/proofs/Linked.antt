-- Links of visible cells and of stored ones.
use Rattle.std.proofs.Common.{◌≡◌, ℕ, zero, suc, ◌+◌, ◌<◌, Bool, true, false, List, [], ◌∷◌, ◌++◌, length, drop, replicate, refl, sym, ap, ◌∙◌, arith}
use Rattle.std.specs.Prelude.{◌||◌}
use Rattle.std.specs.List.{list_any}
use Rattle.std.specs.Option.{is_some}
use Rattle.termwiz_cell.specs.Attributes.{Attributes}
use Rattle.termwiz_cell.specs.CellValue.{CellValue, columns}
use Rattle.termwiz_storage.specs.declared.line.clusterline.runs.Shape.{Shape}
use Rattle.termwiz_storage.specs.Edits.{with_half, with_halves}
use Rattle.termwiz_storage.specs.Clustered.{IsWhole, cell_len, cells_from, first_cell, shown_cells}
use Rattle.termwiz_storage.specs.Stored.{is_linked, visible}
use Rattle.termwiz_storage.proofs.Clustered.{visible-cells_from, with_halves-visible}
use Rattle.termwiz_storage.proofs.Whole.{whole-from, whole-is}
use Rattle.termwiz_storage.specs.VisibleCell.{VisibleCell}

abbrev pub shown_linked : VisibleCell → Bool
shown_linked p = is_linked p.cell

or_twice : (a b : Bool) → (a || (a || b)) ≡ (a || b)
or_twice true b = refl
or_twice false b = refl

linked_step : (w : Bool) (x : List ℕ) (a : Attributes) (cs : List CellValue) → list_any is_linked (with_half (record { text = x; wide = w; attrs = a }) ++ cs) ≡ (is_linked (record { text = x; wide = w; attrs = a }) || list_any is_linked cs)
linked_step true x a cs = or_twice (is_linked (record { text = x; wide = true; attrs = a })) (list_any is_linked cs)
linked_step false x a cs = refl

-- a half is linked where its cell is
linked-with_halves : (ps : List VisibleCell) → list_any shown_linked ps ≡ list_any is_linked (with_halves ps)
linked-with_halves [] = refl
linked-with_halves (p ∷ ps) = sym (linked_step p.cell.wide p.cell.text p.cell.attrs (with_halves ps) ∙ ap (λ (b : Bool). is_linked p.cell || b) (sym (linked-with_halves ps)))

pub linked-visible : (cs : List CellValue) → IsWhole cs → list_any shown_linked (visible cs) ≡ list_any is_linked cs
linked-visible cs h = linked-with_halves (visible cs) ∙ ap (list_any is_linked) (whole-is cs h)

linked-shown : (i : ℕ) (t : List ℕ) (ss : List Shape) (ps : List Attributes) → length ss ≡ length ps → list_any shown_linked (shown_cells i t ss ps) ≡ list_any (λ a. is_some a.hyperlink) ps
linked-shown i t [] [] e = refl
linked-shown i t [] (a ∷ ps) e = absurd (omega arith)
linked-shown i t (s ∷ ss) [] e = absurd (omega arith)
linked-shown i t (s ∷ ss) (a ∷ ps) e = ap (λ (b : Bool). is_some a.hyperlink || b) (linked-shown (i + columns (first_cell t s a)) (drop (cell_len s t) t) ss ps (omega arith))

-- links of the attributes of a text's cells
pub linked-attrs : (cs : List CellValue) (t : List ℕ) (ss : List Shape) (ps : List Attributes) → cells_from t ss ps ≡ cs → length ss ≡ length ps → list_any (λ a. is_some a.hyperlink) ps ≡ list_any is_linked cs
linked-attrs cs t ss ps v e =
    sym (linked-shown 0 t ss ps e)
    ∙ ap (list_any shown_linked) (visible-cells_from cs t ss ps v)
    ∙ linked-visible cs (whole-from cs (with_halves-visible cs t ss ps v))

pub linked-run : (n : ℕ) (a : Attributes) (ps : List Attributes) → 0 < n → list_any (λ a. is_some a.hyperlink) (replicate n a ++ ps) ≡ (is_some a.hyperlink || list_any (λ a. is_some a.hyperlink) ps)
linked-run zero a ps l = absurd (omega arith)
linked-run (suc zero) a ps l = refl
linked-run (suc (suc n)) a ps l =
    ap (λ (b : Bool). is_some a.hyperlink || b) (linked-run (suc n) a ps (omega arith)) ∙ or_twice (is_some a.hyperlink) (list_any (λ b. is_some b.hyperlink) ps)
