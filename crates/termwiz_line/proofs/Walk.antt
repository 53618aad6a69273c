-- The walk of stored cells meets no more cells than there are, at growing indices.
use Rattle.std.proofs.Common.{ℕ, zero, suc, ◌+◌, ◌-◌, ◌<◌, ◌≤◌, List, [], ◌∷◌, length, arith, subst}
use Rattle.std.specs.List.{All}
use Rattle.std.proofs.lemmas.List.Elements.{All-nil, All-cons}
use Rattle.termwiz_cell.specs.CellValue.{CellValue, columns}
use Rattle.termwiz_storage.specs.Stored.{visible_from}
use Rattle.termwiz_storage.proofs.Widths.{columns_bounds}
use Rattle.termwiz_storage.specs.VisibleCell.{VisibleCell, at_column}
use Rattle.termwiz_line.specs.RowLaws.{AreGrowing}

pub walk_grows : (i skip : ℕ) (cs : List CellValue) → (length (visible_from i skip cs) ≤ length cs) × AreGrowing (i + skip) (visible_from i skip cs)
walk_grows i skip [] = (omega arith, record {})
walk_grows i zero (c ∷ cs) =
    let rest = walk_grows (i + 1) (columns c - 1) cs in
    let some = columns_bounds c in
    (omega (arith, rest.0), (omega arith, subst (λ n. AreGrowing n (visible_from (i + 1) (columns c - 1) cs)) (omega (arith, some.0)) rest.1))
walk_grows i (suc k) (c ∷ cs) =
    let rest = walk_grows (i + 1) k cs in
    (omega (arith, rest.0), subst (λ n. AreGrowing n (visible_from (i + 1) k cs)) (omega arith) rest.1)

pub walk_within : (n i skip : ℕ) (cs : List CellValue) → i + length cs ≤ n → All (λ p. p.column < n) (visible_from i skip cs)
walk_within n i skip [] h = All-nil (λ (p : VisibleCell). p.column < n)
walk_within n i zero (c ∷ cs) h = All-cons (λ (p : VisibleCell). p.column < n) (at_column i c) (visible_from (i + 1) (columns c - 1) cs) (omega arith) (walk_within n (i + 1) (columns c - 1) cs (omega arith))
walk_within n i (suc k) (c ∷ cs) h = walk_within n (i + 1) k cs (omega arith)
