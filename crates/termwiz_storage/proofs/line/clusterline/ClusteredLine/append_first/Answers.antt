use Rattle.std.proofs.Common.{◌≡◌, ◌-◌, ◌++◌, ◌∙◌, ap, append_assoc, List, ℕ, arith, drop, length, length-drop, take}
use Rattle.std.proofs.lemmas.List.{append-nil, take_all}
use Rattle.termwiz_cell.specs.CellValue.{CellValue}
use Rattle.termwiz_storage.proofs.PlainCells.{whole_behind}
use Rattle.termwiz_storage.proofs.Whole.{begins-whole}
use Rattle.termwiz_storage.proofs.line.clusterline.ClusteredLine.append_first.Goals as goal

left : (n : ℕ) (cs : List CellValue) → take (length cs - n) (drop n cs) ≡ drop n cs
left n cs = take_all (length cs - n) (drop n cs) (omega (arith, length-drop n cs))

pub returns-then-count-gt0-clause-whole : goal.returns-then-count-gt0-clause-whole
returns-then-count-gt0-clause-whole c =
    let cells : List CellValue = c.args.cells.now in
    rw (left c.in_ok-count.count cells) (whole_behind c.in_ok-count.count cells _ c.in_ok-count.ensures.plain c.requires.whole)

pub returns-clause-same : goal.returns-clause-same
returns-clause-same c =
    let cells : List CellValue = c.args.cells.now in
    let line : List CellValue = c.args.self.now in
    let first = begins-whole cells c.index-cells-0.result c.requires.some c.index-cells-0.is c.requires.whole in
    let none : c.in_ok-count.count ≡ 0 = omega arith in
    let same : c.append_run.new.self ≡ line = c.in_ok-count.ensures.ok ∙ ap (λ (n : ℕ). line ++ take n cells) none ∙ append-nil line in
    rw (left c.width.result cells, c.width.ensures.value, c.in_ok-append.ensures.ok, same) (append_assoc line _ _ ∙ ap (λ (z : List CellValue). line ++ z) first.same)

pub returns-clause-whole : goal.returns-clause-whole
returns-clause-whole c =
    let cells : List CellValue = c.args.cells.now in
    rw (left c.width.result cells, c.width.ensures.value) (begins-whole cells c.index-cells-0.result c.requires.some c.index-cells-0.is c.requires.whole).whole
