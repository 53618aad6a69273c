use Rattle.std.proofs.Common.{◌≡◌, ◌∙◌, List, length, ap}
use Rattle.std.proofs.lemmas.Bool.{iff_false}
use Rattle.termwiz_cell.specs.CellValue.{CellValue}
use Rattle.termwiz_storage.proofs.LastCell.{IsKept-attrs, IsKept-text}
use Rattle.termwiz_storage.proofs.line.clusterline.ClusteredLine.kept_len.Goals.{else-ends_default-via-then-ends_default+else-ends_with_space, else-ends_default-via-else-ends_default}
use Rattle.termwiz_storage.proofs.line.clusterline.ClusteredLine.kept_len.Goals as goal

pub returns : goal.returns
returns c =
    let cs : List CellValue = c.args.self.now in
    let len : c.self.inside.len ≡ length cs = c.self.invariant.len ∙ ap length c.self.view_is in
    rw len (elim c.else-ends_default.branch [
      | else-ends_default-via-then-ends_default+else-ends_with_space w ↦ IsKept-text cs (iff_false w.ends_with_space.ensures w.if-ends_with_space.false)
      | else-ends_default-via-else-ends_default w ↦ IsKept-attrs cs (iff_false c.ends_default.ensures w.if-ends_default.false)
    ])
