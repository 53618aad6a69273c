use Rattle.std.proofs.Common.{[], refl, append-nil, ◌∙◌}
use Rattle.std.proofs.lemmas.Result.{IfOk-weaker}
use Rattle.termwiz_storage.specs.CellsLeft.{cells_left}
use Rattle.termwiz_line.specs.Entries.{row_entries}
use Rattle.termwiz_line.specs.Writing.{behind}
use Rattle.termwiz_line.proofs.entries.row_entries.Goals as goal

pub returns : goal.returns
returns c =
    let start = c.new-writer.ensures.printed in
    IfOk-weaker c.into_penned.result _ _
    (λ row h. h ∙ c.in_ok-row.ensures.row [] refl refl ∙ (λ i. behind (start i).entries (row_entries (start i).pen (append-nil (cells_left c.args.cells) i))))
    c.into_penned.ensures
