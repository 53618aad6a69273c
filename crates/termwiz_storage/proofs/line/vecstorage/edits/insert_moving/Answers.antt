use Rattle.std.proofs.Common.{◌≡◌, ◌≤◌, true, List, [], ◌∷◌, length, sym, ◌∙◌, ap, arith, if◌then◌else◌}
use Rattle.std.proofs.lemmas.Grind.{common_steps}
use Rattle.std.specs.List.{insert, insert_slice}
use Rattle.termwiz_cell.specs.CellValue.{CellValue, half, is_wide}
use Rattle.termwiz_storage.proofs.Edits.{inserted_twice}
use Rattle.termwiz_storage.proofs.Halves.{length-padded}
use Rattle.termwiz_storage.proofs.line.vecstorage.edits.insert_moving.Goals as goal
use Rattle.termwiz_storage.specs.Edits.{removed_at_margin}
use Rattle.termwiz_storage.specs.Stored.{padded}

pub returns-then-width-gt1-clause-ok : goal.returns-then-width-gt1-clause-ok
returns-then-width-gt1-clause-ok c =
    let wide : is_wide c.args.cell ≡ true = grind (arith, common_steps, c.if-width-gt1.true, c.width.ensures.value) in
    let gap : List CellValue = padded c.args.x (removed_at_margin c.args.margin c.args.cells.now.items) in
    let fits : c.args.x ≤ length gap = (length-padded c.args.x (removed_at_margin c.args.margin c.args.cells.now.items)).0 in
    c.insert_in_gap-then-width-gt1.ensures.items
    ∙ ap (λ cs. insert cs c.args.x c.args.cell) (c.insert_in_gap.ensures.items ∙ (λ i. insert (c.in_ok-make_gap.ensures.ok i) c.args.x (c.in_ok-half.ensures i)))
    ∙ inserted_twice gap c.args.x c.args.cell (half c.args.cell) fits
    ∙ sym (ap (λ w. insert_slice gap c.args.x (if w then c.args.cell ∷ half c.args.cell ∷ [] else c.args.cell ∷ [])) wide)
