use Rattle.std.proofs.Common.{◌∙◌, ap}
use Rattle.termwiz_surface.specs.{Screen, measure, screen_of}
use Rattle.uses.proofs.RowsOfForm.{rows_of_form}
use Rattle.uses.proofs.patch.apply_patch.Goals as goal

pub returns-clause-shows : goal.returns-clause-shows
returns-clause-shows g c rows full is_patch =
    let s = screen_of c.args.surface.now in
    let own = rows_of_form (measure g.W.Widths.width_of c.args.surface.now.widths) s c.dimensions-form.ensures.printable in
    ap (λ (t : Screen). t.rows) c.in_ok-add_changes.ensures.adds.3.screen_is
    ∙ (c.diff_laws.ensures.rows (measure g.W.Widths.width_of c.args.surface.now.widths) s (record s { rows = rows }) _ own full is_patch).0
