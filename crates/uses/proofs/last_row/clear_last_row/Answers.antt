use Rattle.std.proofs.Common.{ap, ◌∙◌}
use Rattle.termwiz_surface.specs.{measure, replay, screen_of}
use Rattle.uses.proofs.ClearedRow.{last_row_is_blank}
use Rattle.uses.proofs.last_row.clear_last_row.Goals as goal

pub returns-clause-cleared : goal.returns-clause-cleared
returns-clause-cleared g c =
    let width = measure g.W.Widths.width_of c.args.surface.now.widths in
    let old = c.args.surface.now in
    let drawn = c.in_ok-add_changes.ensures.adds.3.screen_is ∙ ap (replay width (screen_of old)) c.in_ok-changes.ensures in
    last_row_is_blank width old c.dimensions-form.ensures.sound c.stored_row_laws.ensures.row c.row_laws.ensures.clear (screen_of c.add_changes.new.self) c.args.background drawn
