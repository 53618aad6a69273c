use Rattle.termwiz_surface.specs.{measure}
use Rattle.uses.specs.Quiet.{settings_changes}
use Rattle.uses.proofs.Unlogged.{color_unlogged, shown_unlogged}
use Rattle.uses.proofs.quiet.restore_settings.Goals as goal

pub returns-clause-shows : goal.returns-clause-shows
returns-clause-shows g c = shown_unlogged (measure g.W.Widths.width_of c.args.surface.now.widths) c.args.surface.now c.add.new.self _ (settings_changes c.args.settings.pen c.args.settings.color) c.add.result c.add.ensures.adds

pub returns-clause-color : goal.returns-clause-color
returns-clause-color g c = color_unlogged (measure g.W.Widths.width_of c.args.surface.now.widths) c.args.surface.now c.add.new.self _ c.args.settings.pen c.args.settings.color c.add.result c.add.ensures.adds
