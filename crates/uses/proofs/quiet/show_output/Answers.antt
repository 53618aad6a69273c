use Rattle.termwiz_surface.specs.{measure}
use Rattle.uses.specs.Quiet.{output_changes}
use Rattle.uses.proofs.Unlogged.{shown_unlogged, title_unlogged}
use Rattle.uses.proofs.quiet.show_output.Goals as goal

pub returns-clause-shows : goal.returns-clause-shows
returns-clause-shows g c = shown_unlogged (measure g.W.Widths.width_of c.args.surface.now.widths) c.args.surface.now c.add.new.self _ (output_changes c.args.output.now c.args.title.now) c.add.result c.add.ensures.adds

pub returns-clause-title : goal.returns-clause-title
returns-clause-title g c = title_unlogged (measure g.W.Widths.width_of c.args.surface.now.widths) c.args.surface.now c.add.new.self _ c.args.output.now c.args.title.now c.add.result c.add.ensures.adds
