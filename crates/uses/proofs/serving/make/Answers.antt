use Rattle.std.proofs.Common.{[], ◌∷◌}
use Rattle.termwiz_share.specs.{trimmed_surface}
use Rattle.termwiz_surface.specs.{change_value, measure, next_number}
use Rattle.uses.proofs.MadeFully.{made_counted, made_fully, made_refuses, made_stands, made_widths}
use Rattle.uses.proofs.serving.make.Goals as goal

pub returns-clause-shows : goal.returns-clause-shows
returns-clause-shows g c =
    let s = c.args.source.now.surface in
    let f = measure g.W.Widths.width_of s.widths in
    made_fully f s (change_value c.args.change ∷ []) (next_number (trimmed_surface s).log) c.full_repaint_laws.ensures.changes c.add_change.result c.add_change.new.self.surface c.add_change.ensures.adds

pub returns-clause-stands : goal.returns-clause-stands
returns-clause-stands g c =
    let s = c.args.source.now.surface in
    let f = measure g.W.Widths.width_of s.widths in
    made_stands f s (change_value c.args.change ∷ []) (next_number (trimmed_surface s).log) c.add_change.result c.add_change.new.self.surface c.add_change.ensures.adds

pub returns-clause-widths : goal.returns-clause-widths
returns-clause-widths g c =
    let s = c.args.source.now.surface in
    let f = measure g.W.Widths.width_of s.widths in
    made_widths f s (change_value c.args.change ∷ []) (next_number (trimmed_surface s).log) c.add_change.result c.add_change.new.self.surface c.add_change.ensures.adds

pub returns-clause-counted : goal.returns-clause-counted
returns-clause-counted g c =
    let s = c.args.source.now.surface in
    let f = measure g.W.Widths.width_of s.widths in
    made_counted f s (change_value c.args.change) (next_number (trimmed_surface s).log) c.add_change.result c.add_change.new.self.surface c.add_change.ensures.adds

pub returns-clause-refuses : goal.returns-clause-refuses
returns-clause-refuses g c =
    let s = c.args.source.now.surface in
    let f = measure g.W.Widths.width_of s.widths in
    made_refuses f s (change_value c.args.change ∷ []) (next_number (trimmed_surface s).log) c.add_change.result c.add_change.new.self.surface c.add_change.ensures.adds
