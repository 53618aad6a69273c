use Rattle.termwiz_cell.specs.Measure.{measure}
use Rattle.termwiz_screen.specs.Stream.{stream_of}
use Rattle.termwiz_surface.proofs.Viewing.{FollowsTo-accepted, Follows-accepted, accepted_shows, accepted_shows_fully}
use Rattle.termwiz_surface.proofs.Preserving.{preserves-then}
use Rattle.termwiz_surface.proofs.view.viewer.Viewer.follow.Goals as goal

pub returns-clause-steps : goal.returns-clause-steps
returns-clause-steps g c =
    let got = c.in_ok-number.ensures.fetched in
    FollowsTo-accepted (measure g.W.Widths.width_of) c.args.source.now c.args.self.now c.fetch.new.self c.make.new.self c.in_ok-number.number (stream_of c.in_ok-number.changes) got.0 got.1 c.in_ok-number.ensures.sized got.2 c.make.result c.make.ensures.accepts

pub returns-clause-caught_up : goal.returns-clause-caught_up
returns-clause-caught_up g c =
    let got = c.in_ok-number.ensures.fetched in
    λ follows. accepted_shows (measure g.W.Widths.width_of) c.args.source.now c.args.self.now c.fetch.new.self c.make.new.self c.in_ok-number.number (stream_of c.in_ok-number.changes) got.0 got.1 c.in_ok-number.ensures.sized got.2 follows c.make.result c.make.ensures.accepts

pub returns-clause-fully_caught_up : goal.returns-clause-fully_caught_up
returns-clause-fully_caught_up g c =
    let got = c.in_ok-number.ensures.fetched in
    λ follows. accepted_shows_fully (measure g.W.Widths.width_of) c.args.source.now c.args.self.now c.fetch.new.self c.make.new.self c.in_ok-number.number (stream_of c.in_ok-number.changes) got.0 got.1 c.in_ok-number.ensures.sized got.2 follows c.make.result c.make.ensures.accepts

pub returns-clause-follows : goal.returns-clause-follows
returns-clause-follows g c =
    let got = c.in_ok-number.ensures.fetched in
    λ follows. Follows-accepted (measure g.W.Widths.width_of) c.args.source.now c.args.self.now c.fetch.new.self c.make.new.self c.in_ok-number.number (stream_of c.in_ok-number.changes) got.0 got.1 c.in_ok-number.ensures.sized got.2 follows c.make.result c.make.ensures.accepts

pub returns-clause-preserves : goal.returns-clause-preserves
returns-clause-preserves g c = preserves-then (measure g.W.Widths.width_of) c.args.self.now.surface c.fetch.new.self.surface c.make.new.self.surface c.in_ok-number.ensures.preserves c.make.ensures.preserves
