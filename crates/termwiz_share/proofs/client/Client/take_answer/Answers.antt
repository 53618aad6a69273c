use Rattle.std.proofs.Common.{◌<◌, inr, refl}
use Rattle.termwiz_cell.specs.Measure.{measure}
use Rattle.termwiz_share.proofs.Fed.{follows_next}
use Rattle.termwiz_share.proofs.Served.{responded_next}
use Rattle.termwiz_share.proofs.client.Client.take_answer.Goals as goal

pub returns-clause-follows : goal.returns-clause-follows
returns-clause-follows g c = λ histories sent future follows.
    let f = measure g.W.Widths.width_of in
    let some : 0 < c.args.self.now.limits.bytes = rw (← c.self.view_is) c.self.invariant.1 in
    let laws = c.answers.ensures.laws (f c.args.self.now.surface.widths) c.args.self.now.limits some in
    follows_next f histories sent future c.args.self.now laws follows c.take_next.result c.take_next.new.self (inr (follows.reading, c.take_next.ensures.steps))

pub returns-clause-shows : goal.returns-clause-shows
returns-clause-shows g c = λ source serves reading response.
    let f = measure g.W.Widths.width_of in
    let some : 0 < c.args.self.now.limits.bytes = rw (← c.self.view_is) c.self.invariant.1 in
    let laws = c.answers.ensures.laws (f c.args.self.now.surface.widths) c.args.self.now.limits some in
    (responded_next f source c.args.self.now serves c.args.self.now.kept response laws reading refl c.take_next.result c.take_next.new.self (inr (reading, c.take_next.ensures.steps))).0

pub returns-clause-serves : goal.returns-clause-serves
returns-clause-serves g c = λ source serves reading response.
    let f = measure g.W.Widths.width_of in
    let some : 0 < c.args.self.now.limits.bytes = rw (← c.self.view_is) c.self.invariant.1 in
    let laws = c.answers.ensures.laws (f c.args.self.now.surface.widths) c.args.self.now.limits some in
    (responded_next f source c.args.self.now serves c.args.self.now.kept response laws reading refl c.take_next.result c.take_next.new.self (inr (reading, c.take_next.ensures.steps))).1
