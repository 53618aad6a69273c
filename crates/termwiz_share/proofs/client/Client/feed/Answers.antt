use Rattle.std.proofs.Common.{inr, subst}
use Rattle.termwiz_cell.specs.Measure.{measure}
use Rattle.termwiz_share.specs.Client.{ClientValue}
use Rattle.termwiz_share.specs.Feeding.{Feeds, TakesWholeOnes}
use Rattle.termwiz_share.proofs.Fed.{follows_to}
use Rattle.termwiz_share.proofs.Served.{feeds_widths, responded}
use Rattle.termwiz_share.proofs.StillServed.{still_served}
use Rattle.termwiz_share.proofs.client.Client.feed.Goals as goal

pub returns-clause-follows : goal.returns-clause-follows
returns-clause-follows g c = λ histories sent future follows.
    let f = measure g.W.Widths.width_of in
    let laws = c.answers.ensures.laws (f c.args.self.now.surface.widths) c.args.self.now.limits c.keep.ensures.some in
    let kept = c.in_ok-keep.ensures.keeps in
    follows_to f histories sent future c.args.self.now c.args.piece.now laws c.take_all.result c.take_all.new.self
    (inr (inr (kept.0, subst (λ (s : ClientValue _). TakesWholeOnes f s c.take_all.result c.take_all.new.self) kept.1 c.take_all.ensures.reads))) follows

pub returns-clause-shows : goal.returns-clause-shows
returns-clause-shows g c = λ source serves ready response.
    let f = measure g.W.Widths.width_of in
    let laws = c.answers.ensures.laws (f c.args.self.now.surface.widths) c.args.self.now.limits c.keep.ensures.some in
    let kept = c.in_ok-keep.ensures.keeps in
    (responded f source c.args.self.now serves c.args.piece.now response laws ready c.take_all.result c.take_all.new.self
    (inr (inr (kept.0, subst (λ (s : ClientValue _). TakesWholeOnes f s c.take_all.result c.take_all.new.self) kept.1 c.take_all.ensures.reads)))).0

pub returns-clause-serves : goal.returns-clause-serves
returns-clause-serves g c = λ source serves ready response.
    let f = measure g.W.Widths.width_of in
    let laws = c.answers.ensures.laws (f c.args.self.now.surface.widths) c.args.self.now.limits c.keep.ensures.some in
    let kept = c.in_ok-keep.ensures.keeps in
    (responded f source c.args.self.now serves c.args.piece.now response laws ready c.take_all.result c.take_all.new.self
    (inr (inr (kept.0, subst (λ (s : ClientValue _). TakesWholeOnes f s c.take_all.result c.take_all.new.self) kept.1 c.take_all.ensures.reads)))).1

pub returns-clause-served : goal.returns-clause-served
returns-clause-served g c = λ histories sent future source follows given serves.
    let f = measure g.W.Widths.width_of in
    let kept = c.in_ok-keep.ensures.keeps in
    let feeds : Feeds f c.args.self.now c.args.piece.now c.take_all.result c.take_all.new.self = inr (inr (kept.0, subst (λ (s : ClientValue _). TakesWholeOnes f s c.take_all.result c.take_all.new.self) kept.1 c.take_all.ensures.reads)) in
    still_served f histories sent future source c.args.self.now c.take_all.new.self given serves (feeds_widths f c.args.self.now c.args.piece.now c.take_all.result c.take_all.new.self feeds) c.take_all.result (returns-clause-follows g c histories sent future follows)
