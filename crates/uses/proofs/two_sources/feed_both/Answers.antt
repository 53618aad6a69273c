use Rattle.std.proofs.Common.{◌<◌, ◌^◌, Result, Ok, Err, arith, inr, length}
use Rattle.termwiz_cell.specs.Measure.{measure}
use Rattle.termwiz_surface.specs.{change_value}
use Rattle.uses.specs.Streams.{FeedsBoth}
use Rattle.uses.specs.declared.serving.ShareError.TheVariants.{Unserved}
use Rattle.uses.proofs.Returned.{returned}
use Rattle.uses.proofs.TwoSources.{fed, no_stream}
use Rattle.uses.proofs.two_sources.feed_both.Goals as goal

pub returns-clause-feeds : goal.returns-clause-feeds
returns-clause-feeds g c =
    let f = measure g.W.Widths.width_of in
    let few : length c.in_ok-stream.stream.items < 2 ^ 64 = omega (arith, c.in_ok-stream.stream.small) in
    fed f c.args.first.now c.args.second.now c.stream_of_both.new.first c.stream_of_both.new.second (change_value c.args.change) c.args.cut c.args.client.now c.feed_in_two.new.client c.ask.result c.in_ok-stream.stream.items c.deref.result.now c.ask.ensures.value c.deref.ensures.value few c.in_ok-stream.ensures.stream (Ok tt) c.in_ok-feed_in_two.ensures.feeds c.in_ok-feed_in_two.ensures.shows

pub returns-in_err-feed_in_two-clause-feeds : goal.returns-in_err-feed_in_two-clause-feeds
returns-in_err-feed_in_two-clause-feeds g c =
    let f = measure g.W.Widths.width_of in
    let e = c.in_err-feed_in_two.field-0.0 in
    let few : length c.in_ok-stream.stream.items < 2 ^ 64 = omega (arith, c.in_ok-stream.stream.small) in
    returned (λ (r : Result (Unit {0}) _). FeedsBoth f c.args.first.now c.args.second.now (change_value c.args.change) c.args.cut c.args.client.now r c.stream_of_both.new.first c.stream_of_both.new.second c.feed_in_two.new.client) (Unserved e) c.from_residual-in_err-feed_in_two.result c.from_residual-in_err-feed_in_two.ensures.1
    (inr (fed f c.args.first.now c.args.second.now c.stream_of_both.new.first c.stream_of_both.new.second (change_value c.args.change) c.args.cut c.args.client.now c.feed_in_two.new.client c.ask.result c.in_ok-stream.stream.items c.deref.result.now c.ask.ensures.value c.deref.ensures.value few c.in_ok-stream.ensures.stream (Err e) c.in_err-feed_in_two.ensures.feeds c.in_err-feed_in_two.ensures.shows))

pub returns-in_err-stream-clause-feeds : goal.returns-in_err-stream-clause-feeds
returns-in_err-stream-clause-feeds g c =
    let f = measure g.W.Widths.width_of in
    let e = c.in_err-stream.field-0.0 in
    returned (λ (r : Result (Unit {0}) _). FeedsBoth f c.args.first.now c.args.second.now (change_value c.args.change) c.args.cut c.args.client.now r c.stream_of_both.new.first c.stream_of_both.new.second c.args.client.now) e c.from_residual.result c.from_residual.ensures.1
    (no_stream f c.args.first.now c.args.second.now c.stream_of_both.new.first c.stream_of_both.new.second (change_value c.args.change) c.args.cut c.args.client.now e c.in_err-stream.ensures.fails)
