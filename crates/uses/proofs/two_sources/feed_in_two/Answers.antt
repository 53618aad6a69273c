use Rattle.std.proofs.Common.{◌≡◌, ◌++◌, ℕ, [], List, Result, Ok, Err, drop, inl, inr, length, min, take, sym, ap, subst, ◌∙◌, arith}
use Rattle.std.proofs.lemmas.Bool.{cases_lt}
use Rattle.std.proofs.lemmas.List.{drop_all, take-append-drop, take_all}
use Rattle.termwiz_cell.specs.Measure.{measure}
use Rattle.termwiz_share.specs.Feeding.{Feeds}
use Rattle.termwiz_share.specs.declared.error.ClientError.{ClientError}
use Rattle.uses.specs.Streams.{FeedsInTwo, ShowsLast}
use Rattle.uses.proofs.Returned.{returned}
use Rattle.uses.proofs.Streams.{ends_last}
use Rattle.uses.proofs.two_sources.feed_in_two.Goals as goal

-- the two pieces are the stream
whole : (front back stream : List ℕ) (n : ℕ) → front ≡ take n stream → back ≡ drop n stream → front ++ back ≡ stream
whole front back stream n is rest = (λ i. is i ++ rest i) ∙ take-append-drop n stream

-- a cut past the end is one at the end
module _ (xs piece : List ℕ) (cut n : ℕ) (is : n ≡ min cut (length xs)) where
  front_at : piece ≡ take n xs → piece ≡ take cut xs
  front_at front = elim (cases_lt cut (length xs)) [
    | inl lt ↦ front ∙ ap (λ k. take k xs) (omega (arith, is, lt))
    | inr le ↦ front ∙ take_all n xs (omega (arith, is, le)) ∙ sym (take_all cut xs le)
  ]

  back_at : piece ≡ drop n xs → piece ≡ drop cut xs
  back_at back = elim (cases_lt cut (length xs)) [
    | inl lt ↦ back ∙ ap (λ k. drop k xs) (omega (arith, is, lt))
    | inr le ↦ back ∙ drop_all n xs (omega (arith, is, le)) ∙ sym (drop_all cut xs le)
  ]

pub returns-in_err-feed-2-clause-shows : goal.returns-in_err-feed-2-clause-shows
returns-in_err-feed-2-clause-shows g c = λ histories sent follows.
    let f = measure g.W.Widths.width_of in
    let front = c.split_at.result.0.now in
    let back = c.split_at.result.1.now in
    let parts = whole front back c.args.stream.now c.min.result c.split_at.ensures.front c.split_at.ensures.back in
    let e = c.in_err-feed-2.field-0.0 in
    returned (λ (r : Result _ ClientError). ShowsLast f histories sent c.args.client.now r c.feed-2.new.self) e c.from_residual-in_err-feed-2.result c.from_residual-in_err-feed-2.ensures.1
    (ends_last f histories sent c.args.client.now c.feed.new.self front back c.args.stream.now parts c.in_ok-feed.field-0 c.in_ok-feed.ensures.feeds (c.in_ok-feed.ensures.follows histories sent back) follows
    (Err e) c.feed-2.new.self (λ others. c.in_err-feed-2.ensures.follows histories others []))

pub returns-clause-shows : goal.returns-clause-shows
returns-clause-shows g c = λ histories sent follows.
    let f = measure g.W.Widths.width_of in
    let front = c.split_at.result.0.now in
    let back = c.split_at.result.1.now in
    let parts = whole front back c.args.stream.now c.min.result c.split_at.ensures.front c.split_at.ensures.back in
    ends_last f histories sent c.args.client.now c.feed.new.self front back c.args.stream.now parts c.in_ok-feed.field-0 c.in_ok-feed.ensures.feeds (c.in_ok-feed.ensures.follows histories sent back) follows
    (Ok c.in_ok-feed-2.field-0) c.feed-2.new.self (λ others. c.in_ok-feed-2.ensures.follows histories others [])

pub returns-clause-feeds : goal.returns-clause-feeds
returns-clause-feeds g c =
    let f = measure g.W.Widths.width_of in
    let n = c.min.result in
    let front = front_at c.args.stream.now c.split_at.result.0.now c.args.cut n c.min.ensures c.split_at.ensures.front in
    let back = back_at c.args.stream.now c.split_at.result.1.now c.args.cut n c.min.ensures c.split_at.ensures.back in (
      c.in_ok-feed-2.field-0,
      record {
        count = c.in_ok-feed.field-0;
        mid = c.feed.new.self;
        front = subst (λ (b : List ℕ). Feeds f c.args.client.now b (Ok c.in_ok-feed.field-0) c.feed.new.self) front c.in_ok-feed.ensures.feeds;
        back = subst (λ (b : List ℕ). Feeds f c.feed.new.self b (Ok c.in_ok-feed-2.field-0) c.feed-2.new.self) back c.in_ok-feed-2.ensures.feeds;
      },
    )

pub returns-in_err-feed-clause-feeds : goal.returns-in_err-feed-clause-feeds
returns-in_err-feed-clause-feeds g c =
    let f = measure g.W.Widths.width_of in
    let e = c.in_err-feed.field-0.0 in
    let front = front_at c.args.stream.now c.split_at.result.0.now c.args.cut c.min.result c.min.ensures c.split_at.ensures.front in
    returned (λ (r : Result _ ClientError). FeedsInTwo f c.args.client.now c.args.stream.now c.args.cut r c.feed.new.self) e c.from_residual.result c.from_residual.ensures.1
    (inl (subst (λ (b : List ℕ). Feeds f c.args.client.now b (Err e) c.feed.new.self) front c.in_err-feed.ensures.feeds))

pub returns-in_err-feed-2-clause-feeds : goal.returns-in_err-feed-2-clause-feeds
returns-in_err-feed-2-clause-feeds g c =
    let f = measure g.W.Widths.width_of in
    let n = c.min.result in
    let e = c.in_err-feed-2.field-0.0 in
    let front = front_at c.args.stream.now c.split_at.result.0.now c.args.cut n c.min.ensures c.split_at.ensures.front in
    let back = back_at c.args.stream.now c.split_at.result.1.now c.args.cut n c.min.ensures c.split_at.ensures.back in
    returned (λ (r : Result _ ClientError). FeedsInTwo f c.args.client.now c.args.stream.now c.args.cut r c.feed-2.new.self) e c.from_residual-in_err-feed-2.result c.from_residual-in_err-feed-2.ensures.1
    (inr (record {
      count = c.in_ok-feed.field-0;
      mid = c.feed.new.self;
      front = subst (λ (b : List ℕ). Feeds f c.args.client.now b (Ok c.in_ok-feed.field-0) c.feed.new.self) front c.in_ok-feed.ensures.feeds;
      back = subst (λ (b : List ℕ). Feeds f c.feed.new.self b (Err e) c.feed-2.new.self) back c.in_err-feed-2.ensures.feeds;
    }))
