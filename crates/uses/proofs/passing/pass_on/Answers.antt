use Rattle.std.proofs.Common.{◌≡◌, true, false}
use Rattle.uses.proofs.passing.pass_on.Goals as goal

pub returns-then-not-answers_client-clause-kept : goal.returns-then-not-answers_client-clause-kept
returns-then-not-answers_client-clause-kept g c = λ source is same.
    let yes : c.answers_client.result ≡ true = c.answers_client.ensures.own source is in
    let no : c.answers_client.result ≡ false = c.if-not-answers_client.true in
    absurd cc

pub returns-in_err-feed-clause-serves : goal.returns-in_err-feed-clause-serves
returns-in_err-feed-clause-serves g c = λ source ask serves ready is.
    c.feed.ensures.serves source serves ready (c.answers_client.ensures.answers source ask is c.if-not-answers_client.false)

pub returns-clause-shows : goal.returns-clause-shows
returns-clause-shows g c = λ source ask serves ready is same.
    c.in_ok-feed.ensures.shows source serves ready (c.answers_client.ensures.answers source ask is c.if-not-answers_client.false)

pub returns-clause-serves : goal.returns-clause-serves
returns-clause-serves g c = λ source ask serves ready is.
    c.feed.ensures.serves source serves ready (c.answers_client.ensures.answers source ask is c.if-not-answers_client.false)
