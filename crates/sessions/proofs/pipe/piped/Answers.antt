use Rattle.std.proofs.Common.{ap, ◌∙◌}
use Rattle.sessions.specs.Sending.{first_source, stream_sent}
use Rattle.sessions.proofs.Chains.{shows_chain}
use Rattle.sessions.proofs.Sent.{stream-encoded}
use Rattle.sessions.proofs.pipe.piped.Goals as goal

pub returns : goal.returns
returns c =
    let (frames, sent, chain) = c.in_ok-outcomes.ensures in
    let outcomes = c.in_ok-outcomes.outcomes.items in
    let whole = stream-encoded (first_source c.args.source c.args.size.0 c.args.size.1) 0 c.args.events.items outcomes frames sent in
    let bytes = c.as_slice-input.ensures.value ∙ c.in_ok-bytes.ensures ∙ ap stream_sent c.as_slice.ensures.value ∙ whole in
    record {
      outcomes = outcomes;
      frames = frames;
      sent = sent;
      shows = λ within. shows_chain c.args.limits c.requires.some c.args.each frames c.as_slice-input.result.now c.in_ok-shown.shown chain within bytes c.in_ok-shown.ensures;
    }
