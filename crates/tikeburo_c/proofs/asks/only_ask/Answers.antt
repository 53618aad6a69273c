use Rattle.std.proofs.Common.{ℕ, drop, inr}
use Rattle.termwiz_wire.specs.Answers.{ask_at}
use Rattle.termwiz_wire.specs.Sent.{IsAsk, ask}
use Rattle.termwiz_wire.specs.declared.sent.Ask.{Ask}
use Rattle.tikeburo_c.proofs.Decoded.{failed_by, more_behind, not_decoded, one_whole}
use Rattle.tikeburo_c.specs.Outcomes.{decoding_failure}
use Rattle.tikeburo_c.specs.Streams.{IsOnlyAsk}
use Rattle.tikeburo_c.proofs.asks.only_ask.Goals as goal

pub returns-in_err-ask : goal.returns-in_err-ask
returns-in_err-ask c =
    let bytes = c.args.bytes.now in
    let e = c.in_err-ask.ensures in
    let wrong = c.in_err-ask.field-0.0 in
    failed_by (IsOnlyAsk bytes) c.from_residual.result (decoding_failure wrong) c.from_residual.ensures.1
    (not_decoded IsAsk ask bytes (λ (x : Ask × ℕ). (x.0, drop x.1 bytes)) wrong (ask_at bytes) e.exact e.again)

pub returns-then-taken-bytes : goal.returns-then-taken-bytes
returns-then-taken-bytes c =
    let x = c.in_ok-ask in
    inr (more_behind IsAsk ask c.args.bytes.now x.ask x.taken x.ensures.again (ask_at c.args.bytes.now) x.ensures.exact c.if-taken-bytes.true)

pub returns : goal.returns
returns c =
    let x = c.in_ok-ask in
    one_whole IsAsk ask c.args.bytes.now x.ask x.taken x.ensures.again x.ensures.found.0 c.if-taken-bytes.false
