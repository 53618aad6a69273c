use Rattle.std.proofs.Common.{lit<}
use Rattle.termwiz_wire.specs.declared.sent.Ask.{Ask}
use Rattle.sessions.proofs.Requested.{are_words}
use Rattle.sessions.proofs.send.script.ask.Goals as goal

pub returns : goal.returns
returns c =
    let cut = c.in_ok-first.ensures.byte (lit< tt) (λ w o h. h) in
    let asked : Ask = record { source = c.in_ok-source.source; number = c.in_ok-number.number } in
    are_words c.args.words.now c.in_ok-first.first.now c.in_ok-first.second.now asked cut.0 cut.1 cut.2 c.in_ok-source.ensures.0 c.in_ok-source.ensures.1 c.in_ok-number.ensures.0 c.in_ok-number.ensures.1
