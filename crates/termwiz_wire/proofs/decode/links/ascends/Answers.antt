use Rattle.termwiz_wire.proofs.Params.{last-ascends}
use Rattle.termwiz_wire.proofs.decode.links.ascends.Goals as goal

pub returns-in-Some : goal.returns-in-Some
returns-in-Some c =
    let e = last-ascends c.args.params.now.entries (c.in-Some.last.now, c.in-Some.field-0-1.now) c.args.key.now c.in-Some.ensures.last in
    cc
