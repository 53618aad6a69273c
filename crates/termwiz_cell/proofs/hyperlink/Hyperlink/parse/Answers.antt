use Rattle.std.proofs.Common.{arith}
use Rattle.termwiz_cell.proofs.LinkOutcomes.{reads-back, reads-bad_params, reads-parts}
use Rattle.termwiz_cell.specs.LinkParse.{part}
use Rattle.termwiz_cell.proofs.hyperlink.Hyperlink.parse.Goals as goal

pub returns-in-len3-clause-pairs : goal.returns-in-len3-clause-pairs
returns-in-len3-clause-pairs c =
    let bad = reads-bad_params (part c.args.osc.now 1) (part c.args.osc.now 2) c.read_link.result (reads-parts c.args.osc.now _ c.read_link.result c.in-len3.len_at_least c.read_link.ensures) in (
      (λ e. (omega arith, (bad.0 e).0, (bad.0 e).1)),
      (λ (three, texts, none). bad.1 (texts, none)),
    )

pub returns-in-len3-clause-back : goal.returns-in-len3-clause-back
returns-in-len3-clause-back c = λ link readable printed.
    reads-back (part c.args.osc.now 1) (part c.args.osc.now 2) c.read_link.result link (reads-parts c.args.osc.now _ c.read_link.result c.in-len3.len_at_least c.read_link.ensures) readable printed.params printed.uri printed.texts
