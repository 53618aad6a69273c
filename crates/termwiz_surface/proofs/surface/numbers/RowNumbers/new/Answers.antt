use Rattle.std.proofs.Common.{◌≡◌, ap, replicate, rules, ◌∙◌}
use Rattle.termwiz_surface.specs.Surface.{numbers_over}
use Rattle.termwiz_surface.proofs.RowNumbers.{over-zeros}
use Rattle.termwiz_surface.proofs.surface.numbers.RowNumbers.new.Goals as goal

pub returns-clause-numbers : goal.returns-clause-numbers
returns-clause-numbers c =
    let zeros : c.in_ok-own.own.items ≡ replicate c.args.height 0 = search rules in
    ap (numbers_over c.args.number) zeros ∙ over-zeros c.args.height c.args.number
