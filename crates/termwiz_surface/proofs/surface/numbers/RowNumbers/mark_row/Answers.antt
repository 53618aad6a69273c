use Rattle.std.proofs.Common.{◌<◌, length, max, ap, ◌∙◌, arith}
use Rattle.std.proofs.lemmas.Grind.{get_or_default_zero}
use Rattle.termwiz_surface.proofs.RowNumbers.{marked-one}
use Rattle.termwiz_surface.proofs.surface.numbers.RowNumbers.mark_row.Goals as goal

pub returns-clause-marked : goal.returns-clause-marked
returns-clause-marked c =
    let inside : c.args.row < length c.args.self.now.own.items = omega (arith, c.requires, c.args.self.now.own.ok.0) in
    marked-one c.args.self.now.all c.args.self.now.own.items c.args.row c.args.number _ inside
    (c.max.ensures ∙ ap (λ n. max n c.args.number) (c.index.ensures ∙ get_or_default_zero c.args.self.now.own.items c.args.row c.index.result.now inside))
