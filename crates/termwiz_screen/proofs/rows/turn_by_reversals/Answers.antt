use Rattle.std.proofs.Common.{◌+◌, ◌-◌, refl, ◌∙◌, ap, arith}
use Rattle.termwiz_screen.specs.ScrollRegions.{region_reversed}
use Rattle.termwiz_screen.proofs.RowChanges.Reversed.{turned_by_three}
use Rattle.termwiz_screen.proofs.rows.turn_by_reversals.Goals as goal

pub returns : goal.returns
returns c =
    c.reverse_region-3.ensures.items
    ∙ ap (λ t. region_reversed t c.args.first c.args.size)
    (c.reverse_region-2.ensures.items ∙ ap (λ t. region_reversed t (c.args.first + c.args.count) (c.args.size - c.args.count)) c.reverse_region.ensures.items)
    ∙ turned_by_three c.args.rows.now.items c.args.first c.args.size c.args.count (c.args.first + c.args.count) (c.args.size - c.args.count) (omega (arith, c.requires.inside, c.args.rows.now.ok.0)) refl (omega (arith, c.requires.within))
