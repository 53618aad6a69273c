use Rattle.std.proofs.Common.{◌≡◌, ◌+◌, ◌-◌, ◌≤◌, refl, sym, ◌∙◌, ap, ap₂, arith}
use Rattle.termwiz_screen.specs.ScrollRegions.{region_reversed}
use Rattle.termwiz_screen.proofs.RowChanges.Reversed.{reversed_few, reversed_more}
use Rattle.termwiz_screen.proofs.rows.reverse_region.Goals as goal

pub loop-i-init : goal.loop-i-init
loop-i-init c = record {
  left = λ a n ea en.
      let low : a ≡ c.args.first = omega (arith, ea) in
      let size : n ≡ c.args.size = omega (arith, en) in
      ap₂ (λ s t. region_reversed c.args.rows.now.items s t) low size;
  len = refl;
}

pub loop-i-preserved : goal.loop-i-preserved
loop-i-preserved c =
    let rows = c.loop-i.rows.items in
    let low = c.args.first + c.loop-i.i in
    let high = c.args.first + c.args.size - 1 - c.loop-i.i in
    record {
      left = λ a n ea en.
          ap (λ t. region_reversed t a n) c.swap.ensures.items
          ∙ reversed_more rows low high a n (n + 2) (omega (arith, en)) (omega (arith, ea)) refl (omega (arith, en, c.requires, c.args.rows.now.ok.0, c.loop-i.rows.ok.0, c.loop-i.invariant.len))
          ∙ c.loop-i.invariant.left low (n + 2) refl (omega (arith, en));
      len = c.swap.ensures.len ∙ c.loop-i.invariant.len;
    }

pub returns : goal.returns
returns c =
    let low = c.args.first + c.loop-i.i in
    let rest = c.args.size - (c.loop-i.i + c.loop-i.i) in
    let few : rest ≤ 1 = omega (arith, c.loop-i-test.false, c.loop-i.auto.i-end) in
    let whole : rest + (c.loop-i.i + c.loop-i.i) ≡ c.args.size = omega (arith, c.loop-i.auto.i-end) in
    record {
      items = sym (reversed_few c.loop-i.rows.items low rest few) ∙ c.loop-i.invariant.left low rest refl whole;
      len = c.loop-i.invariant.len;
    }
