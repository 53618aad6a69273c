use Rattle.std.proofs.Common.{◌≡◌, ◌+◌, ◌-◌, ◌<◌, inl, inr, take, drop, length, get_or, refl, sym, ap, ◌∙◌, arith, length-drop}
use Rattle.std.proofs.lemmas.Bool.{cases_lt}
use Rattle.std.proofs.lemmas.List.{get_or-take, get_or-drop, length-take, same_lists}
use Rattle.termwiz_screen.proofs.log.swap_out_first.Goals as goal

pub loop-i-init : goal.loop-i-init
loop-i-init c = record { len = refl; moved = λ k d p. absurd (omega (arith, p)); rest = λ k d p. refl }

pub loop-i-preserved : goal.loop-i-preserved
loop-i-preserved c =
    let before = c.loop-i.invariant in
    let i = c.loop-i.i in
    let swapped = c.swap.ensures.by_index in
    record {
      len = omega (arith, c.swap.ensures.len, c.swap.new.self.ok.0, c.loop-i.changes.ok.0, before.len);
      moved = λ k d p. elim (cases_lt k i) [
        | inl less ↦ swapped.2 k d (λ e. omega (arith, e, less)) (λ e. omega (arith, e, less)) ∙ before.moved k d less
        | inr other ↦
            let here : k ≡ i = omega (arith, p, other) in
            ap (λ j. get_or c.swap.new.self.items j d) here
            ∙ swapped.0 d ∙ before.rest (c.args.count + i) d (omega arith)
            ∙ ap (λ j. get_or c.args.changes.now.items (c.args.count + j) d) (sym here)
      ];
      rest = λ k d p. swapped.2 k d (λ e. omega (arith, e, p)) (λ e. omega (arith, e, p)) ∙ before.rest k d (omega (arith, p));
    }

pub returns : goal.returns
returns c =
    let before = c.loop-i.invariant in
    let old = c.args.changes.now.items in
    let now = c.loop-i.changes.items in
    let kept = length old - c.args.count in
    let end : c.loop-i.i ≡ kept = omega (arith, c.args.changes.now.ok.0) in
    let cut : c.truncate.new.self.items ≡ take kept now = c.truncate.ensures.items ∙ ap (λ n. take n now) (omega (arith, c.args.changes.now.ok.0)) in
    let len : length (take kept now) ≡ length (drop c.args.count old) = omega (arith, length-take kept now, length-drop c.args.count old, before.len) in
    cut ∙ same_lists _ _ len (λ k d p.
    let inside : k < kept = omega (arith, p, length-take kept now) in
    get_or-take kept now k d inside ∙ before.moved k d (omega (arith, inside, end)) ∙ sym (get_or-drop c.args.count old k d))
