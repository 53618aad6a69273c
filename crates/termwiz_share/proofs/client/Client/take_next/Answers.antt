use Rattle.std.proofs.Common.{◌≡◌, ◌<◌, ◌∙◌, List, Err, Ok, Option, ap, drop, refl, subst, ℕ}
use Rattle.std.proofs.lemmas.List.{drop-drop}
use Rattle.termwiz_cell.specs.Measure.{measure}
use Rattle.termwiz_wire.specs.Lent.{lent_answer}
use Rattle.termwiz_share.specs.Client.{ClientValue, display_of}
use Rattle.termwiz_share.specs.Feeding.{DisplayTakes, refusal}
use Rattle.termwiz_share.specs.declared.error.ClientError.{ClientError}
use Rattle.termwiz_share.proofs.Taking.{cut_at_end, slice_is, takes_step, takes_stop}
use Rattle.termwiz_share.proofs.client.Client.take_next.Goals as goal

pub returns-then-self-len-clause-steps : goal.returns-then-self-len-clause-steps
returns-then-self-len-clause-steps g c =
    let m : List ℕ → ℕ = measure g.W.Widths.width_of c.args.self.now.surface.widths in
    let some : 0 < c.args.self.now.limits.bytes = rw (← c.self.view_is) c.self.invariant.1 in
    let own : drop c.self.inside.start c.self.inside.bytes.items ≡ c.args.self.now.kept = ap (λ (v : ClientValue _). v.kept) c.self.view_is in
    (cut_at_end m c.args.self.now.limits c.self.inside.bytes.items c.args.self.now.kept c.self.inside.start (c.answers.ensures.laws m c.args.self.now.limits some) own (c.if-self-len.true ∙ c.len.ensures ∙ c.self.inside.bytes.ok.0), refl)

pub returns-in-Err-clause-steps : goal.returns-in-Err-clause-steps
returns-in-Err-clause-steps g c =
    let exact = rw (c.in-Ok-Some.field-0-is, slice_is c.deref.result.now c.self.inside.start, c.deref.ensures.value, c.widths-widths.ensures, c.surface.ensures.value) at c.in-Ok-Some.ensures.exact in
    let old : ClientValue _ = c.args.self.now in
    let e = c.in-Err.error in
    let takes = subst (λ (v : ClientValue _). DisplayTakes (measure g.W.Widths.width_of) (display_of v) (lent_answer c.in-Ok-Some.answer) (Err e) c.take.new.self) c.self.view_is c.in-Err.ensures.takes in
    let kept : drop c.self.inside.start c.self.inside.bytes.items ≡ old.kept = ap (λ (v : ClientValue _). v.kept) c.self.view_is in
    let limits : c.self.inside.limits ≡ old.limits = ap (λ (v : ClientValue _). v.limits) c.self.view_is in
    let stopped : c.self.inside.stopped ≡ old.stopped = ap (λ (v : ClientValue _). v.stopped) c.self.view_is in
    takes_stop (measure g.W.Widths.width_of) old (lent_answer c.in-Ok-Some.answer) (drop c.in-Ok-Some.count (drop c.self.inside.start c.self.inside.bytes.items)) e _ (rw (← c.self.view_is) exact) takes kept limits (c.refusal-self-inside.ensures ∙ ap (λ (s : Option ClientError). refusal s e) stopped)

pub returns-in-Ok-clause-steps : goal.returns-in-Ok-clause-steps
returns-in-Ok-clause-steps g c =
    let exact = rw (c.in-Ok-Some.field-0-is, slice_is c.deref.result.now c.self.inside.start, c.deref.ensures.value, c.widths-widths.ensures, c.surface.ensures.value) at c.in-Ok-Some.ensures.exact in
    let left = drop-drop c.in-Ok-Some.count c.self.inside.start c.self.inside.bytes.items in
    let old : ClientValue _ = c.args.self.now in
    let t = c.in-Ok.taken in
    let takes = subst (λ (v : ClientValue _). DisplayTakes (measure g.W.Widths.width_of) (display_of v) (lent_answer c.in-Ok-Some.answer) (Ok t) c.take.new.self) c.self.view_is c.in-Ok.ensures.takes in
    let limits : c.self.inside.limits ≡ old.limits = ap (λ (v : ClientValue _). v.limits) c.self.view_is in
    let stopped : c.self.inside.stopped ≡ old.stopped = ap (λ (v : ClientValue _). v.stopped) c.self.view_is in
    takes_step (measure g.W.Widths.width_of) old _ (lent_answer c.in-Ok-Some.answer) t (rw (← c.self.view_is) (exact ∙ ap (λ (rest : List ℕ). Ok (lent_answer c.in-Ok-Some.answer, rest)) left)) takes limits stopped
