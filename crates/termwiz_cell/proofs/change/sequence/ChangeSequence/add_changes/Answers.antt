use Rattle.std.proofs.Common.{◌≡◌, ◌∙◌, ℕ, List, [], ◌∷◌, ◌++◌, Result, Ok, Err, map, ap, sym, subst}
use Rattle.std.proofs.lemmas.List.{map-append, append_assoc}
use Rattle.std.proofs.lemmas.Result.{err_from_is_err_and}
use Rattle.termwiz_cell.specs.ChangeValue.{ChangeValue, change_value}
use Rattle.termwiz_cell.specs.Measure.{measure}
use Rattle.termwiz_cell.specs.Sequence.{AddsAll, AddsOne}
use Rattle.termwiz_cell.proofs.CursorPlaces.{adds_more, stops}
use Rattle.termwiz_cell.proofs.change.sequence.ChangeSequence.add_changes.Goals as goal

pub loop-change-preserved : goal.loop-change-preserved
loop-change-preserved g c =
    let f : List ℕ → ℕ = measure g.W.Widths.width_of c.args.self.now.widths in
    let before = c.loop-change.invariant in
    let one = subst (λ (w : _). AddsOne (measure g.W.Widths.width_of w) c.loop-change.self (change_value c.in-Some.change) (Ok tt) c.add.new.self) {y = c.args.self.now.widths} before.widths c.in_ok-add.ensures in
    let more = adds_more f c.args.self.now c.loop-change.self c.add.new.self (map change_value c.loop-change.yielded) (change_value c.in-Some.change) before.so_far before.fit one in
    let all = subst (λ (cs : List ChangeValue). AddsAll f c.args.self.now cs (Ok tt) c.add.new.self) (sym (map-append change_value c.loop-change.yielded (c.in-Some.change ∷ []))) more in
    let whole : c.loop-change.yielded ++ c.in-Some.change ∷ c.next.new.self.rest.items ≡ c.args.changes.items = sym (ap (λ rest. c.loop-change.yielded ++ rest) c.in-Some.ensures.steps.0) ∙ before.left in
    record {
      fit = all.0;
      so_far = all.1;
      left = append_assoc c.loop-change.yielded (c.in-Some.change ∷ []) c.next.new.self.rest.items ∙ whole;
      widths = (λ i. (c.in_ok-add.ensures.1 i).widths) ∙ before.widths;
    }

pub returns-in_err-add : goal.returns-in_err-add
returns-in_err-add g c =
    let f : List ℕ → ℕ = measure g.W.Widths.width_of c.args.self.now.widths in
    let before = c.loop-change.invariant in
    let told = err_from_is_err_and c.from_residual.result c.from_residual.ensures.1 in
    let one = subst (λ (r : Result _ _). AddsOne (measure g.W.Widths.width_of c.loop-change.self.widths) c.loop-change.self (change_value c.in-Some.change) r c.add.new.self) c.in_err-add.was c.add.ensures in
    let same = subst (λ (w : _). AddsOne (measure g.W.Widths.width_of w) c.loop-change.self (change_value c.in-Some.change) (Err c.in_err-add.field-0.0) c.add.new.self) {y = c.args.self.now.widths} before.widths one in
    let whole : c.loop-change.yielded ++ c.in-Some.change ∷ c.next.new.self.rest.items ≡ c.args.changes.items = sym (ap (λ rest. c.loop-change.yielded ++ rest) c.in-Some.ensures.steps.0) ∙ before.left in
    stops f c.args.self.now c.loop-change.self c.add.new.self _ (map change_value c.loop-change.yielded) (map change_value c.next.new.self.rest.items) (change_value c.in-Some.change) c.in_err-add.field-0.0 c.from_residual.result
    (sym (map-append change_value c.loop-change.yielded (c.in-Some.change ∷ c.next.new.self.rest.items)) ∙ ap (map change_value) whole) before.so_far before.fit same (told.1 ∙ ap Err told.2)
