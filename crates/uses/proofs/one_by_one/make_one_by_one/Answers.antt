use Rattle.std.proofs.Common.{◌≡◌, ◌∙◌, List, [], ◌∷◌, ◌++◌, Result, map, ap, sym, subst}
use Rattle.std.proofs.lemmas.List.{map-append, append_assoc}
use Rattle.termwiz_surface.specs.{ChangeValue, appended, change_value, measure, next_number, replay, screen_of}
use Rattle.uses.specs.Making.{AddsEach, HasMade}
use Rattle.uses.proofs.Making.{adds_refused, logged_one, made_one, replay_more}
use Rattle.uses.proofs.Returned.{returned}
use Rattle.uses.proofs.one_by_one.make_one_by_one.Goals as goal

pub loop-change-preserved : goal.loop-change-preserved
loop-change-preserved g c =
    let f = measure g.W.Widths.width_of in
    let old = c.args.surface.now in
    let mid = c.loop-change.surface in
    let new = c.add_change.new.self in
    let before = c.loop-change.invariant in
    let cs : List ChangeValue = map change_value c.loop-change.yielded in
    let one : ChangeValue = change_value c.in-Some.change in
    let adds = c.in_ok-add_change.ensures.adds in
    let more : cs ++ one ∷ [] ≡ map change_value (c.loop-change.yielded ++ c.in-Some.change ∷ []) = sym (map-append change_value c.loop-change.yielded (c.in-Some.change ∷ [])) in
    let whole : c.loop-change.yielded ++ c.in-Some.change ∷ c.next.new.self.rest.items ≡ c.args.changes.items = sym (ap (λ rest. c.loop-change.yielded ++ rest) c.in-Some.ensures.steps.0) ∙ before.left in
    record {
      made = subst (λ (l : List ChangeValue). HasMade f old l new) more (made_one f c.full_repaint_laws.ensures.changes old mid new cs one _ _ before.made adds);
      screen = adds.3.screen_is
          ∙ (λ i. replay (f (before.made.widths i)) (before.screen i) (one ∷ []))
          ∙ sym (replay_more (f old.widths) (screen_of old) cs one)
          ∙ ap (replay (f old.widths) (screen_of old)) more;
      logged = logged_one f old mid new cs one before.logged adds.3.log ∙ ap (appended old.log) more;
      width = adds.3.width ∙ before.width;
      height = adds.3.height ∙ before.height;
      left = append_assoc c.loop-change.yielded (c.in-Some.change ∷ []) c.next.new.self.rest.items ∙ whole;
    }

pub returns-in_err-add_change-clause-each : goal.returns-in_err-add_change-clause-each
returns-in_err-add_change-clause-each g c =
    let f = measure g.W.Widths.width_of in
    let old = c.args.surface.now in
    let mid = c.loop-change.surface in
    let new = c.add_change.new.self in
    let before = c.loop-change.invariant in
    let one : ChangeValue = change_value c.in-Some.change in
    let e = c.in_err-add_change.field-0.0 in
    let whole : c.loop-change.yielded ++ c.in-Some.change ∷ c.next.new.self.rest.items ≡ c.args.changes.items = sym (ap (λ rest. c.loop-change.yielded ++ rest) c.in-Some.ensures.steps.0) ∙ before.left in
    returned (λ (r : Result _ _). AddsEach f old (map change_value c.args.changes.items) r new) e c.from_residual.result c.from_residual.ensures.1 (record {
      made = map change_value c.loop-change.yielded;
      refused = one;
      later = map change_value c.next.new.self.rest.items;
      all = sym (ap (map change_value) whole) ∙ map-append change_value c.loop-change.yielded (c.in-Some.change ∷ c.next.new.self.rest.items);
      mid = mid;
      has_made = before.made;
      logged = before.logged;
      refuses = adds_refused (f mid.widths) mid new (one ∷ []) (next_number mid.log) e c.in_err-add_change.ensures.adds;
    })
