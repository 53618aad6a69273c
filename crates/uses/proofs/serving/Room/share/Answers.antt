use Rattle.std.proofs.Common.{◌≡◌, ◌∙◌, List, [], ◌∷◌, ◌++◌, Result, Ok, Err, map, ap, append-nil, arith, length, refl, sym, subst}
use Rattle.std.proofs.lemmas.List.{map-append}
use Rattle.termwiz_cell.specs.Measure.{measure}
use Rattle.termwiz_surface.specs.{ChangeValue, change_value}
use Rattle.uses.specs.Making.{HasMade}
use Rattle.uses.specs.Serving.{RoomValue, ServesAll, Shares}
use Rattle.uses.specs.declared.serving.ShareError.TheVariants.{Refused, Unserved}
use Rattle.uses.proofs.Returned.{returned}
use Rattle.uses.proofs.serving.Room.share.Goals as goal

empty : {A : Type 0} (xs : List A) → length xs ≡ 0 → xs ≡ []
empty [] none = refl
empty (x ∷ xs) none = absurd (omega (arith, none))

pub returns-in_err-make-clause-shares : goal.returns-in_err-make-clause-shares
returns-in_err-make-clause-shares g c =
    let f = measure g.W.Widths.width_of in
    let old = c.args.self.now in
    let new = c.make.new.self in
    let e = c.in_err-make.field-0.0 in
    let at = c.loop-change in
    let rest = c.next.new.self.rest.items in
    let whole : c.args.changes.items ≡ at.yielded ++ c.in-Some.change ∷ rest = at.invariant.all ∙ ap (λ left. at.yielded ++ left) c.in-Some.ensures.steps.0 in
    returned (λ (r : Result _ _). Shares f old (map change_value c.args.changes.items) r new) (Refused e) c.from_residual.result c.from_residual.ensures.1 (
      record {
        made = map change_value at.yielded;
        refused = change_value c.in-Some.change;
        later = map change_value rest;
        all = ap (map change_value) whole ∙ map-append change_value at.yielded (c.in-Some.change ∷ rest);
        mid = at.self.source;
        has_made = at.invariant.made;
        refuses = c.in_err-make.ensures.adds;
      },
      c.make.ensures.clients ∙ ap (λ (r : RoomValue _). record r { source = new.source }) at.invariant.clients,
    )

pub returns-in_err-serve_all-clause-shares : goal.returns-in_err-serve_all-clause-shares
returns-in_err-serve_all-clause-shares g c =
    let f = measure g.W.Widths.width_of in
    let old = c.args.self.now in
    let new = c.serve_all.new.self in
    let e = c.in_err-serve_all.field-0.0 in
    let at = c.loop-change in
    let all : map change_value at.yielded ≡ map change_value c.args.changes.items = ap (map change_value) (sym (at.invariant.all ∙ ap (λ left. at.yielded ++ left) (empty at.change-iterator.rest.items (omega (arith, c.in-None.ensures.steps.0, at.change-iterator.rest.ok))) ∙ append-nil at.yielded)) in
    returned (λ (r : Result _ _). Shares f old (map change_value c.args.changes.items) r new) (Unserved e) c.from_residual-in_err-serve_all.result c.from_residual-in_err-serve_all.ensures.1 (record {
      made = at.self.source;
      has_made = subst (λ (cs : List ChangeValue). HasMade f old.source.surface cs at.self.source.surface) all at.invariant.made;
      serves = subst (λ (r : RoomValue _). ServesAll f r (Err e) new) at.invariant.clients c.in_err-serve_all.ensures.serves;
      shows = c.in_err-serve_all.ensures.same;
    })

pub returns-clause-shares : goal.returns-clause-shares
returns-clause-shares g c =
    let f = measure g.W.Widths.width_of in
    let old = c.args.self.now in
    let new = c.serve_all.new.self in
    let at = c.loop-change in
    let all : map change_value at.yielded ≡ map change_value c.args.changes.items = ap (map change_value) (sym (at.invariant.all ∙ ap (λ left. at.yielded ++ left) (empty at.change-iterator.rest.items (omega (arith, c.in-None.ensures.steps.0, at.change-iterator.rest.ok))) ∙ append-nil at.yielded)) in
    record {
      made = at.self.source;
      has_made = subst (λ (cs : List ChangeValue). HasMade f old.source.surface cs at.self.source.surface) all at.invariant.made;
      serves = subst (λ (r : RoomValue _). ServesAll f r (Ok tt) new) at.invariant.clients c.in_ok-serve_all.ensures.serves;
      shows = c.in_ok-serve_all.ensures.same;
    }
