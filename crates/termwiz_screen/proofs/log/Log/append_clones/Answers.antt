use Rattle.std.proofs.Common.{◌≡◌, ◌+◌, [], ◌++◌, length, drop, map, refl, sym, ap, ◌∙◌, arith}
use Rattle.std.proofs.lemmas.Bool.{eqb-true}
use Rattle.std.proofs.lemmas.List.{append-nil, drop_all, drop-append-le, length-map, map-append}
use Rattle.termwiz_cell.specs.ChangeValue.{change_value}
use Rattle.termwiz_cell.proofs.Lists.{map-clone}
use Rattle.termwiz_screen.specs.Log.{LogValue, appended}
use Rattle.termwiz_screen.proofs.log.Log.append_clones.Goals as goal

pub returns : goal.returns
returns c =
    let own = c.self.inside in
    let before = map change_value own.stored.items in
    let added = map change_value c.args.changes.now in
    let more = c.in_ok-extend_from_slice.ensures.items in
    let all : map change_value c.extend_from_slice.new.self.items ≡ before ++ added =
    ap (map change_value) more.1 ∙ map-append change_value own.stored.items more.0 ∙ ap (λ t. before ++ t) (map-clone _ change_value (λ x y e. e) c.args.changes.now more.0 more.2) in
    let kept : drop own.gone (map change_value c.extend_from_slice.new.self.items) ≡ drop own.gone before ++ added =
    ap (drop own.gone) all ∙ drop-append-le own.gone before added (omega (arith, c.self.invariant.0, length-map own.stored.items change_value)) in
    record {
      ok = (λ i. record { first = own.base + own.gone; changes = kept i }) ∙ ap (λ (l : LogValue). appended l added) c.self.view_is;
      err = tt;
      succeeds = λ _. refl;
    }

pub returns-then-is_empty : goal.returns-then-is_empty
returns-then-is_empty c =
    let log = c.args.self.now in
    let none : c.args.changes.now ≡ [] = drop_all 0 c.args.changes.now (omega (arith, eqb-true (length c.args.changes.now) 0 (sym c.is_empty.ensures ∙ c.if-is_empty.true))) in
    record {
      ok = (λ i. record { first = log.first; changes = sym (append-nil log.changes) i }) ∙ ap (λ t. appended log (map change_value t)) (sym none);
      err = tt;
      succeeds = λ _. refl;
    }
