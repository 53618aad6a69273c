use Rattle.std.proofs.Common.{◌≡◌, List, Ok, inl, map, rules, subst}
use Rattle.termwiz_surface.specs.{ChangeValue, SurfaceValue, change_value, measure, own_repaint}
use Rattle.uses.specs.Making.{MakesOrRefuses}
use Rattle.uses.proofs.Making.{adds_made}
use Rattle.uses.proofs.mirror.Mirror.catch_up.Goals as goal

pub returns-clause-adds : goal.returns-clause-adds
returns-clause-adds g c =
    let f = measure g.W.Widths.width_of in
    let new = c.add_changes.new.self in
    let list : map change_value c.in_ok-into_owned.field-0.items ≡ own_repaint c.args.surface.now = search rules in
    inl (subst (λ (s : SurfaceValue _). MakesOrRefuses (f s.widths) s (own_repaint c.args.surface.now) (Ok tt) new) c.self.view_is
    (subst (λ (cs : List ChangeValue). MakesOrRefuses (f c.self.inside.shown.widths) c.self.inside.shown cs (Ok tt) new) list
    (adds_made (f c.self.inside.shown.widths) c.self.inside.shown new (map change_value c.in_ok-into_owned.field-0.items) _ _ c.in_ok-add_changes.ensures.adds)))
