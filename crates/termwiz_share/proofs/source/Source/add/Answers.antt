use Rattle.std.proofs.Common.{◌+◌, ◌-◌, ap, inl, length, ◌∙◌}
use Rattle.termwiz_cell.specs.Measure.{measure}
use Rattle.termwiz_screen.specs.Log.{next_number}
use Rattle.termwiz_surface.specs.ChangeLists.{change_list}
use Rattle.termwiz_share.proofs.Served.{serves_on}
use Rattle.termwiz_share.proofs.AddedLists.{full-list}
use Rattle.termwiz_surface.specs.Surface.{SurfaceValue}
use Rattle.termwiz_surface.proofs.Preserving.{preserves-then}
use Rattle.termwiz_share.proofs.source.Source.add.Goals as goal

pub invariant_of-self : goal.invariant_of-self
invariant_of-self g c =
    let s = c.forget_unneeded.new.self in (
      full-list (measure g.W.Widths.width_of s.widths) s c.add.new.self c.args.list (next_number s.log - 1 + length (change_list c.args.list)) c.add.result c.add.ensures.adds ∙ ap (λ (v : SurfaceValue _). v.full) c.forget_unneeded.ensures.forgets ∙ c.self.invariant.0,
      c.self.invariant.1,
      (inl c.clear.ensures.delta, inl c.clear.ensures.repaint),
    )

pub returns-clause-preserves : goal.returns-clause-preserves
returns-clause-preserves g c =
    let f = measure g.W.Widths.width_of in
    let s = c.self.inside.surface in
    rw (← c.self.view_is) (serves_on f c.self.inside.number s c.add.new.self (preserves-then f s c.forget_unneeded.new.self c.add.new.self c.forget_unneeded.ensures.preserves c.add.ensures.preserves))
