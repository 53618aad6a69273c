use Rattle.std.proofs.Common.{◌∙◌, inl, inr, refl, sym}
use Rattle.termwiz_surface.proofs.surface.Surface.keep_top.Goals as goal

pub returns-then-not-first_leaves-clause-ok : goal.returns-then-not-first_leaves-clause-ok
returns-then-not-first_leaves-clause-ok g c = inl (refl, λ on. (sym c.first_leaves.ensures.leaves ∙ c.if-not-first_leaves.true, refl))

pub returns-clause-ok : goal.returns-clause-ok
returns-clause-ok g c = inr (sym c.first_leaves.ensures.leaves ∙ c.if-not-first_leaves.false, c.in_ok-take_row.ensures.ok, c.in_ok-take_row.ensures.moves)
