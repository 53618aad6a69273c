use Rattle.std.proofs.Common.{◌≡◌, drop, map}
use Rattle.termwiz_screen.specs.Step.{regions_fit}
use Rattle.termwiz_surface.specs.Unlogged.{lent_value}
use Rattle.termwiz_surface.proofs.surface.lists.lent_regions_fit.Given as goal

-- what is left decides it
abbrev pub invariant-loop-change : goal.invariant-loop-change
invariant-loop-change l = regions_fit l.height (map lent_value (drop l.change-index l.changes)) ≡ regions_fit l.height (map lent_value l.changes)
