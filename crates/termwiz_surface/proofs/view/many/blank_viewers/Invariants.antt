use Rattle.std.proofs.Common.{◌≡◌, replicate}
use Rattle.termwiz_surface.specs.Following.{blank_viewer}
use Rattle.termwiz_surface.proofs.view.many.blank_viewers.Given as goal

-- as many viewers were made as the loop has counted
abbrev pub invariant-loop : goal.invariant-loop
invariant-loop g l = l.viewers.items ≡ replicate l.counter (blank_viewer l.surface)
