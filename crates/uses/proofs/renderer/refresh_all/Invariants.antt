use Rattle.std.proofs.Common.{◌≡◌, All}
use Rattle.std.specs.List.{AllWithin}
use Rattle.std.specs.Prelude.{Ok}
use Rattle.termwiz_surface.specs.{Follows, measure, next_number, screen_of}
use Rattle.uses.specs.Following.{FollowsOnce}
use Rattle.uses.proofs.InTurn.{AreChangedTo}
use Rattle.uses.proofs.renderer.refresh_all.Given as goal

-- the viewers so far show the screen and have its number, the others are as they were, and all of
-- them follow the surface
abbrev pub invariant-loop-each : goal.invariant-loop-each
invariant-loop-each g l = record {
  shown : AllWithin (λ v. screen_of v.surface ≡ screen_of l.surface) l.viewers 0 l.each-index;
  numbered : AllWithin (λ v. v.last ≡ next_number l.surface.log) l.viewers 0 l.each-index;
  stepped : AreChangedTo (λ v w. FollowsOnce (measure g.W.Widths.width_of) l.surface v (Ok tt) w) l.fn.viewers l.viewers l.each-index;
  follows : All (λ v. Follows (measure g.W.Widths.width_of) v l.surface) l.viewers;
}
