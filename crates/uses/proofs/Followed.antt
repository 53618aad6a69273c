-- The kind of a viewer that followed.
use Rattle.std.proofs.Common.{◌≡◌, ℕ, Bool, true, false, List, refl, ap, ◌∙◌}
use Rattle.termwiz_surface.specs.{SurfaceValue, ViewerValue}
use Rattle.termwiz_surface.specs.Following.{HasFollowed, IsFitted, has_size_of}

module _ {W : Type 0} (f : W → List ℕ → ℕ) (s : SurfaceValue W) (old : ViewerValue W) where
  fitted_kind : (mid : ViewerValue W) (b : Bool) → has_size_of old s ≡ b → IsFitted old s mid → mid.surface.full ≡ old.surface.full
  fitted_kind mid true e h = ap (λ (v : ViewerValue W). v.surface.full) (h.same e)
  fitted_kind mid false e h = (h.other e).1.full

  -- it is a full one where it was one
  pub followed_kind : (new : ViewerValue W) → HasFollowed f s old new → new.surface.full ≡ old.surface.full
  followed_kind new h = h.makes.full ∙ fitted_kind h.mid (has_size_of old s) refl h.fitted
