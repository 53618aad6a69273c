-- What comes of an answer that is accepted.
use Rattle.std.proofs.Common.{◌≡◌, ℕ, List, sym, ap, ◌∙◌}
use Rattle.termwiz_surface.specs.Adding.{Makes}
use Rattle.termwiz_surface.specs.Accepting.{MayTake}
use Rattle.termwiz_surface.specs.Answer.{AnswerValue, Carries}
use Rattle.termwiz_surface.specs.Following.{ViewerValue}
use Rattle.termwiz_screen.specs.FullScreen.{FullScreen, HasFullSize}
use Rattle.termwiz_surface.specs.Surface.{full_of, SurfaceValue, screen_of}
use Rattle.termwiz_surface.specs.History.{Names}
use Rattle.termwiz_screen.specs.Picture.{screens, full_screens}
use Rattle.termwiz_screen.specs.Screen.{Screen}
use Rattle.termwiz_surface.proofs.Following.{full-made}
use Rattle.termwiz_surface.proofs.Remembering.{carried-leads}

-- a number that is another one names the same picture
pub names-same : {P : Type 0} (past : ℕ → P) (n k : ℕ) (p q : P) → n ≡ k → q ≡ p → Names past k p → Names past n q
names-same past n k p q e same h = record { named = λ ne. ap past e ∙ h.named (λ z. ne (e ∙ z)) ∙ sym same }

module _ {W : Type 0} (f : List ℕ → ℕ) (v : ViewerValue W) (a : AnswerValue) (t : SurfaceValue W) (size : HasFullSize a.width a.height (full_of v.surface)) (may : MayTake v a) (makes : Makes f v.surface a.changes t) where
  pub shows_screen : (past : ℕ → Screen) (s : Screen) → Carries screens f past a s → Names past v.last (screen_of v.surface) → screen_of t ≡ s
  shows_screen past s carries names = makes.screen_is ∙ carried-leads screens f past a s (screen_of v.surface) v.last size.screen may.fresh names carries

  pub shows_full_screen : (past : ℕ → FullScreen) (p : FullScreen) → Carries full_screens f past a p → Names past v.last (full_of v.surface) → full_of t ≡ p
  shows_full_screen past p carries names = full-made f v.surface t a.changes makes ∙ carried-leads full_screens f past a p (full_of v.surface) v.last size may.fresh names carries
