-- What changes that aren't logged make of a screen, and of what is kept beside it.
use Rattle.std.proofs.Common.{◌≡◌, ℕ, List, ap, ◌∙◌}
use Rattle.std.specs.Prelude.{Result, Ok, Err, OnOk}
use Rattle.termwiz_surface.specs.{AddsUnlogged, Attributes, ChangeValue, ColorAttribute, Kept, SurfaceValue, kept_of, replay, replay_kept, screen_of}
use Rattle.termwiz_surface.specs.declared.surface.SurfaceError.{SurfaceError}
use Rattle.uses.specs.Quiet.{output_changes, settings_changes}

module _ {W : Type 0} (f : List ℕ → ℕ) (old new : SurfaceValue W) (number : ℕ) where
  pub shown_unlogged : (changes : List ChangeValue) (result : Result ℕ SurfaceError) → AddsUnlogged f old changes number result new → OnOk result (screen_of new ≡ replay f (screen_of old) changes)
  shown_unlogged changes (Ok n) adds = ap (λ (s : SurfaceValue W). screen_of s) adds.3.2 ∙ adds.3.1.screen_is
  shown_unlogged changes (Err e) adds = tt

  kept_unlogged : (changes : List ChangeValue) (n : ℕ) → AddsUnlogged f old changes number (Ok n) new → kept_of new ≡ replay_kept f (screen_of old) (kept_of old) changes
  kept_unlogged changes n adds = ap (λ (s : SurfaceValue W). kept_of s) adds.3.2 ∙ adds.3.1.kept_is

  pub title_unlogged : (output title : List ℕ) (result : Result ℕ SurfaceError) → AddsUnlogged f old (output_changes output title) number result new → OnOk result (new.title ≡ title)
  title_unlogged output title (Ok n) adds = ap (λ (k : Kept). k.title) (kept_unlogged (output_changes output title) n adds)
  title_unlogged output title (Err e) adds = tt

  pub color_unlogged : (pen : Attributes) (color : ColorAttribute) (result : Result ℕ SurfaceError) → AddsUnlogged f old (settings_changes pen color) number result new → OnOk result (new.color ≡ color)
  color_unlogged pen color (Ok n) adds = ap (λ (k : Kept). k.color) (kept_unlogged (settings_changes pen color) n adds)
  color_unlogged pen color (Err e) adds = tt
