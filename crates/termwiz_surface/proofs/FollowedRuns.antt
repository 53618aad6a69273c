-- A viewer that makes what it asked for does what the schedule says.
use Rattle.std.proofs.Common.{◌≡◌, ℕ, true, false, List, map, sym, ◌∙◌}
use Rattle.std.specs.Prelude.{Vec, Ok}
use Rattle.std.specs.declared.alloc.Global.{Global}
use Rattle.termwiz_cell.specs.ChangeValue.{ChangeValue, change_value}
use Rattle.termwiz_cell.specs.declared.change.Change.{Change}
use Rattle.termwiz_screen.specs.FullScreen.{HasFullSize}
use Rattle.termwiz_screen.specs.FullScreenValue.{full_value}
use Rattle.termwiz_screen.specs.Log.{next_number}
use Rattle.termwiz_screen.specs.Picture.{Pictures, screens, full_screens}
use Rattle.termwiz_screen.specs.ScreenValue.{screen_value}
use Rattle.termwiz_screen.specs.declared.full.FullScreen as full_code
use Rattle.termwiz_screen.specs.declared.screen.Screen as code
use Rattle.termwiz_surface.specs.Following.{ViewerValue, Follows, Accepts, IsFitted, IsAnswer}
use Rattle.termwiz_surface.specs.Surface.{SurfaceValue, screen_of, full_of}
use Rattle.termwiz_surface.specs.Schedule.{CatchesUp, HasUnmarkedRows, Views}
use Rattle.termwiz_surface.specs.declared.view.Outcome.TheVariants.{Followed, FollowedFull}
use Rattle.termwiz_surface.proofs.Viewing.{accepted_shows, accepted_shows_fully}

module _ {W : Type 0} (f : W → List ℕ → ℕ) (s : SurfaceValue W) (old : ViewerValue W) (follows : Follows f old s) (mid new : ViewerValue W) (n : ℕ) (cs : List ChangeValue) (number : n ≡ next_number s.log) (fitted : IsFitted old s mid)
    (size : HasFullSize s.width s.height (full_of mid.surface)) (answer : IsAnswer (f s.widths) s mid.last cs) (k : ℕ) (accepted : Accepts (f mid.surface.widths) mid n cs (Ok k) new) where
  catches_up : {P : Type 0} (pictures : Pictures P) (changes : List ChangeValue) (p : P) → changes ≡ cs → p ≡ pictures.shown (full_of new.surface) → pictures.shown (full_of new.surface) ≡ pictures.shown (full_of s)
      → CatchesUp f pictures s old k changes p new
  catches_up pictures changes p made shown shows = record {
    steps = (accepted.0 ∙ number, accepted.1 ∙ sym accepted.0, record { mid = mid; changes = cs; fitted = fitted; answer = answer; makes = accepted.2 });
    made = sym made;
    shown = shown;
    shows = shown ∙ shows;
  }

  pub Views-followed : s.full ≡ false → (copies : Vec Change Global) (screen : code.Screen) → map change_value copies.items ≡ cs → screen_value screen ≡ screen_of new.surface → HasUnmarkedRows screen → Views f s old (Followed k copies screen) new
  Views-followed plain copies screen made shown unmarked =
      (plain, catches_up screens (map change_value copies.items) (screen_value screen) made shown (accepted_shows f s old mid new n cs number fitted size answer follows (Ok k) accepted).0, unmarked)

  pub Views-followed_full : s.full ≡ true → (copies : Vec Change Global) (picture : full_code.FullScreen) → map change_value copies.items ≡ cs → full_value picture ≡ full_of new.surface → HasUnmarkedRows picture.screen → Views f s old (FollowedFull k copies picture) new
  Views-followed_full full copies picture made shown unmarked =
      (full, catches_up full_screens (map change_value copies.items) (full_value picture) made shown (accepted_shows_fully f s old mid new n cs number fitted size answer follows (Ok k) accepted full), unmarked)
