-- What asking and applying make of a viewer is what following may make of it.
use Rattle.std.proofs.Common.{◌≡◌, ℕ, ◌+◌, ◌<◌, ◌≤◌, ◌^◌, inl, inr, true, List, length, sym, ap, ◌∙◌, arith}
use Rattle.std.specs.Prelude.{Result, Ok, Err, OnOk}
use Rattle.std.proofs.lemmas.Bool.{cases_Bool, true≢false}
use Rattle.std.proofs.lemmas.Bool.Decides.{nat_tests}
use Rattle.termwiz_cell.specs.ChangeValue.{ChangeValue}
use Rattle.termwiz_surface.specs.Following.{ViewerValue, Follows, Fits, IsFitted, IsAnswer, Fetches, Accepts, IsLost, HasNoRoom, HasRoom, FollowsTo, forgetful, has_size_of}
use Rattle.termwiz_screen.specs.Log.{next_number}
use Rattle.termwiz_surface.specs.Adding.{Makes}
use Rattle.termwiz_screen.specs.FullScreen.{HasFullSize, full_replay}
use Rattle.termwiz_surface.specs.Surface.{SurfaceValue, screen_of, full_of}
use Rattle.termwiz_screen.specs.Step.{replay, regions_fit}
use Rattle.termwiz_surface.specs.declared.surface.SurfaceError.{SurfaceError}
use Rattle.termwiz_surface.specs.declared.surface.SurfaceError.TheVariants.{ScrollRegion, Numbers, Memory}
use Rattle.termwiz_surface.proofs.Following.{Follows-none, Follows-same, Follows-fitted, caught_up, fully_caught_up, full-made, fitted_widths, fitted_full, fitted_height, fitted_number, fitted_last, fitted_room}
use Rattle.termwiz_screen.proofs.Logs.{restarted_number}
use Rattle.termwiz_surface.proofs.RowNumbers.{restarted_least}

module _ {W : Type 0} where
  fitted_grows : (old : ViewerValue W) (s : SurfaceValue W) (new : ViewerValue W) → IsFitted old s new → next_number old.surface.log ≤ next_number new.surface.log
  fitted_grows old s new k = elim (cases_Bool (has_size_of old s)) [
    | inl e ↦ omega (arith, ap (λ (v : ViewerValue W). next_number v.surface.log) (k.same e))
    | inr e ↦ rw ((k.other e).1.log) (restarted_least old.surface.log)
  ]

  -- a viewer that is as another one but for its number
  lost_alike : (old mid new : ViewerValue W) → mid.surface.widths ≡ old.surface.widths → mid.surface.full ≡ old.surface.full → next_number old.surface.log ≤ next_number mid.surface.log → next_number mid.surface.log ≤ next_number old.surface.log + 1 → new.last ≡ 0 → new.surface ≡ mid.surface → IsLost old new
  lost_alike old mid new w k g n l e =
      let same = ap (λ (s : SurfaceValue W). next_number s.log) e in
      record { last = l; widths = ap (λ (s : SurfaceValue W). s.widths) e ∙ w; full = ap (λ (s : SurfaceValue W). s.full) e ∙ k; grows = omega (arith, g, same); number = omega (arith, n, same) }

  -- the changes that are asked for have no room
  no_room : (measure : List ℕ → ℕ) (s : SurfaceValue W) (old mid : ViewerValue W) (cs : List ChangeValue) → IsFitted old s mid → IsAnswer measure s mid.last cs → 2 ^ 64 ≤ next_number mid.surface.log + length cs → HasNoRoom old s
  no_room measure s old mid cs fitted answer past =
      let asked = fitted_last old s mid fitted in
      record {
        count = length cs;
        known = rw asked (λ k. ap length (answer.stream.known k));
        repaint = rw asked (λ k. answer.short k);
        no_room = omega (arith, past, fitted_room old s mid fitted);
      }

  -- they have room
  has_room : (measure : List ℕ → ℕ) (s : SurfaceValue W) (old mid : ViewerValue W) (cs : List ChangeValue) → IsFitted old s mid → IsAnswer measure s mid.last cs → next_number mid.surface.log + length cs < 2 ^ 64 → HasRoom old s
  has_room measure s old mid cs fitted answer fits =
      let asked = fitted_last old s mid fitted in
      record {
        size = omega (arith, fits, fitted_room old s mid fitted);
        known = rw asked (λ k. omega (arith, fits, fitted_room old s mid fitted, ap length (answer.stream.known k)));
      }

  -- another size has none, so nothing is asked for
  pub Fetches-unfitted : (measure : List ℕ → ℕ) (s : SurfaceValue W) (old new : ViewerValue W) (e : SurfaceError) → Fits old s (Err e) new → Fetches measure s old (Err e) new
  Fetches-unfitted measure s old new ScrollRegion h = h
  Fetches-unfitted measure s old new Numbers h = (
    inl h,
    record {
      count = 0;
      known = rw h.0 (λ k. absurd (true≢false (sym k)));
      repaint = λ k. omega arith;
      no_room = rw h.0 (grind (arith, nat_tests, h.1));
    },
  )
  Fetches-unfitted measure s old new Memory h = (
    inl h,
    record {
      size = rw h.0 (omega (arith, h.1, restarted_number old.surface.log));
      known = rw h.0 (λ k. absurd (true≢false (sym k)));
    },
  )

  -- what was asked for is not taken
  pub FollowsTo-refused : (f : W → List ℕ → ℕ) (measure : List ℕ → ℕ) (s : SurfaceValue W) (old mid new : ViewerValue W) (n : ℕ) (cs : List ChangeValue) (e : SurfaceError)
      → IsFitted old s mid → IsAnswer (f s.widths) s mid.last cs → Accepts measure mid n cs (Err e) new → FollowsTo f s old (Err e) new
  FollowsTo-refused f measure s old mid new n cs ScrollRegion fitted answer h =
      true≢false (sym answer.regions ∙ ap (λ k. regions_fit k cs) (sym (fitted_height old s mid fitted)) ∙ h.1.0)
  FollowsTo-refused f measure s old mid new n cs Numbers fitted answer h =
      (lost_alike old mid new (fitted_widths old s mid fitted) (fitted_full old s mid fitted) (fitted_grows old s mid fitted) (fitted_number old s mid fitted) h.0 h.1.2, no_room (f s.widths) s old mid cs fitted answer h.1.1)
  FollowsTo-refused f measure s old mid new n cs Memory fitted answer h =
      let frame = h.1.3 in (
        record {
          last = h.0;
          widths = frame.widths ∙ fitted_widths old s mid fitted;
          full = frame.full ∙ fitted_full old s mid fitted;
          grows = omega (arith, ap next_number frame.log, restarted_least mid.surface.log, fitted_grows old s mid fitted);
          number = omega (arith, ap next_number frame.log, restarted_number mid.surface.log, fitted_number old s mid fitted);
        },
        has_room (f s.widths) s old mid cs fitted answer h.1.1,
      )

  -- nothing was got, and the viewer forgets its number
  unfitted_lost : (old mid new : ViewerValue W) → mid ≡ forgetful old → new ≡ forgetful mid → IsLost old new
  unfitted_lost old mid new is forgets =
      let same : mid.surface ≡ old.surface = ap (λ (v : ViewerValue W). v.surface) is in
      let number : next_number mid.surface.log ≡ next_number old.surface.log = ap (λ (s : SurfaceValue W). next_number s.log) same in
      lost_alike old mid new (ap (λ (s : SurfaceValue W). s.widths) same) (ap (λ (s : SurfaceValue W). s.full) same) (omega (arith, number)) (omega (arith, number)) (ap (λ (v : ViewerValue W). v.last) forgets) (ap (λ (v : ViewerValue W). v.surface) forgets)

  fitted_lost : (s : SurfaceValue W) (old mid new : ViewerValue W) → IsFitted old s mid → new ≡ forgetful mid → IsLost old new
  fitted_lost s old mid new fitted forgets =
      lost_alike old mid new (fitted_widths old s mid fitted) (fitted_full old s mid fitted) (fitted_grows old s mid fitted) (fitted_number old s mid fitted) (ap (λ (v : ViewerValue W). v.last) forgets) (ap (λ (v : ViewerValue W). v.surface) forgets)

  pub FollowsTo-missed : (f : W → List ℕ → ℕ) (measure : List ℕ → ℕ) (s : SurfaceValue W) (old mid new : ViewerValue W) (e : SurfaceError) → Fetches measure s old (Err e) mid → new ≡ forgetful mid → FollowsTo f s old (Err e) new
  FollowsTo-missed f measure s old mid new ScrollRegion h forgets = h
  FollowsTo-missed f measure s old mid new Numbers h forgets = (elim (h.0) [ inl unfit ↦ unfitted_lost old mid new unfit.2 forgets | inr fitted ↦ fitted_lost s old mid new fitted forgets ], h.1)
  FollowsTo-missed f measure s old mid new Memory h forgets = (elim (h.0) [ inl unfit ↦ unfitted_lost old mid new unfit.2 forgets | inr fitted ↦ fitted_lost s old mid new fitted forgets ], h.1)

  -- after each error the viewer has no number
  pub FollowsTo-lost : (f : W → List ℕ → ℕ) (s : SurfaceValue W) (old new : ViewerValue W) (e : SurfaceError) → FollowsTo f s old (Err e) new → IsLost old new
  FollowsTo-lost f s old new ScrollRegion h = absurd h
  FollowsTo-lost f s old new Numbers h = h.0
  FollowsTo-lost f s old new Memory h = h.0

  pub Follows-lost : (f : W → List ℕ → ℕ) (s : SurfaceValue W) (old new : ViewerValue W) → Follows f old s → IsLost old new → Follows f new s
  Follows-lost f s old new h l = Follows-none f new s (ap f l.widths ∙ h.one_measure) l.last

  pub Follows-missed : (f : W → List ℕ → ℕ) (s : SurfaceValue W) (old new : ViewerValue W) (e : SurfaceError) → FollowsTo f s old (Err e) new → Follows f old s → Follows f new s
  Follows-missed f s old new e h k = Follows-lost f s old new k (FollowsTo-lost f s old new e h)

  -- a viewer in the surface's size makes what it asked for
  module _ (f : W → List ℕ → ℕ) (s : SurfaceValue W) (old mid new : ViewerValue W) (n : ℕ) (cs : List ChangeValue) (number : n ≡ next_number s.log) (fitted : IsFitted old s mid) (size : HasFullSize s.width s.height (full_of mid.surface)) (answer : IsAnswer (f s.widths) s mid.last cs) where
    pub FollowsTo-accepted : (result : Result ℕ SurfaceError) → Accepts (f mid.surface.widths) mid n cs result new → FollowsTo f s old result new
    FollowsTo-accepted (Ok k) h = (h.0 ∙ number, h.1 ∙ sym h.0, record { mid = mid; changes = cs; fitted = fitted; answer = answer; makes = h.2 })
    FollowsTo-accepted (Err e) h = FollowsTo-refused f (f mid.surface.widths) s old mid new n cs e fitted answer h

    module _ (follows : Follows f old s) where
      shown : Makes (f mid.surface.widths) mid.surface cs new.surface → screen_of new.surface ≡ screen_of s
      shown made =
          let follows_now = Follows-fitted f old s mid follows fitted in
          made.screen_is ∙ ap (λ m. replay m (screen_of mid.surface) cs) follows_now.one_measure ∙ caught_up f mid s cs follows_now size.screen answer.stream

      shown_fully : Makes (f mid.surface.widths) mid.surface cs new.surface → s.full ≡ true → full_of new.surface ≡ full_of s
      shown_fully made e =
          let follows_now = Follows-fitted f old s mid follows fitted in
          full-made (f mid.surface.widths) mid.surface new.surface cs made ∙ ap (λ m. full_replay m (full_of mid.surface) cs) follows_now.one_measure ∙ fully_caught_up f mid s cs follows_now e size (answer.full e)

      pub accepted_shows : (result : Result ℕ SurfaceError) → Accepts (f mid.surface.widths) mid n cs result new → OnOk result ((screen_of new.surface ≡ screen_of s) × (new.last ≡ next_number s.log))
      accepted_shows (Ok k) h = (shown h.2, h.1 ∙ number)
      accepted_shows (Err e) h = tt

      pub accepted_shows_fully : (result : Result ℕ SurfaceError) → Accepts (f mid.surface.widths) mid n cs result new → s.full ≡ true → OnOk result (full_of new.surface ≡ full_of s)
      accepted_shows_fully (Ok k) h e = shown_fully h.2 e
      accepted_shows_fully (Err k) h e = tt

      pub Follows-accepted : (result : Result ℕ SurfaceError) → Accepts (f mid.surface.widths) mid n cs result new → Follows f new s
      Follows-accepted (Ok k) h =
          Follows-same f new s (ap f h.2.widths ∙ ap f (fitted_widths old s mid fitted) ∙ follows.one_measure) (shown h.2) (shown_fully h.2) (h.1 ∙ number)
      Follows-accepted (Err e) h = Follows-missed f s old new e (FollowsTo-accepted (Err e) h) follows
