-- What the steps of a schedule tell, in a caller's words.
use Rattle.std.proofs.Common.{◌≡◌, inl, inr, ℕ, ◌+◌, ◌<◌, ◌≤◌, ◌^◌, true, false, if◌then◌else◌, List, length, map, refl, sym, ap, ◌∙◌, subst, arith, length-append}
use Rattle.std.proofs.lemmas.Bool.{cases_Bool, eq-eqb}
use Rattle.termwiz_cell.specs.ChangeValue.{ChangeValue, change_value}
use Rattle.termwiz_screen.proofs.Logs.{flushed_number}
use Rattle.termwiz_screen.specs.FullScreenValue.{full_value}
use Rattle.termwiz_screen.specs.Log.{next_number, due, delta_limit}
use Rattle.termwiz_screen.specs.Picture.{Pictures, screens, full_screens, played}
use Rattle.termwiz_screen.specs.Printable.{HasSize}
use Rattle.termwiz_screen.specs.ScreenValue.{screen_value}
use Rattle.termwiz_surface.proofs.Following.{known_tells, fitted_last, fitted_room}
use Rattle.termwiz_surface.proofs.SoundRepaint.{sound_has_size, sound_is_printable}
use Rattle.termwiz_surface.specs.Asking.{knows, most_own_entries}
use Rattle.termwiz_surface.specs.Following.{ViewerValue, Follows, IsLost, HasNoRoom, HasRoom, has_size_of, asks_with, number_in_size}
use Rattle.termwiz_surface.specs.Surface.{SurfaceValue, screen_of, full_of}
use Rattle.termwiz_surface.specs.Schedule.{CatchesUp, with_empty_log}
use Rattle.termwiz_surface.specs.ScheduleLaws.{LeadOn, FollowedLeadOn, FollowedFullLeadOn, Loses, LackNumbers, LackMemory, BrokenListsLeaveForm}

module _ {W : Type 0} (f : W → List ℕ → ℕ) (s : SurfaceValue W) (old : ViewerValue W) (follows : Follows f old s) where
  -- a viewer whose number is known has the surface's size, so it asks with that number
  asks_known : knows s old.last ≡ true → asks_with old s ≡ old.last
  asks_known known =
      let told = known_tells (delta_limit s.width s.height) s.log old.last known in
      let led = follows.leads.leads told.0 told.1 in
      let same : has_size_of old s ≡ true = rw (eq-eqb _ _ led.0, eq-eqb _ _ led.1) refl in
      rw same refl

  -- and any other asks with no number that is known
  asks_unknown : knows s old.last ≡ false → knows s (asks_with old s) ≡ false
  asks_unknown unknown = elim (cases_Bool (has_size_of old s)) [
    | inl same ↦ rw same unknown
    | inr other ↦ rw other refl
  ]

  no_room : HasNoRoom old s → 2 ^ 64 ≤ number_in_size old s + (if knows s old.last then length (due s.log old.last) else most_own_entries s)
  no_room h = elim (cases_Bool (knows s old.last)) [
    | inl known ↦
        let count : h.count ≡ length (due s.log old.last) = subst (λ n. knows s n ≡ true → h.count ≡ length (due s.log n)) (asks_known known) h.known known in
        rw known (omega (arith, h.no_room, count))
    | inr unknown ↦ rw unknown (omega (arith, h.no_room, h.repaint (asks_unknown unknown)))
  ]

  room : HasRoom old s → number_in_size old s + (if knows s old.last then length (due s.log old.last) else 0) < 2 ^ 64
  room h = elim (cases_Bool (knows s old.last)) [
    | inl known ↦ rw known (subst (λ n. knows s n ≡ true → number_in_size old s + length (due s.log n) < 2 ^ 64) (asks_known known) h.known known)
    | inr unknown ↦ rw unknown (omega (arith, h.size))
  ]

  lost : (made : ViewerValue W) → IsLost old made → Loses old (with_empty_log made)
  lost made l =
      let same = flushed_number made.surface.log (next_number made.surface.log) in
      (l.last, omega (arith, l.grows, same), omega (arith, l.number, same))

  module _ {P : Type 0} (pictures : Pictures P) (n : ℕ) (changes : List ChangeValue) (p : P) (made : ViewerValue W) (c : CatchesUp f pictures s old n changes p made) where
    asked : asks_with old s ≡ c.steps.2.mid.last
    asked = fitted_last old s c.steps.2.mid c.steps.2.fitted

    number : next_number (with_empty_log made).surface.log ≡ number_in_size old s + length changes
    number =
        let mid = c.steps.2.mid in
        omega (
          arith,
          flushed_number made.surface.log (next_number made.surface.log),
          ap next_number c.steps.2.makes.log,
          length-append mid.surface.log.changes c.steps.2.changes,
          fitted_room old s mid c.steps.2.fitted,
          ap length c.made,
        )

    leads_on : (knows s c.steps.2.mid.last ≡ true → c.steps.2.changes ≡ due s.log c.steps.2.mid.last)
        → (knows s c.steps.2.mid.last ≡ false → (q : P) → pictures.IsSized s.width s.height q → played pictures (f s.widths) q c.steps.2.changes ≡ pictures.shown (full_of s))
        → (knows s old.last ≡ true → played pictures (f s.widths) (pictures.shown (full_of old.surface)) (due s.log old.last) ≡ pictures.shown (full_of s)) → LeadOn f pictures s old changes p (with_empty_log made)
    leads_on known repaint led = record {
      known = λ is.
          let same : c.steps.2.mid.last ≡ old.last = sym asked ∙ asks_known is in
          let due_is : changes ≡ due s.log old.last = sym c.made ∙ subst (λ m. knows s m ≡ true → c.steps.2.changes ≡ due s.log m) same known is in
          (due_is, ap (played pictures (f s.widths) (pictures.shown (full_of old.surface))) due_is ∙ led is ∙ sym c.shows);
      repaint = λ is q sized.
          let unknown : knows s c.steps.2.mid.last ≡ false = subst (λ m. knows s m ≡ false) asked (asks_unknown is) in
          ap (played pictures (f s.widths) q) (sym c.made) ∙ repaint unknown q sized ∙ sym c.shows;
      entries = λ is.
          let unknown : knows s c.steps.2.mid.last ≡ false = subst (λ m. knows s m ≡ false) asked (asks_unknown is) in
          sym c.made ∙ c.steps.2.answer.entries unknown;
      own = number;
    }

  known_leads : knows s old.last ≡ true → played screens (f s.widths) (screen_of old.surface) (due s.log old.last) ≡ screen_of s
  known_leads known = let told = known_tells (delta_limit s.width s.height) s.log old.last known in (follows.leads.leads told.0 told.1).2

  known_leads_fully : s.full ≡ true → knows s old.last ≡ true → played full_screens (f s.widths) (full_of old.surface) (due s.log old.last) ≡ full_of s
  known_leads_fully full known = let told = known_tells (delta_limit s.width s.height) s.log old.last known in ((follows.full full).leads told.0 told.1).2

module _ {W : Type 0} (f : W → List ℕ → ℕ) where
  pub followed_leads_on : FollowedLeadOn f
  followed_leads_on s t v u n changes screen h =
      let g = h.0 in
      let c = g.views.1 in
      subst (LeadOn f screens s v (map change_value changes.items) (screen_value screen)) (sym g.forgets)
      (leads_on f s v g.follows screens n (map change_value changes.items) (screen_value screen) g.made c c.steps.2.answer.stream.known c.steps.2.answer.stream.repaint (known_leads f s v g.follows))

  pub followed_full_leads_on : FollowedFullLeadOn f
  followed_full_leads_on s t v u n changes picture h =
      let g = h.0 in
      let full = g.views.0 in
      let c = g.views.1 in
      let stream = c.steps.2.answer.full full in
      subst (LeadOn f full_screens s v (map change_value changes.items) (full_value picture)) (sym g.forgets)
      (leads_on f s v g.follows full_screens n (map change_value changes.items) (full_value picture) g.made c stream.known stream.repaint (known_leads_fully f s v g.follows full))

  pub lack_numbers : LackNumbers f
  lack_numbers s t v u h = let g = h.0 in (subst (Loses v) (sym g.forgets) (lost f s v g.follows g.made g.views.0), no_room f s v g.follows g.views.1)

  pub lack_memory : LackMemory f
  lack_memory s t v u h = let g = h.0 in (subst (Loses v) (sym g.forgets) (lost f s v g.follows g.made g.views.0), room f s v g.follows g.views.1)

pub broken_leaves_form : (W : Type 0) → BrokenListsLeaveForm W
broken_leaves_form W measure s t changes told h =
    let size = sound_has_size measure t h.4 in (
      subst (λ k. HasSize k s.height (screen_of t)) h.3.width (subst (λ k. HasSize t.width k (screen_of t)) h.3.height size),
      sound_is_printable measure t h.4,
    )
