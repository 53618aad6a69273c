-- A viewer that follows keeps following, whatever the surface does.
use Rattle.std.proofs.Common.{◌≡◌, ℕ, ◌+◌, ◌-◌, ◌≤◌, inl, inr, true, false, List, length, drop, refl, sym, ap, subst, ◌∙◌, arith, length-append, length-drop}
use Rattle.std.specs.Prelude.{Result, Ok, Err, OnOk, ◌==◌, ◌⊎◌, if◌then◌else◌}
use Rattle.std.specs.Result.{is_err}
use Rattle.std.proofs.lemmas.Bool.{cases_Bool, and_parts, eqb-true, true≢false}
use Rattle.std.proofs.lemmas.Bool.Decides.{nat_tests}
use Rattle.std.proofs.lemmas.Grind.{fold-append}
use Rattle.std.proofs.lemmas.List.{drop-append-le, drop-drop}
use Rattle.std.proofs.Math.Seq.{drop-length}
use Rattle.termwiz_cell.specs.CellValue.{CellValue}
use Rattle.termwiz_cell.specs.ChangeValue.{ChangeValue}
use Rattle.termwiz_screen.specs.Diff.{Region}
use Rattle.termwiz_surface.specs.Adding.{Adds, Makes}
use Rattle.termwiz_surface.specs.Copies.{AddsDiff, AddsNothing}
use Rattle.termwiz_surface.specs.Following.{ViewerValue, LeadsTo, Follows, has_size_of, asks_with, number_in_size, IsFitted}
use Rattle.termwiz_screen.specs.Log.{LogValue, next_number, due, reaches, is_known, delta_limit, appended, flushed, restarted}
use Rattle.termwiz_screen.specs.Printable.{HasSize}
use Rattle.termwiz_surface.specs.Resizing.{HasResized, Resizes}
use Rattle.termwiz_screen.specs.FullScreen.{full_screen, full_replay, HasFullSize}
use Rattle.termwiz_surface.specs.Surface.{SurfaceValue, screen_of, kept_of, full_of}
use Rattle.termwiz_screen.specs.Picture.{Pictures, screens, full_screens, played}
use Rattle.termwiz_screen.specs.Step.{replay}
use Rattle.termwiz_screen.specs.Stream.{Brings, IsStream, IsFullStream}
use Rattle.termwiz_surface.specs.declared.surface.SurfaceError.{SurfaceError}
use Rattle.termwiz_surface.specs.declared.surface.SurfaceError.TheVariants.{ScrollRegion, Numbers, Memory}
use Rattle.termwiz_screen.proofs.FullScreens.{full-replayed}
use Rattle.termwiz_screen.proofs.Logs.{reached, restarted_number}

pub known_tells : (most : ℕ) (log : LogValue) (n : ℕ) → is_known most log n ≡ true → (n ≡ 0 → ⊥) × (log.first ≤ n)
known_tells most log n h = (grind (arith, nat_tests), grind (arith, nat_tests))

-- pictures, numbers and logs
module _ {P : Type 0} (pictures : Pictures P) (f : List ℕ → ℕ) where
  -- a viewer with no number is led nowhere
  pub Leads-none : (v s : P) (n : ℕ) (log : LogValue) → n ≡ 0 → LeadsTo pictures f v n s log
  Leads-none v s n log e = record { not_ahead = omega (arith, e); leads = λ ne le. absurd (ne e) }

  -- more changes are due, and lead on
  pub Leads-appended : (v s t : P) (n : ℕ) (log : LogValue) (cs : List ChangeValue) → (pictures.screen t).width ≡ (pictures.screen s).width → (pictures.screen t).height ≡ (pictures.screen s).height → t ≡ played pictures f s cs → LeadsTo pictures f v n s log → LeadsTo pictures f v n t (appended log cs)
  Leads-appended v s t n log cs w h e l = record {
    not_ahead = omega (arith, l.not_ahead, length-append log.changes cs);
    leads = λ ne le.
        let ahead : n ≤ log.first + length log.changes = l.not_ahead in
        let k = l.leads ne le in (
          k.0 ∙ sym w,
          k.1 ∙ sym h,
          ap (played pictures f v) (drop-append-le (n - log.first) log.changes cs (omega arith)) ∙ fold-append (pictures.step f) v (due log n) cs ∙ ap (λ (u : P). played pictures f u cs) k.2 ∙ sym e,
        );
  }

  -- the log is lost, and none of its numbers above 0 is known
  pub Leads-restarted : (v s t : P) (n : ℕ) (log : LogValue) → LeadsTo pictures f v n s log → LeadsTo pictures f v n t (restarted log)
  Leads-restarted v s t n log l =
      let ahead : n ≤ log.first + length log.changes = l.not_ahead in
      record {
        not_ahead = grind (arith, nat_tests);
        leads = λ ne le. absurd (grind (arith, nat_tests));
      }

  pub Leads-flushed : (v s : P) (n k : ℕ) (log : LogValue) → LeadsTo pictures f v n s log → LeadsTo pictures f v n s (flushed log k)
  Leads-flushed v s n k log l =
      elim (reaches log k) as (λ b. reaches log k ≡ b → LeadsTo pictures f v n s (record { first = if b then k else log.first; changes = if b then due log k else log.changes })) [
        | true ↦ λ e.
            let ahead : n ≤ log.first + length log.changes = l.not_ahead in
            let in_log = reached log k e in
            record {
              not_ahead = omega (arith, in_log.0, in_log.1, length-drop (k - log.first) log.changes);
              leads = λ ne le.
                  let sum : k - log.first + (n - k) ≡ n - log.first = omega (arith, in_log.0) in
                  let led = l.leads ne (omega (arith, in_log.0)) in (
                    led.0,
                    led.1,
                    ap (played pictures f v) (drop-drop (n - k) (k - log.first) log.changes ∙ ap (λ j. drop j log.changes) sum) ∙ led.2,
                  );
            }
        | false ↦ λ e. l
      ] refl

  -- a screen with the surface's number is led by nothing
  pub Leads-same : (v s : P) (n : ℕ) (log : LogValue) → v ≡ s → n ≡ next_number log → LeadsTo pictures f v n s log
  Leads-same v s n log e k =
      let all : n - log.first ≡ length log.changes = omega (arith, k) in
      record {
        not_ahead = omega (arith, k);
        leads = λ ne le. (
          ap (λ (t : P). (pictures.screen t).width) e,
          ap (λ (t : P). (pictures.screen t).height) e,
          ap (λ j. played pictures f v (drop j log.changes)) all ∙ ap (played pictures f v) (drop-length log.changes) ∙ e,
        );
      }

  -- an answer leads to the surface's screen
  pub Leads-stream : (v s : P) (n : ℕ) (log : LogValue) (cs : List ChangeValue) → pictures.IsSized (pictures.screen s).width (pictures.screen s).height v → LeadsTo pictures f v n s log → Brings pictures f s log n cs → played pictures f v cs ≡ s
  Leads-stream v s n log cs size l a =
      elim (is_known (delta_limit (pictures.screen s).width (pictures.screen s).height) log n) as (λ b. is_known (delta_limit (pictures.screen s).width (pictures.screen s).height) log n ≡ b → played pictures f v cs ≡ s) [
        | true ↦ λ e. let k = known_tells (delta_limit (pictures.screen s).width (pictures.screen s).height) log n e in ap (played pictures f v) (a.known e) ∙ (l.leads k.0 k.1).2
        | false ↦ λ e. a.repaint e v size
      ] refl

-- changes that are made on a surface are made on its full screen
pub full-made : {W : Type 0} (f : List ℕ → ℕ) (s t : SurfaceValue W) (cs : List ChangeValue) → Makes f s cs t → full_of t ≡ full_replay f (full_of s) cs
full-made f s t cs m = (λ i. full_screen (m.screen_is i) (m.kept_is i)) ∙ full-replayed f cs (screen_of s) (kept_of s)

module _ {W : Type 0} (f : W → List ℕ → ℕ) where
  pub Follows-makes : (v : ViewerValue W) (s t : SurfaceValue W) (cs : List ChangeValue) → Follows f v s → Makes (f s.widths) s cs t → Follows f v t
  Follows-makes v s t cs h m = record {
    one_measure = h.one_measure ∙ sym (ap f m.widths);
    leads = rw (ap f m.widths, m.log) (Leads-appended screens (f s.widths) (screen_of v.surface) (screen_of s) (screen_of t) v.last s.log cs m.width m.height m.screen_is h.leads);
    full = λ e. rw (ap f m.widths, m.log) (Leads-appended full_screens (f s.widths) (full_of v.surface) (full_of s) (full_of t) v.last s.log cs m.width m.height (full-made (f s.widths) s t cs m) (h.full (sym m.full ∙ e)));
  }

  -- a call that makes changes succeeded
  pub Follows-made : {E : Type 0} (v : ViewerValue W) (s t : SurfaceValue W) (cs : List ChangeValue) (result : Result (Unit {0}) E) → is_err result ≡ false → OnOk result (Makes (f s.widths) s cs t) → Follows f v s → Follows f v t
  Follows-made v s t cs (Ok u) e m h = Follows-makes v s t cs h m
  Follows-made v s t cs (Err x) e m h = absurd (true≢false e)

  -- any surface with that width value and an emptied log
  pub Follows-restarted : (v : ViewerValue W) (s t : SurfaceValue W) → Follows f v s → t.widths ≡ s.widths → t.full ≡ s.full → t.log ≡ restarted s.log → Follows f v t
  Follows-restarted v s t h w k l = record {
    one_measure = h.one_measure ∙ sym (ap f w);
    leads = rw (ap f w, l) (Leads-restarted screens (f s.widths) (screen_of v.surface) (screen_of s) (screen_of t) v.last s.log h.leads);
    full = λ e. rw (ap f w, l) (Leads-restarted full_screens (f s.widths) (full_of v.surface) (full_of s) (full_of t) v.last s.log (h.full (sym k ∙ e)));
  }

  pub Follows-resized : (v : ViewerValue W) (s t : SurfaceValue W) (width height : ℕ) → Follows f v s → HasResized s width height t → Follows f v t
  Follows-resized v s t width height h r = Follows-restarted v s t h r.widths r.full r.log

  -- after a list of changes, whatever was answered
  pub Follows-adds : (v : ViewerValue W) (s t : SurfaceValue W) (cs : List ChangeValue) (told : ℕ) (result : Result ℕ SurfaceError) → Follows f v s → Adds (f s.widths) s cs told result t → Follows f v t
  Follows-adds v s t cs told (Ok n) h a = Follows-makes v s t cs h a.3
  Follows-adds v s t cs told (Err ScrollRegion) h a = subst (Follows f v) (sym a.1) h
  Follows-adds v s t cs told (Err Numbers) h a = subst (Follows f v) (sym a.2) h
  Follows-adds v s t cs told (Err Memory) h a = Follows-restarted v s t h a.3.widths a.3.full a.3.log

  -- after a drawing or a copy
  pub Follows-diff : {Same : Type 0} {b : List (List CellValue)} {r : Region} {finish : List ChangeValue → List ChangeValue} (v : ViewerValue W) (s t : SurfaceValue W) (result : Result ℕ SurfaceError) → Follows f v s → AddsDiff (f s.widths) Same b r finish s result t ⊎ AddsNothing s result t → Follows f v t
  Follows-diff {finish = finish} v s t result h (inl d) = Follows-adds v s t (finish d.changes) _ result h d.done
  Follows-diff v s t result h (inr d) = subst (Follows f v) (sym d.same) h

  -- after a resize, whatever was answered
  pub Follows-resizes : (v : ViewerValue W) (s t : SurfaceValue W) (width height : ℕ) (result : Result (Unit {0}) SurfaceError) → Follows f v s → Resizes s width height result t → Follows f v t
  Follows-resizes v s t width height (Ok u) h r = Follows-resized v s t width height h r.1
  Follows-resizes v s t width height (Err ScrollRegion) h r = absurd r
  Follows-resizes v s t width height (Err Numbers) h r = subst (Follows f v) (sym r.1) h
  Follows-resizes v s t width height (Err Memory) h r = subst (Follows f v) (sym r.1) h

  -- a viewer with the surface's number follows where it shows what the surface shows
  pub Follows-same : (v : ViewerValue W) (s : SurfaceValue W) → f v.surface.widths ≡ f s.widths → screen_of v.surface ≡ screen_of s → (s.full ≡ true → full_of v.surface ≡ full_of s) → v.last ≡ next_number s.log → Follows f v s
  Follows-same v s w e k n = record {
    one_measure = w;
    leads = Leads-same screens (f s.widths) (screen_of v.surface) (screen_of s) v.last s.log e n;
    full = λ b. Leads-same full_screens (f s.widths) (full_of v.surface) (full_of s) v.last s.log (k b) n;
  }

  -- a viewer with no number follows
  pub Follows-none : (v : ViewerValue W) (s : SurfaceValue W) → f v.surface.widths ≡ f s.widths → v.last ≡ 0 → Follows f v s
  Follows-none v s w e = record {
    one_measure = w;
    leads = Leads-none screens (f s.widths) (screen_of v.surface) (screen_of s) v.last s.log e;
    full = λ b. Leads-none full_screens (f s.widths) (full_of v.surface) (full_of s) v.last s.log e;
  }

  -- a viewer that takes the surface's size keeps following
  pub Follows-fitted : (old : ViewerValue W) (s : SurfaceValue W) (new : ViewerValue W) → Follows f old s → IsFitted old s new → Follows f new s
  Follows-fitted old s new h k = elim (cases_Bool (has_size_of old s)) [
    | inl e ↦ subst (λ (v : ViewerValue W). Follows f v s) (sym (k.same e)) h
    | inr e ↦ let r = k.other e in Follows-none new s (ap f r.1.widths ∙ h.one_measure) r.0
  ]

  -- and an answer leads it to the surface's screen
  pub caught_up : (v : ViewerValue W) (s : SurfaceValue W) (cs : List ChangeValue) → Follows f v s → HasSize s.width s.height (screen_of v.surface) → IsStream (f s.widths) (screen_of s) s.log v.last cs
      → replay (f s.widths) (screen_of v.surface) cs ≡ screen_of s
  caught_up v s cs h size a = Leads-stream screens (f s.widths) (screen_of v.surface) (screen_of s) v.last s.log cs size h.leads a

  -- one of a full surface leads it to the surface's full screen
  pub fully_caught_up : (v : ViewerValue W) (s : SurfaceValue W) (cs : List ChangeValue) → Follows f v s → s.full ≡ true → HasFullSize s.width s.height (full_of v.surface) → IsFullStream (f s.widths) (full_of s) s.log v.last cs
      → full_replay (f s.widths) (full_of v.surface) cs ≡ full_of s
  fully_caught_up v s cs h e size a = Leads-stream full_screens (f s.widths) (full_of v.surface) (full_of s) v.last s.log cs size (h.full e) a

module _ {W : Type 0} where
  pub fitted_widths : (old : ViewerValue W) (s : SurfaceValue W) (new : ViewerValue W) → IsFitted old s new → new.surface.widths ≡ old.surface.widths
  fitted_widths old s new k = elim (cases_Bool (has_size_of old s)) [
    | inl e ↦ ap (λ (v : ViewerValue W). v.surface.widths) (k.same e)
    | inr e ↦ (k.other e).1.widths
  ]

  pub fitted_full : (old : ViewerValue W) (s : SurfaceValue W) (new : ViewerValue W) → IsFitted old s new → new.surface.full ≡ old.surface.full
  fitted_full old s new k = elim (cases_Bool (has_size_of old s)) [
    | inl e ↦ ap (λ (v : ViewerValue W). v.surface.full) (k.same e)
    | inr e ↦ (k.other e).1.full
  ]

  pub fitted_height : (old : ViewerValue W) (s : SurfaceValue W) (new : ViewerValue W) → IsFitted old s new → new.surface.height ≡ s.height
  fitted_height old s new k = elim (cases_Bool (has_size_of old s)) [
    | inl e ↦
        let parts = and_parts (old.surface.width == s.width) (old.surface.height == s.height) e in
        ap (λ (v : ViewerValue W). v.surface.height) (k.same e) ∙ eqb-true old.surface.height s.height parts.1
    | inr e ↦ (k.other e).1.height
  ]

  -- its own number grows by one at most
  pub fitted_number : (old : ViewerValue W) (s : SurfaceValue W) (new : ViewerValue W) → IsFitted old s new → next_number new.surface.log ≤ next_number old.surface.log + 1
  fitted_number old s new k = elim (cases_Bool (has_size_of old s)) [
    | inl e ↦ omega (arith, ap (λ (v : ViewerValue W). next_number v.surface.log) (k.same e))
    | inr e ↦ rw ((k.other e).1.log) (restarted_number old.surface.log)
  ]

  pub fitted_last : (old : ViewerValue W) (s : SurfaceValue W) (new : ViewerValue W) → IsFitted old s new → asks_with old s ≡ new.last
  fitted_last old s new k = elim (cases_Bool (has_size_of old s)) [
    | inl e ↦ rw e (ap (λ (v : ViewerValue W). v.last) (sym (k.same e)))
    | inr e ↦ rw e (sym (k.other e).0)
  ]

  pub fitted_room : (old : ViewerValue W) (s : SurfaceValue W) (new : ViewerValue W) → IsFitted old s new → number_in_size old s ≡ next_number new.surface.log
  fitted_room old s new k = elim (cases_Bool (has_size_of old s)) [
    | inl e ↦ rw e (ap (λ (v : ViewerValue W). next_number v.surface.log) (sym (k.same e)))
    | inr e ↦ rw e (ap next_number (sym (k.other e).1.log))
  ]
