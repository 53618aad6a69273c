-- Which outcomes a list of events may have: what each event may answer and make of a surface and
-- its viewer, by the words of the calls themselves, and whole runs.
use Rattle.std.specs.Bool.{⊤}
use Rattle.std.specs.List.{All}
use Rattle.std.specs.Prelude.{◌≡◌, Bool, true, false, ℕ, ◌+◌, ◌-◌, List, [], ◌∷◌, map, string_bytes, Result, Ok, Err, vec_len}
use Rattle.termwiz_cell.specs.ChangeValue.{ChangeValue, change_value}
use Rattle.termwiz_line.specs.LineFlags.{no_flags}
use Rattle.termwiz_line.specs.LineValue.{LineValue}
use Rattle.termwiz_screen.specs.FullScreenValue.{full_value}
use Rattle.termwiz_screen.specs.Log.{next_number, flushed}
use Rattle.termwiz_screen.specs.Picture.{Pictures, screens, full_screens}
use Rattle.termwiz_screen.specs.ScreenValue.{screen_value}
use Rattle.termwiz_screen.specs.ShownChars.{shown_chars}
use Rattle.termwiz_screen.specs.declared.screen.Screen as code
use Rattle.termwiz_surface.specs.Adding.{Adds, with_log}
use Rattle.termwiz_surface.specs.Copies.{IsDrawn, IsCopied, whole_at}
use Rattle.termwiz_surface.specs.Following.{ViewerValue, Follows, FollowsTo, IsAnswer, blank_viewer}
use Rattle.termwiz_surface.specs.Resizing.{Resizes}
use Rattle.termwiz_surface.specs.Surface.{IsSurfaceSize, SurfaceValue, blank_surface, screen_of, lengths_of, full_of}
use Rattle.termwiz_surface.specs.declared.surface.SurfaceError.{SurfaceError}
use Rattle.termwiz_surface.specs.declared.surface.SurfaceError.TheVariants.{Memory}
use Rattle.termwiz_surface.specs.declared.view.Event.{Event}
use Rattle.termwiz_surface.specs.declared.view.Event.TheVariants.{Changes, Draw, Copy, Flush, Resize, Follow, Show, Ask}
use Rattle.termwiz_surface.specs.declared.view.Outcome.{Outcome}
use Rattle.termwiz_surface.specs.declared.view.Outcome.TheVariants.{Answered, Done, Refused, Followed, FollowedFull, Shown, Asked}

-- the sizes that an event names are those that a surface may have
abbrev pub IsInRange : {W : Type 0} → Event W → Type 0
IsInRange (Resize w h) = IsSurfaceSize w h
IsInRange _ = ⊤

-- the outcome has a number, or an error, of which this holds
abbrev pub ReportsOutcome : (Result ℕ SurfaceError → Type 0) → Outcome → Type 0
ReportsOutcome holds (Answered n) = holds (Ok n)
ReportsOutcome holds (Refused e) = holds (Err e)
ReportsOutcome holds _ = ⊥

-- each row of the copied screen has the number 0 and no flags
pub record HasUnmarkedRows (screen : code.Screen) : Type 0 where
  pub numbers : All (λ (line : LineValue). line.seqno ≡ 0) screen.rows.items
  pub flags : All (λ (line : LineValue). line.flags ≡ no_flags) screen.rows.items

-- the viewer with an empty log under its own coming number
abbrev pub with_empty_log : {W : Type 0} → ViewerValue W → ViewerValue W
with_empty_log v =
    record v { surface = with_log v.surface (flushed v.surface.log (next_number v.surface.log)) }

module _ {W : Type 0} (measure_of : W → List ℕ → ℕ) where
  -- the surface does an event of its own
  abbrev pub Acts : SurfaceValue W → Event W → Outcome → SurfaceValue W → Type 0
  Acts s (Changes changes) outcome t =
      ReportsOutcome
      (λ result. Adds (measure_of s.widths) s (map change_value changes.items)
      (next_number s.log - 1 + vec_len changes) result t)
      outcome
  Acts s (Draw other x y) outcome t =
      ReportsOutcome (λ result. IsDrawn measure_of s other (whole_at other x y) result t) outcome
  Acts s (Copy from_x from_y w h x y) outcome t =
      ReportsOutcome (λ result. IsCopied measure_of s from_x from_y w h x y result t) outcome
  Acts s (Flush n) Done t = t ≡ with_log s (flushed s.log n)
  Acts s (Resize w h) Done t = Resizes s w h (Ok tt) t
  Acts s (Resize w h) (Refused e) t = Resizes s w h (Err e) t
  Acts s Show (Shown text cursor) t =
      (string_bytes text ≡ shown_chars (screen_of s).rows (lengths_of s)) × (cursor ≡ (s.x, s.y)) ×
      (t ≡ s)
  Acts s Show (Refused Memory) t = t ≡ s
  Acts s (Ask n) (Asked k changes) t =
      (k ≡ next_number s.log) ×
      IsAnswer (measure_of s.widths) s n (map change_value changes.items) × (t ≡ s)
  Acts s (Ask n) (Refused Memory) t = t ≡ s
  -- no other outcome comes, and that a viewer follows is no event of the surface's own
  Acts s _ _ t = ⊥

  -- the viewer follows, making these changes, and shows this picture, which is the surface's
  pub record CatchesUp {P : Type 0} (pictures : Pictures P) (s : SurfaceValue W)
      (old : ViewerValue W) (n : ℕ) (changes : List ChangeValue) (p : P) (new : ViewerValue W) :
      Type 0 where
    pub steps : FollowsTo measure_of s old (Ok n) new
    pub made : steps.2.changes ≡ changes
    pub shown : p ≡ pictures.shown (full_of new.surface)
    pub shows : p ≡ pictures.shown (full_of s)

  -- the outcome of a viewer that follows, by full screens where the surface is full
  abbrev pub Views : SurfaceValue W → ViewerValue W → Outcome → ViewerValue W → Type 0
  Views s old (Followed n changes screen) new =
      (s.full ≡ false) ×
      CatchesUp screens s old n (map change_value changes.items) (screen_value screen) new ×
      HasUnmarkedRows screen
  Views s old (FollowedFull n changes picture) new =
      (s.full ≡ true) ×
      CatchesUp full_screens s old n (map change_value changes.items) (full_value picture) new ×
      HasUnmarkedRows picture.screen
  Views s old (Refused e) new = FollowsTo measure_of s old (Err e) new
  Views s old _ new = ⊥

  -- a viewer that followed the surface so far does so now, and then forgets what it made, since
  -- nobody follows it
  pub record FollowsOn (s : SurfaceValue W) (old : ViewerValue W) (outcome : Outcome)
      (new : ViewerValue W) : Type 0 where
    pub follows : Follows measure_of old s
    pub made : ViewerValue W
    pub views : Views s old outcome made
    pub forgets : new ≡ with_empty_log made

  -- the event may have this outcome, and leave this surface and this viewer
  abbrev pub Allows :
      SurfaceValue W → ViewerValue W → Event W → Outcome → SurfaceValue W → ViewerValue W → Type 0
  Allows s v Follow outcome t u = FollowsOn s v outcome u × (t ≡ s)
  Allows s v event outcome t u = Acts s event outcome t × (u ≡ v)

-- the events may have these outcomes, and go over from this surface and viewer to those
pub data Runs {W : Type 0} (measure_of : W → List ℕ → ℕ) :
    SurfaceValue W → ViewerValue W → List (Event W) → List Outcome → SurfaceValue W →
    ViewerValue W → Type 0 where
  Ended : (s : SurfaceValue W) (v : ViewerValue W) → Runs measure_of s v [] [] s v
  Next :
      (s s1 t : SurfaceValue W) (v v1 u : ViewerValue W) (event : Event W) (outcome : Outcome)
      (events : List (Event W)) (outcomes : List Outcome)
      → Allows measure_of s v event outcome s1 v1 → Runs measure_of s1 v1 events outcomes t u →
      Runs measure_of s v (event ∷ events) (outcome ∷ outcomes) t u

-- the outcomes are those of some run of a blank surface of this size, a full one or another one,
-- and its blank viewer
abbrev pub IsScheduleOf :
    Bool → {W : Type 0} → (W → List ℕ → ℕ) → W → ℕ → ℕ → List (Event W) → List Outcome → Type 0
IsScheduleOf full {W = W} measure_of widths w h events outcomes =
    let s = blank_surface widths w h full in
    (t : SurfaceValue W) × (u : ViewerValue W) ×
    Runs measure_of s (blank_viewer s) events outcomes t u

abbrev pub IsSchedule :
    {W : Type 0} → (W → List ℕ → ℕ) → W → ℕ → ℕ → List (Event W) → List Outcome → Type 0
IsSchedule measure_of widths w h events outcomes =
    IsScheduleOf false measure_of widths w h events outcomes

-- the outcomes are those that a schedule allows on a full surface
abbrev pub IsFullSchedule :
    {W : Type 0} → (W → List ℕ → ℕ) → W → ℕ → ℕ → List (Event W) → List Outcome → Type 0
IsFullSchedule measure_of widths w h events outcomes =
    IsScheduleOf true measure_of widths w h events outcomes
