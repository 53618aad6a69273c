-- Viewers: a surface that follows another one, by what its viewer was last given.
use Rattle.std.specs.Prelude.{◌≡◌, ℕ, ◌+◌, ◌<◌, ◌≤◌, ◌^◌, Bool, true, false, ◌&&◌, ◌==◌, ◌⊎◌, List, length, Result, Ok, Err, if◌then◌else◌}
use Rattle.std.specs.declared.alloc.Global.{Global}
use Rattle.std.specs.declared.borrow.CowSlice.{CowSlice}
use Rattle.termwiz_cell.specs.ChangeValue.{ChangeValue}
use Rattle.termwiz_cell.specs.declared.change.Change.{Change}
use Rattle.termwiz_surface.specs.Adding.{Adds, Makes}
use Rattle.termwiz_surface.specs.Asking.{knows, own_repaint, most_own_entries}
use Rattle.termwiz_screen.specs.Log.{LogValue, next_number, due, is_known, delta_limit, restarted}
use Rattle.termwiz_surface.specs.Resizing.{HasResized}
use Rattle.termwiz_screen.specs.Screen.{Screen}
use Rattle.termwiz_screen.specs.Step.{regions_fit}
use Rattle.termwiz_screen.specs.Stream.{IsStream, IsFullStream, most_entries, stream_of}
use Rattle.termwiz_screen.specs.FullScreen.{FullScreen}
use Rattle.termwiz_surface.specs.Surface.{SurfaceValue, blank_surface, blank_surface_from, screen_of, full_of}
use Rattle.termwiz_screen.specs.Picture.{Pictures, screens, full_screens, played}
use Rattle.termwiz_surface.specs.declared.surface.SurfaceError.{SurfaceError}
use Rattle.termwiz_surface.specs.declared.surface.SurfaceError.TheVariants.{ScrollRegion, Numbers, Memory}

pub record ViewerValue (W : Type 0) : Type 0 where
  pub surface : SurfaceValue W
  -- the number that it was last given, or 0
  pub last : ℕ

-- a picture was last given number n, which is not past the coming one; where the log goes back to
-- n, what is due leads from that picture to the picture p of its size; 0 is no number that was
-- given
pub record LeadsTo {P : Type 0} (pictures : Pictures P) (measure : List ℕ → ℕ) (v : P) (n : ℕ)
    (p : P) (log : LogValue) : Type 0 where
  pub not_ahead : n ≤ next_number log
  pub leads :
      (n ≡ 0 → ⊥) → log.first ≤ n →
      ((pictures.screen v).width ≡ (pictures.screen p).width) ×
      ((pictures.screen v).height ≡ (pictures.screen p).height) ×
      (played pictures measure v (due log n) ≡ p)

-- of screens
abbrev pub Leads : (List ℕ → ℕ) → Screen → ℕ → Screen → LogValue → Type 0
Leads = LeadsTo screens

-- of full screens
abbrev pub FullLeads : (List ℕ → ℕ) → FullScreen → ℕ → FullScreen → LogValue → Type 0
FullLeads = LeadsTo full_screens

module _ {W : Type 0} where
  -- the viewer measures as the surface does, and what is due leads it to the surface's screen, and
  -- of a full surface to its full screen
  pub record Follows (measure_of : W → List ℕ → ℕ) (v : ViewerValue W) (s : SurfaceValue W) :
      Type 0 where
    pub one_measure : measure_of v.surface.widths ≡ measure_of s.widths
    pub leads : Leads (measure_of s.widths) (screen_of v.surface) v.last (screen_of s) s.log
    pub full :
        s.full ≡ true → FullLeads (measure_of s.widths) (full_of v.surface) v.last (full_of s) s.log

  -- each viewer that followed the surface as it was still follows it
  abbrev pub KeepsViewers : (W → List ℕ → ℕ) → SurfaceValue W → SurfaceValue W → Type 0
  KeepsViewers measure_of old new =
      (v : ViewerValue W) → Follows measure_of v old → Follows measure_of v new

  -- a viewer with a blank surface of that size, width value and kind, and no number
  abbrev pub blank_viewer : SurfaceValue W → ViewerValue W
  blank_viewer s = record { surface = blank_surface s.widths s.width s.height s.full; last = 0 }

  -- a blank viewer whose surface has this number
  abbrev pub blank_viewer_from : SurfaceValue W → ℕ → ViewerValue W
  blank_viewer_from s number =
      record { surface = blank_surface_from s.widths s.width s.height s.full number; last = 0 }

  -- the viewer has the surface's size
  abbrev pub has_size_of : ViewerValue W → SurfaceValue W → Bool
  has_size_of v s = (v.surface.width == s.width) && (v.surface.height == s.height)

  -- the number that it asks with: none in another size
  abbrev pub asks_with : ViewerValue W → SurfaceValue W → ℕ
  asks_with v s = if has_size_of v s then v.last else 0

  -- its own number once it has the surface's size
  abbrev pub number_in_size : ViewerValue W → SurfaceValue W → ℕ
  number_in_size v s =
      if has_size_of v s then next_number v.surface.log else next_number (restarted v.surface.log)

  -- the viewer with no number
  abbrev pub forgetful : ViewerValue W → ViewerValue W
  forgetful v = record v { last = 0 }

  -- the viewer is as it was, or has taken the surface's size, and no number, where it had another
  -- one
  pub record IsFitted (old : ViewerValue W) (s : SurfaceValue W) (new : ViewerValue W) :
      Type 0 where
    pub same : has_size_of old s ≡ true → new ≡ old
    pub other :
        has_size_of old s ≡ false →
        (new.last ≡ 0) × HasResized old.surface s.width s.height new.surface

  -- a viewer in another size takes the surface's, or keeps its own
  abbrev pub Fits :
      ViewerValue W → SurfaceValue W → Result (Unit {0}) SurfaceError → ViewerValue W → Type 0
  Fits old s (Ok u) new = IsFitted old s new
  -- the viewer's own number is the greatest
  Fits old s (Err Numbers) new =
      (has_size_of old s ≡ false) × (2 ^ 64 ≤ next_number old.surface.log + 1) ×
      (new ≡ forgetful old)
  Fits old s (Err Memory) new =
      (has_size_of old s ≡ false) × (next_number old.surface.log + 1 < 2 ^ 64) ×
      (new ≡ forgetful old)
  Fits old s (Err ScrollRegion) new = ⊥

  -- the surface answers number n by these changes, by what is due where it knows the number, and
  -- else by its repaint: they bring a viewer that asks with it to its screen, and of a full surface
  -- to its full screen; and no scroll among them goes past the last row
  pub record IsAnswer (measure : List ℕ → ℕ) (s : SurfaceValue W) (n : ℕ)
      (changes : List ChangeValue) : Type 0 where
    pub stream : IsStream measure (screen_of s) s.log n changes
    pub full : s.full ≡ true → IsFullStream measure (full_of s) s.log n changes
    pub regions : regions_fit s.height changes ≡ true
    pub entries : knows s n ≡ false → changes ≡ own_repaint s
    pub short : knows s n ≡ false → length changes ≤ most_own_entries s

  -- the viewer's own number has no room for another size's and those of the changes that it asks
  -- for
  pub record HasNoRoom (old : ViewerValue W) (s : SurfaceValue W) : Type 0 where
    pub count : ℕ
    pub known :
        is_known (delta_limit s.width s.height) s.log (asks_with old s) ≡ true →
        count ≡ length (due s.log (asks_with old s))
    pub repaint :
        is_known (delta_limit s.width s.height) s.log (asks_with old s) ≡ false →
        count ≤ most_entries s.full s.width s.height
    pub no_room : 2 ^ 64 ≤ number_in_size old s + count

  -- it has room for another size's, and for those of what is due where that is known
  pub record HasRoom (old : ViewerValue W) (s : SurfaceValue W) : Type 0 where
    pub size : number_in_size old s < 2 ^ 64
    pub known :
        is_known (delta_limit s.width s.height) s.log (asks_with old s) ≡ true →
        number_in_size old s + length (due s.log (asks_with old s)) < 2 ^ 64

  -- the viewer asks in the surface's size, for changes that its own number has room for
  abbrev pub Fetches :
      (List ℕ → ℕ) → SurfaceValue W → ViewerValue W →
      Result (ℕ × CowSlice Change Global) SurfaceError → ViewerValue W → Type 0
  Fetches measure s old (Ok answer) new =
      (answer.0 ≡ next_number s.log) × IsFitted old s new ×
      IsAnswer measure s new.last (stream_of answer.1)
  -- no number for the other size, or for the answer
  Fetches measure s old (Err Numbers) new =
      (Fits old s (Err Numbers) new ⊎ IsFitted old s new) × HasNoRoom old s
  -- no memory for the other size, or for the answer
  Fetches measure s old (Err Memory) new =
      (Fits old s (Err Memory) new ⊎ IsFitted old s new) × HasRoom old s
  Fetches measure s old (Err ScrollRegion) new = ⊥

  -- changes are made, and the number is taken and returned; where they are refused, none is
  abbrev pub Accepts :
      (List ℕ → ℕ) → ViewerValue W → ℕ → List ChangeValue → Result ℕ SurfaceError → ViewerValue W →
      Type 0
  Accepts measure old n changes (Ok k) new =
      (k ≡ n) × (new.last ≡ n) × Makes measure old.surface changes new.surface
  Accepts measure old n changes (Err e) new =
      (new.last ≡ 0) × Adds measure old.surface changes 0 (Err e) new.surface

  -- the viewer has no number, its width value and its kind stay, and its own number has grown by
  -- two at most
  pub record IsLost (old new : ViewerValue W) : Type 0 where
    pub last : new.last ≡ 0
    pub widths : new.surface.widths ≡ old.surface.widths
    pub full : new.surface.full ≡ old.surface.full
    pub grows : next_number old.surface.log ≤ next_number new.surface.log
    pub number : next_number new.surface.log ≤ next_number old.surface.log + 2

  -- the viewer in the surface's size makes what the surface answers it, and logs that
  pub record HasFollowed (measure_of : W → List ℕ → ℕ) (s : SurfaceValue W)
      (old new : ViewerValue W) : Type 0 where
    pub mid : ViewerValue W
    pub changes : List ChangeValue
    pub fitted : IsFitted old s mid
    pub answer : IsAnswer (measure_of s.widths) s mid.last changes
    pub makes : Makes (measure_of mid.surface.widths) mid.surface changes new.surface

  -- what following answers, and what it makes of the viewer
  abbrev pub FollowsTo :
      (W → List ℕ → ℕ) → SurfaceValue W → ViewerValue W → Result ℕ SurfaceError → ViewerValue W →
      Type 0
  FollowsTo measure_of s old (Ok n) new =
      (n ≡ next_number s.log) × (new.last ≡ n) × HasFollowed measure_of s old new
  FollowsTo measure_of s old (Err Numbers) new = IsLost old new × HasNoRoom old s
  FollowsTo measure_of s old (Err Memory) new = IsLost old new × HasRoom old s
  -- no answer has a scroll that goes past the last row
  FollowsTo measure_of s old (Err ScrollRegion) new = ⊥
