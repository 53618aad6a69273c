-- The stream that a viewer applies: the changes that are lent, or owned.
use Rattle.std.specs.Prelude.{◌≡◌, ℕ, ◌+◌, ◌*◌, Bool, true, false, List, map, if◌then◌else◌}
use Rattle.std.specs.Cow.{cow_slice_items, IsBorrowedSlice}
use Rattle.std.specs.declared.borrow.CowSlice.{CowSlice}
use Rattle.std.specs.declared.alloc.Global.{Global}
use Rattle.termwiz_cell.specs.declared.change.Change.{Change}
use Rattle.termwiz_cell.specs.ChangeValue.{ChangeValue, change_value}
use Rattle.termwiz_screen.specs.Log.{LogValue, due, is_known, delta_limit}
use Rattle.termwiz_screen.specs.FullScreen.{FullScreen}
use Rattle.termwiz_screen.specs.Picture.{Pictures, screens, full_screens, played}
use Rattle.termwiz_screen.specs.Screen.{Screen}

abbrev pub stream_of : CowSlice Change Global → List ChangeValue
stream_of changes = map change_value (cow_slice_items changes)

-- these changes are lent, and nothing is copied
pub record Lends (stream : CowSlice Change Global) (changes : List ChangeValue) : Type 0 where
  pub borrowed : IsBorrowedSlice stream
  pub same : stream_of stream ≡ changes

-- what brings a viewer to a picture from the number n that it was last given: what is due where
-- that is known, and else changes that bring any picture of that size to this one
pub record Brings {P : Type 0} (pictures : Pictures P) (measure : List ℕ → ℕ) (p : P)
    (log : LogValue) (n : ℕ) (changes : List ChangeValue) : Type 0 where
  pub known :
      is_known (delta_limit (pictures.screen p).width (pictures.screen p).height) log n ≡ true →
      changes ≡ due log n
  pub repaint :
      is_known (delta_limit (pictures.screen p).width (pictures.screen p).height) log n ≡ false →
      (t : P) → pictures.IsSized (pictures.screen p).width (pictures.screen p).height t →
      played pictures measure t changes ≡ p

-- to a screen
abbrev pub IsStream : (List ℕ → ℕ) → Screen → LogValue → ℕ → List ChangeValue → Type 0
IsStream = Brings screens

-- to a full screen
abbrev pub IsFullStream : (List ℕ → ℕ) → FullScreen → LogValue → ℕ → List ChangeValue → Type 0
IsFullStream = Brings full_screens

-- how many entries a repaint has at most, and a full one
abbrev pub most_entries : Bool → ℕ → ℕ → ℕ
most_entries full w h = if full then 2 * (w * h) + 3 * h + 7 else 2 * (w * h) + h + 6
