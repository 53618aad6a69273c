-- What the numbers of rows say: which rows may differ from what they were at a number.
use Rattle.std.specs.Prelude.{◌≡◌, ℕ, ◌+◌, ◌<◌, ◌≤◌, ◌⊎◌, max, List, length, slice_index_or, if◌then◌else◌}
use Rattle.termwiz_cell.specs.ChangeValue.{ChangeValue}
use Rattle.termwiz_screen.specs.Log.{next_number}
use Rattle.termwiz_surface.specs.Surface.{SurfaceValue, RowStays, number_at, screen_of}
use Rattle.termwiz_surface.specs.Touching.{touched}

-- each of the n numbers from index a on is this one, unless it was greater, and the others stay
pub record AreMarked (a n number : ℕ) (old new : List ℕ) : Type 0 where
  pub same_count : length new ≡ length old
  pub inside :
      (j : ℕ) → a ≤ j → j < a + n →
      slice_index_or new j 0 ≡ max number (slice_index_or old j 0)
  pub outside :
      (j : ℕ) → (j < a) ⊎ (a + n ≤ j) → slice_index_or new j 0 ≡ slice_index_or old j 0

-- these are the numbers of `height` rows: from index a on each is this one, unless it was greater,
-- and the others stay; a row that is new had 0
pub record AreRenewed (height a number : ℕ) (old new : List ℕ) : Type 0 where
  pub count : length new ≡ height
  pub kept : (j : ℕ) → j < a → slice_index_or new j 0 ≡ slice_index_or old j 0
  pub marked :
      (j : ℕ) → a ≤ j → j < height → slice_index_or new j 0 ≡ max number (slice_index_or old j 0)

module _ {W : Type 0} where
  -- the surface has its old width, and row j was there, shows its old cells, and has its old flags
  -- and number
  abbrev pub HasStayed : SurfaceValue W → SurfaceValue W → ℕ → Type 0
  HasStayed old new j = (new.width ≡ old.width) × (j < old.height) × RowStays old new j

  -- Whatever number n the surface has had: a row whose number isn't above n now shows what it did.
  -- 0 is no such number.
  pub record NumbersRows (old new : SurfaceValue W) : Type 0 where
    pub stayed :
        (n j : ℕ) → 0 < n → n ≤ next_number old.log → j < new.height → number_at new j ≤ n →
        HasStayed old new j
    pub grows : next_number old.log ≤ next_number new.log

  -- The number of each row after changes: the surface's, unless the row's was greater, where they
  -- touch the row, and else the row's old one.
  abbrev pub NumbersTouched :
      (List ℕ → ℕ) → SurfaceValue W → List ChangeValue → SurfaceValue W → Type 0
  NumbersTouched measure old changes new =
      (j : ℕ) → j < old.height →
      number_at new j
      ≡ (if touched measure (screen_of old) changes j
      then max (next_number new.log) (number_at old j)
      else number_at old j)
