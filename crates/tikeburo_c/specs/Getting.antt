-- The changes of a surface as a list of C's.
use Rattle.std.specs.Prelude.{◌≡◌, ℕ, ◌≤◌, Ok, Err, List, length, if◌then◌else◌}
use Rattle.termwiz_cell.specs.ChangeValue.{ChangeValue}
use Rattle.termwiz_surface.specs.{due, knows, next_number, own_repaint}
use Rattle.termwiz_surface.specs.Surface.{SurfaceValue}
use Rattle.tikeburo_c.specs.Listing.{IsListOf}
use Rattle.tikeburo_c.specs.Outcomes.{Outcome}
use Rattle.tikeburo_c.specs.Rows.{at_front}
use Rattle.tikeburo_c.specs.declared.failure.Failure.TheVariants.{Short}
use Rattle.tikeburo_c.specs.declared.getting.ListCounts.{ListCounts}
use Rattle.tikeburo_c.specs.declared.lists.ChangeFields.{ChangeFields}
use Rattle.tikeburo_c.specs.declared.widths.ChosenWidths.{ChosenWidths}

-- what a viewer with this number lacks: the changes since then, where they are known, and else a
-- repaint
abbrev pub changes_since : SurfaceValue ChosenWidths → ℕ → List ChangeValue
changes_since s n = if knows s n then due s.log n else own_repaint s

-- a caller's arrays, with the counts beside them
pub record ListPlace : Type 0 where
  pub list : List ChangeFields
  pub texts : List ℕ
  pub counts : ListCounts

abbrev pub list_place : List ChangeFields → List ℕ → ListCounts → ListPlace
list_place list texts counts = record { list = list; texts = texts; counts = counts }

-- how many there are of each, and the number that they lead to
abbrev pub list_counts : List ChangeFields → List ℕ → ℕ → ListCounts
list_counts list texts number =
    record { changes = length list; texts = length texts; number = number }

pub record HasListRoom (fs : List ChangeFields) (bytes : List ℕ) (place : ListPlace) :
    Type 0 where
  pub list : length fs ≤ length place.list
  pub texts : length bytes ≤ length place.texts

-- the list is at the arrays' fronts, with its counts, or an array is too short and there are only
-- the counts
abbrev pub GivesList :
    List ChangeFields → List ℕ → ℕ → ListPlace → Outcome → ListPlace → Type 0
GivesList list texts number old (Ok _) new = HasListRoom list texts old × (new ≡ record {
  list = at_front list old.list;
  texts = at_front texts old.texts;
  counts = list_counts list texts number;
})
GivesList list texts number old (Err Short) new =
    (HasListRoom list texts old → ⊥)
    × (new ≡ record old { counts = list_counts list texts number })
GivesList list texts number old (Err _) new = ⊥

-- a list is given that is read as these changes, which lead to this number
pub record GivesAll
    (changes : List ChangeValue) (number : ℕ) (old : ListPlace) (outcome : Outcome)
    (new : ListPlace) : Type 0 where
  pub list : List ChangeFields
  pub texts : List ℕ
  pub is_list : IsListOf changes list texts
  pub gives : GivesList list texts number old outcome new

-- a list is given that is read as what a viewer with this number lacks
pub record GivesChanges
    (since : ℕ) (s : SurfaceValue ChosenWidths) (old : ListPlace) (outcome : Outcome)
    (new : ListPlace) : Type 0 where
  pub list : List ChangeFields
  pub texts : List ℕ
  pub is_list : IsListOf (changes_since s since) list texts
  pub gives : GivesList list texts (next_number s.log) old outcome new
