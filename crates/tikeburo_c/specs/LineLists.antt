-- Lists of lines: how they are made, grow and shrink, and what is read of them.
use Rattle.std.specs.Prelude.{◌≡◌, ℕ, ◌+◌, ◌≤◌, ◌<◌, ◌⊎◌, ◌↔◌, Bool, false, nat_le, Ok, Err, Option, Some, None, List, [], ◌∷◌, ◌++◌, length, map, take, drop, slice_get, slice_index_or, MatchBool}
use Rattle.termwiz_cell.specs.CellValue.{CellValue}
use Rattle.termwiz_line.specs.{IsWhole, line_contents, visible}
use Rattle.termwiz_line.specs.LineValue.{LineValue}
use Rattle.termwiz_line.specs.Wraps.{FitsWidth, IsWrapped}
use Rattle.termwiz_surface.specs.Surface.{SurfaceValue}
use Rattle.tikeburo_c.specs.Kept.{shown_of}
use Rattle.tikeburo_c.specs.Outcomes.{Outcome}
use Rattle.tikeburo_c.specs.Results.{OfKind, OnLines, OrNoMemory, Refused, Returns}
use Rattle.tikeburo_c.specs.Rows.{GivesParts, RowPlace, row_value}
use Rattle.tikeburo_c.specs.declared.failure.Failure.TheVariants.{Memory, NoHandle, Range}
use Rattle.tikeburo_c.specs.declared.kept.Kept.{Kept}
use Rattle.tikeburo_c.specs.declared.kept.Kept.TheVariants.{Lines}
use Rattle.tikeburo_c.specs.declared.widths.ChosenWidths.{ChosenWidths}

-- a list of no lines is made, in the place of what the handle had
abbrev pub MakesLines : Option Kept → Outcome → Option Kept → Type 0
MakesLines = OrNoMemory (Returns (Some (Lines [])))

-- a copy of this row of a surface, as it is stored, comes after the lines
pub record HasPushed (row : ℕ) (s : SurfaceValue ChosenWidths) (old new : List LineValue) :
    Type 0 where
  pub line : LineValue
  pub cells : slice_get s.lines row ≡ Some line.cells
  pub flags : slice_get s.flags row ≡ Some line.flags
  pub pushed : new ≡ old ++ line ∷ []

abbrev pub Pushes :
    ℕ → SurfaceValue ChosenWidths → List LineValue → Outcome → List LineValue → Type 0
Pushes row s = of_row (slice_get s.lines row)
  where
    of_row : Option (List CellValue) → List LineValue → Outcome → List LineValue → Type 0
    of_row (Some cells) =
        OrNoMemory (λ old outcome new. (outcome ≡ Ok tt) × HasPushed row s old new)
    of_row None = Refused Range

-- of what the source shows
abbrev pub PushesFrom : Option Kept → ℕ → Option Kept → Outcome → Option Kept → Type 0
PushesFrom (Some source) row = OfKind (λ s. OnLines (Pushes row s)) (shown_of source)
PushesFrom None row = Refused NoHandle

-- there are `count` lines from the line at `first` on
abbrev pub has_lines : ℕ → ℕ → List LineValue → Bool
has_lines first count lines = nat_le (first + count) (length lines)

-- `count` lines from the line at `first` on are removed
abbrev pub Removes : ℕ → ℕ → List LineValue → Outcome → List LineValue → Type 0
Removes first count old outcome new =
    MatchBool (has_lines first count old)
    (Returns (take first old ++ drop (first + count) old) old outcome new)
    (Refused Range old outcome new)

-- of a line that there is, the visible cells
abbrev pub GivesLine : ℕ → List LineValue → RowPlace → Outcome → RowPlace → Type 0
GivesLine index lines = of_line (slice_get lines index)
  where
    of_line : Option LineValue → RowPlace → Outcome → RowPlace → Type 0
    of_line (Some line) = OrNoMemory (GivesParts (row_value (visible line.cells)))
    of_line None = Refused Range

-- a line is stored as one text, where it may be, and is the same in all that it shows
pub record IsCompressed (old new : LineValue) : Type 0 where
  pub same : line_contents new ≡ line_contents old
  pub text : new.is_vector ≡ false ↔ IsWhole old.cells

-- the lines from one on up to another one are, and the others as before
pub record AreCompressed (first end : ℕ) (old new : List LineValue) : Type 0 where
  pub same_count : length new ≡ length old
  pub compressed :
      (i : ℕ) (d : LineValue) → first ≤ i → i < end →
      IsCompressed (slice_index_or old i d) (slice_index_or new i d)
  pub others :
      (i : ℕ) (d : LineValue) → (i < first) ⊎ (end ≤ i) →
      slice_index_or new i d ≡ slice_index_or old i d

-- or memory was refused: some of them may be, and all lines show what they showed
abbrev pub Compresses : ℕ → ℕ → List LineValue → Outcome → List LineValue → Type 0
Compresses first count old outcome new =
    MatchBool (has_lines first count old)
    ((outcome ≡ Ok tt) × AreCompressed first (first + count) old new ⊎
    ((outcome ≡ Err Memory) × (map line_contents new ≡ map line_contents old)))
    (Refused Range old outcome new)

-- each line is wrapped to the width, and its lines come after those of the line before
abbrev pub AreWrapped : ℕ → List LineValue → List LineValue → Type 0
AreWrapped width [] new = new ≡ []
AreWrapped width (line ∷ lines) new =
    (first : List LineValue) × (others : List LineValue) × IsWrapped width 0 line first ×
    (2 ≤ width → FitsWidth width line first) × AreWrapped width lines others ×
    (new ≡ first ++ others)

abbrev pub Wraps : ℕ → List LineValue → Outcome → List LineValue → Type 0
Wraps width =
    OrNoMemory (λ old outcome new. (outcome ≡ Ok tt) × AreWrapped width old new)
