-- A sequence of changes: what contracts see of it, and where each change takes its cursor. Its rows
-- have no bound: the first is 0, and those above it are below 0.
use Rattle.std.specs.Prelude.{◌≡◌, ℕ, ◌+◌, ◌<◌, ◌≤◌, ◌^◌, ℤ, pos, ◌+ℤ◌, ◌-ℤ◌, ◌≤ℤ◌, unsigned_abs, min, true, ◌==◌, List, [], ◌∷◌, ◌++◌, fold, bytes_eq, Result, Ok, Err, if◌then◌else◌}
use Rattle.std.specs.Int.{int_rem_euclid, int_max, int_min, w64}
use Rattle.std.specs.Int.RustNames.{FitsSigned, int_rem}
use Rattle.unicode_segmentation.specs.Grapheme.{graphemes}
use Rattle.termwiz_cell.specs.Attributes.{default_attributes}
use Rattle.termwiz_cell.specs.CellValue.{columns, measured}
use Rattle.termwiz_cell.specs.ChangeValue as change
use Rattle.termwiz_cell.specs.ChangeValue.{ChangeValue, is_text}
use Rattle.termwiz_cell.specs.declared.change.Position.{Position}
use Rattle.termwiz_cell.specs.declared.change.Position.TheVariants.{Relative, Absolute, EndRelative}
use Rattle.termwiz_cell.specs.Graphemes.{single}
use Rattle.termwiz_cell.specs.declared.change.sequence.SequenceError.{SequenceError}
use Rattle.termwiz_cell.specs.declared.change.sequence.SequenceError.TheVariants.{Range, Memory}

pub record SequenceValue (W : Type 0) : Type 0 where
  pub widths : W
  pub rows : ℕ
  pub columns : ℕ
  -- a column and a row
  pub cursor : ℕ × ℤ
  -- the least and the greatest row so far
  pub least : ℤ
  pub greatest : ℤ
  pub changes : List ChangeValue

-- where a cell of n columns takes a cursor, in rows of w columns: a pending wrap comes first
abbrev pub cell_place : ℕ → ℕ × ℤ → ℕ → ℕ × ℤ
cell_place w at n = if at.0 == w then (min n w, at.1 +ℤ pos 1) else (min (at.0 + n) w, at.1)

-- the columns of the cell that a grapheme prints, whatever the pen
abbrev pub printed_columns : (List ℕ → ℕ) → List ℕ → ℕ
printed_columns measure g = columns (measured measure (single g) default_attributes)

-- where a grapheme takes a cursor: CR, LF and CR LF break the line, and any other one prints a cell
abbrev pub grapheme_place : (List ℕ → ℕ) → ℕ → ℕ × ℤ → List ℕ → ℕ × ℤ
grapheme_place measure w at g =
    if bytes_eq g (13 ∷ []) then (0, at.1)
    else (if bytes_eq g (10 ∷ []) then (at.0, at.1 +ℤ pos 1)
    else (if bytes_eq g (13 ∷ 10 ∷ []) then (0, at.1 +ℤ pos 1)
    else cell_place w at (printed_columns measure g)))

abbrev pub text_place : (List ℕ → ℕ) → ℕ → ℕ × ℤ → List ℕ → ℕ × ℤ
text_place measure w at text = fold (grapheme_place measure w) at (graphemes true text)

-- what a position asks for, from a place among n columns or rows
abbrev pub aim : Position → ℤ → ℕ → ℤ
aim (Relative d) from n = from +ℤ d
aim (Absolute a) from n = pos a
aim (EndRelative d) from n = pos n -ℤ pos d

-- the column is the Euclidean remainder, and the row the one with the sign of what is asked for
abbrev pub position_place : ℕ → ℕ → ℕ × ℤ → Position → Position → ℕ × ℤ
position_place rows columns at x y = (
  unsigned_abs (int_rem_euclid (aim x (pos at.0) columns) (pos columns)),
  int_rem (aim y at.1 rows) (pos rows),
)

-- where a change takes a cursor
abbrev pub change_place : (List ℕ → ℕ) → ℕ → ℕ → ℕ × ℤ → ChangeValue → ℕ × ℤ
change_place measure rows columns at (change.Text text) = text_place measure columns at text
change_place measure rows columns at (change.CursorPosition x y) =
    position_place rows columns at x y
change_place measure rows columns at (change.ClearScreen color) = (0, pos 0)
change_place measure rows columns at (change.ScrollRegionUp first size count) = (0, pos 0)
change_place measure rows columns at (change.ScrollRegionDown first size count) = (0, pos 0)
change_place measure rows columns at _ = at

module _ {W : Type 0} where
  abbrev pub place_after : (List ℕ → ℕ) → SequenceValue W → ChangeValue → ℕ × ℤ
  place_after measure s c = change_place measure s.rows s.columns s.cursor c

  -- the change is added; row 0, to which clears and scrolls lead, is among the rows from the start
  abbrev pub added : (List ℕ → ℕ) → SequenceValue W → ChangeValue → SequenceValue W
  added measure s c = record s {
    cursor = place_after measure s c;
    least = int_min s.least (place_after measure s c).1;
    greatest = int_max s.greatest (place_after measure s c).1;
    changes = s.changes ++ c ∷ [];
  }

  abbrev pub all_added : (List ℕ → ℕ) → SequenceValue W → List ChangeValue → SequenceValue W
  all_added measure s cs = fold (added measure) s cs

  -- the row after a change is an `isize`
  abbrev pub RowFits : (List ℕ → ℕ) → SequenceValue W → ChangeValue → Type 0
  RowFits measure s c = FitsSigned w64 (place_after measure s c).1

  -- a change is added, or refused: then nothing has changed
  abbrev pub AddsOne :
      (List ℕ → ℕ) → SequenceValue W → ChangeValue → Result (Unit {0}) SequenceError →
      SequenceValue W → Type 0
  AddsOne measure old c (Ok u) new = RowFits measure old c × (new ≡ added measure old c)
  AddsOne measure old c (Err Range) new =
      (is_text c ≡ true) × (RowFits measure old c → ⊥) × (new ≡ old)
  AddsOne measure old c (Err Memory) new = RowFits measure old c × (new ≡ old)

  -- each row on the way is an `isize`
  abbrev pub RowsFit : (List ℕ → ℕ) → SequenceValue W → List ChangeValue → Type 0
  RowsFit measure s [] = Unit {0}
  RowsFit measure s (c ∷ cs) = RowFits measure s c × RowsFit measure (added measure s c) cs

  -- the changes before the one that is refused are added
  pub record StopsAt (measure : List ℕ → ℕ) (old : SequenceValue W) (cs : List ChangeValue)
      (error : SequenceError) (new : SequenceValue W) : Type 0 where
    pub before : List ChangeValue
    pub refused : ChangeValue
    pub behind : List ChangeValue
    pub changes_are : cs ≡ before ++ refused ∷ behind
    pub fit : RowsFit measure old before
    pub refuses : AddsOne measure (all_added measure old before) refused (Err error) new

  -- changes are added in order, up to the first that is refused
  abbrev pub AddsAll :
      (List ℕ → ℕ) → SequenceValue W → List ChangeValue → Result (Unit {0}) SequenceError →
      SequenceValue W → Type 0
  AddsAll measure old cs (Ok u) new = RowsFit measure old cs × (new ≡ all_added measure old cs)
  AddsAll measure old cs (Err e) new = StopsAt measure old cs e new

  -- the move from the cursor to a column and a row
  abbrev pub move_by : SequenceValue W → ℕ × ℤ → ChangeValue
  move_by s to =
      change.CursorPosition (Relative (pos to.0 -ℤ pos s.cursor.0)) (Relative (to.1 -ℤ s.cursor.1))

  -- both distances are an `isize`
  abbrev pub DistancesFit : SequenceValue W → ℕ × ℤ → Type 0
  DistancesFit s to =
      FitsSigned w64 (pos to.0 -ℤ pos s.cursor.0) × FitsSigned w64 (to.1 -ℤ s.cursor.1)

  -- the move is added, or refused: then nothing has changed
  abbrev pub MovesTo :
      (List ℕ → ℕ) → SequenceValue W → ℕ × ℤ → Result (Unit {0}) SequenceError → SequenceValue W →
      Type 0
  MovesTo measure old to (Ok u) new =
      DistancesFit old to × (new ≡ added measure old (move_by old to))
  MovesTo measure old to (Err Range) new = (DistancesFit old to → ⊥) × (new ≡ old)
  MovesTo measure old to (Err Memory) new = DistancesFit old to × (new ≡ old)

  -- the form that every sequence keeps
  pub record IsSequence (s : SequenceValue W) : Type 0 where
    pub some_column : 0 < s.columns
    pub few_columns : s.columns < 2 ^ 32
    pub some_row : 0 < s.rows
    pub few_rows : s.rows < 2 ^ 32
    pub column : s.cursor.0 ≤ s.columns
    pub least_row : s.least ≤ℤ s.cursor.1
    pub greatest_row : s.cursor.1 ≤ℤ s.greatest
    pub above : s.least ≤ℤ pos 0
    pub below : pos 0 ≤ℤ s.greatest
