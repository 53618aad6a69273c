-- Copies of rows, of which one is taken again.
use Rattle.std.proofs.Common.{◌≡◌, ℕ, ◌<◌, List, [], get_or, length, sym, ◌∙◌, ap, arith}
use Rattle.std.specs.Prelude.{slice_set, Result, Ok, Err}
use Rattle.std.proofs.lemmas.List.{get_or-map, length-map, map-set, get_or_read, get_or-set_same, get_or-set_other}
use Rattle.termwiz_cell.specs.ChangeValue.{ChangeValue}
use Rattle.termwiz_surface.specs.{Adds, CellValue, LineValue, NumbersRows, SurfaceValue, cells_of, next_number, row_at, row_of, screen_of}
use Rattle.termwiz_surface.specs.declared.surface.SurfaceError.{SurfaceError}
use Rattle.termwiz_surface.specs.declared.surface.SurfaceError.TheVariants.{Memory, Numbers, ScrollRegion}
use Rattle.uses.specs.RowCopies.{AreCopiesAt, rows_shown}

-- one copy is another line, and the others stay
pub copied-here : (lines : List LineValue) (k : ℕ) (line : LineValue) → k < length lines → row_at (cells_of (slice_set lines k line)) k ≡ line.cells
copied-here lines k line inside =
    ap (λ (rows : List (List CellValue)). row_at rows k) (map-set (λ (l : LineValue). l.cells) lines k line)
    ∙ get_or-set_same (cells_of lines) k line.cells [] (omega (arith, inside, length-map lines (λ (l : LineValue). l.cells)))

pub copied-there : (lines : List LineValue) (k j : ℕ) (line : LineValue) → (j ≡ k → ⊥) → row_at (cells_of (slice_set lines k line)) j ≡ row_at (cells_of lines) j
copied-there lines k j line other =
    ap (λ (rows : List (List CellValue)). row_at rows j) (map-set (λ (l : LineValue). l.cells) lines k line)
    ∙ get_or-set_other (cells_of lines) k j line.cells [] other

-- a copy that is left alone is the line that it was
pub left-here : (lines : List LineValue) (k j : ℕ) (was line d : LineValue) → k < length lines → was ≡ get_or lines k was → line ≡ was → j ≡ k → get_or (slice_set lines k line) j d ≡ get_or lines j d
left-here lines k j was line d inside read same here =
    ap (λ (i : ℕ). get_or (slice_set lines k line) i d) here
    ∙ get_or-set_same lines k line d inside ∙ same
    ∙ get_or_read lines k was inside read d
    ∙ ap (λ (i : ℕ). get_or lines i d) (sym here)

module _ {W : Type 0} where
  -- adding changes leaves the height, errors included
  adds-height : (f : List ℕ → ℕ) (old new : SurfaceValue W) (cs : List ChangeValue) (n : ℕ) (result : Result ℕ SurfaceError) → Adds f old cs n result new → new.height ≡ old.height
  adds-height f old new cs n (Ok k) a = a.3.height
  adds-height f old new cs n (Err ScrollRegion) a = ap (λ (s : SurfaceValue W). s.height) a.1
  adds-height f old new cs n (Err Numbers) a = ap (λ (s : SurfaceValue W). s.height) a.2
  adds-height f old new cs n (Err Memory) a = a.3.height

  -- what showed the surface's rows are copies at the number that it had
  pub copies-at : (f : List ℕ → ℕ) (old new : SurfaceValue W) (cs : List ChangeValue) (n : ℕ) (result : Result ℕ SurfaceError) (copies : List LineValue) → rows_shown old.width copies ≡ (screen_of old).rows → length old.lines ≡ old.height → Adds f old cs n result new → NumbersRows old new
      → AreCopiesAt (next_number old.log) new (cells_of copies)
  copies-at f old new cs n result copies is full adds numbered =
      let many : length (cells_of copies) ≡ length old.lines = sym (length-map (cells_of copies) (row_of old.width)) ∙ ap length is ∙ length-map old.lines (row_of old.width) in
      record {
        all = many ∙ full ∙ sym (adds-height f old new cs n result adds);
        rows = λ j some l le.
            let stays = numbered.stayed (next_number old.log) j some (omega arith) l le in
            ap (λ w. row_of w (row_at (cells_of copies) j)) stays.0
            ∙ sym (get_or-map (row_of old.width) (cells_of copies) j [] [] (omega (arith, many, full, stays.1)))
            ∙ ap (λ (rows : List (List CellValue)). row_at rows j) is
            ∙ get_or-map (row_of old.width) old.lines j [] [] (omega (arith, full, stays.1))
            ∙ sym stays.2.0;
      }
