-- What scrolling and putting a cell make of a surface.
use Rattle.std.proofs.Common.{◌≡◌, ℕ, suc, ◌+◌, ◌-◌, ◌<◌, ◌≤◌, ◌^◌, inl, inr, true, min, max, List, [], ◌∷◌, ◌++◌, length, get_or, map, drop, set, replicate, sym, ◌∙◌, ap, ap₂, subst, arith, length-append, length-drop}
use Rattle.std.specs.Prelude.{slice_set}
use Rattle.std.proofs.lemmas.List.{map-append, get_or-map, map-set, length-set, get_or-set_same, get_or-set_other, get_or_append_left, get_or-append_right, length-replicate, drop-map, get_or-drop}
use Rattle.std.proofs.lemmas.Bool.{cases_eq, cases_lt}
use Rattle.termwiz_cell.specs.CellValue.{CellValue, blank, columns}
use Rattle.termwiz_line.specs.LineFlags.{LineFlags}
use Rattle.termwiz_line.specs.Row.{row_of, paint}
use Rattle.termwiz_screen.specs.ScrollRegions.{region_up, region_down}
use Rattle.termwiz_screen.specs.Rows.{painted_in, ArePartlyReset}
use Rattle.termwiz_screen.specs.Log.{LogValue, next_number}
use Rattle.termwiz_screen.specs.Screen.{row_at}
use Rattle.termwiz_screen.specs.Step.{regions_fit}
use Rattle.termwiz_screen.specs.Print.{scrolled}
use Rattle.termwiz_surface.specs.Surface.{SurfaceValue, IsSound}
use Rattle.termwiz_screen.specs.Measured.{IsMeasured, IsStored}
use Rattle.termwiz_line.proofs.StoredRows.{row_blank}
use Rattle.termwiz_screen.proofs.Regions.{length-region_up, length-region_down}
use Rattle.termwiz_screen.proofs.RowChanges.Scrolled.{stored-up, stored-down, stored-partly_reset}
use Rattle.termwiz_screen.proofs.Stored.{IsLawful, halved, length-painted_in, IsStored-blank, IsStored-painted_in, row-painted_in}

-- of the flags of rows the form says how many they are
pub any_flags : {W : Type 0} (f : List ℕ → ℕ) (s : SurfaceValue W) (flags : List LineFlags) → length flags ≡ length s.lines → IsSound f s → IsSound f (record s { flags = flags })
any_flags f s flags e z = record {
  some_column = z.some_column;
  some_row = z.some_row;
  fits = z.fits;
  fits_height = z.fits_height;
  full = z.full;
  sides = e ∙ z.full;
  column = z.column;
  row = z.row;
  stored_so = z.stored_so;
  number_fits = z.number_fits;
  regions = z.regions;
}

-- another log
pub any_log : {W : Type 0} (f : List ℕ → ℕ) (s : SurfaceValue W) (log : LogValue) → IsSound f s → next_number log < 2 ^ 64 → regions_fit s.height log.changes ≡ true → IsSound f (record s { log = log })
any_log f s log z fits regions = record {
  some_column = z.some_column;
  some_row = z.some_row;
  fits = z.fits;
  fits_height = z.fits_height;
  full = z.full;
  sides = z.sides;
  column = z.column;
  row = z.row;
  stored_so = z.stored_so;
  number_fits = fits;
  regions = regions;
}

-- of the numbers of rows the form says nothing
pub any_numbers : {W : Type 0} (f : List ℕ → ℕ) (s : SurfaceValue W) (numbers : List ℕ) (mark : ℕ) → IsSound f s → IsSound f (record s { numbers = numbers; mark = mark })
any_numbers f s numbers mark z = record {
  some_column = z.some_column;
  some_row = z.some_row;
  fits = z.fits;
  fits_height = z.fits_height;
  full = z.full;
  sides = z.sides;
  column = z.column;
  row = z.row;
  stored_so = z.stored_so;
  number_fits = z.number_fits;
  regions = z.regions;
}

-- scrolling
pub rows-scrolled : (w : ℕ) (lines : List (List CellValue)) → map (row_of w) (scrolled w lines) ≡ scrolled w (map (row_of w) lines)
rows-scrolled w lines = map-append (row_of w) (drop 1 lines) (replicate w blank ∷ []) ∙ ap₂ (λ a b. a ++ b ∷ []) (sym (drop-map (row_of w) 1 lines)) (row_blank w)

pub lengths-scrolled : (w : ℕ) (lines : List (List CellValue)) → map length (scrolled w lines) ≡ drop 1 (map length lines) ++ w ∷ []
lengths-scrolled w lines = map-append length (drop 1 lines) (replicate w blank ∷ []) ∙ ap₂ (λ a b. a ++ b ∷ []) (sym (drop-map length 1 lines)) (length-replicate w blank)

module _ {W : Type 0} (f : List ℕ → ℕ) (s : SurfaceValue W) (lawful : IsLawful f) (sound : IsSound f s) where
  scrolled_full : length (scrolled s.width s.lines) ≡ s.height
  scrolled_full = let e : length s.lines ≡ s.height = sound.full in let p : 0 < s.height = sound.some_row in omega (arith, length-append (drop 1 s.lines) (replicate s.width blank ∷ []), length-drop 1 s.lines)

  scrolled_stored : (j : ℕ) → j < s.height → IsStored f s.width (row_at (scrolled s.width s.lines) j)
  scrolled_stored j l =
      let e : length s.lines ≡ s.height = sound.full in
      let n : length (drop 1 s.lines) ≡ s.height - 1 = omega (arith, length-drop 1 s.lines) in
      elim (cases_lt (suc j) s.height) [
        | inl q ↦
            let inside : j < length (drop 1 s.lines) = omega arith in
            let at : row_at (scrolled s.width s.lines) j ≡ row_at s.lines (suc j) = get_or_append_left (drop 1 s.lines) (replicate s.width blank ∷ []) [] j inside ∙ get_or-drop 1 s.lines j [] ∙ ap (row_at s.lines) (omega arith) in
            subst (IsStored f s.width) (sym at) (sound.stored_so (suc j) q)
        | inr q ↦
            let past : length (drop 1 s.lines) ≤ j = omega arith in
            let zero_is : j - (s.height - 1) ≡ 0 = omega arith in
            let at : row_at (scrolled s.width s.lines) j ≡ replicate s.width blank = get_or-append_right (drop 1 s.lines) (replicate s.width blank ∷ []) (s.height - 1) j [] n (omega arith) ∙ ap (row_at (replicate s.width blank ∷ [])) zero_is in
            subst (IsStored f s.width) (sym at) (IsStored-blank f s.width lawful sound.some_column)
      ]

  pub IsSound-scrolled : IsSound f (record s { lines = scrolled s.width s.lines })
  IsSound-scrolled = record {
    some_column = sound.some_column;
    some_row = sound.some_row;
    fits = sound.fits;
    fits_height = sound.fits_height;
    full = scrolled_full;
    sides = sound.sides;
    column = sound.column;
    row = sound.row;
    stored_so = scrolled_stored;
    number_fits = sound.number_fits;
    regions = sound.regions;
  }

-- a region scrolls, or some rows of it are blank
module _ {W : Type 0} (f : List ℕ → ℕ) (s : SurfaceValue W) (lawful : IsLawful f) (sound : IsSound f s) where
  with_lines : (new : List (List CellValue)) → length new ≡ length s.lines → ((j : ℕ) → j < s.height → IsStored f s.width (row_at new j)) → IsSound f (record s { lines = new })
  with_lines new e stored_so = record {
    some_column = sound.some_column;
    some_row = sound.some_row;
    fits = sound.fits;
    fits_height = sound.fits_height;
    full = e ∙ sound.full;
    sides = sound.sides;
    column = sound.column;
    row = sound.row;
    stored_so = stored_so;
    number_fits = sound.number_fits;
    regions = sound.regions;
  }

  pub IsSound-partly_reset : (new : List (List CellValue)) → ArePartlyReset (replicate s.width blank) s.lines new → IsSound f (record s { lines = new })
  IsSound-partly_reset new p = with_lines new p.same_count (stored-partly_reset f s.width s.height s.lines lawful sound.some_column sound.full sound.stored_so new p)

  pub IsSound-up : (a n k : ℕ) → a + n ≤ s.height → IsSound f (record s { lines = region_up (replicate s.width blank) s.lines a n k })
  IsSound-up a n k inside =
      let long : a + n ≤ length s.lines = omega (arith, sound.full) in
      with_lines _ (length-region_up (replicate s.width blank) s.lines a n k long) (stored-up f s.width s.height s.lines lawful sound.some_column sound.full sound.stored_so a n k inside)

  pub IsSound-down : (a n k : ℕ) → a + n ≤ s.height → IsSound f (record s { lines = region_down (replicate s.width blank) s.lines a n k })
  IsSound-down a n k inside =
      let long : a + n ≤ length s.lines = omega (arith, sound.full) in
      with_lines _ (length-region_down (replicate s.width blank) s.lines a n k long) (stored-down f s.width s.height s.lines lawful sound.some_column sound.full sound.stored_so a n k inside)

-- putting a cell
module _ {W : Type 0} (f : List ℕ → ℕ) (s : SurfaceValue W) (c : CellValue) (sound : IsSound f s) (inside : s.x < s.width) where
  row_in : s.y < length s.lines
  row_in = let e : length s.lines ≡ s.height = sound.full in let p : s.y < s.height = sound.row in omega arith

  new_row : List CellValue
  new_row = painted_in s.width s.x c (row_at s.lines s.y)

  stored_here : IsStored f s.width (row_at s.lines s.y)
  stored_here = sound.stored_so s.y sound.row

  pub rows-put : map (row_of s.width) (slice_set s.lines s.y (painted_in s.width s.x c (row_at s.lines s.y))) ≡ set (map (row_of s.width) s.lines) s.y (paint (row_at (map (row_of s.width) s.lines) s.y) s.x c)
  rows-put = map-set (row_of s.width) s.lines s.y (painted_in s.width s.x c (row_at s.lines s.y))
      ∙ ap (set (map (row_of s.width) s.lines) s.y) (row-painted_in s.width s.x c (row_at s.lines s.y) (halved f s.width _ stored_here) inside
      ∙ ap (λ (r : List CellValue). paint r s.x c) (sym (get_or-map (row_of s.width) s.lines s.y [] [] row_in)))

  pub lengths-put : map length (slice_set s.lines s.y (painted_in s.width s.x c (row_at s.lines s.y))) ≡ set (map length s.lines) s.y (max (get_or (map length s.lines) s.y 0) (min (s.x + columns c) s.width))
  lengths-put = map-set length s.lines s.y (painted_in s.width s.x c (row_at s.lines s.y))
      ∙ ap (set (map length s.lines) s.y) (length-painted_in s.width s.x c (row_at s.lines s.y) stored_here.within
      ∙ ap (λ (n : ℕ). max n (min (s.x + columns c) s.width)) (sym (get_or-map length s.lines s.y [] 0 row_in)))

  module _ (lawful : IsLawful f) (m : IsMeasured f c) where
    put_stored : (j : ℕ) → j < s.height → IsStored f s.width (row_at (slice_set s.lines s.y (painted_in s.width s.x c (row_at s.lines s.y))) j)
    put_stored j l = elim (cases_eq j s.y) [
      | inl e ↦
          let at : row_at (slice_set s.lines s.y (painted_in s.width s.x c (row_at s.lines s.y))) j ≡ painted_in s.width s.x c (row_at s.lines s.y) = ap (row_at _) e ∙ get_or-set_same s.lines s.y (painted_in s.width s.x c (row_at s.lines s.y)) [] row_in in
          subst (IsStored f s.width) (sym at) (IsStored-painted_in f s.width s.x c (row_at s.lines s.y) lawful stored_here m inside)
      | inr n ↦
          let at : row_at (slice_set s.lines s.y (painted_in s.width s.x c (row_at s.lines s.y))) j ≡ row_at s.lines j = get_or-set_other s.lines s.y j (painted_in s.width s.x c (row_at s.lines s.y)) [] n in
          subst (IsStored f s.width) (sym at) (sound.stored_so j l)
    ]

    pub IsSound-put : IsSound f (record s { lines = slice_set s.lines s.y (painted_in s.width s.x c (row_at s.lines s.y)); x = min (s.x + columns c) s.width })
    IsSound-put = record {
      some_column = sound.some_column;
      some_row = sound.some_row;
      fits = sound.fits;
      fits_height = sound.fits_height;
      full = length-set _ _ _ ∙ sound.full;
      sides = sound.sides;
      column = omega arith;
      row = sound.row;
      stored_so = put_stored;
      number_fits = sound.number_fits;
      regions = sound.regions;
    }
