-- The rows of sound surfaces and of lines, and that what is written for them is a diff.
use Rattle.std.proofs.Common.{zero-add, ◌≡◌, ℕ, zero, suc, ◌+◌, ◌-◌, ◌<◌, ◌≤◌, ◌⊎◌, inl, inr, min, List, [], ◌∷◌, map, length, get_or, arith, sym, subst}
use Rattle.std.specs.List.{All}
use Rattle.std.proofs.lemmas.List.{get_or-map, length-map}
use Rattle.std.proofs.lemmas.List.Elements.{All-get_or}
use Rattle.termwiz_cell.specs.CellValue.{CellValue, space}
use Rattle.termwiz_cell.specs.ChangeValue.{ChangeValue}
use Rattle.termwiz_line.specs.Row.{IsRow, row_of}
use Rattle.termwiz_line.proofs.RowOf.{row_of_row}
use Rattle.termwiz_screen.specs.Step.{replay}
use Rattle.termwiz_screen.specs.Screen.{Screen, row_at}
use Rattle.termwiz_surface.specs.Surface.{SurfaceValue, screen_of, IsSound}
use Rattle.termwiz_screen.specs.Printable.{ArePrintable, IsPrintableRow}
use Rattle.termwiz_screen.specs.Diff.{Region, cut, need, diff, band}
use Rattle.termwiz_screen.specs.DiffLists.{IsDiff}
use Rattle.termwiz_screen.specs.DiffRegions.{AreRows}
use Rattle.termwiz_surface.proofs.SoundRepaint.{sound_is_printable}
use Rattle.termwiz_screen.proofs.Repaints.LineEntries.{line_printable}
use Rattle.termwiz_screen.proofs.Diffs.Screens.{cut_inside, band_inside}
use Rattle.termwiz_screen.proofs.Diffs.Lists.{region_diff, band_diff, gives_band}

module _ {W : Type 0} (g : List ℕ → ℕ) (v : SurfaceValue W) (sound : IsSound g v) where
  pub sound_row : (j : ℕ) → j < v.height → IsPrintableRow g v.width (row_at (screen_of v).rows j)
  sound_row = (sound_is_printable g v sound).rows_so

  pub sound_rows : AreRows v.width v.height (screen_of v).rows
  sound_rows = record { full = (sound_is_printable g v sound).full; each = λ j l. (sound_row j l).row }

  -- what fits of a region of it, on any screen
  pub sound_diff : (f : List ℕ → ℕ) (a : Screen) (r : Region) →
      IsDiff f a (f ≡ g) (need a.rows (screen_of v).rows (cut r a.width a.height v.width v.height)) (diff a.rows (screen_of v).rows (cut r a.width a.height v.width v.height))
  sound_diff f a r = region_diff f g a (screen_of v) (cut r a.width a.height v.width v.height) (cut_inside r a.width a.height v.width v.height) sound_row

-- lines whose rows can be printed
module _ (f : List ℕ → ℕ) (one : f space ≡ 1) (a : Screen) where
  pub lines_diff : {X : Type 0} (cells : X → List CellValue) (xs : List X) → All (λ x. ArePrintable f (cells x)) xs →
      IsDiff f a (f ≡ f) (need a.rows (map (λ x. row_of a.width (cells x)) xs) (band a.width 0 0 (min a.height (length xs)))) (diff a.rows (map (λ x. row_of a.width (cells x)) xs) (band a.width 0 0 (min a.height (length xs))))
  lines_diff {X} cells xs all =
      band_diff f f a (map (λ x. row_of a.width (cells x)) xs) 0 0 (min a.height (length xs)) (λ k l. omega arith) (λ k l. omega (arith, length-map xs (λ x. row_of a.width (cells x))))
      (λ j l. row xs j (omega (arith, length-map xs (λ x. row_of a.width (cells x)))) all)
    where
      row : (xs : List X) (j : ℕ) → j < length xs → All (λ x. ArePrintable f (cells x)) xs → IsPrintableRow f a.width (row_at (map (λ x. row_of a.width (cells x)) xs) j)
      row [] j l all = absurd (omega arith)
      row (x ∷ xs) j l all =
          subst (IsPrintableRow f a.width) (sym (get_or-map (λ x. row_of a.width (cells x)) (x ∷ xs) j x [] l))
          (line_printable f one a.width (cells (get_or (x ∷ xs) j x)) (All-get_or (λ x. ArePrintable f (cells x)) (x ∷ xs) j x l all))

  pub line_diff : (cells : List CellValue) (y : ℕ) → ArePrintable f cells →
      IsDiff f a (f ≡ f) (need a.rows (row_of a.width cells ∷ []) (band a.width y 0 (min 1 (a.height - y)))) (diff a.rows (row_of a.width cells ∷ []) (band a.width y 0 (min 1 (a.height - y))))
  line_diff cells y z = band_diff f f a (row_of a.width cells ∷ []) y 0 (min 1 (a.height - y)) (λ k l. omega arith) (λ k l. omega arith) row
    where
      row : (j : ℕ) → j < 1 → IsPrintableRow f a.width (row_at (row_of a.width cells ∷ []) j)
      row zero l = line_printable f one a.width cells z
      row (suc j) l = absurd (omega arith)

-- what a diff of lines leaves: each paired row is its line's, and the others stay
module _ (f : List ℕ → ℕ) (a : Screen) (own : AreRows a.width a.height a.rows) {X : Type 0} (cells : X → List CellValue) where
  line_rows : (xs : List X) → AreRows a.width (length xs) (map (λ x. row_of a.width (cells x)) xs)
  line_rows xs = record { full = length-map xs (λ x. row_of a.width (cells x)); each = row xs }
    where
      row : (xs : List X) (j : ℕ) → j < length xs → IsRow a.width (row_at (map (λ x. row_of a.width (cells x)) xs) j)
      row [] j l = absurd (omega arith)
      row (x ∷ xs) j l = subst (IsRow a.width) (sym (get_or-map (λ x. row_of a.width (cells x)) (x ∷ xs) j x [] l)) (row_of_row a.width (cells (get_or (x ∷ xs) j x)))

  pub lines_gives : (xs : List X) (l : List ChangeValue) → IsDiff f a (f ≡ f) (need a.rows (map (λ x. row_of a.width (cells x)) xs) (band a.width 0 0 (min a.height (length xs)))) l →
      ((i : ℕ) → i < min a.height (length xs) → row_at (replay f a l).rows i ≡ row_at (map (λ x. row_of a.width (cells x)) xs) i)
      × ((j : ℕ) → min a.height (length xs) ≤ j → row_at (replay f a l).rows j ≡ row_at a.rows j)
  lines_gives xs l d =
      let n = min a.height (length xs) in
      let inside = band_inside a.width a.height (length xs) 0 0 n (λ k i. omega arith) (λ k i. omega arith) in
      let given = gives_band f a (length xs) (map (λ x. row_of a.width (cells x)) xs) 0 0 n l own (line_rows xs) inside d in
      ((λ i m. subst (λ k. row_at (replay f a l).rows k ≡ row_at (map (λ x. row_of a.width (cells x)) xs) k) (zero-add i) (given.0 i m)), λ j m. given.1 j (inr (omega (arith, m))))

  pub line_gives : (x : X) (y : ℕ) (l : List ChangeValue) → IsDiff f a (f ≡ f) (need a.rows (row_of a.width (cells x) ∷ []) (band a.width y 0 (min 1 (a.height - y)))) l →
      (y < a.height → row_at (replay f a l).rows y ≡ row_of a.width (cells x)) × ((j : ℕ) → (j < y) ⊎ (y < j) → row_at (replay f a l).rows j ≡ row_at a.rows j)
  line_gives x y l d =
      let n = min 1 (a.height - y) in
      let b = row_of a.width (cells x) ∷ [] in
      let given = gives_band f a 1 b y 0 n l own (line_rows (x ∷ [])) (band_inside a.width a.height 1 y 0 n (λ k i. omega arith) (λ k i. omega arith)) d in
      ((λ m. subst (λ k. row_at (replay f a l).rows k ≡ row_of a.width (cells x)) (omega arith) (given.0 0 (omega (arith, m)))), λ j m. given.1 j (apart j m))
    where
      apart : (j : ℕ) → (j < y) ⊎ (y < j) → (j < y) ⊎ (y + min 1 (a.height - y) ≤ j)
      apart j (inl m) = inl m
      apart j (inr m) = inr (omega (arith, m))
