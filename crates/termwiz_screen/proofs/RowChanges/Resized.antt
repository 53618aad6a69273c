-- Rows in another size.
use Rattle.std.proofs.Common.{◌≡◌, ℕ, zero, suc, true, ◌-◌, ◌<◌, ◌≤◌, min, inl, inr, List, [], ◌∷◌, ◌++◌, length, take, drop, get_or, map, replicate, refl, sym, ◌∙◌, ap, ap₂, subst, arith, length-append, length-take}
use Rattle.std.specs.List.{All}
use Rattle.std.proofs.lemmas.Bool.{cases_Bool, cases_lt}
use Rattle.std.proofs.lemmas.List.{append-nil, ext_get_or, get_or-map, get_or_past, get_or-replicate, length-map, length-replicate, map-append, take-map, take_all, take-append-le}
use Rattle.std.proofs.lemmas.List.Elements.{All-append, All-map, All-take, All-replicate, All-get_or, All-from_get_or}
use Rattle.termwiz_cell.specs.CellValue.{CellValue, blank}
use Rattle.termwiz_cell.specs.Attributes.{default_attributes}
use Rattle.termwiz_storage.specs.Stored.{stored, hides}
use Rattle.termwiz_storage.specs.Halves.{resized}
use Rattle.termwiz_line.specs.LineFlags.{LineFlags, no_flags}
use Rattle.termwiz_line.specs.LineValue.{LineValue}
use Rattle.termwiz_line.specs.Row.{IsRow, row_of, settled_at}
use Rattle.termwiz_line.proofs.Resized.{resized_is_row}
use Rattle.termwiz_line.proofs.RowOf.{length-row_of, row_of_at, row_of_row}
use Rattle.termwiz_line.proofs.StoredRows.{row_stored, row_ext, row_alike, row_blank}
use Rattle.termwiz_screen.specs.Resized.{in_width, resized_flags, resized_rows, resized_stored}
use Rattle.termwiz_screen.specs.Screen.{row_at}
use Rattle.termwiz_screen.specs.ScreenValue.{blank_line, cells_of}
use Rattle.termwiz_screen.specs.Sides.{row_flags, AreVectors}
use Rattle.termwiz_screen.specs.Measured.{IsMeasured, IsStored}
use Rattle.termwiz_screen.proofs.Regions.{map-replicate}
use Rattle.termwiz_screen.proofs.Stored.{IsLawful, IsMeasured-blank, IsStored-blank, halved}

map-map : {X Y Z : Type 0} (g : Y → Z) (k : X → Y) (xs : List X) → map g (map k xs) ≡ map (λ x. g (k x)) xs
map-map g k [] = refl
map-map g k (x ∷ xs) = ap (λ t. g (k x) ∷ t) (map-map g k xs)

-- default rows come after the rows that were kept
module _ (w h count : ℕ) (xs ys new : List LineValue) (c : count ≡ h - length ys) (is : new ≡ ys ++ replicate count (blank_line w)) where
  pub added-cells : cells_of ys ≡ map (resized w) (take h (cells_of xs)) → cells_of new ≡ resized_stored w h (cells_of xs)
  added-cells e =
      let long : length ys ≡ min h (length (cells_of xs)) = sym (length-map ys (λ (l : LineValue). l.cells)) ∙ ap length e ∙ length-map (take h (cells_of xs)) (resized w) ∙ length-take h (cells_of xs) in
      let left : count ≡ h - length (cells_of xs) = omega arith in
      ap cells_of is ∙ map-append (λ (l : LineValue). l.cells) ys (replicate count (blank_line w))
      ∙ ap₂ (λ u v. u ++ v) e (map-replicate (λ (l : LineValue). l.cells) count (blank_line w) ∙ ap (λ k. replicate k (replicate w blank)) left)

  pub added-flags : row_flags ys ≡ take h (row_flags xs) → row_flags new ≡ resized_flags h (row_flags xs)
  added-flags e =
      let long : length ys ≡ min h (length (row_flags xs)) = sym (length-map ys (λ (l : LineValue). l.flags)) ∙ ap length e ∙ length-take h (row_flags xs) in
      let left : count ≡ h - length (row_flags xs) = omega arith in
      ap row_flags is ∙ map-append (λ (l : LineValue). l.flags) ys (replicate count (blank_line w))
      ∙ ap₂ (λ u v. u ++ v) e (map-replicate (λ (l : LineValue). l.flags) count (blank_line w) ∙ ap (λ k. replicate k no_flags) left)

-- each of the first rows is cut in place or gives way to its copy
module _ (w h : ℕ) (xs : List LineValue) where
  pub cells-in_width : cells_of (map (in_width w) (take h xs)) ≡ map (resized w) (take h (cells_of xs))
  cells-in_width = map-map (λ (l : LineValue). l.cells) (in_width w) (take h xs) ∙ sym (map-map (resized w) (λ (l : LineValue). l.cells) (take h xs)) ∙ ap (map (resized w)) (sym (take-map (λ (l : LineValue). l.cells) h xs))

  pub flags-in_width : row_flags (map (in_width w) (take h xs)) ≡ take h (row_flags xs)
  flags-in_width = map-map (λ (l : LineValue). l.flags) (in_width w) (take h xs) ∙ sym (take-map (λ (l : LineValue). l.flags) h xs)

  -- with default rows after them all are vectors
  pub vectors-in_width : (count : ℕ) → AreVectors (map (in_width w) (take h xs) ++ replicate count (blank_line w))
  vectors-in_width count = record {
    each = All-append (λ (l : LineValue). l.is_vector ≡ true) (map (in_width w) (take h xs)) (replicate count (blank_line w))
        (All-map (λ (l : LineValue). l.is_vector ≡ true) (in_width w) (take h xs) (All-from_get_or (λ (l : LineValue). true ≡ true) (take h xs) (blank_line 0) (λ i l. refl)))
        (All-replicate (λ (l : LineValue). l.is_vector ≡ true) count (blank_line w) refl);
  }

-- the rows that are kept, in the width, and default ones
module _ (w h count : ℕ) (old new : List LineValue) (c : count ≡ h - length old) (is : new ≡ map (in_width w) (take h old) ++ replicate count (blank_line w)) where
  missing : count ≡ h - length (map (in_width w) (take h old))
  missing = omega (arith, length-map (take h old) (in_width w), length-take h old)

  pub fitted-cells : cells_of new ≡ resized_stored w h (cells_of old)
  fitted-cells = added-cells w h count old (map (in_width w) (take h old)) new missing is (cells-in_width w h old)

  pub fitted-flags : row_flags new ≡ resized_flags h (row_flags old)
  fitted-flags = added-flags w h count old (map (in_width w) (take h old)) new missing is (flags-in_width w h old)

  pub fitted-vectors : AreVectors new
  fitted-vectors = rw is (vectors-in_width w h old count)

-- all rows are kept, in the width, and rows come below them
pub fitted-longer : (w h count : ℕ) (old new : List LineValue) → length old ≤ h → new ≡ map (in_width w) old ++ replicate count (blank_line w) → new ≡ map (in_width w) (take h old) ++ replicate count (blank_line w)
fitted-longer w h count old new short is = rw (take_all h old short) is

-- the first rows are in the width, and the others go
pub fitted-shorter : (w h : ℕ) (old rows new : List LineValue) → h ≤ length old → rows ≡ map (in_width w) (take h old) ++ drop h old → new ≡ take h rows → new ≡ map (in_width w) (take h old) ++ replicate 0 (blank_line w)
fitted-shorter w h old rows new long fitted cut =
    let many : length (map (in_width w) (take h old)) ≡ h = length-map (take h old) (in_width w) ∙ length-take h old ∙ omega arith in
    cut ∙ ap (take h) fitted ∙ take-append-le h (map (in_width w) (take h old)) (drop h old) (omega (arith, many))
    ∙ take_all h (map (in_width w) (take h old)) (omega (arith, many)) ∙ sym (append-nil (map (in_width w) (take h old)))

-- a stored row of width v in another width
module _ (f : List ℕ → ℕ) (v w : ℕ) (cs : List CellValue) (lawful : IsLawful f) (s : IsStored f v cs) where
  settled : IsRow (length cs) cs
  settled = record { width = refl; settled = λ k l t. let p : length cs ≤ v = s.within in s.halves k (omega arith) t }

  resized-row : resized w cs ≡ row_of w cs
  resized-row = resized_is_row w cs settled

  pub length-resized : length (resized w cs) ≡ w
  length-resized = ap length resized-row ∙ length-row_of w cs

  row-row : row_of w (row_of v cs) ≡ row_of w cs
  row-row = row_alike w (row_of v cs) cs (λ k. elim (cases_lt k v) [
    | inl l ↦ row_stored v cs k (halved f v cs s) l
    | inr g ↦ let p : length cs ≤ v = s.within in get_or_past (row_of v cs) k blank (omega (arith, length-row_of v cs)) ∙ sym (get_or_past cs k blank (omega arith))
  ])

  settled_measured : (k : ℕ) → IsMeasured f (settled_at cs k)
  settled_measured zero = s.measured 0
  settled_measured (suc k) = elim (cases_Bool (hides cs (suc k))) [
    | inl t ↦ rw t (IsMeasured-blank f (stored cs k).attrs lawful)
    | inr t ↦ rw t (s.measured (suc k))
  ]

  row_measured : (k : ℕ) → IsMeasured f (stored (row_of w cs) k)
  row_measured k = elim (cases_lt k w) [
    | inl l ↦ subst (IsMeasured f) (sym (row_of_at w cs k l)) (settled_measured k)
    | inr g ↦ subst (IsMeasured f) (sym (get_or_past (row_of w cs) k blank (omega (arith, length-row_of w cs)))) (IsMeasured-blank f default_attributes lawful)
  ]

  IsStored-row : 0 < w → IsStored f w (row_of w cs)
  IsStored-row some = record {
    some = rw length-row_of some;
    within = rw length-row_of (omega arith);
    halves = (row_of_row w cs).settled;
    closed = λ k l t. rw length-row_of l;
    measured = row_measured;
  }

  pub IsStored-resized : 0 < w → IsStored f w (resized w cs)
  IsStored-resized some = subst (IsStored f w) (sym resized-row) (IsStored-row some)

  -- it shows the row of the row
  pub row-resized : 0 < w → row_of w (resized w cs) ≡ row_of w (row_of v cs)
  row-resized some =
      ap (row_of w) resized-row ∙ row_ext w (row_of w cs) (row_of w cs) (halved f w (row_of w cs) (IsStored-row some)) (length-row_of w cs) (λ k l. refl) ∙ sym row-row

-- maps that agree on each element
map-same : (P : List CellValue → Type 0) (g k : List CellValue → List CellValue) (xs : List (List CellValue)) → ((x : List CellValue) → P x → g x ≡ k x) → All P xs → map g xs ≡ map k xs
map-same P g k xs h a = ext_get_or [] (map g xs) (map k xs) (length-map xs g ∙ sym (length-map xs k)) (λ i l.
    let m : i < length xs = omega (arith, length-map xs g) in
    get_or-map g xs i [] [] m ∙ h (get_or xs i []) (All-get_or P xs i [] m a) ∙ sym (get_or-map k xs i [] [] m))

pub length-resized_stored : (w h : ℕ) (rows : List (List CellValue)) → length (resized_stored w h rows) ≡ h
length-resized_stored w h rows = simp (length-append, length-map, length-take, length-replicate) (omega arith)

pub length-resized_flags : (h : ℕ) (flags : List LineFlags) → length (resized_flags h flags) ≡ h
length-resized_flags h flags = simp (length-append, length-take, length-replicate) (omega arith)

-- the rows of a sound surface in another size
module _ (f : List ℕ → ℕ) (v w h n : ℕ) (rows : List (List CellValue)) (lawful : IsLawful f) (some : 0 < w) (full : length rows ≡ n) (stored_so : (j : ℕ) → j < n → IsStored f v (row_at rows j)) where
  all_taken : All (IsStored f v) (take h rows)
  all_taken = All-take (IsStored f v) h rows (All-from_get_or (IsStored f v) rows [] (λ j l. stored_so j (omega arith)))

  -- what holds of each row that was kept, and of a default one
  all_resized : (P : List CellValue → Type 0) → ((cs : List CellValue) → IsStored f v cs → P (resized w cs)) → P (replicate w blank) → All P (resized_stored w h rows)
  all_resized P kept new = All-append P (map (resized w) (take h rows)) (replicate (h - length rows) (replicate w blank))
      (All-map P (resized w) (take h rows) (All-from_get_or (λ (r : List CellValue). P (resized w r)) (take h rows) [] (λ i l. kept (get_or (take h rows) i []) (All-get_or (IsStored f v) (take h rows) i [] l all_taken))))
      (All-replicate P (h - length rows) (replicate w blank) new)

  pub stored-resized : (j : ℕ) → j < h → IsStored f w (row_at (resized_stored w h rows) j)
  stored-resized j l =
      All-get_or (IsStored f w) (resized_stored w h rows) j [] (omega (arith, length-resized_stored w h rows))
      (all_resized (IsStored f w) (λ cs s. IsStored-resized f v w cs lawful s some) (IsStored-blank f w lawful some))

  pub lengths-resized : map length (resized_stored w h rows) ≡ replicate h w
  lengths-resized = ext_get_or 0 _ _ (length-map (resized_stored w h rows) length ∙ length-resized_stored w h rows ∙ sym (length-replicate h w)) (λ k l.
      let m : k < length (resized_stored w h rows) = omega (arith, length-map (resized_stored w h rows) length) in
      get_or-map length (resized_stored w h rows) k [] 0 m
      ∙ All-get_or (λ (r : List CellValue). length r ≡ w) (resized_stored w h rows) k [] m (all_resized (λ r. length r ≡ w) (λ cs s. length-resized f v w cs lawful s) (length-replicate w blank))
      ∙ sym (get_or-replicate h k w 0 (omega (arith, length-resized_stored w h rows))))

  pub shown-resized : map (row_of w) (resized_stored w h rows) ≡ resized_rows w h (map (row_of v) rows)
  shown-resized =
      map-append (row_of w) (map (resized w) (take h rows)) (replicate (h - length rows) (replicate w blank))
      ∙ ap₂ (λ a b. a ++ b)
      (map-map (row_of w) (resized w) (take h rows)
      ∙ map-same (IsStored f v) (λ r. row_of w (resized w r)) (λ r. row_of w (row_of v r)) (take h rows) (λ r s. row-resized f v w r lawful s some) all_taken
      ∙ sym (map-map (row_of w) (row_of v) (take h rows)) ∙ ap (map (row_of w)) (sym (take-map (row_of v) h rows)))
      (map-replicate (row_of w) (h - length rows) (replicate w blank) ∙ ap (replicate (h - length rows)) (row_blank w) ∙ ap (λ k. replicate (h - k) (replicate w blank)) (sym (length-map rows (row_of v))))
