-- Rows that a resize keeps.
use Rattle.std.proofs.Common.{◌≡◌, ℕ, ◌-◌, ◌<◌, ◌≤◌, false, inl, inr, List, [], length, take, get_or, map, replicate, sym, ◌∙◌, ap, ap₂, arith, length-take}
use Rattle.std.specs.Prelude.{nat_le}
use Rattle.std.proofs.lemmas.Bool.{cases_lt, le-leb, lt-leb}
use Rattle.std.proofs.lemmas.List.{get_or-map, get_or-take, get_or_append_left, get_or_past, length-map}
use Rattle.termwiz_cell.specs.CellValue.{CellValue, blank}
use Rattle.termwiz_line.specs.LineFlags.{LineFlags, no_flags}
use Rattle.termwiz_line.specs.Row.{row_of}
use Rattle.termwiz_line.proofs.RowOf.{length-row_of}
use Rattle.termwiz_line.proofs.StoredRows.{row_alike, row_stored}
use Rattle.termwiz_storage.specs.Halves.{resized}
use Rattle.termwiz_screen.specs.Log.{next_number, restarted}
use Rattle.termwiz_screen.specs.Measured.{IsStored}
use Rattle.termwiz_screen.specs.Resized.{resized_flags, resized_stored}
use Rattle.termwiz_screen.specs.Screen.{row_at}
use Rattle.termwiz_screen.proofs.RowChanges.Resized.{row-resized}
use Rattle.termwiz_screen.proofs.Stored.{IsLawful, halved}
use Rattle.termwiz_surface.specs.Adding.{marking}
use Rattle.termwiz_surface.specs.Resizing.{resize_touches}
use Rattle.termwiz_surface.specs.RowNumbers.{AreRenewed}
use Rattle.termwiz_surface.specs.Surface.{IsSound, MarksRows, SurfaceValue}
use Rattle.termwiz_surface.proofs.RowNumbers.{resize-leaves}

-- a row that is kept in its width shows what it did
kept-shows : (f : List ℕ → ℕ) (w h : ℕ) (rows : List (List CellValue)) (lawful : IsLawful f) → 0 < w → (j : ℕ) → IsStored f w (row_at rows j) → j < h → j < length rows → row_of w (row_at (resized_stored w h rows) j) ≡ row_of w (row_at rows j)
kept-shows f w h rows lawful some j s below inside =
    let cs = row_at rows j in
    let taken : j < length (take h rows) = omega (arith, length-take h rows) in
    ap (row_of w) (get_or_append_left (map (resized w) (take h rows)) (replicate (h - length rows) (replicate w blank)) [] j (omega (arith, taken, length-map (take h rows) (resized w)))
    ∙ get_or-map (resized w) (take h rows) j [] [] taken ∙ ap (resized w) (get_or-take h rows j [] below))
    ∙ row-resized f w w cs lawful s some
    ∙ row_alike w (row_of w cs) cs (λ k. elim (cases_lt k w) [
      | inl l ↦ row_stored w cs k (halved f w cs s) l
      | inr g ↦ let p : length cs ≤ w = s.within in get_or_past (row_of w cs) k blank (omega (arith, length-row_of w cs)) ∙ sym (get_or_past cs k blank (omega arith))
    ])

-- it has the flags that it had
kept-flags : (h : ℕ) (flags : List LineFlags) (j : ℕ) → j < h → j < length flags → get_or (resized_flags h flags) j no_flags ≡ get_or flags j no_flags
kept-flags h flags j below inside =
    get_or_append_left (take h flags) (replicate (h - length flags) no_flags) no_flags j (omega (arith, length-take h flags)) ∙ get_or-take h flags j no_flags below

-- the rows from one on are marked, and those before it are left alone
pub resize-marks : {W : Type 0} (f : List ℕ → ℕ) (s new : SurfaceValue W) (w h first : ℕ) → IsLawful f → 0 < w → IsSound f s → ((j : ℕ) → j < h → resize_touches s w j ≡ nat_le first j)
    → AreRenewed h first (next_number (restarted s.log)) s.numbers new.numbers → new.width ≡ w → new.lines ≡ resized_stored w h s.lines → new.flags ≡ resized_flags h s.flags
    → MarksRows (resize_touches s w) (record (marking s (restarted s.log)) { width = w; height = h }) new
resize-marks f s new w h first lawful some sound touches r width lines flags = record {
  each = λ j l. elim (cases_lt j first) [
    | inl before ↦
        let none : resize_touches s w j ≡ false = touches j l ∙ lt-leb first j before in
        let left = resize-leaves s w j none in
        let stored : IsStored f w (row_at s.lines j) = rw left.0 (sound.stored_so j left.1) in
        inr (
          none,
          (
            ap₂ row_of width (ap (λ (ls : List (List CellValue)). row_at ls j) lines) ∙ kept-shows f w h s.lines lawful some j stored l (omega (arith, left.1, sound.full)),
            ap (λ (fs : List LineFlags). get_or fs j no_flags) flags ∙ kept-flags h s.flags j l (omega (arith, left.1, sound.sides)),
            r.kept j before,
          ),
        )
    | inr from ↦ inl (touches j l ∙ le-leb first j from, r.marked j from l)
  ];
}
