-- A stored row that is cut or filled to the width is its row.
use Rattle.std.proofs.Common.{◌≡◌, ℕ, suc, ◌+◌, ◌-◌, ◌<◌, ◌≤◌, inl, inr, true, false, not, List, [], length, map, sym, ◌∙◌, ap, arith, append-nil, le-leb, length-append}
use Rattle.std.proofs.lemmas.Bool.{cases_Bool, cases_lt, and_parts, lt-leb}
use Rattle.std.proofs.lemmas.List.{ext_get_or, get_or-map, length-map, length-replicate, take_all}
use Rattle.termwiz_cell.specs.CellValue.{CellValue, is_wide}
use Rattle.termwiz_storage.specs.Stored.{stored, padded, hides}
use Rattle.termwiz_storage.specs.Halves.{resized}
use Rattle.termwiz_storage.proofs.SetCell.{stored-padded}
use Rattle.termwiz_line.specs.LineValue.{LineValue}
use Rattle.termwiz_line.specs.Row.{row_of}
use Rattle.termwiz_screen.specs.Screen.{row_at}
use Rattle.termwiz_screen.specs.ScreenValue.{cells_of, numberless}
use Rattle.termwiz_surface.specs.Surface.{SurfaceValue, IsSound}
use Rattle.termwiz_screen.specs.Measured.{IsStored}
use Rattle.termwiz_line.proofs.StoredRows.{row_ext}
use Rattle.termwiz_screen.proofs.Stored.{halved}

module _ (f : List ℕ → ℕ) (w : ℕ) (cs : List CellValue) (s : IsStored f w cs) where
  -- a short row does not end in a wide cell
  lacks_none : length cs < w → hides cs (length cs) ≡ false
  lacks_none l = elim (cases_Bool (hides cs (length cs))) [
    | inr z ↦ z
    | inl o ↦
        let some : 0 < length cs = s.some in
        let n : length cs ≡ suc (length cs - 1) = omega arith in
        let at : hides cs (suc (length cs - 1)) ≡ true = sym (ap (hides cs) n) ∙ o in
        let past : suc (length cs - 1) < length cs = s.closed (length cs - 1) (omega arith) (and_parts (is_wide (stored cs (length cs - 1))) (not (hides cs (length cs - 1))) at).0 in
        absurd (omega arith)
  ]

  resized-padded : resized w cs ≡ padded w cs
  resized-padded = elim (cases_lt (length cs) w) [
    | inl l ↦ rw (lt-leb w (length cs) l, lacks_none l) (ap (padded w) (append-nil cs))
    | inr g ↦
        let within : length cs ≤ w = s.within in
        let none : w - length cs ≡ 0 = omega arith in
        rw (le-leb w (length cs) g, none) (take_all w cs within ∙ sym (append-nil cs))
  ]

  length-resized : length (resized w cs) ≡ w
  length-resized =
      let within : length cs ≤ w = s.within in
      let e : length (padded w cs) ≡ length cs + (w - length cs) = simp (length-append, length-replicate) in
      ap length resized-padded ∙ e ∙ omega arith

  pub resized-row : resized w cs ≡ row_of w cs
  resized-row = sym (row_ext w cs (resized w cs) (halved f w cs s) length-resized (λ k l. sym (ap (λ (z : List CellValue). stored z k) resized-padded ∙ stored-padded w cs k)))

-- the lines of a sound surface's rows, cut or filled, show its screen
module _ {W : Type 0} (f : List ℕ → ℕ) (s : SurfaceValue W) (sound : IsSound f s) where
  pub rows-resized : cells_of (map (λ r. numberless (resized s.width r)) s.lines) ≡ map (row_of s.width) s.lines
  rows-resized = ext_get_or [] _ _ same_length (λ k l. at k (omega (arith, same_length, length-map s.lines (row_of s.width))))
    where
      same_length : length (cells_of (map (λ r. numberless (resized s.width r)) s.lines)) ≡ length (map (row_of s.width) s.lines)
      same_length = simp length-map

      at : (k : ℕ) → k < length s.lines → row_at (cells_of (map (λ r. numberless (resized s.width r)) s.lines)) k ≡ row_at (map (row_of s.width) s.lines) k
      at k l =
          let full : length s.lines ≡ s.height = sound.full in
          get_or-map (λ (v : LineValue). v.cells) (map (λ r. numberless (resized s.width r)) s.lines) k (numberless []) [] (simp length-map l)
          ∙ ap (λ (v : LineValue). v.cells) (get_or-map (λ r. numberless (resized s.width r)) s.lines k [] (numberless []) l)
          ∙ resized-row f s.width (row_at s.lines k) (sound.stored_so k (omega arith))
          ∙ sym (get_or-map (row_of s.width) s.lines k [] [] l)
