-- Cells that are cut or grown are the row of that width.
use Rattle.std.proofs.Common.{◌≡◌, ℕ, zero, suc, ◌+◌, ◌-◌, ◌<◌, ◌≤◌, ◌⊎◌, inl, inr, true, false, not, List, [], ◌∷◌, ◌++◌, length, take, get_or, arith, length-append, length-take, refl, sym, ap, ◌∙◌}
use Rattle.std.proofs.lemmas.List.{ext_get_or, get_or-take, get_or_append_left, get_or-append_right, get_or_past, length-replicate}
use Rattle.std.proofs.lemmas.Bool.{cases_Bool, cases_lt, cases_order, and_parts, and_left}
use Rattle.termwiz_cell.specs.CellValue.{CellValue, blank, half, is_wide}
use Rattle.termwiz_storage.specs.Stored.{stored, padded, hides}
use Rattle.termwiz_storage.specs.Halves.{missing_half, resized}
use Rattle.termwiz_storage.proofs.Halves.{resized-grown, resized-cut}
use Rattle.termwiz_storage.proofs.SetCell.{stored-padded}
use Rattle.termwiz_line.specs.Row.{IsRow, settled_at, row_of}
use Rattle.termwiz_line.proofs.RowOf.{length-row_of, row_of_at}

missing-some : (cs : List CellValue) → hides cs (length cs) ≡ true → missing_half cs ≡ half (stored cs (length cs - 1)) ∷ []
missing-some cs t = rw t refl

missing-none : (cs : List CellValue) → hides cs (length cs) ≡ false → missing_half cs ≡ []
missing-none cs f = rw f refl

length-missing_half : (cs : List CellValue) → length (missing_half cs) ≤ 1
length-missing_half cs = elim (cases_Bool (hides cs (length cs))) [
  | inl t ↦ rw (missing-some cs t) (omega arith)
  | inr f ↦ rw (missing-none cs f) (omega arith)
]

-- the row at the end of the cells, after it, and before it
settled_end : (cs : List CellValue) (n : ℕ) → length cs ≡ n → get_or (missing_half cs) 0 blank ≡ settled_at cs n
settled_end cs zero e =
    ap (λ l. get_or l 0 blank) (missing-none cs (ap (hides cs) e)) ∙ sym (get_or_past cs 0 blank (omega arith))
settled_end cs (suc m) e = elim (cases_Bool (hides cs (suc m))) [
  | inl t ↦
      let back : length cs - 1 ≡ m = omega arith in
      let here : settled_at cs (suc m) ≡ half (stored cs m) = rw t refl in
      ap (λ l. get_or l 0 blank) (missing-some cs (ap (hides cs) e ∙ t)) ∙ ap (λ j. half (stored cs j)) back ∙ sym here
  | inr f ↦
      let here : settled_at cs (suc m) ≡ stored cs (suc m) = rw f refl in
      ap (λ l. get_or l 0 blank) (missing-none cs (ap (hides cs) e ∙ f)) ∙ sym (here ∙ get_or_past cs (suc m) blank (omega arith))
]

settled_past : (cs : List CellValue) (k : ℕ) → length cs < k → settled_at cs k ≡ blank
settled_past cs zero l = absurd (omega arith)
settled_past cs (suc j) l =
    let b : stored cs j ≡ blank = get_or_past cs j blank (omega arith) in
    let v : hides cs (suc j) ≡ false = and_left (is_wide (stored cs j)) (not (hides cs j)) (ap is_wide b) in
    rw v (get_or_past cs (suc j) blank (omega arith))

settled_within : (cs : List CellValue) (k : ℕ) → IsRow (length cs) cs → k < length cs → settled_at cs k ≡ stored cs k
settled_within cs zero r l = refl
settled_within cs (suc k) r l = elim (cases_Bool (hides cs (suc k))) [
  | inl t ↦ rw t (sym (r.settled k l (and_parts (is_wide (stored cs k)) (not (hides cs k)) t).0))
  | inr f ↦ rw f refl
]

grown_at : (cs : List CellValue) (k : ℕ) → IsRow (length cs) cs → stored (cs ++ missing_half cs) k ≡ settled_at cs k
grown_at cs k r = by (cases_order k (length cs))
  where
    behind : length cs ≤ k → stored (cs ++ missing_half cs) k ≡ get_or (missing_half cs) (k - length cs) blank
    behind g = get_or-append_right cs (missing_half cs) (length cs) k blank refl g

    by : (k ≡ length cs) ⊎ ((k < length cs) ⊎ (length cs < k)) → stored (cs ++ missing_half cs) k ≡ settled_at cs k
    by (inl e) =
        let z : k - length cs ≡ 0 = omega arith in
        behind (omega arith) ∙ ap (λ j. get_or (missing_half cs) j blank) z ∙ settled_end cs k (sym e)
    by (inr (inl l)) = get_or_append_left cs (missing_half cs) blank k l ∙ sym (settled_within cs k r l)
    by (inr (inr g)) = behind (omega arith) ∙ get_or_past (missing_half cs) (k - length cs) blank (omega (arith, length-missing_half cs)) ∙ sym (settled_past cs k g)

resized_whole : (w : ℕ) (cs ds : List CellValue) → ds ≡ resized w cs → length ds ≡ w → ((k : ℕ) → k < w → stored ds k ≡ settled_at cs k) → resized w cs ≡ row_of w cs
resized_whole w cs ds e l h = sym e ∙ ext_get_or blank ds (row_of w cs) (l ∙ sym (length-row_of w cs)) (λ k m. let n : k < w = omega arith in h k n ∙ sym (row_of_at w cs k n))

pub resized_is_row : (w : ℕ) (cs : List CellValue) → IsRow (length cs) cs → resized w cs ≡ row_of w cs
resized_is_row w cs r = elim (cases_lt (length cs) w) [
  | inl l ↦
      let ds : List CellValue = cs ++ missing_half cs in
      let short : length ds ≤ w = omega (arith, length-append cs (missing_half cs), length-missing_half cs) in
      let len : length (padded w ds) ≡ length ds + (w - length ds) = simp (length-append, length-replicate) in
      resized_whole w cs (padded w ds) (resized-grown w cs ds l refl) (omega arith) (λ k m. stored-padded w ds k ∙ grown_at cs k r)
  | inr g ↦
      let len : length (take w cs) ≡ w = simp length-take (omega arith) in
      resized_whole w cs (take w cs) (resized-cut w cs g) len (λ k m. get_or-take w cs k blank m ∙ sym (settled_within cs k r (omega arith)))
]
