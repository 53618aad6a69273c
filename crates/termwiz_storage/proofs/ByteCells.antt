-- Texts in which each cell takes one byte and one column.
use Rattle.std.proofs.Common.{◌≡◌, ℕ, zero, suc, ◌+◌, ◌<◌, ◌≤◌, inl, inr, false, List, [], ◌∷◌, length, take, drop, Some, None, refl, sym, ◌∙◌, ap, ap₂, subst, arith, length-append, length-drop}
use Rattle.std.specs.List.{slice_get}
use Rattle.std.specs.Str.{IsCharBoundary, IsUtf8}
use Rattle.std.proofs.lemmas.Bool.{cases_Bool}
use Rattle.std.proofs.lemmas.Option.{same_Some, slice_get_within}
use Rattle.std.proofs.lemmas.Str.{IsCharBoundary-from_rest, IsCharBoundary-start, IsUtf8-drop}
use Rattle.termwiz_cell.specs.Attributes.{Attributes}
use Rattle.termwiz_cell.specs.CellValue.{CellValue, columns}
use Rattle.termwiz_storage.specs.declared.line.clusterline.runs.Shape.{Shape}
use Rattle.termwiz_storage.specs.Clustered.{AreCuts, HasByteCells, IsCellText, IsClusteredText, cell_len, cells_from, first_cell, shown_cells}
use Rattle.termwiz_storage.specs.Edits.{with_half}
use Rattle.termwiz_storage.specs.Stored.{cell_at, visible}
use Rattle.termwiz_storage.specs.VisibleCell.{at_column}
use Rattle.termwiz_storage.proofs.Clustered.{length-with_half, texts_of-visible, visible-cells_from}
use Rattle.termwiz_storage.proofs.VisibleAt.{cell_at-first, cell_at-later, cell_at-past}
use Rattle.termwiz_storage.proofs.Widths.{columns_bounds, columns-wide}

-- ---- how many cells, columns and bytes there are

length-shown : (i : ℕ) (t : List ℕ) (ss : List Shape) (ps : List Attributes) → length ss ≡ length ps → length (shown_cells i t ss ps) ≡ length ss
length-shown i t [] ps e = refl
length-shown i t (s ∷ ss) [] e = absurd (omega arith)
length-shown i t (s ∷ ss) (a ∷ ps) e = ap suc (length-shown (i + columns (first_cell t s a)) (drop (cell_len s t) t) ss ps (omega arith))

length-first : (t : List ℕ) (s : Shape) (ss : List Shape) (a : Attributes) (ps : List Attributes) → length (cells_from t (s ∷ ss) (a ∷ ps)) ≡ columns (first_cell t s a) + length (cells_from (drop (cell_len s t) t) ss ps)
length-first t s ss a ps =
    let c : CellValue = first_cell t s a in
    let rest : List CellValue = cells_from (drop (cell_len s t) t) ss ps in
    length-append (with_half c) rest ∙ ap (λ (n : ℕ). n + length rest) (length-with_half c)

-- a cell takes a column or two
pub enough_columns : (t : List ℕ) (ss : List Shape) (ps : List Attributes) → length ss ≡ length ps → length ss ≤ length (cells_from t ss ps)
enough_columns t [] ps e = omega arith
enough_columns t (s ∷ ss) [] e = absurd (omega arith)
enough_columns t (s ∷ ss) (a ∷ ps) e =
    let b : (0 < columns (first_cell t s a)) × (columns (first_cell t s a) ≤ 2) = columns_bounds (first_cell t s a) in
    let b0 : 0 < columns (first_cell t s a) = b.0 in
    omega (arith, length-first t s ss a ps, enough_columns (drop (cell_len s t) t) ss ps (omega arith))

-- no cell's text is empty
some_byte : (t : List ℕ) (n : ℕ) → IsCellText t n → 0 < n
some_byte t zero h = absurd (cc (h.clean))
some_byte t (suc n) h = omega arith

-- a cell takes a byte or more
enough_bytes : (t : List ℕ) (ss : List Shape) → AreCuts t ss → length ss ≤ length t
enough_bytes t [] h = omega arith
enough_bytes t (s ∷ ss) h =
    let n : ℕ = cell_len s t in
    let some : 0 < n = some_byte t n h.0 in
    let within : n ≤ length t = h.0.boundary.0 in
    omega (arith, enough_bytes (drop n t) ss h.1, length-drop n t)

one_byte : (t : List ℕ) (s : Shape) (ss : List Shape) → AreCuts t (s ∷ ss) → length t ≡ length (s ∷ ss) → cell_len s t ≡ 1
one_byte t s ss h l =
    let n : ℕ = cell_len s t in
    let some : 0 < n = some_byte t n h.0 in
    let within : n ≤ length t = h.0.boundary.0 in
    omega (arith, enough_bytes (drop n t) ss h.1, length-drop n t)

one_column : (t : List ℕ) (s : Shape) (ss : List Shape) (a : Attributes) (ps : List Attributes) → length (s ∷ ss) ≡ length (a ∷ ps) → length (cells_from t (s ∷ ss) (a ∷ ps)) ≡ length (s ∷ ss) → s.wide ≡ false
one_column t s ss a ps e l = elim (cases_Bool s.wide) [
  | inr n ↦ n
  | inl w ↦
      let two : columns (first_cell t s a) ≡ 2 = columns-wide (first_cell t s a) w in
      absurd (omega (arith, length-first t s ss a ps, enough_columns (drop (cell_len s t) t) ss ps (omega arith)))
]

-- ---- where the cells are

-- the byte at a place is a cell's text
pub byte_at : (k : ℕ) (t : List ℕ) (ss : List Shape) → IsUtf8 t → AreCuts t ss → length t ≡ length ss → k < length t → IsCharBoundary t k × IsCellText (drop k t) 1
byte_at k t [] u h l m = absurd (omega arith)
byte_at zero t (s ∷ ss) u h l m = (IsCharBoundary-start t u, subst (IsCellText t) (one_byte t s ss h l) h.0)
byte_at (suc k) [] (s ∷ ss) u h l m = absurd (omega arith)
byte_at (suc k) (y ∷ ys) (s ∷ ss) u h l m =
    let one : cell_len s (y ∷ ys) ≡ 1 = one_byte (y ∷ ys) s ss h l in
    let first : IsCellText (y ∷ ys) 1 = subst (IsCellText (y ∷ ys)) one h.0 in
    let rest : AreCuts ys ss = subst (λ (n : ℕ). AreCuts (drop n (y ∷ ys)) ss) one h.1 in
    let r : IsCharBoundary ys k × IsCellText (drop k ys) 1 = byte_at k ys ss (IsUtf8-drop (y ∷ ys) 1 u first.boundary) rest (omega arith) (omega arith) in
    let k1 : 1 + k ≡ suc k = omega arith in
    (subst (IsCharBoundary (y ∷ ys)) k1 (IsCharBoundary-from_rest (y ∷ ys) 1 k (omega arith) r.0), r.1)

-- it is the cell at that column
byte_cell : (i k : ℕ) (t : List ℕ) (ss : List Shape) (ps : List Attributes) (a : Attributes) → AreCuts t ss → length ss ≡ length ps → length t ≡ length ss → length (cells_from t ss ps) ≡ length ss → slice_get ps k ≡ Some a → cell_at (shown_cells i t ss ps) (i + k) ≡ Some (record { text = take 1 (drop k t); wide = false; attrs = a })
byte_cell i k t [] [] a h e l m g = cc
byte_cell i k t [] (p ∷ ps) a h e l m g = absurd (omega arith)
byte_cell i k t (s ∷ ss) [] a h e l m g = absurd (omega arith)
byte_cell i k [] (s ∷ ss) (p ∷ ps) a h e l m g = absurd (omega arith)
byte_cell i zero (y ∷ ys) (s ∷ ss) (p ∷ ps) a h e l m g =
    let t : List ℕ = y ∷ ys in
    let c : CellValue = first_cell t s p in
    let one : cell_len s t ≡ 1 = one_byte t s ss h l in
    let narrow : s.wide ≡ false = one_column t s ss p ps e m in
    let same : p ≡ a = same_Some p a g in
    let k : i + 0 ≡ i = omega arith in
    let is : c ≡ record { text = take 1 t; wide = false; attrs = a } = λ j. record { text = take (one j) t; wide = narrow j; attrs = same j } in
    ap (cell_at (at_column i c ∷ shown_cells (i + columns c) (drop (cell_len s t) t) ss ps)) k ∙ cell_at-first i c (shown_cells (i + columns c) (drop (cell_len s t) t) ss ps) ∙ ap Some is
byte_cell i (suc k) (y ∷ ys) (s ∷ ss) (p ∷ ps) a h e l m g =
    let t : List ℕ = y ∷ ys in
    let c : CellValue = first_cell t s p in
    let one : cell_len s t ≡ 1 = one_byte t s ss h l in
    let narrow : s.wide ≡ false = one_column t s ss p ps e m in
    let rest : AreCuts ys ss = subst (λ (n : ℕ). AreCuts (drop n t) ss) one h.1 in
    let column : columns c ≡ 1 = rw narrow refl in
    let cells : length (cells_from ys ss ps) ≡ length ss = subst (λ (n : ℕ). length (cells_from (drop n t) ss ps) ≡ length ss) one (omega (arith, length-first t s ss p ps)) in
    let n : i + suc k ≡ i + 1 + k = omega arith in
    cell_at-later i (i + suc k) c (shown_cells (i + columns c) (drop (cell_len s t) t) ss ps) (omega arith)
    ∙ ap₂ (λ (b d : ℕ). cell_at (shown_cells (i + b) (drop d t) ss ps) (i + suc k)) column one
    ∙ ap (cell_at (shown_cells (i + 1) ys ss ps)) n
    ∙ byte_cell (i + 1) k ys ss ps a rest (omega arith) (omega arith) cells g

none_past : {X : Type 0} (xs : List X) (k : ℕ) → slice_get xs k ≡ None → length xs ≤ k
none_past [] k g = omega arith
none_past (x ∷ xs) zero g = absurd (cc)
none_past (x ∷ xs) (suc k) g = omega (arith, none_past xs k g)

-- ---- of a list that a text stands for

module _ (cs : List CellValue) (t : List ℕ) (ss : List Shape) (ps : List Attributes) (n : ℕ) (v : cells_from t ss ps ≡ cs) (h : IsClusteredText t ss ps n) where
  pub length-visible : length (visible cs) ≡ length ss
  length-visible = ap length (sym (visible-cells_from cs t ss ps v)) ∙ length-shown 0 t ss ps h.aligned

  bytes-shapes : HasByteCells cs → length t ≡ length ss
  bytes-shapes b = ap length (sym (texts_of-visible cs t ss ps n v h)) ∙ b.bytes ∙ sym b.columns ∙ length-visible

  pub byte_place : (k : ℕ) (a : Attributes) → IsUtf8 t → HasByteCells cs → slice_get ps k ≡ Some a → IsCharBoundary t k × IsCellText (drop k t) 1
  byte_place k a u b g =
      let within : k < length ps = slice_get_within ps k a g in
      let bytes : length t ≡ length ss = bytes-shapes b in
      byte_at k t ss u h.cuts bytes (omega (arith, h.aligned))

  pub byte_visible : (k : ℕ) (a : Attributes) → HasByteCells cs → slice_get ps k ≡ Some a → cell_at (visible cs) k ≡ Some (record { text = take 1 (drop k t); wide = false; attrs = a })
  byte_visible k a b g =
      let columns : length (cells_from t ss ps) ≡ length ss = ap length v ∙ sym b.columns ∙ length-visible in
      let z : k ≡ 0 + k = omega arith in
      ap₂ cell_at (sym (visible-cells_from cs t ss ps v)) z ∙ byte_cell 0 k t ss ps a h.cuts h.aligned (bytes-shapes b) columns g

  pub none_visible : (k : ℕ) → HasByteCells cs → slice_get ps k ≡ None → cell_at (visible cs) k ≡ None
  none_visible k b g =
      let past : length ps ≤ k = none_past ps k g in
      cell_at-past cs k (omega (arith, b.columns, length-visible, h.aligned))
