-- A row needs no more room than its stored cells and the blanks after them do.
use Rattle.std.proofs.Common.{◌≡◌, ℕ, zero, suc, ◌+◌, ◌-◌, ◌≤◌, List, [], ◌∷◌, ◌++◌, length, arith, inl, inr, refl, ap, Option, Some, None}
use Rattle.std.proofs.lemmas.Bool.{cases_Bool}
use Rattle.std.proofs.lemmas.Grind.{flat_map-append}
use Rattle.std.proofs.lemmas.List.{length-append}
use Rattle.termwiz_cell.specs.Attributes.{Attributes}
use Rattle.termwiz_cell.specs.CellValue.{CellValue, columns}
use Rattle.termwiz_storage.specs.CellTexts.{cell_texts, texts_of}
use Rattle.termwiz_storage.specs.Stored.{visible, visible_from}
use Rattle.termwiz_storage.specs.VisibleCell.{VisibleCell}
use Rattle.tikeburo_c.specs.Rows.{begins, begun, blanks_at, row_value, runs_of}
use Rattle.tikeburo_c.proofs.RowParts.{cells_count}
use Rattle.tikeburo_c.proofs.ShownRow.{are_few}

-- a cell begins a run at most
begun_few : (before : Option Attributes) (a : Attributes) → length (begun before a) ≤ 1
begun_few before a = elim (cases_Bool (begins before a)) [
  | inl t ↦ rw t (omega arith)
  | inr f ↦ rw f (omega arith)
]

runs_few : (before : Option Attributes) (ps : List VisibleCell) → length (runs_of before ps) ≤ length ps
runs_few before [] = omega arith
runs_few before (p ∷ ps) = omega (arith, length-append (begun before p.cell.attrs) (runs_of (Some p.cell.attrs) ps), begun_few before p.cell.attrs, runs_few (Some p.cell.attrs) ps)

-- the texts of hidden cells count too
texts_few : (i skip : ℕ) (cs : List CellValue) → length (texts_of (visible_from i skip cs)) ≤ length (cell_texts cs)
texts_few i skip [] = omega arith
texts_few i zero (c ∷ cs) = omega (arith, length-append c.text (texts_of (visible_from (i + 1) (columns c - 1) cs)), length-append c.text (cell_texts cs), texts_few (i + 1) (columns c - 1) cs)
texts_few i (suc k) (c ∷ cs) = omega (arith, length-append c.text (cell_texts cs), texts_few (i + 1) k cs)

blank_texts : (x n : ℕ) → length (texts_of (blanks_at x n)) ≡ n
blank_texts x zero = refl
blank_texts x (suc n) = ap suc (blank_texts (suc x) n)

module _ (cs : List CellValue) (n : ℕ) where
  abbrev shown : List VisibleCell
  shown = visible cs ++ blanks_at (length cs) n

  pub needs_cells : (room : ℕ) → length cs + n ≤ room → length (row_value shown).cells ≤ room
  needs_cells room l = omega (arith, cells_count 0 0 None shown, are_few cs (length cs) n, l)

  pub needs_attributes : (room : ℕ) → length cs + n ≤ room → length (row_value shown).attributes ≤ room
  needs_attributes room l = omega (arith, runs_few None shown, are_few cs (length cs) n, l)

  pub needs_text : (room : ℕ) → n ≤ room → length (cell_texts cs) ≤ room - n → length (row_value shown).text ≤ room
  needs_text room l m =
      let apart : length (texts_of shown) ≡ length (texts_of (visible cs) ++ texts_of (blanks_at (length cs) n)) = ap length (flat_map-append (λ (p : VisibleCell). p.cell.text) (visible cs) (blanks_at (length cs) n)) in
      omega (arith, apart, length-append (texts_of (visible cs)) (texts_of (blanks_at (length cs) n)), blank_texts (length cs) n, texts_few 0 0 cs, l, m)
