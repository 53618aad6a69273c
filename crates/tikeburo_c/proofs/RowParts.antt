-- What a walk over a row's cells writes and counts.
use Rattle.std.proofs.Common.{◌≡◌, ℕ, suc, ◌+◌, ◌-◌, ◌≤◌, true, false, not, cond, arith, Option, Some, List, [], ◌∷◌, ◌++◌, length, take, drop, add-one, add-zero, refl, subst, sym, ap, ◌∙◌}
use Rattle.std.proofs.lemmas.List.{take-append-drop}
use Rattle.std.specs.Prelude.{set}
use Rattle.termwiz_cell.specs.Attributes.{Attributes, attributes_eq-Decides}
use Rattle.termwiz_cell.specs.CellValue.{CellValue, plain_cell}
use Rattle.termwiz_storage.specs.CellTexts.{texts_of}
use Rattle.termwiz_storage.specs.PlainCells.{IsPlainFirst}
use Rattle.termwiz_storage.specs.VisibleCell.{VisibleCell, at_column}
use Rattle.tikeburo_c.specs.Fields.{attribute_fields}
use Rattle.tikeburo_c.specs.Rows.{begins, begun, cell_fields_from, overwritten, row_cell, runs_of}
use Rattle.tikeburo_c.specs.declared.fields.AttributeFields.{AttributeFields}
use Rattle.tikeburo_c.specs.declared.row_parts.RowCellFields.{RowCellFields}
use Rattle.tikeburo_c.proofs.Filled.{Fills, fills_more, fills_room, set_overwrites}

pub cells_count : (begin runs : ℕ) (before : Option Attributes) (ps : List VisibleCell) → length (cell_fields_from begin runs before ps) ≡ length ps
cells_count begin runs before [] = refl
cells_count begin runs before (p ∷ ps) =
    ap suc (cells_count (begin + length p.cell.text) (runs + length (begun before p.cell.attrs)) (Some p.cell.attrs) ps)

module _ (before : Option Attributes) (a : Attributes) (at : ℕ) (room : List AttributeFields) where
  pub run_begins : begins before a ≡ true → suc at ≤ length room → set room at (attribute_fields a) ≡ overwritten at (begun before a) room
  run_begins h l = set_overwrites at (attribute_fields a) room l ∙ ap (λ b. overwritten at (cond b (attribute_fields a ∷ []) []) room) (sym h)

  pub run_goes_on : begins before a ≡ false → room ≡ overwritten at (begun before a) room
  run_goes_on h =
      sym (take-append-drop at room) ∙ ap (λ n. take at room ++ drop n room) (sym (add-zero at))
      ∙ ap (λ b. overwritten at (cond b (attribute_fields a ∷ []) []) room) (sym h)

-- one cell on: of what is left the first is this one, with these attributes
module _ (left rest : List VisibleCell) (p : VisibleCell) (first : left ≡ p ∷ rest) (a : Attributes) (own : a ≡ p.cell.attrs) where
  module _ (runs : ℕ) (before : Option Attributes) (all old now : List AttributeFields) (room : length all ≤ length old) (f : Fills runs (runs_of before left) all old now) where
    next_run : Fills runs (begun before a ++ runs_of (Some a) rest) all old now
    next_run = subst (λ xs. Fills runs xs all old now) (ap (runs_of before) first ∙ ap (λ b. begun before b ++ runs_of (Some b) rest) (sym own)) f

    pub run_fits : runs + length (begun before a) ≤ length now
    run_fits = fills_room runs (begun before a) (runs_of (Some a) rest) all old now next_run room

    pub runs_go_on : (n : ℕ) (new : List AttributeFields) → n ≡ runs + length (begun before a) → new ≡ overwritten runs (begun before a) now → Fills n (runs_of (Some a) rest) all old new
    runs_go_on n new count is =
        subst (λ k. Fills k (runs_of (Some a) rest) all old new) (sym count)
        (subst (Fills (runs + length (begun before a)) (runs_of (Some a) rest) all old) (sym is)
        (fills_more runs (begun before a) (runs_of (Some a) rest) all old now next_run room))

  module _ (written end runs : ℕ) (before : Option Attributes) (all old now : List RowCellFields) (room : length all ≤ length old) (f : Fills written (cell_fields_from end runs before left) all old now) (n : ℕ) (count : n ≡ runs + length (begun before a)) where
    next_cell : Fills written (row_cell end (n - 1) p.cell ∷ [] ++ cell_fields_from (end + length p.cell.text) n (Some a) rest) all old now
    next_cell =
        subst (λ xs. Fills written xs all old now)
        (ap (cell_fields_from end runs before) first
        ∙ ap (λ b. row_cell end (runs + length (begun before b) - 1) p.cell ∷ cell_fields_from (end + length p.cell.text) (runs + length (begun before b)) (Some b) rest) (sym own)
        ∙ ap (λ k. row_cell end (k - 1) p.cell ∷ cell_fields_from (end + length p.cell.text) k (Some a) rest) (sym count)) f

    pub cell_fits : written + 1 ≤ length now
    cell_fits = fills_room written (row_cell end (n - 1) p.cell ∷ []) (cell_fields_from (end + length p.cell.text) n (Some a) rest) all old now next_cell room

    pub cells_go_on : (bytes : List ℕ) (x : RowCellFields) (k : ℕ) (new : List RowCellFields) → bytes ≡ p.cell.text → x ≡ row_cell end (n - 1) p.cell → k ≡ written + 1 → new ≡ set now written x → Fills k (cell_fields_from (end + length bytes) n (Some a) rest) all old new
    cells_go_on bytes x k new text is count_is new_is =
        let y : RowCellFields = row_cell end (n - 1) p.cell in
        let after : List RowCellFields = cell_fields_from (end + length p.cell.text) n (Some a) rest in
        let here : suc written ≤ length now = subst (λ m. m ≤ length now) (add-one written) cell_fits in
        let whole : new ≡ overwritten written (y ∷ []) now = new_is ∙ ap (set now written) is ∙ set_overwrites written y now here in
        subst (λ t. Fills k (cell_fields_from (end + length t) n (Some a) rest) all old new) (sym text)
        (subst (λ m. Fills m after all old new) (sym count_is)
        (subst (Fills (written + 1) after all old) (sym whole) (fills_more written (y ∷ []) after all old now next_cell room)))

  module _ (end : ℕ) (bytes : List ℕ) (text : bytes ≡ p.cell.text) (all old now : List ℕ) (room : length all ≤ length old) (f : Fills end (texts_of left) all old now) where
    next_text : Fills end (bytes ++ texts_of rest) all old now
    next_text = subst (λ xs. Fills end xs all old now) (ap texts_of first ∙ ap (λ t. t ++ texts_of rest) (sym text)) f

    pub text_fits : end + length bytes ≤ length now
    text_fits = fills_room end bytes (texts_of rest) all old now next_text room

    pub texts_go_on : (new : List ℕ) → new ≡ overwritten end bytes now → Fills (end + length bytes) (texts_of rest) all old new
    texts_go_on new is = subst (Fills (end + length bytes) (texts_of rest) all old) (sym is) (fills_more end bytes (texts_of rest) all old now next_text room)

-- the cell itself has the attributes of the run
begins_none : (a : Attributes) → begun (Some a) a ≡ []
begins_none a = ap (λ b. cond (not b) (attribute_fields a ∷ []) []) ((attributes_eq-Decides a a).1 refl)

none_begins : (a : Attributes) (n : ℕ) → n ≡ n + length (begun (Some a) a)
none_begins a n = sym (ap (λ (xs : List AttributeFields). n + length xs) (begins_none a) ∙ add-zero n)

-- a plain cell of the run of a cell with these attributes
pub plain_field : (begin run n at byte : ℕ) (c : CellValue) (a : Attributes) (x y : RowCellFields) → x ≡ row_cell begin run c → run ≡ n - 1 → a ≡ c.attrs → y ≡ record x { begin = at; len = 1; columns = 1 } → y ≡ row_cell at (n - 1) (plain_cell byte a)
plain_field begin run n at byte c a x y is is_run own made =
    made ∙ ap (λ (f : RowCellFields). record f { begin = at; len = 1; columns = 1 }) is
    ∙ ap (λ k. row_cell at k (plain_cell byte c.attrs)) is_run
    ∙ ap (λ b. row_cell at (n - 1) (plain_cell byte b)) (sym own)

-- one plain cell on, in a run of these attributes
module _ (a : Attributes) (left rest : List VisibleCell) (byte : ℕ) (plain : IsPlainFirst a left byte rest) where
  abbrev cell : VisibleCell
  cell = at_column plain.column (plain_cell byte a)

  pub plain_run : (runs : ℕ) (all old now : List AttributeFields) → Fills runs (runs_of (Some a) left) all old now → Fills runs (runs_of (Some a) rest) all old now
  plain_run runs all old now f = subst (λ xs. Fills runs xs all old now) (ap (runs_of (Some a)) plain.first ∙ ap (λ xs. xs ++ runs_of (Some a) rest) (begins_none a)) f

  module _ (written count end runs : ℕ) (all old now : List RowCellFields) (room : length all ≤ length old) (f : Fills (written + count) (cell_fields_from (end + count) runs (Some a) left) all old now) where
    pub plain_cell_goes_on : (x : RowCellFields) (new : List RowCellFields) → x ≡ row_cell (end + count) (runs - 1) (plain_cell byte a) → new ≡ set now (written + count) x → Fills (written + (count + 1)) (cell_fields_from (end + (count + 1)) runs (Some a) rest) all old new
    plain_cell_goes_on x new is new_is =
        let next : end + count + 1 ≡ end + (count + 1) = omega arith in
        subst (λ k. Fills (written + (count + 1)) (cell_fields_from k runs (Some a) rest) all old new) next
        (cells_go_on left rest cell plain.first a refl (written + count) (end + count) runs (Some a) all old now room f runs (none_begins a runs) (byte ∷ []) x (written + (count + 1)) new refl is (omega arith) new_is)

  module _ (end count : ℕ) (all old now : List ℕ) (room : length all ≤ length old) (f : Fills (end + count) (texts_of left) all old now) where
    pub plain_text_goes_on : (new : List ℕ) → new ≡ set now (end + count) byte → Fills (end + (count + 1)) (texts_of rest) all old new
    plain_text_goes_on new is =
        let fits : suc (end + count) ≤ length now = subst (λ m. m ≤ length now) (add-one (end + count)) (text_fits left rest cell plain.first a refl (end + count) (byte ∷ []) refl all old now room f) in
        let next : end + count + 1 ≡ end + (count + 1) = omega arith in
        subst (λ k. Fills k (texts_of rest) all old new) next
        (texts_go_on left rest cell plain.first a refl (end + count) (byte ∷ []) refl all old now room f new (is ∙ set_overwrites (end + count) byte now fits))
