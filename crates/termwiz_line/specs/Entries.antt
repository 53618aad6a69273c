-- Row entries: the changes that print a list of visible cells, from a pen on.
use Rattle.std.specs.Prelude.{ℕ, Bool, true, false, if◌then◌else◌, ◌&&◌, List, [], ◌∷◌, ◌++◌, fold, bytes_eq}
use Rattle.termwiz_storage.specs.VisibleCell.{VisibleCell}
use Rattle.std.specs.Cmp.Lexicographic.{pointwise}
use Rattle.unicode_segmentation.specs.Grapheme.{graphemes}
use Rattle.termwiz_cell.specs.Attributes.{Attributes, default_attributes, attributes_eq, has_only_background}
use Rattle.termwiz_cell.specs.CellValue.{space}
use Rattle.termwiz_cell.specs.ChangeValue as change
use Rattle.termwiz_cell.specs.ChangeValue.{ChangeValue}

-- a text joins the text before it where no grapheme runs over the seam: cut together, they are the
-- graphemes from before, and then the text as one grapheme
abbrev pub joins : List ℕ → List ℕ → Bool
joins before text =
    pointwise bytes_eq (graphemes true (before ++ text)) (graphemes true before ++ text ∷ [])

abbrev pub join : ChangeValue → List ℕ → List ChangeValue
join (change.Text before) text =
    if joins before text then change.Text (before ++ text) ∷ []
    else change.Text before ∷ change.Text text ∷ []
join entry text = entry ∷ change.Text text ∷ []

-- the entries with a text after them
abbrev pub add_text : List ChangeValue → List ℕ → List ChangeValue
add_text [] text = change.Text text ∷ []
add_text (e ∷ []) text = join e text
add_text (e ∷ (f ∷ es)) text = e ∷ add_text (f ∷ es) text

-- entries, and the pen after them
pub record Penned : Type 0 where
  pub entries : List ChangeValue
  pub pen : Attributes

-- a pen, where it is not the one that stands
abbrev pub pen_entry : Attributes → Attributes → List ChangeValue
pen_entry old new = if attributes_eq old new then [] else change.AllAttributes new ∷ []

-- a visible cell is printed
abbrev pub cell_out : Penned → VisibleCell → Penned
cell_out d p =
    record {
      entries = add_text (d.entries ++ pen_entry d.pen p.cell.attrs) p.cell.text;
      pen = p.cell.attrs;
    }

abbrev pub cells_out : Attributes → List VisibleCell → Penned
cells_out pen cells = fold cell_out (record { entries = []; pen = pen }) cells

-- the cell shows one space with these attributes
abbrev pub is_space_of : Attributes → VisibleCell → Bool
is_space_of a p = bytes_eq p.cell.text space && attributes_eq p.cell.attrs a

abbrev pub all_spaces : Attributes → List VisibleCell → Bool
all_spaces a [] = true
all_spaces a (p ∷ ps) = is_space_of a p && all_spaces a ps

-- the cells without the spaces with these attributes at their end
abbrev pub trimmed : Attributes → List VisibleCell → List VisibleCell
trimmed a [] = []
trimmed a (p ∷ ps) = if all_spaces a (p ∷ ps) then [] else p ∷ trimmed a ps

-- the attributes of the last cell, or the pen where there is none
abbrev pub pen_behind : Attributes → List VisibleCell → Attributes
pen_behind a [] = a
pen_behind a (p ∷ ps) = pen_behind p.cell.attrs ps

abbrev pub is_empty : List VisibleCell → Bool
is_empty [] = true
is_empty (p ∷ ps) = false

abbrev pub clear_entry : Attributes → List ChangeValue
clear_entry a =
    if attributes_eq a default_attributes then [] else change.ClearToEndOfLine a.background ∷ []

-- what follows the entries d of the kept cells, where spaces with attributes a were left out after
-- them
abbrev pub with_tail : Penned → List VisibleCell → Attributes → Penned
with_tail d kept a = record {
  entries = (d.entries ++ (if is_empty kept then [] else pen_entry d.pen a)) ++ clear_entry a;
  pen = if is_empty kept && attributes_eq a default_attributes then d.pen else a;
}

-- the last cell is a space whose attributes are default but for the background
abbrev pub ends_plain : List VisibleCell → Bool
ends_plain [] = false
ends_plain (p ∷ []) = is_space_of p.cell.attrs p && has_only_background p.cell.attrs
ends_plain (p ∷ (q ∷ ps)) = ends_plain (q ∷ ps)

-- the changes that print these visible cells from a pen on: a pen for each run of equal attributes,
-- then the run's texts; spaces at the end whose attributes are default but for the background are
-- left out, and the background, where it isn't the default one, is cleared to the end of the line
abbrev pub row_entries : Attributes → List VisibleCell → Penned
row_entries pen cells =
    let a = pen_behind pen cells in
    let kept = trimmed a cells in
    if ends_plain cells then with_tail (cells_out pen kept) kept a else cells_out pen cells
