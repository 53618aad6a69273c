-- The laws of width values, of each choice.
use Rattle.std.specs.Prelude.{◌≡◌, ◌≤◌, ℕ, List, [], ◌∷◌, refl}
use Rattle.std.proofs.Common.{arith}
use Rattle.termwiz_cell.specs.WidthLaws.{unicode_columns-le, unicode_columns-space}
use Rattle.tikeburo_c.specs.TableLaws.{columns_in-le, columns_in-plain}
use Rattle.tikeburo_c.specs.Widths.{columns_by, columns_of_choice}
use Rattle.tikeburo_c.specs.declared.tables.WidthTable.{WidthTable}
use Rattle.tikeburo_c.specs.declared.widths.Choice.{Choice}
use Rattle.tikeburo_c.specs.declared.widths.Choice.TheVariants.{Unicode, OneColumn, Table}
use Rattle.tikeburo_c.specs.declared.widths.ChosenWidths.{ChosenWidths}

le-of : (choice : Choice WidthTable) (text : List ℕ) → columns_of_choice choice text ≤ 2
le-of Unicode text = unicode_columns-le text
le-of OneColumn text = Prim.grind arith
le-of (Table table) text = columns_in-le table.ranges.now text

pub columns-le : (widths : ChosenWidths) (text : List ℕ) → columns_by widths text ≤ 2
columns-le widths text = le-of widths.choice text

space-of : (choice : Choice WidthTable) → columns_of_choice choice (32 ∷ []) ≡ 1
space-of Unicode = unicode_columns-space
space-of OneColumn = refl
space-of (Table table) = columns_in-plain 32 table.ranges.now table.rises refl

pub columns-space : (widths : ChosenWidths) → columns_by widths (32 ∷ []) ≡ 1
columns-space widths = space-of widths.choice
