-- Whether two handles measure by the same widths, and what a call does where they don't.
use Rattle.std.specs.Prelude.{◌≡◌, ◌⊎◌, List}
use Rattle.tikeburo_c.specs.Outcomes.{Outcome}
use Rattle.tikeburo_c.specs.Results.{Refused}
use Rattle.tikeburo_c.specs.declared.failure.Failure.TheVariants.{OtherWidths}
use Rattle.tikeburo_c.specs.declared.tables.WidthRange.{WidthRange}
use Rattle.tikeburo_c.specs.declared.tables.WidthTable.{WidthTable}
use Rattle.tikeburo_c.specs.declared.widths.Choice.{Choice}
use Rattle.tikeburo_c.specs.declared.widths.Choice.TheVariants.{Unicode, OneColumn, Table}
use Rattle.tikeburo_c.specs.declared.widths.ChosenWidths.{ChosenWidths}

-- a choice with the ranges themselves, wherever a table of them lies
abbrev pub choice_value : Choice WidthTable → Choice (List WidthRange)
choice_value Unicode = Unicode
choice_value OneColumn = OneColumn
choice_value (Table table) = Table table.ranges.now

-- they are of one kind, and tables have the same ranges
abbrev pub SameWidths : ChosenWidths → ChosenWidths → Type 0
SameWidths v w = choice_value v.choice ≡ choice_value w.choice

-- this, where the widths of two handles are the same, and a refusal where they aren't
abbrev pub WhereSame :
    {A : Type 0} → ChosenWidths → ChosenWidths → (A → Outcome → A → Type 0) → A → Outcome → A →
    Type 0
WhereSame v w P old outcome new =
    (SameWidths v w × P old outcome new) ⊎
    ((SameWidths v w → ⊥) × Refused OtherWidths old outcome new)
