-- What is read of texts: how they are cut and measured.
use Rattle.std.specs.Borrow.{Bor}
use Rattle.std.specs.Prelude.{ℕ, true, List, [], ◌∷◌, Option, Some, None, Result, Ok, Err, length}
use Rattle.termwiz_cell.specs.Width.{columns_of}
use Rattle.termwiz_text.specs.{graphemes}
use Rattle.tikeburo_c.specs.Lists.{readable_text}
use Rattle.tikeburo_c.specs.Outcomes.{Outcome}
use Rattle.tikeburo_c.specs.Results.{Refused, Returns}
use Rattle.tikeburo_c.specs.Widths.{AreBy, columns_by}
use Rattle.tikeburo_c.specs.declared.failure.Failure.{Failure}
use Rattle.tikeburo_c.specs.declared.failure.Failure.TheVariants.{Range}
use Rattle.tikeburo_c.specs.declared.tables.WidthRange.{WidthRange}
use Rattle.tikeburo_c.specs.declared.widths.ChosenWidths.{ChosenWidths}

-- the call returned this value of the text that the bytes are, if they are one
abbrev pub ReadsText : {B : Type 0} → (List ℕ → B) → List ℕ → B → Outcome → B → Type 0
ReadsText {B} read bytes = of_text (readable_text bytes)
  where
    of_text : Result (List ℕ) Failure → B → Outcome → B → Type 0
    of_text (Ok text) = Returns (read text)
    of_text (Err failure) = Refused failure

-- the columns of the text's graphemes together, by the choice of widths, where there is one
abbrev pub MeasuresText : Option ChosenWidths → List ℕ → ℕ → Outcome → ℕ → Type 0
MeasuresText (Some widths) bytes = ReadsText (columns_of (columns_by widths)) bytes
MeasuresText None bytes = Refused Range

-- the columns of the text's graphemes together, by a table of widths, if the ranges are one
abbrev pub MeasuresTextBy : Bor (List WidthRange) → List ℕ → ℕ → Outcome → ℕ → Type 0
MeasuresTextBy ranges bytes old outcome new =
    (widths : Option ChosenWidths) × AreBy ranges widths × MeasuresText widths bytes old outcome new

-- how many bytes the first grapheme of a text has: none where the text is empty
abbrev pub first_length : List ℕ → ℕ
first_length text = of_first (graphemes true text)
  where
    of_first : List (List ℕ) → ℕ
    of_first (first ∷ others) = length first
    of_first [] = 0
