-- A text at the end of entries that may still grow.
use Rattle.std.specs.Prelude.{◌≡◌, ℕ, Bool, false, if◌then◌else◌, List, [], ◌∷◌, ◌++◌, Option, Some, None}
use Rattle.termwiz_text.specs.Plain.{is_plain_last}
use Rattle.termwiz_cell.specs.declared.change.Change.{Change}
use Rattle.termwiz_cell.specs.ChangeValue as change
use Rattle.termwiz_cell.specs.ChangeValue.{ChangeValue, change_value}
use Rattle.termwiz_line.specs.LastChange.{last_is}

-- the entries, and the text after them while it grows
abbrev pub with_text : List ChangeValue → Bool → List ℕ → List ChangeValue
with_text es grows text = if grows then es ++ change.Text text ∷ [] else es

-- a text whose last byte is printable ASCII
abbrev pub ends_printable : ChangeValue → Bool
ends_printable (change.Text text) = is_plain_last text
ends_printable _ = false

-- the last of the entries, or nothing where there is none or it is a text
abbrev pub IsLastOf : List ChangeValue → Option Change → Type 0
IsLastOf es None =
    (test : ChangeValue → Bool) → ((text : List ℕ) → test (change.Text text) ≡ false) →
    last_is test es ≡ false
IsLastOf es (Some e) = (test : ChangeValue → Bool) → last_is test es ≡ test (change_value e)
