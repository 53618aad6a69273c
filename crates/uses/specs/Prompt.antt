-- The changes of a prompt.
use Rattle.std.specs.Prelude.{◌≡◌, ◌⊎◌, ℕ, pos, List, [], ◌∷◌, Err}
use Rattle.termwiz_surface.specs.ChangeValue as change
use Rattle.termwiz_surface.specs.{ChangeValue, SequenceValue, added, all_added, move_by}
use Rattle.termwiz_cell.specs.Sequence.{MovesTo, StopsAt}
use Rattle.termwiz_cell.specs.declared.change.sequence.SequenceError.{SequenceError}
use Rattle.termwiz_cell.specs.declared.change.sequence.SequenceError.TheVariants.{Memory}

-- a line, and a hint in the row below it
abbrev pub prompt_texts : List ℕ → List ℕ → List ChangeValue
prompt_texts line hint = change.Text line ∷ change.Text (13 ∷ 10 ∷ []) ∷ change.Text hint ∷ []

module _ {W : Type 0} (measure : List ℕ → ℕ) (old : SequenceValue W) (line hint : List ℕ) where
  abbrev pub with_hint : SequenceValue W
  with_hint = all_added measure old (prompt_texts line hint)

  -- both texts, and the move to a column of the row where the sequence began
  abbrev pub prompted : ℕ → SequenceValue W
  prompted column = added measure with_hint (move_by with_hint (column, pos 0))

  -- there is no memory for the texts; or one of them is refused, or the move after them
  abbrev pub FailsToPrompt : ℕ → SequenceError → SequenceValue W → Type 0
  FailsToPrompt column error new =
      ((error ≡ Memory) × (new ≡ old))
      ⊎ StopsAt measure old (prompt_texts line hint) error new
      ⊎ MovesTo measure with_hint (column, pos 0) (Err error) new
