-- What the lines of a script say: a command each, but for empty lines and comments. Lines end with
-- LF, and what follows the last LF is a line too.
use Rattle.std.specs.Prelude.{◌≡◌, ◌⊎◌, ℕ, ◌<◌, ◌==◌, Bool, true, false, List, [], ◌∷◌, ◌++◌, length}
use Rattle.std.specs.List.{before_first, after_first, position_or_len}

abbrev pub is_newline : ℕ → Bool
is_newline b = b == 10

-- an empty line, or a comment, which begins with `#`
abbrev pub is_skipped : List ℕ → Bool
is_skipped [] = true
is_skipped (b ∷ bs) = b == 35

module _ {C : Type 0} (says : List ℕ → C → Type 0) where
  -- the command that a line says, if it says one
  abbrev pub LineSays : List ℕ → List C → Type 0
  LineSays line commands =
      ((is_skipped line ≡ true) × (commands ≡ [])) ⊎
      ((is_skipped line ≡ false) × ((c : C) × says line c × (commands ≡ c ∷ [])))

  -- the commands of a script
  pub data Say : List ℕ → List C → Type 0 where
    LastLine :
        (script : List ℕ) (commands : List C) → position_or_len is_newline script ≡ length script →
        LineSays script commands → Say script commands
    FirstLine :
        (script : List ℕ) (commands more : List C) →
        position_or_len is_newline script < length script →
        LineSays (before_first is_newline script) commands →
        Say (after_first is_newline script) more → Say script (commands ++ more)

  -- the commands of some lines at the front of a script
  pub data SayFirst : List ℕ → List C → Type 0 where
    NoMore : (script : List ℕ) → SayFirst script []
    OneMore :
        (script : List ℕ) (commands more : List C) →
        LineSays (before_first is_newline script) commands →
        SayFirst (after_first is_newline script) more → SayFirst script (commands ++ more)
