-- The words of a line.
use Rattle.std.specs.Prelude.{ℕ, Bool, not, bytes_eq, List, [], ◌∷◌}

-- a cell belongs to a word unless its text is a space
abbrev pub is_in_word : List ℕ → Bool
is_in_word text = not (bytes_eq text (32 ∷ []))
