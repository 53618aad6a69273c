-- Lists without the dull elements at their ends.
use Rattle.std.specs.Prelude.{◌≡◌, List, [], ◌∷◌, ◌++◌}
use Rattle.std.specs.List.{All}

-- the list up to its last element that isn't dull, or nothing where all are
pub record IsTrimmed {A : Type 0} (IsDull : A → Type 0) (xs kept : List A) : Type 0 where
  pub dropped : List A
  pub whole : kept ++ dropped ≡ xs
  pub dull : All IsDull dropped
  pub counts : (before : List A) (last : A) → kept ≡ before ++ last ∷ [] → IsDull last → ⊥
