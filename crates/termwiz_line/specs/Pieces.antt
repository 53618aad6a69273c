-- Cuts of a list into longest pieces, from the left.
use Rattle.std.specs.Prelude.{◌≡◌, ◌≢◌, List, [], ◌∷◌, ◌++◌}
use Rattle.std.specs.List.{All}

-- the lists, one after another
abbrev pub joined : {A : Type 0} → List (List A) → List A
joined [] = []
joined (p ∷ ps) = p ++ joined ps

-- p is a piece, and no longer beginning of the list of p and the rest is one
pub record IsLongest {A : Type 0} (IsPiece : List A → Type 0) (p rest : List A) : Type 0 where
  pub some : p ≢ []
  pub piece : IsPiece p
  pub longest : (more others : List A) → rest ≡ more ++ others → more ≢ [] → IsPiece (p ++ more) → ⊥

-- each piece is the longest beginning of what it and the pieces after it join to
pub data AreLongest {A : Type 0} (IsPiece : List A → Type 0) : List (List A) → Type 0 where
  none : AreLongest IsPiece []
  one_more :
      {p : List A} {ps : List (List A)} → IsLongest IsPiece p (joined ps) → AreLongest IsPiece ps →
      AreLongest IsPiece (p ∷ ps)

-- the list is cut, from the left, into the longest pieces
pub record IsCut {A : Type 0} (IsPiece : List A → Type 0) (xs : List A) (ps : List (List A)) :
    Type 0 where
  pub whole : joined ps ≡ xs
  pub longest : AreLongest IsPiece ps

-- f has equal values at the elements
pub record AreEqualBy {A K : Type 0} (f : A → K) (p : List A) : Type 0 where
  pub value : K
  pub all : All (λ x. f x ≡ value) p
