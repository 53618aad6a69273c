-- The words that give a surface's size: a width and a height, each a number from 1 to 1000.
use Rattle.std.specs.Prelude.{◌≡◌, ℕ, List, [], ◌∷◌, ◌≤◌, String, string_bytes}
use Rattle.sessions.specs.Number.{IsNumber, value_of}

pub record IsSize (word : List ℕ) : Type 0 where
  pub number : IsNumber word
  pub low : 1 ≤ value_of word
  pub high : value_of word ≤ 1000

abbrev pub AreSizes : {A : Type 0} → List (String A) → Type 0
AreSizes (width ∷ height ∷ []) = IsSize (string_bytes width) × IsSize (string_bytes height)
AreSizes _ = ⊥

-- the words give this width and this height
abbrev pub GiveSizes : {A : Type 0} → List (String A) → ℕ → ℕ → Type 0
GiveSizes (width ∷ height ∷ []) w h =
    IsSize (string_bytes width) × IsSize (string_bytes height) ×
    (w ≡ value_of (string_bytes width)) × (h ≡ value_of (string_bytes height))
GiveSizes _ w h = ⊥
