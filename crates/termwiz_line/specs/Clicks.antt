-- What a double click at a column selects.
use Rattle.std.specs.Prelude.{◌≡◌, ◌≢◌, ℕ, ◌+◌, Bool, true, false, List, [], ◌∷◌, ◌++◌, filter, nat_le}
use Rattle.std.specs.List.{All}
use Rattle.termwiz_storage.specs.Wrapped.{last_index}
use Rattle.termwiz_storage.specs.VisibleCell.{VisibleCell}
use Rattle.termwiz_line.specs.declared.line.line.clicks.DoubleClickRange.{DoubleClickRange}
use Rattle.termwiz_line.specs.declared.line.line.clicks.DoubleClickRange.TheVariants.{Range as Plain, RangeWithWrap}

-- a predicate answers as a test of texts does
abbrev pub AnswersAs : (List ℕ → Bool → Type 0) → (List ℕ → Bool) → Type 0
AnswersAs returns word = (text : List ℕ) (answer : Bool) → returns text answer → answer ≡ word text

abbrev pub IsWord : (List ℕ → Bool) → VisibleCell → Type 0
IsWord word c = word c.cell.text ≡ true

-- the longest beginning whose elements all have P
pub record IsLongestBeginning {A : Type 0} (P : A → Type 0) (xs run : List A) : Type 0 where
  pub rest : List A
  pub whole : xs ≡ run ++ rest
  pub all : All P run
  pub longest : (more others : List A) → rest ≡ more ++ others → more ≢ [] → All P (run ++ more) → ⊥

-- the longest end whose elements all have P
pub record IsLongestEnd {A : Type 0} (P : A → Type 0) (xs run : List A) : Type 0 where
  pub rest : List A
  pub whole : xs ≡ rest ++ run
  pub all : All P run
  pub longest : (others more : List A) → rest ≡ others ++ more → more ≢ [] → All P (more ++ run) → ⊥

-- one past the column at which a run's last cell begins, or c where there is none
abbrev pub end_after : ℕ → List VisibleCell → ℕ
end_after c [] = c
end_after c (x ∷ xs) = last_index (x ∷ xs) + 1

-- the column of a run's first cell, or c where there is none
abbrev pub start_of : ℕ → List VisibleCell → ℕ
start_of c [] = c
start_of c (x ∷ xs) = x.column

-- the visible cells at c or later, and at c or earlier
abbrev pub from_column : ℕ → List VisibleCell → List VisibleCell
from_column c cells = filter (λ p. nat_le c p.column) cells

abbrev pub up_to_column : ℕ → List VisibleCell → List VisibleCell
up_to_column c cells = filter (λ p. nat_le p.column c) cells

-- upper ends the longest run of word cells that starts with the first visible cell at c or later
pub record IsUpper (word : List ℕ → Bool) (cells : List VisibleCell) (c upper : ℕ) : Type 0 where
  pub run : List VisibleCell
  pub is_longest : IsLongestBeginning (IsWord word) (from_column c cells) run
  pub upper_is : upper ≡ end_after c run

-- lower starts the longest run of word cells that ends with the last visible cell at c or earlier
pub record IsLower (word : List ℕ → Bool) (cells : List VisibleCell) (c lower : ℕ) : Type 0 where
  pub run : List VisibleCell
  pub is_longest : IsLongestEnd (IsWord word) (up_to_column c cells) run
  pub lower_is : lower ≡ start_of c run

abbrev pub lower_of : DoubleClickRange → ℕ
lower_of (Plain r) = r.start
lower_of (RangeWithWrap r) = r.start

abbrev pub upper_of : DoubleClickRange → ℕ
upper_of (Plain r) = r.end
upper_of (RangeWithWrap r) = r.end

-- whether the text goes on in the next line
abbrev pub goes_on : DoubleClickRange → Bool
goes_on (Plain r) = false
goes_on (RangeWithWrap r) = true
