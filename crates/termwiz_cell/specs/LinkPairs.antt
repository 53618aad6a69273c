-- How a params text is read: each part is cut at its first `=`, and its value is put at its key.
use Rattle.std.specs.Prelude.{ℕ, Bool, ◌==◌, List, [], map}
use Rattle.std.specs.BTreeMap.{insert_entry}
use Rattle.std.specs.Cmp.Lexicographic.{slice_cmp}
use Rattle.std.specs.List.{before_first, after_first, fold, list_all, list_any}
use Rattle.std.specs.Ordering.{nat_cmp}
use Rattle.termwiz_cell.specs.LinkText.{equals_sign, params_parts}

-- whether a part has a `=`
abbrev pub has_equals : List ℕ → Bool
has_equals part = list_any (λ b. b == equals_sign) part

-- whether each part of a params text has one
abbrev pub are_pairs : List ℕ → Bool
are_pairs text = list_all has_equals (params_parts text)

-- a part cut at its first `=`
abbrev pub pair_of : List ℕ → List ℕ × List ℕ
pair_of part = (before_first (λ b. b == equals_sign) part, after_first (λ b. b == equals_sign) part)

-- the params with one more pair: an equal key takes the value
abbrev pub with_pair : List (List ℕ × List ℕ) → List ℕ × List ℕ → List (List ℕ × List ℕ)
with_pair params pair = insert_entry (slice_cmp nat_cmp) params pair.0 pair.1

-- the params that pairs make, from the first pair to the last
abbrev pub params_from : List (List ℕ × List ℕ) → List (List ℕ × List ℕ)
params_from pairs = fold with_pair [] pairs

-- the params that a text gives
abbrev pub params_of : List ℕ → List (List ℕ × List ℕ)
params_of text = params_from (map pair_of (params_parts text))
