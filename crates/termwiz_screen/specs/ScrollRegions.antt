-- Scrolling a region of a list: its rows, their lengths or their flags.
use Rattle.std.specs.Prelude.{ℕ, ◌+◌, ◌-◌, min, List, ◌++◌, take, drop, replicate, reverse}

module _ {X : Type 0} (xs : List X) (a n : ℕ) where
  -- n elements from a on
  abbrev pub region : List X
  region = take n (drop a xs)

  -- xs with others in the place of those
  abbrev pub with_region : List X → List X
  with_region ys = take a xs ++ (ys ++ drop (a + n) xs)

  -- the region in the opposite order
  abbrev pub region_reversed : List X
  region_reversed = with_region (reverse region)

  -- the first k elements of the region come after its others
  abbrev pub region_turned : ℕ → List X
  region_turned k = with_region (drop k region ++ take k region)

module _ {X : Type 0} (d : X) (xs : List X) (a n k : ℕ) where
  -- the region without its first k elements, and as many default ones after the others
  abbrev pub region_up : List X
  region_up = with_region xs a n (drop (min k n) (region xs a n) ++ replicate (min k n) d)

  -- the region without its last k elements, and as many default ones before the others
  abbrev pub region_down : List X
  region_down = with_region xs a n (replicate (min k n) d ++ take (n - min k n) (region xs a n))
