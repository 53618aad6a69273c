-- What a word of a script writes as a number: 1 to 10 decimal digits, whose value fits 32 bits.
use Rattle.std.specs.Prelude.{ℕ, List, length, ◌≤◌, ◌<◌, ◌^◌}
use Rattle.std.specs.Str.Parse.{IsNumeral, digits_value}

-- the value of decimal digits
abbrev pub value_of : List ℕ → ℕ
value_of word = digits_value 10 word

pub record IsNumber (word : List ℕ) : Type 0 where
  pub numeral : IsNumeral 10 word
  pub short : length word ≤ 10
  pub fits : value_of word < 2 ^ 32
