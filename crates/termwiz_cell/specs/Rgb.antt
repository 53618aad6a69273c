-- A true colour, as contracts see it.
use Rattle.std.specs.Prelude.{ℕ}

pub record Rgb : Type 0 where
  pub red : ℕ
  pub green : ℕ
  pub blue : ℕ

abbrev pub rgb : ℕ → ℕ → ℕ → Rgb
rgb red green blue = record { red = red; green = green; blue = blue }
