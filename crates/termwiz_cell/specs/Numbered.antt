-- The variants of an enum, which have the numbers from 0 on.
use Rattle.std.specs.Prelude.{◌≡◌, ℕ, ◌<◌, Result, OkIff, IfErr}
use Rattle.termwiz_cell.specs.declared.cell.style.UnknownNumber.{UnknownNumber}

-- the result is the variant of a number below the limit, or a fault that holds the number
abbrev pub IsNumbered : {A : Type 0} → ℕ → (ℕ → A) → ℕ → Result A UnknownNumber → Type 0
IsNumbered limit at n r = OkIff r (n < limit) (at n) × IfErr r (λ e. e.0 ≡ n)
