-- Two steps that may fail, of which the second one comes where the first one succeeds.
use Rattle.std.specs.Prelude.{◌⊎◌, Result, Ok, Err}

-- both succeed; or the first one fails, and what the second one is for stays; or the second one
-- fails after it
abbrev pub InTurn :
    {E : Type 0} → (Result (Unit {0}) E → Type 0) → Type 0 → (Result (Unit {0}) E → Type 0) →
    Result (Unit {0}) E → Type 0
InTurn First Stays Second (Ok u) = First (Ok u) × Second (Ok u)
InTurn First Stays Second (Err e) = (First (Err e) × Stays) ⊎ (First (Ok tt) × Second (Err e))
