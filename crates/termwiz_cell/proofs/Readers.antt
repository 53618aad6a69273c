-- What follows of a reader's answer.
use Rattle.std.proofs.Common.{Option, Some, None, IsNone, ◌↔◌, refl}
use Rattle.termwiz_cell.specs.Reads.{Reads}

-- there is nothing to read
pub Reads-nothing : {T : Type 0} {P : T → Type 0} → ((v : T) → ¬ P v) → Reads None P
Reads-nothing never = record { found = tt; only = λ v h. absurd (never v h) }

-- a reader that found nothing had nothing to find
pub nothing_right : {T : Type 0} {P : T → Type 0} → Reads None P → (v : T) → ¬ P v
nothing_right r v h = let e = r.only v h in cc

-- where a reader answers None
pub IsNone-reads : {T : Type 0} {P : T → Type 0} (result : Option T) → Reads result P → IsNone result ↔ ((v : T) → ¬ P v)
IsNone-reads None r = ((λ _ v h. nothing_right r v h), (λ _. refl))
IsNone-reads (Some x) r = ((λ e. cc), (λ never. absurd (never x r.found)))

-- a reader of the same facts in other words
pub Reads-same : {T : Type 0} {P Q : T → Type 0} (result : Option T) → ((v : T) → P v → Q v) → ((v : T) → Q v → P v) → Reads result P → Reads result Q
Reads-same None there back r = record { found = tt; only = λ v h. r.only v (back v h) }
Reads-same (Some x) there back r = record { found = there x r.found; only = λ v h. r.only v (back v h) }
