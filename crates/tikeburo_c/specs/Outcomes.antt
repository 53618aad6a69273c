-- What a call returns: the number of its outcome.
use Rattle.std.specs.Prelude.{◌≡◌, ℕ, ℤ, pos, List, Result, Ok, Err}
use Rattle.cbor.specs.declared.error.FaultKind.{FaultKind}
use Rattle.cbor.specs.declared.error.FaultKind.TheVariants as faults
use Rattle.termwiz_surface.specs.declared.surface.SurfaceError.{SurfaceError}
use Rattle.termwiz_surface.specs.declared.surface.SurfaceError.TheVariants as changing
use Rattle.termwiz_wire.specs.declared.fault.Fault.{Fault}
use Rattle.termwiz_wire.specs.declared.fault.WireError.{WireError}
use Rattle.termwiz_wire.specs.declared.fault.WireError.TheVariants as decoding
use Rattle.tikeburo_c.specs.declared.failure.Failure.{Failure}
use Rattle.tikeburo_c.specs.declared.failure.Failure.TheVariants.{Memory, Unreadable, Truncated, Region, Numbers, NoHandle, WrongKind, Range, Short, OtherWidths}

-- what a call came to
abbrev pub Outcome : Type 0
Outcome = Result (Unit {0}) Failure

-- the numbers of the header
abbrev pub status_of : Outcome → ℤ
status_of (Ok _) = pos 0
status_of (Err Memory) = pos 1
status_of (Err Unreadable) = pos 2
status_of (Err Truncated) = pos 3
status_of (Err Region) = pos 4
status_of (Err Numbers) = pos 5
status_of (Err NoHandle) = pos 6
status_of (Err WrongKind) = pos 7
status_of (Err Range) = pos 8
status_of (Err Short) = pos 9
status_of (Err OtherWidths) = pos 10

-- the number is that of an outcome of which this holds
abbrev pub Reports : ℤ → (Outcome → Type 0) → Type 0
Reports number P = (outcome : Outcome) × (number ≡ status_of outcome) × P outcome

-- why changes were not made, and why bytes were not decoded
abbrev pub changing_failure : SurfaceError → Failure
changing_failure changing.ScrollRegion = Region
changing_failure changing.Numbers = Numbers
changing_failure changing.Memory = Memory

abbrev pub unread_by : FaultKind → Failure
unread_by faults.Truncated = Truncated
unread_by _ = Unreadable

-- why bytes are no whole value, of which this is decoded: the fault, or bytes after the value
abbrev pub unread_as : {A : Type 0} → Result (A × List ℕ) Fault → Failure
unread_as (Ok x) = Unreadable
unread_as (Err f) = unread_by f.kind

abbrev pub decoding_failure : WireError → Failure
decoding_failure decoding.Memory = Memory
decoding_failure (decoding.Fault f) = unread_by f.kind

-- what a call of the library came to, whatever it returned
abbrev pub outcome_of : {A E : Type 0} → (E → Failure) → Result A E → Outcome
outcome_of failure (Ok _) = Ok tt
outcome_of failure (Err error) = Err (failure error)
