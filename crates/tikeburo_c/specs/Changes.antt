-- What adding changes makes of a surface.
use Rattle.std.specs.Prelude.{◌≡◌, ◌⊎◌, ℕ, Bool, true, false, Result, Ok, Err, List, map}
use Rattle.std.specs.declared.alloc.Global.{Global}
use Rattle.std.specs.declared.vec.Vec.{Vec}
use Rattle.termwiz_cell.specs.ChangeValue.{ChangeValue, change_value}
use Rattle.termwiz_cell.specs.declared.change.Change.{Change}
use Rattle.termwiz_share.specs.Serving.{PreservesServing}
use Rattle.termwiz_share.specs.Source.{SourceValue, trimmed_surface}
use Rattle.termwiz_surface.specs.Adding.{Adds}
use Rattle.termwiz_surface.specs.Surface.{SurfaceValue}
use Rattle.termwiz_surface.specs.Unlogged.{AddsUnlogged}
use Rattle.termwiz_surface.specs.declared.surface.SurfaceError.{SurfaceError}
use Rattle.termwiz_wire.specs.Answers.{changes_at}
use Rattle.termwiz_wire.specs.Encoding.{changes}
use Rattle.termwiz_wire.specs.Forms.{AreChanges}
use Rattle.tikeburo_c.specs.Outcomes.{Outcome, outcome_of, changing_failure, unread_as}
use Rattle.tikeburo_c.specs.Results.{OrNoMemory, Refused}
use Rattle.tikeburo_c.specs.Widths.{columns_by}
use Rattle.tikeburo_c.specs.declared.failure.Failure.{Failure}
use Rattle.tikeburo_c.specs.declared.failure.Failure.TheVariants.{Memory}
use Rattle.tikeburo_c.specs.declared.widths.ChosenWidths.{ChosenWidths}

-- a surface adds a list of changes, and logs it or not
abbrev pub AddsAs :
    Bool → (List ℕ → ℕ) → SurfaceValue ChosenWidths → List ChangeValue → ℕ → Result ℕ SurfaceError →
    SurfaceValue ChosenWidths → Type 0
AddsAs true = Adds
AddsAs false = AddsUnlogged

-- the list of changes is added as the library adds it, whatever number that returns
abbrev pub AddsChanges :
    Bool → List ChangeValue → SourceValue ChosenWidths → Outcome → SourceValue ChosenWidths → Type 0
AddsChanges is_logged changes old outcome new =
    (number : ℕ) × (added : Result ℕ SurfaceError) × (outcome ≡ outcome_of changing_failure added) ×
    AddsAs is_logged (columns_by old.surface.widths) (trimmed_surface old.surface) changes number
    added new.surface ×
    PreservesServing columns_by old new

-- the one list that the bytes encode, with nothing after it
abbrev pub IsOnlyList : (List ℕ → ℕ) → List ℕ → Result (Vec Change Global) Failure → Type 0
IsOnlyList measure bytes (Ok x) =
    (bytes ≡ changes measure (map change_value x.items)) ×
    ((cs : List ChangeValue) → AreChanges measure cs → bytes ≡ changes measure cs →
    map change_value x.items ≡ cs)
IsOnlyList measure bytes (Err failure) =
    (failure ≡ Memory) ⊎
    ((failure ≡ unread_as (changes_at measure bytes)) ×
    ((cs : List ChangeValue) → AreChanges measure cs → bytes ≡ changes measure cs → ⊥))

-- some list of changes that the bytes encode is added
abbrev pub AddsEncoded :
    List ℕ → SourceValue ChosenWidths → Outcome → SourceValue ChosenWidths → Type 0
AddsEncoded bytes old outcome new =
    (cs : List ChangeValue) × (bytes ≡ changes (columns_by old.surface.widths) cs) ×
    AddsChanges true cs old outcome new

-- the one list of changes that the bytes encode, by how the surface measures, is added, unless
-- memory for it was refused
pub record AddsBytes (bytes : List ℕ) (old : SourceValue ChosenWidths) (outcome : Outcome)
    (new : SourceValue ChosenWidths) : Type 0 where
  pub adds :
      (cs : List ChangeValue) → AreChanges (columns_by old.surface.widths) cs →
      bytes ≡ changes (columns_by old.surface.widths) cs →
      OrNoMemory (AddsChanges true cs) old outcome new
  -- whatever the bytes are, they are refused by what is wrong with them, or encode a list that is
  -- added
  pub others :
      Refused (unread_as (changes_at (columns_by old.surface.widths) bytes)) old outcome new ⊎
      OrNoMemory (AddsEncoded bytes) old outcome new
