-- What a call makes of what a handle has by an action that it is passed.
use Rattle.std.specs.Prelude.{◌≡◌, ℕ, Ok, List}
use Rattle.std.specs.Borrow.{Bor, MutBor}
use Rattle.std.specs.Fn.{Once}
use Rattle.termwiz_surface.specs.Surface.{SurfaceValue}
use Rattle.tikeburo_c.specs.Outcomes.{Outcome}
use Rattle.tikeburo_c.specs.Results.{Buffer}
use Rattle.tikeburo_c.specs.declared.widths.ChosenWidths.{ChosenWidths}

-- the call computed a value of which this holds
abbrev pub Computes :
    {B : Type 0} → (SurfaceValue ChosenWidths → B → Type 0) → SurfaceValue ChosenWidths → B →
    Outcome → B → Type 0
Computes P s old outcome new = (outcome ≡ Ok tt) × P s new

-- references to a buffer's bytes and to its length
abbrev pub BufferRefs : Type 0
BufferRefs = MutBor (List ℕ) × (MutBor ℕ × Unit {0})

-- a call of f, at a reference to s and at the buffer, may come to this
pub record FillsBy {F : Type 0}
    (g : Once F (Bor (SurfaceValue ChosenWidths) × BufferRefs) (Outcome × BufferRefs)) (f : F)
    (s : SurfaceValue ChosenWidths) (old : Buffer) (outcome : Outcome) (new : Buffer) : Type 0 where
  pub shown : Bor (SurfaceValue ChosenWidths)
  pub taken : BufferRefs
  pub left : BufferRefs
  pub shows : shown.now ≡ s
  pub takes : (taken.0.now ≡ old.0) × (taken.1.0.now ≡ old.1)
  pub met : g.post f (shown, taken) (outcome, left)
  pub leaves : (left.0.now ≡ new.0) × (left.1.0.now ≡ new.1)
