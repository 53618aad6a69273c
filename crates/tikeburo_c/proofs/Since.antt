-- What a viewer lacks, whether or not its number is known.
use Rattle.std.proofs.Common.{◌≡◌, ℕ, Bool, true, false, List, Result, Ok, Err, if◌then◌else◌, refl}
use Rattle.std.specs.Prelude.{IfOk, IsOkAnd}
use Rattle.std.specs.declared.alloc.AllocError.{AllocError}
use Rattle.std.specs.declared.alloc.Global.{Global}
use Rattle.std.specs.declared.borrow.CowSlice.{CowSlice}
use Rattle.termwiz_cell.specs.ChangeValue.{ChangeValue}
use Rattle.termwiz_cell.specs.declared.change.Change.{Change}
use Rattle.termwiz_screen.specs.Stream.{Lends, stream_of}

pub by_known : (known : Bool) (due repaint : List ChangeValue) (r : Result (ℕ × CowSlice Change Global) AllocError) → (known ≡ true → IsOkAnd r (λ answer. Lends answer.1 due)) → (known ≡ false → IfOk r (λ answer. stream_of answer.1 ≡ repaint)) → IfOk r (λ answer. stream_of answer.1 ≡ (if known then due else repaint))
by_known true due repaint (Ok answer) is_due is_repaint = (is_due refl).same
by_known false due repaint (Ok answer) is_due is_repaint = is_repaint refl
by_known known due repaint (Err e) is_due is_repaint = tt
