-- What a new buffered reader has to come.
use Rattle.std.proofs.Common.{◌≡◌, ℕ, ◌∙◌, List, [], ◌∷◌, ◌++◌, refl, ap}
use Rattle.std.specs.Prelude.{Option, None, Some, Result, Ok, Err, IfErr, OnOk, ◌==◌, if◌then◌else◌}
use Rattle.std.specs.Io.Buffered.{reader_buffer, reader_capacity, reader_inner, reader_remaining}
use Rattle.std.specs.Io.KnownBytes.{prepend_known}
use Rattle.std.specs.declared.io.buffered.BufReader.{BufReader}

prepend_none : (known : Option (List ℕ)) → prepend_known [] known ≡ known
prepend_none None = refl
prepend_none (Some bytes) = refl

-- a new reader has all that is left of what it reads
pub fresh : {T A : Type 0} (remaining : T → Option (List ℕ)) (reader : BufReader T A) (known : Option (List ℕ)) → remaining (reader_inner reader) ≡ known → reader_buffer reader ≡ [] → reader_capacity reader ≡ 8192 → reader_remaining remaining reader ≡ known
fresh remaining reader known is empty capacity =
    ap (λ (n : ℕ). if n == 0 then None else prepend_known (reader_buffer reader) (remaining (reader_inner reader))) capacity
    ∙ ap (λ (bytes : List ℕ). prepend_known bytes (remaining (reader_inner reader))) empty
    ∙ prepend_none (remaining (reader_inner reader))
    ∙ is

pub on_ok : {T E : Type 0} (result : Result T E) (P Q : Type 0) → (P → Q) → OnOk result P → OnOk result Q
on_ok (Ok x) P Q law p = law p
on_ok (Err e) P Q law p = tt

pub on_err : {T E : Type 0} (result : Result T E) (P Q : E → Type 0) → ((error : E) → P error → Q error) → IfErr result P → IfErr result Q
on_err (Ok x) P Q law p = tt
on_err (Err e) P Q law p = law e p

-- whatever the error is
pub any_err : {T E : Type 0} (result : Result T E) (P : E → Type 0) → ((error : E) → P error) → IfErr result P
any_err (Ok x) P law = tt
any_err (Err e) P law = law e
