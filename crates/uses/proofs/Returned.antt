-- What the exit of a `?` returns.
use Rattle.std.proofs.Common.{◌≡◌, sym, ap, subst, ◌∙◌}
use Rattle.std.specs.Prelude.{Result, Err, IsErrAnd}
use Rattle.std.proofs.lemmas.Result.{err_from_is_err_and}

-- what holds of this error holds of what is returned
pub returned : {T E : Type 0} (P : Result T E → Type 0) (e : E) (r : Result T E) → IsErrAnd r (λ y. y ≡ e) → P (Err e) → P r
returned P e r is p =
    let told = err_from_is_err_and r is in
    subst P (sym (told.1 ∙ ap (λ y. Err y) told.2)) p
