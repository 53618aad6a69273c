-- The last of a list of changes.
use Rattle.std.proofs.Common.{◌≡◌, suc, ◌-◌, Bool, false, List, [], ◌∷◌, ◌++◌, map, length, Some, None, arith, refl, sym, ap, ◌∙◌}
use Rattle.std.specs.Prelude.{slice_get}
use Rattle.termwiz_cell.specs.ChangeValue.{ChangeValue}
use Rattle.termwiz_line.specs.LastChange.{last_is}

-- one more at the end
pub last_pushed : (test : ChangeValue → Bool) (es : List ChangeValue) (e : ChangeValue) → last_is test (es ++ e ∷ []) ≡ test e
last_pushed test [] e = refl
last_pushed test (f ∷ []) e = refl
last_pushed test (f ∷ (g ∷ es)) e = last_pushed test (g ∷ es) e

-- the last of a list that is seen by a function
pub last_of : {X : Type 0} (test : ChangeValue → Bool) (f : X → ChangeValue) (xs : List X) (x : X) → slice_get xs (length xs - 1) ≡ Some x → last_is test (map f xs) ≡ test (f x)
last_of test f [] x e = absurd cc
last_of test f (y ∷ []) x e = let same : y ≡ x = cc in ap (λ z. test (f z)) same
last_of test f (y ∷ (z ∷ ys)) x e =
    let less : length (y ∷ (z ∷ ys)) - 1 ≡ suc (length (z ∷ ys) - 1) = omega arith in
    last_of test f (z ∷ ys) x (ap (slice_get (y ∷ (z ∷ ys))) (sym less) ∙ e)

pub last_of_none : {X : Type 0} (test : ChangeValue → Bool) (f : X → ChangeValue) (xs : List X) → slice_get xs (length xs - 1) ≡ None → last_is test (map f xs) ≡ false
last_of_none test f [] e = refl
last_of_none test f (y ∷ []) e = absurd cc
last_of_none test f (y ∷ (z ∷ ys)) e =
    let less : length (y ∷ (z ∷ ys)) - 1 ≡ suc (length (z ∷ ys) - 1) = omega arith in
    last_of_none test f (z ∷ ys) (ap (slice_get (y ∷ (z ∷ ys))) (sym less) ∙ e)
