-- The first elements of a list, one by one.
use Rattle.std.proofs.Common.{◌≡◌, ◌≢◌, ℕ, ◌-◌, List, ◌∷◌, [], take, zero, suc, arith, refl}

pub take_one : {A : Type 0} (n : ℕ) (xs ys : List A) (x : A) → n ≢ 0 → xs ≡ x ∷ ys → take n xs ≡ x ∷ take (n - 1) ys
take_one zero xs ys x n e = absurd (n refl)
take_one (suc n) xs ys x h e = let m : suc n - 1 ≡ n = omega arith in rw (e, m) refl

pub take_nil : {A : Type 0} (n : ℕ) → let e : List A = [] in take n e ≡ e
take_nil zero = refl
take_nil (suc n) = refl
