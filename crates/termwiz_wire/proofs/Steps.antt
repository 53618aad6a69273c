-- Steps of a decoding that did not fail.
use Rattle.std.proofs.Common.{◌≡◌, ℕ, ◌^◌, ◌<◌, Bool, true, false, cond, eqb, ltb, ◌&&◌, List, Result, Ok, refl, subst, inl, inr}
use Rattle.std.proofs.lemmas.Bool.{eqb-true, ltb-true}
use Rattle.cbor.specs.Decoding.{◌>>=◌, Stop, ok, allowed, IsBytes, below_at, unsigned_at}
use Rattle.cbor.specs.Encoding.{unsigned}
use Rattle.cbor.proofs.Items.{below_takes, unsigned_takes}
use Rattle.cbor.proofs.Steps.{Takes, bind_ok, guard_ok, guard_ended, chosen, ok_is}
use Rattle.cbor.specs.declared.error.FaultKind.{FaultKind}
use Rattle.cbor.specs.declared.error.FaultKind.TheVariants as faults
use Rattle.termwiz_wire.specs.Cuts.{refused}
use Rattle.termwiz_wire.specs.Decoding.{which_at}

-- which way a chain of tests went
pub picks : {A P : Type 0} (k n : ℕ) (a b : Result A Stop) (x : A) → cond (eqb k n) a b ≡ Ok x → (k ≡ n → a ≡ Ok x → P) → (b ≡ Ok x → P) → P
picks k n a b x e here there = elim (chosen (eqb k n) a b (Ok x) e) [ inl p ↦ here (eqb-true k n p.0) p.1 | inr p ↦ there p.1 ]

-- a step whose value is put into a larger one
pub mapped : {V W : Type 0} (r : Result (V × List ℕ) Stop) (f : V → W) (x : W × List ℕ) → (r >>= λ v. ok (f v.0) v.1) ≡ Ok x → (v : V × List ℕ) × (r ≡ Ok v) × ((f v.0, v.1) ≡ x)
mapped {V = V} {W = W} r f x e =
    let a = bind_ok r _ x e in
    (a.0, a.1, ok_is {A = W × List ℕ} (f a.0.0, a.0.1) x a.2)

pub both : (a b : Bool) → (a && b) ≡ true → (a ≡ true) × (b ≡ true)
both true b e = (refl, e)
both false b e = absurd cc

pub number_takes : (room limit : ℕ) (bytes : List ℕ) (x : ℕ × List ℕ) → IsBytes bytes → below_at room limit bytes ≡ Ok x → Takes bytes (unsigned x.0) x.1 × (x.0 < limit)
number_takes room limit bytes x fits e = below_takes room limit bytes x fits e

-- the stop of an item that begins here
abbrev pub stopped : FaultKind → ℕ → List ℕ → Stop
stopped f room bytes = record { fault = f; left = allowed room bytes }

-- one of a given number of kinds
pub which_takes : (room limit : ℕ) (bytes : List ℕ) (x : ℕ × List ℕ) → IsBytes bytes → which_at room limit bytes ≡ Ok x → Takes bytes (unsigned x.0) x.1 × (x.0 < limit)
unfolding which_at
which_takes room limit bytes x fits e =
    let a = bind_ok (unsigned_at room bytes) _ x e in
    let g = guard_ended (ltb a.0.0 limit) (stopped faults.Type room bytes) a.0 x a.2 in
    let t = unsigned_takes room bytes a.0 fits a.1 in
    subst (λ (y : ℕ × List ℕ). Takes bytes (unsigned y.0) y.1 × (y.0 < limit)) g.1 (t.0, ltb-true _ _ g.0)

-- a number that a test lets pass
pub kept_takes : (room : ℕ) (rule : ℕ → Bool) (f : FaultKind) (bytes : List ℕ) (x : ℕ × List ℕ) → IsBytes bytes → (unsigned_at room bytes >>= λ n. cond (rule n.0) (Ok n) (refused f room bytes)) ≡ Ok x → Takes bytes (unsigned x.0) x.1 × (x.0 < 2 ^ 64) × (rule x.0 ≡ true)
kept_takes room rule f bytes x fits e =
    let a = bind_ok (unsigned_at room bytes) _ x e in
    let g = guard_ended (rule a.0.0) (stopped f room bytes) a.0 x a.2 in
    let t = unsigned_takes room bytes a.0 fits a.1 in
    subst (λ (y : ℕ × List ℕ). Takes bytes (unsigned y.0) y.1 × (y.0 < 2 ^ 64) × (rule y.0 ≡ true)) g.1 (t.0, t.1, g.0)

-- a number that a test doesn't stop
pub let_takes : (room : ℕ) (rule : ℕ → Bool) (f : FaultKind) (bytes : List ℕ) (x : ℕ × List ℕ) → IsBytes bytes → (unsigned_at room bytes >>= λ n. cond (rule n.0) (refused f room bytes) (Ok n)) ≡ Ok x → Takes bytes (unsigned x.0) x.1 × (x.0 < 2 ^ 64) × (rule x.0 ≡ false)
let_takes room rule f bytes x fits e =
    let a = bind_ok (unsigned_at room bytes) _ x e in
    let g = guard_ok (rule a.0.0) (stopped f room bytes) a.0 x a.2 in
    let t = unsigned_takes room bytes a.0 fits a.1 in
    subst (λ (y : ℕ × List ℕ). Takes bytes (unsigned y.0) y.1 × (y.0 < 2 ^ 64) × (rule y.0 ≡ false)) g.1 (t.0, t.1, g.0)
