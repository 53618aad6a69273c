-- Each change takes some byte.
use Rattle.std.proofs.Common.{◌≡◌, ℕ, ◌+◌, ◌*◌, ◌<◌, ◌≤◌, List, [], ◌∷◌, ◌++◌, length, ap, ◌∙◌, arith}
use Rattle.std.specs.List.{flat_map}
use Rattle.std.proofs.lemmas.List.{length-append}
use Rattle.std.proofs.lemmas.List.Concat.{flat_map-cons}
use Rattle.cbor.specs.Encoding.{array, unsigned}
use Rattle.cbor.proofs.Heads.{head_begins}
use Rattle.termwiz_cell.specs.ChangeValue.{ChangeValue}
use Rattle.termwiz_wire.specs.Encoding.{change, changes, change_kind, item_count, change_values}

pub array-some : (n : ℕ) → 0 < length (array n)
array-some n =
    let h = head_begins 4 n in
    let e : length (array n) ≡ length ((32 * 4 + h.0) ∷ h.1) = ap length h.3 in
    omega (arith, e)

pub unsigned-some : (n : ℕ) → 0 < length (unsigned n)
unsigned-some n =
    let h = head_begins 0 n in
    let e : length (unsigned n) ≡ length ((32 * 0 + h.0) ∷ h.1) = ap length h.3 in
    omega (arith, e)

change-some : (measure : List ℕ → ℕ) (c : ChangeValue) → 0 < length (change measure c)
change-some measure c =
    let n : ℕ = item_count measure c in
    let k : List ℕ = unsigned (change_kind c) in
    let v : List ℕ = change_values measure c in
    let all : length (array n ++ k ++ v) ≡ length (array n ++ k) + length v = length-append (array n ++ k) v in
    let front : length (array n ++ k) ≡ length (array n) + length k = length-append (array n) k in
    omega (arith, all, front, array-some n)

pub each-some : (measure : List ℕ → ℕ) (cs : List ChangeValue) → length cs ≤ length (flat_map (change measure) cs)
each-some measure [] = omega arith
each-some measure (c ∷ cs) =
    let all : length (flat_map (change measure) (c ∷ cs)) ≡ length (change measure c) + length (flat_map (change measure) cs) = ap length (flat_map-cons (change measure) c cs) ∙ length-append (change measure c) (flat_map (change measure) cs) in
    omega (arith, all, change-some measure c, each-some measure cs)

pub changes-some : (measure : List ℕ → ℕ) (cs : List ChangeValue) (bytes rest : List ℕ) → bytes ≡ changes measure cs ++ rest → length cs + length rest ≤ length bytes
unfolding changes
changes-some measure cs bytes rest e =
    let all : length bytes ≡ length (array (length cs) ++ flat_map (change measure) cs) + length rest = ap length e ∙ length-append (array (length cs) ++ flat_map (change measure) cs) rest in
    let parts : length (array (length cs) ++ flat_map (change measure) cs) ≡ length (array (length cs)) + length (flat_map (change measure) cs) = length-append (array (length cs)) (flat_map (change measure) cs) in
    omega (arith, all, parts, each-some measure cs)
