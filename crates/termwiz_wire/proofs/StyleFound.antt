-- A number whose bit fields have the numbers of attributes is the number of those.
use Rattle.std.proofs.Common.{◌≡◌, ℕ, zero, suc, ◌+◌, ◌*◌, ◌/◌, ◌%◌, ◌<◌, true, cond, ltb, ◌&&◌, List, [], ◌∷◌, Ok, refl, ap, subst, ◌∙◌, arith}
use Rattle.std.specs.Prelude.{slice_index}
use Rattle.std.proofs.lemmas.Bool.{ltb-true}
use Rattle.std.proofs.Math.Nat.{mod-add-div, lt_of_mul-lt-mul_left}
use Rattle.cbor.specs.declared.error.FaultKind.TheVariants.{Range}
use Rattle.cbor.specs.Decoding.{IsBytes, below_at}
use Rattle.cbor.specs.Encoding.{unsigned}
use Rattle.cbor.proofs.Steps.{Takes, bind_ok, guard_ended}
use Rattle.termwiz_cell.specs.Attributes.{bits_of}
use Rattle.termwiz_cell.specs.Style.{intensity_number, intensity_at, underline_number, underline_at, blink_number, blink_at, semantic_number, semantic_at, vertical_number, vertical_at, flag_number, flag_at}
use Rattle.termwiz_wire.specs.Encoding.{fields, fields_joined, style_number}
use Rattle.termwiz_wire.specs.Decoding.{split, are_small, styled, style_limit, style_item_at}
use Rattle.termwiz_wire.specs.Cuts.{refused}
use Rattle.termwiz_wire.proofs.Steps.{both, number_takes, stopped}
use Rattle.termwiz_wire.proofs.Style.{product}

abbrev ArePositive : List ℕ → Type 0
ArePositive [] = Unit {0}
ArePositive (k ∷ ks) = (0 < k) × ArePositive ks

joined-split : (ks : List ℕ) (n : ℕ) → ArePositive ks → n < product ks → fields_joined ks (split ks n) ≡ n
joined-split [] n are lt = omega (arith, lt)
joined-split (k ∷ ks) n are lt =
    let parts : n % k + k * (n / k) ≡ n = mod-add-div n k in
    let smaller : k * (n / k) < k * product ks = omega (arith, parts, lt) in
    let inner : fields_joined ks (split ks (n / k)) ≡ n / k = joined-split ks (n / k) are.1 (lt_of_mul-lt-mul_left k smaller) in
    ap (λ (m : ℕ). n % k + k * m) inner ∙ parts

pub intensity-found : (n : ℕ) → n < 3 → intensity_number (intensity_at n) ≡ n
intensity-found zero lt = refl
intensity-found (suc zero) lt = refl
intensity-found (suc (suc zero)) lt = refl
intensity-found (suc (suc (suc n))) lt = absurd (omega (arith, lt))

pub underline-found : (n : ℕ) → n < 6 → underline_number (underline_at n) ≡ n
underline-found zero lt = refl
underline-found (suc zero) lt = refl
underline-found (suc (suc zero)) lt = refl
underline-found (suc (suc (suc zero))) lt = refl
underline-found (suc (suc (suc (suc zero)))) lt = refl
underline-found (suc (suc (suc (suc (suc zero))))) lt = refl
underline-found (suc (suc (suc (suc (suc (suc n)))))) lt = absurd (omega (arith, lt))

pub blink-found : (n : ℕ) → n < 3 → blink_number (blink_at n) ≡ n
blink-found zero lt = refl
blink-found (suc zero) lt = refl
blink-found (suc (suc zero)) lt = refl
blink-found (suc (suc (suc n))) lt = absurd (omega (arith, lt))

semantic-found : (n : ℕ) → n < 3 → semantic_number (semantic_at n) ≡ n
semantic-found zero lt = refl
semantic-found (suc zero) lt = refl
semantic-found (suc (suc zero)) lt = refl
semantic-found (suc (suc (suc n))) lt = absurd (omega (arith, lt))

vertical-found : (n : ℕ) → n < 3 → vertical_number (vertical_at n) ≡ n
vertical-found zero lt = refl
vertical-found (suc zero) lt = refl
vertical-found (suc (suc zero)) lt = refl
vertical-found (suc (suc (suc n))) lt = absurd (omega (arith, lt))

flag-found : (n : ℕ) → n < 2 → flag_number (flag_at n) ≡ n
flag-found zero lt = refl
flag-found (suc zero) lt = refl
flag-found (suc (suc n)) lt = absurd (omega (arith, lt))

flag-in : (n : ℕ) → flag_number (flag_at (n % 2)) ≡ n % 2
flag-in n =
    let lt : n % 2 < 2 = omega arith in
    flag-found (n % 2) lt

bits-found : (n : ℕ) → are_small (split fields n) ≡ true → bits_of (styled n) ≡ split fields n
bits-found n e =
    let vs : List ℕ = split fields n in
    let a = both (ltb (slice_index vs 0) 3) (ltb (slice_index vs 1) 6 && (ltb (slice_index vs 2) 3 && (ltb (slice_index vs 9) 3 && ltb (slice_index vs 10) 3))) e in
    let b = both (ltb (slice_index vs 1) 6) (ltb (slice_index vs 2) 3 && (ltb (slice_index vs 9) 3 && ltb (slice_index vs 10) 3)) a.1 in
    let c = both (ltb (slice_index vs 2) 3) (ltb (slice_index vs 9) 3 && ltb (slice_index vs 10) 3) b.1 in
    let d = both (ltb (slice_index vs 9) 3) (ltb (slice_index vs 10) 3) c.1 in
    let intensity = intensity-found (slice_index vs 0) (ltb-true _ _ a.0) in
    let underline = underline-found (slice_index vs 1) (ltb-true _ _ b.0) in
    let blink = blink-found (slice_index vs 2) (ltb-true _ _ c.0) in
    let semantic = semantic-found (slice_index vs 9) (ltb-true _ _ d.0) in
    let vertical = vertical-found (slice_index vs 10) (ltb-true _ _ d.1) in
    let n3 : ℕ = n / 4 / 8 / 4 in
    λ i. intensity i ∷ underline i ∷ blink i ∷ flag-in n3 i ∷ flag-in (n3 / 2) i ∷ flag-in (n3 / 2 / 2) i ∷ flag-in (n3 / 2 / 2 / 2) i ∷ flag-in (n3 / 2 / 2 / 2 / 2) i ∷ flag-in (n3 / 2 / 2 / 2 / 2 / 2) i ∷ semantic i ∷ vertical i ∷ []

style-found : (n : ℕ) → n < style_limit → are_small (split fields n) ≡ true → style_number (styled n) ≡ n
style-found n lt e =
    let positive : ArePositive fields = (omega arith, (omega arith, (omega arith, (omega arith, (omega arith, (omega arith, (omega arith, (omega arith, (omega arith, (omega arith, (omega arith, tt))))))))))) in
    ap (fields_joined fields) (bits-found n e) ∙ joined-split fields n positive lt

pub style_takes : (room : ℕ) (bytes : List ℕ) (x : ℕ × List ℕ) → IsBytes bytes → style_item_at room bytes ≡ Ok x → Takes bytes (unsigned x.0) x.1 × (style_number (styled x.0) ≡ x.0)
unfolding style_item_at
style_takes room bytes x fits e =
    let a = bind_ok (below_at room style_limit bytes) _ x e in
    let g = guard_ended (are_small (split fields a.0.0)) (stopped Range room bytes) a.0 x a.2 in
    let t = number_takes room style_limit bytes a.0 fits a.1 in
    subst (λ (y : ℕ × List ℕ). Takes bytes (unsigned y.0) y.1 × (style_number (styled y.0) ≡ y.0)) g.1 (t.0, style-found a.0.0 t.1 g.0)
