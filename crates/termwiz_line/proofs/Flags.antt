-- Flags, and the bits that hold them.
use Rattle.std.proofs.Common.{◌≡◌, ℕ, ◌==◌, ◌&&◌, Bool, true, false, refl, sym, ap, ◌∙◌, if◌then◌else◌}
use Rattle.std.proofs.lemmas.Bool.{false≢true}
use Rattle.std.specs.Cmp.{unsigned_Decides}
use Rattle.std.specs.Bool.{one_answer}
use Rattle.std.specs.Int.RustNames.{bit_or}
use Rattle.bitflags.specs.Sets.{without}
use Rattle.termwiz_line.specs.LineFlags.{LineFlags, flags_of, flag_bits, with_direction, with_sizes}
use Rattle.termwiz_line.specs.LineEq.{flags_eq, flags_eq-Decides}

-- numbers with no other bits are equal where their flags are
pub bits_eq : (a b : ℕ) → flag_bits (flags_of a) ≡ a → flag_bits (flags_of b) ≡ b → (a == b) ≡ flags_eq (flags_of a) (flags_of b)
bits_eq a b p q =
    one_answer (a == b) (flags_eq (flags_of a) (flags_of b)) (unsigned_Decides a b)
    ((λ t. sym p ∙ ap flag_bits ((flags_eq-Decides (flags_of a) (flags_of b)).0 t) ∙ q), (λ e. (flags_eq-Decides (flags_of a) (flags_of b)).1 (ap flags_of e)))

-- what setting or clearing bits makes of a number
abbrev pub set_bits : ℕ → ℕ → Bool → ℕ
set_bits n m on = if on then bit_or n m else without 16 n m

abbrev pub both : (Bool → Bool) → Bool
both p = p true && p false

split_and : (a b : Bool) → (a && b) ≡ true → (a ≡ true) × (b ≡ true)
split_and true b e = (refl, e)
split_and false b e = absurd (false≢true e)

both-holds : (p : Bool → Bool) → both p ≡ true → (b : Bool) → p b ≡ true
both-holds p e true = (split_and (p true) (p false) e).0
both-holds p e false = (split_and (p true) (p false) e).1

abbrev pub triples : (Bool → Bool → Bool → Bool) → Bool
triples p = both (λ a. both (λ b. both (p a b)))

triples-hold : (p : Bool → Bool → Bool → Bool) → triples p ≡ true → (a b c : Bool) → p a b c ≡ true
triples-hold p e a b c = both-holds (p a b) (both-holds (λ b. both (p a b)) (both-holds (λ a. both (λ b. both (p a b))) e a) b) c

abbrev pub flags_from : Bool → Bool → Bool → Bool → Bool → Bool → LineFlags
flags_from a b c d e f = record { bidi_enabled = a; double_width = b; double_height_top = c; double_height_bottom = d; right_to_left = e; auto_detect = f }

-- for all flags
abbrev pub all_flags : (LineFlags → Bool) → Bool
all_flags p = triples (λ a b c. triples (λ d e f. p (flags_from a b c d e f)))

all_flags-holds : (p : LineFlags → Bool) → all_flags p ≡ true → (f : LineFlags) → p f ≡ true
all_flags-holds p e f =
    triples-hold (λ x y z. p (flags_from f.bidi_enabled f.double_width f.double_height_top x y z))
    (triples-hold (λ a b c. triples (λ x y z. p (flags_from a b c x y z))) e f.bidi_enabled f.double_width f.double_height_top)
    f.double_height_bottom f.right_to_left f.auto_detect

flags-bits : (f : LineFlags) → flags_of (flag_bits f) ≡ f
flags-bits f = (flags_eq-Decides (flags_of (flag_bits f)) f).0 (all_flags-holds (λ f. flags_eq (flags_of (flag_bits f)) f) refl f)

-- a number that has the bits of these flags alone
abbrev pub Holds : ℕ → LineFlags → Type 0
Holds n f = (flags_of n ≡ f) × (flag_bits (flags_of n) ≡ n)

-- setting bits changes the flags so, as it does for each number of flags
sets : (m : ℕ) (with : Bool → LineFlags → LineFlags) → all_flags (λ f. both (λ on. set_bits (flag_bits f) m on == flag_bits (with on f))) ≡ true
    → {n k : ℕ} {f : LineFlags} {on : Bool} → k ≡ set_bits n m on → Holds n f → Holds k (with on f)
sets m with e {n} {k} {f} {on} s h =
    let agrees : LineFlags → Bool → Bool = λ f on. set_bits (flag_bits f) m on == flag_bits (with on f) in
    let p : n ≡ flag_bits f = sym h.1 ∙ ap flag_bits h.0 in
    let q : k ≡ flag_bits (with on f) = s ∙ ap (λ k. set_bits k m on) p ∙ (unsigned_Decides _ _).0 (both-holds (agrees f) (all_flags-holds (λ f. both (agrees f)) e f) on) in
    let r : flags_of k ≡ with on f = ap flags_of q ∙ flags-bits (with on f) in
    (r, ap flag_bits r ∙ sym q)

pub sets-bidi : {n k : ℕ} {f : LineFlags} {on : Bool} → k ≡ set_bits n 1 on → Holds n f → Holds k (record f { bidi_enabled = on })
sets-bidi = sets 1 (λ on f. record f { bidi_enabled = on }) refl

pub sets-sizes : {n a b k : ℕ} {f : LineFlags} {double_width top bottom : Bool} → a ≡ set_bits n 16 double_width → b ≡ set_bits a 32 top → k ≡ set_bits b 64 bottom
    → Holds n f → Holds k (with_sizes double_width top bottom f)
sets-sizes p q r h =
    sets 64 (λ on f. record f { double_height_bottom = on }) refl r
    (sets 32 (λ on f. record f { double_height_top = on }) refl q (sets 16 (λ on f. record f { double_width = on }) refl p h))

pub sets-direction : {n a k : ℕ} {f : LineFlags} {right_to_left auto : Bool} → a ≡ set_bits n 128 right_to_left → k ≡ set_bits a 256 auto
    → Holds n f → Holds k (with_direction right_to_left auto f)
sets-direction p q h = sets 256 (λ on f. record f { auto_detect = on }) refl q (sets 128 (λ on f. record f { right_to_left = on }) refl p h)
