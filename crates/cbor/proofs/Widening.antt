-- A decoding gives the same with more room, but for the fault of what is past the limit.
use Rattle.std.proofs.Common.{◌≡◌, ◌⊎◌, ℕ, ◌-◌, ◌*◌, ◌^◌, ◌≤◌, Bool, true, false, cond, ltb, eqb, List, [], ◌∷◌, length, take, drop, Result, Ok, Err, refl, sym, ap, subst, ◌∙◌, arith, inl, inr}
use Rattle.std.specs.Int.{Width, w16, w32, w64, byte_len, from_be_bytes}
use Rattle.std.proofs.lemmas.Bool.{cases_lt, le-ltb, lt-ltb}
use Rattle.cbor.specs.declared.error.FaultKind.{FaultKind}
use Rattle.cbor.specs.declared.error.FaultKind.TheVariants.{Truncated, Limit}
use Rattle.cbor.specs.Decoding.{◌>>=◌, allowed, fault_placed, lack, first_in, byte_in, short_in, wide_argument_in, argument_in, head_in, limited_in, signed_in, boolean_in, null_in, utf8_in, text_bytes_in, list_in, array_of_in, kind_in, unsigned_at, array_at, list_at, below_at, signed_at, boolean_at, null_at, text_at, array_of_at, kind_at}
use Rattle.cbor.specs.Prefixes.{itself, fault, FailsBy}

-- what decoding gave, and what it gives with more room: but for `Limit` it is the same, but for the place
abbrev pub Wider : {Y E : Type 0} → (E → FaultKind) → Result Y E → Result Y E → Type 0
Wider fault (Ok y) later = later ≡ Ok y
Wider fault (Err e) later = (fault e ≡ Limit) ⊎ FailsBy fault (fault e) later

pub record Widens {Y E : Type 0} (fault : E → FaultKind) (read : ℕ → Result Y E) : Type 0 where
  pub wider : (small large : ℕ) → small ≤ large → Wider fault (read small) (read large)

-- ---- steps

fails_on : {Y Z E : Type 0} (fe : E → FaultKind) (f : FaultKind) (r : Result Y E) (g : Y → Result Z E) → FailsBy fe f r → FailsBy fe f (r >>= g)
fails_on fe f (Ok y) g fails = absurd fails
fails_on fe f (Err e) g fails = fails

then_wider : {Y Z E : Type 0} (fe : E → FaultKind) (r later : Result Y E) (f g : Y → Result Z E) → Wider fe r later → ((y : Y) → Wider fe (f y) (g y)) → Wider fe (r >>= f) (later >>= g)
then_wider fe (Ok y) later f g first each = subst (λ r. Wider fe (f y) (r >>= g)) (sym first) (each y)
then_wider fe (Err e) later f g (inl limit) each = inl limit
then_wider fe (Err e) later f g (inr fails) each = inr (fails_on fe (fe e) later g fails)

-- a step and what follows it
pub steps : {Y Z E : Type 0} {fe : E → FaultKind} {read : ℕ → Result Y E} (f : ℕ → Y → Result Z E) → Widens fe read → ((y : Y) → Widens fe (λ room. f room y)) → Widens fe (λ room. read room >>= f room)
steps {fe = fe} {read = read} f first each = record {
  wider = λ small large le. then_wider fe (read small) (read large) (f small) (f large) (first.wider small large le) (λ y. (each y).wider small large le);
}

pub either : {Z E : Type 0} {fe : E → FaultKind} (b : Bool) (f g : ℕ → Result Z E) → Widens fe f → Widens fe g → Widens fe (λ room. cond b (f room) (g room))
either true f g x y = x
either false f g x y = y

pub gives : {Z E : Type 0} {fe : E → FaultKind} {z : Z} → Widens fe (λ room. Ok z)
gives = record { wider = λ small large le. refl }

pub stops : {Z E : Type 0} {fe : E → FaultKind} (e : ℕ → E) → ((a b : ℕ) → fe (e a) ≡ fe (e b)) → Widens {Y = Z} fe (λ room. Err (e room))
stops e same = record { wider = λ small large le. inr (same large small) }

lack_widens : {Z : Type 0} (n : ℕ) (bytes : List ℕ) → Widens {Y = Z} itself (λ room. Err (lack room n bytes))
lack_widens n bytes = record {
  wider = λ small large le.
      elim (cases_lt (allowed small bytes) n) [
        | inl lt ↦ inl (rw (lt-ltb (allowed small bytes) n lt) refl)
        | inr fits ↦
            let early : lack small n bytes ≡ Truncated = rw (le-ltb (allowed small bytes) n fits) refl in
            let late : lack large n bytes ≡ Truncated = rw (le-ltb (allowed large bytes) n (omega (arith, fits, le))) refl in
            inr (late ∙ sym early)
      ];
}

wrong : {Z : Type 0} {f : FaultKind} → Widens {Y = Z} itself (λ room. Err f)
wrong {f = f} = stops (λ room. f) (λ a b. refl)

-- ---- an item

first_widens : (bytes : List ℕ) → Widens itself (λ room. first_in room bytes)
first_widens [] = lack_widens 1 []
first_widens (b ∷ bytes) = gives

byte_widens : (bytes : List ℕ) → Widens itself (λ room. byte_in room bytes)
byte_widens [] = lack_widens 1 []
byte_widens (b ∷ bytes) = gives

short_widens : (bytes : List ℕ) → Widens itself (λ room. short_in room bytes)
unfolding short_in
short_widens bytes = steps _ (byte_widens bytes) (λ b. either (ltb b.0 24) _ _ wrong gives)

wide_widens : (w : Width) (least : ℕ) (bytes : List ℕ) → Widens itself (λ room. wide_argument_in room w least bytes)
wide_widens w least bytes = either (ltb (length bytes) (byte_len w)) _ _ (lack_widens (byte_len w) bytes) (either (ltb (from_be_bytes w (take (byte_len w) bytes)) least) _ _ wrong gives)

argument_widens : (info : ℕ) (bytes : List ℕ) → Widens itself (λ room. argument_in room info bytes)
unfolding argument_in
argument_widens info bytes = either (eqb info 24) _ _ (short_widens bytes) (either (eqb info 25) _ _ (wide_widens w16 256 bytes) (either (eqb info 26) _ _ (wide_widens w32 65536 bytes) (either (eqb info 27) _ _ (wide_widens w64 4294967296 bytes) (either (ltb info 24) _ _ gives wrong))))

head_widens : (major : ℕ) (bytes : List ℕ) → Widens itself (λ room. head_in room major bytes)
unfolding head_in
head_widens major bytes = steps _ (byte_widens bytes) (λ b. either (ltb b.0 (32 * major)) _ _ wrong (argument_widens (b.0 - 32 * major) b.1))

limited_widens : (major limit : ℕ) (bytes : List ℕ) → Widens itself (λ room. limited_in room major limit bytes)
unfolding limited_in
limited_widens major limit bytes = steps _ (head_widens major bytes) (λ n. either (ltb n.0 limit) _ _ gives wrong)

signed_in_widens : (bytes : List ℕ) → Widens itself (λ room. signed_in room bytes)
unfolding signed_in
signed_in_widens bytes = steps _ (first_widens bytes) (λ b. either (ltb b 32) _ _ (steps _ (limited_widens 0 (2 ^ 63) bytes) (λ n. gives)) (steps _ (limited_widens 1 (2 ^ 63) bytes) (λ n. gives)))

boolean_in_widens : (bytes : List ℕ) → Widens itself (λ room. boolean_in room bytes)
unfolding boolean_in
boolean_in_widens bytes = steps _ (byte_widens bytes) (λ b. either (eqb b.0 244) _ _ gives (either (eqb b.0 245) _ _ gives wrong))

null_in_widens : (bytes : List ℕ) → Widens itself (λ room. null_in room bytes)
unfolding null_in
null_in_widens bytes = steps _ (byte_widens bytes) (λ b. either (eqb b.0 246) _ _ gives wrong)

known_wider : {Z : Type 0} (r : Result Z FaultKind) → Wider itself r r
known_wider (Ok z) = refl
known_wider (Err e) = inr refl

text_in_widens : (bytes : List ℕ) → Widens itself (λ room. text_bytes_in room bytes)
unfolding text_bytes_in
text_in_widens bytes = steps _ (head_widens 3 bytes) (λ n. either (ltb (length n.1) n.0) _ _ (lack_widens n.0 n.1) (record { wider = λ small large le. known_wider (utf8_in (take n.0 n.1) >>= λ t. Ok (t, drop n.0 n.1)) }))

-- the items of a list that fit a limit fit a larger one
list_fits : (n : ℕ × List ℕ) → Widens itself (λ room. cond (ltb (allowed room n.1) n.0) (Err Limit) (Ok n))
list_fits n = record {
  wider = λ small large le.
      elim (cases_lt (allowed small n.1) n.0) [
        | inl lt ↦ rw (lt-ltb (allowed small n.1) n.0 lt) (inl refl)
        | inr fits ↦ rw (le-ltb (allowed small n.1) n.0 fits, le-ltb (allowed large n.1) n.0 (omega (arith, fits, le))) refl
      ];
}

list_in_widens : (bytes : List ℕ) → Widens itself (λ room. list_in room bytes)
unfolding list_in
list_in_widens bytes = steps _ (head_widens 4 bytes) list_fits

array_of_in_widens : (count : ℕ) (bytes : List ℕ) → Widens itself (λ room. array_of_in room count bytes)
unfolding array_of_in
array_of_in_widens count bytes = steps _ (head_widens 4 bytes) (λ n. either (eqb n.0 count) _ _ gives wrong)

kind_in_widens : (bytes : List ℕ) → Widens itself (λ room. kind_in room bytes)
kind_in_widens bytes = steps _ (first_widens bytes) (λ b. gives)

-- ---- an item at its place

placed_fails : {Y : Type 0} (a : ℕ) (f : FaultKind) (r : Result Y FaultKind) → FailsBy itself f r → FailsBy fault f (fault_placed a r)
placed_fails a f (Ok y) fails = fails
placed_fails a f (Err e) fails = fails

placed_wider : {Y : Type 0} (a b : ℕ) (r later : Result Y FaultKind) → Wider itself r later → Wider fault (fault_placed a r) (fault_placed b later)
placed_wider a b (Ok y) later wider = ap (fault_placed b) wider
placed_wider a b (Err e) later (inl limit) = inl limit
placed_wider a b (Err e) later (inr fails) = inr (placed_fails b e later fails)

at_place : {Y : Type 0} {read : ℕ → Result Y FaultKind} (bytes : List ℕ) → Widens itself read → Widens fault (λ room. fault_placed (allowed room bytes) (read room))
at_place {read = read} bytes widens = record {
  wider = λ small large le. placed_wider (allowed small bytes) (allowed large bytes) (read small) (read large) (widens.wider small large le);
}

pub unsigned_widens : (bytes : List ℕ) → Widens fault (λ room. unsigned_at room bytes)
unfolding unsigned_at
unsigned_widens bytes = at_place bytes (head_widens 0 bytes)

pub array_widens : (bytes : List ℕ) → Widens fault (λ room. array_at room bytes)
unfolding array_at
array_widens bytes = at_place bytes (head_widens 4 bytes)

pub list_widens : (bytes : List ℕ) → Widens fault (λ room. list_at room bytes)
unfolding list_at
list_widens bytes = at_place bytes (list_in_widens bytes)

pub below_widens : (limit : ℕ) (bytes : List ℕ) → Widens fault (λ room. below_at room limit bytes)
unfolding below_at
below_widens limit bytes = at_place bytes (limited_widens 0 limit bytes)

pub signed_widens : (bytes : List ℕ) → Widens fault (λ room. signed_at room bytes)
unfolding signed_at
signed_widens bytes = at_place bytes (signed_in_widens bytes)

pub boolean_widens : (bytes : List ℕ) → Widens fault (λ room. boolean_at room bytes)
unfolding boolean_at
boolean_widens bytes = at_place bytes (boolean_in_widens bytes)

pub null_widens : (bytes : List ℕ) → Widens fault (λ room. null_at room bytes)
unfolding null_at
null_widens bytes = at_place bytes (null_in_widens bytes)

pub text_widens : (bytes : List ℕ) → Widens fault (λ room. text_at room bytes)
unfolding text_at
text_widens bytes = at_place bytes (text_in_widens bytes)

pub array_of_widens : (count : ℕ) (bytes : List ℕ) → Widens fault (λ room. array_of_at room count bytes)
unfolding array_of_at
array_of_widens count bytes = at_place bytes (array_of_in_widens count bytes)

pub kind_widens : (bytes : List ℕ) → Widens fault (λ room. kind_at room bytes)
unfolding kind_at
kind_widens bytes = at_place bytes (kind_in_widens bytes)
