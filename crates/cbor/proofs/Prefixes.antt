-- A decoding that is made of steps from left to right decides as much when more bytes follow.
use Rattle.std.proofs.Common.{◌≡◌, ◌≢◌, ℕ, ℤ, ◌+◌, ◌-◌, ◌*◌, ◌^◌, ◌<◌, ◌≤◌, Bool, true, false, cond, ltb, eqb, List, [], ◌∷◌, ◌++◌, length, take, drop, Result, Ok, Err, refl, sym, ap, subst, ◌∙◌, arith, inl, inr}
use Rattle.core.specs.Str.{is_utf8}
use Rattle.std.specs.Int.{Width, w16, w32, w64, byte_len, from_be_bytes}
use Rattle.std.proofs.lemmas.Bool.{cases_lt, le-ltb, lt-ltb}
use Rattle.std.proofs.lemmas.List.{append-nil, length-append, length-drop, take-append-drop, take-append-le, drop-append-le}
use Rattle.cbor.specs.declared.error.FaultKind.{FaultKind}
use Rattle.cbor.specs.declared.error.FaultKind.TheVariants.{Truncated, Limit}
use Rattle.cbor.specs.declared.error.FaultKind.TheVariants as faults
use Rattle.cbor.specs.Decoding.{◌>>=◌, allowed, fault_placed, lack, first_in, byte_in, short_in, wide_argument_in, argument_in, head_in, limited_in, signed_in, boolean_in, null_in, utf8_in, text_bytes_in, list_in, array_of_in, kind_in, unsigned_at, array_at, list_at, below_at, signed_at, boolean_at, null_at, text_at, array_of_at, kind_at}
use Rattle.cbor.specs.Encoding.{unsigned, signed, boolean, text, array, IsSigned, IsText}
use Rattle.cbor.proofs.Items.{unsigned_again, array_again, signed_again, boolean_again, text_again}
use Rattle.cbor.specs.Prefixes.{left, rest_with, seen, itself, fault, StaysDecoded, Decides, DecodesPrefixes, FailsBy, BeginningsOf}

-- ---- one step and what follows it

bind_stays : {Y Z E : Type 0} (fe : E → FaultKind) (gy : Y → List ℕ → Y) (gz : Z → List ℕ → Z) (more : List ℕ) (r later : Result Y E) (f g : Y → Result Z E) → StaysDecoded fe gy more r later → ((y : Y) → StaysDecoded fe gz more (f y) (g (gy y more))) → StaysDecoded fe gz more (r >>= f) (later >>= g)
bind_stays fe gy gz more (Ok y) later f g first then = subst (λ r. StaysDecoded fe gz more (f y) (r >>= g)) (sym first) (then y)
bind_stays fe gy gz more (Err e) later f g (inl want) then = inl want
bind_stays {Z = Z} fe gy gz more (Err e) later f g (inr same) then = inr (ap (λ r. r >>= g) same)

bind_ends : {Y Z E : Type 0} (fe : E → FaultKind) (r : Result Y E) (f : Y → Result Z E) → Decides fe r → ((y : Y) → Decides fe (f y)) → Decides fe (r >>= f)
bind_ends fe (Ok y) f first then = then y
bind_ends fe (Err e) f first then = first

-- a step, and what is read by its value from where f reads
pub chain : {Y Z E : Type 0} {fe : E → FaultKind} (gy : Y → List ℕ → Y) {gz : Z → List ℕ → Z} {read : ℕ → List ℕ → Result Y E} (f : ℕ → Y → List ℕ → Result Z E) → DecodesPrefixes fe gy read → ((y : Y) (room : ℕ) (bytes more : List ℕ) → StaysDecoded fe gz more (f (length more + room) y bytes) (f room (gy y more) (bytes ++ more))) → ((y : Y) (bytes : List ℕ) → Decides fe (f 0 y bytes)) → DecodesPrefixes fe gz (λ room bytes. read room bytes >>= λ y. f room y bytes)
chain {fe = fe} gy {gz = gz} {read = read} f first stay end = record {
  stays = λ room bytes more. bind_stays fe gy gz more (read (length more + room) bytes) (read room (bytes ++ more)) (λ y. f (length more + room) y bytes) (λ y. f room y (bytes ++ more)) (first.stays room bytes more) (λ y. stay y room bytes more);
  ends = λ bytes. bind_ends fe (read 0 bytes) (λ y. f 0 y bytes) (first.ends bytes) (λ y. end y bytes);
}

-- after a value
pub bind : {A Z E : Type 0} {fe : E → FaultKind} {gz : Z → List ℕ → Z} {read : ℕ → List ℕ → Result (A × List ℕ) E} (f : ℕ → A × List ℕ → Result Z E) → DecodesPrefixes fe left read → ((a : A) → DecodesPrefixes fe gz (λ room rest. f room (a, rest))) → DecodesPrefixes fe gz (λ room bytes. read room bytes >>= f room)
bind f first then = chain left (λ room y bytes. f room y) first (λ y room bytes more. (then y.0).stays room y.1 more) (λ y bytes. (then y.0).ends y.1)

-- after what has no value
pub bind_rest : {Z E : Type 0} {fe : E → FaultKind} {gz : Z → List ℕ → Z} {read : ℕ → List ℕ → Result (List ℕ) E} (f : ℕ → List ℕ → Result Z E) → DecodesPrefixes fe rest_with read → DecodesPrefixes fe gz f → DecodesPrefixes fe gz (λ room bytes. read room bytes >>= f room)
bind_rest f first then = chain rest_with (λ room y bytes. f room y) first (λ y room bytes more. then.stays room y more) (λ y bytes. then.ends y)

-- by what was looked at and not taken
pub look : {A Z E : Type 0} {fe : E → FaultKind} {gz : Z → List ℕ → Z} {read : ℕ → List ℕ → Result A E} (f : ℕ → A → List ℕ → Result Z E) → DecodesPrefixes fe seen read → ((a : A) → DecodesPrefixes fe gz (λ room bytes. f room a bytes)) → DecodesPrefixes fe gz (λ room bytes. read room bytes >>= λ a. f room a bytes)
look f first then = chain seen f first (λ y room bytes more. (then y).stays room bytes more) (λ y bytes. (then y).ends bytes)

-- one of two, by a test that the bytes ahead are no part of
pub choose : {Z E : Type 0} {fe : E → FaultKind} {gz : Z → List ℕ → Z} (b : Bool) (f g : ℕ → List ℕ → Result Z E) → DecodesPrefixes fe gz f → DecodesPrefixes fe gz g → DecodesPrefixes fe gz (λ room bytes. cond b (f room bytes) (g room bytes))
choose true f g x y = x
choose false f g x y = y

-- ---- what needs no bytes

pub done : {A E : Type 0} {fe : E → FaultKind} {a : A} → DecodesPrefixes fe left (λ room bytes. Ok (a, bytes))
done = record { stays = λ room bytes more. refl; ends = λ bytes. tt }

pub done_rest : {E : Type 0} {fe : E → FaultKind} → DecodesPrefixes fe rest_with (λ room bytes. Ok bytes)
done_rest = record { stays = λ room bytes more. refl; ends = λ bytes. tt }

pub seen_done : {A E : Type 0} {fe : E → FaultKind} {a : A} → DecodesPrefixes fe seen (λ room bytes. Ok a)
seen_done = record { stays = λ room bytes more. refl; ends = λ bytes. tt }

-- a fault that more bytes don't mend
pub fails : {Z E : Type 0} {fe : E → FaultKind} {gz : Z → List ℕ → Z} {e : E} → fe e ≢ Truncated → DecodesPrefixes fe gz (λ room bytes. Err e)
fails other = record { stays = λ room bytes more. inr refl; ends = λ bytes. other }

-- what no bytes ahead decide
pub known : {A Z E : Type 0} {fe : E → FaultKind} {gz : Z → List ℕ → Z} (r : Result A E) (f : ℕ → A → List ℕ → Result Z E) → Decides fe r → ((a : A) → DecodesPrefixes fe gz (λ room bytes. f room a bytes)) → DecodesPrefixes fe gz (λ room bytes. r >>= λ a. f room a bytes)
known (Ok a) f settled then = then a
known (Err e) f settled then = fails settled

-- ---- bytes that are lacking

lack_limit : (room n : ℕ) (bytes : List ℕ) → allowed room bytes < n → lack room n bytes ≡ Limit
lack_limit room n bytes lt = rw (lt-ltb (allowed room bytes) n lt) refl

lack_want : (room n : ℕ) (bytes : List ℕ) → n ≤ allowed room bytes → lack room n bytes ≡ Truncated
lack_want room n bytes le = rw (le-ltb (allowed room bytes) n le) refl

abbrev failed : {Z E : Type 0} → E → Result Z E
failed e = Err e

-- what is lacking is lacking with more bytes, or may come
lack_stays : {Z : Type 0} (gz : Z → List ℕ → Z) (room n : ℕ) (bytes more : List ℕ) (later : Result Z FaultKind) → (length (bytes ++ more) < n → later ≡ Err (lack room n (bytes ++ more))) → StaysDecoded itself gz more (Err (lack (length more + room) n bytes)) later
lack_stays {Z = Z} gz room n bytes more later short =
    elim (cases_lt (allowed (length more + room) bytes) n) [
      | inl lt ↦
          let few : length (bytes ++ more) < n = omega (arith, length-append bytes more, lt) in
          let past : allowed room (bytes ++ more) < n = omega (arith, length-append bytes more, lt) in
          inr (short few ∙ ap (λ (f : FaultKind). failed {Z = Z} f) (lack_limit room n (bytes ++ more) past ∙ sym (lack_limit (length more + room) n bytes lt)))
      | inr le ↦ inl (lack_want (length more + room) n bytes le)
    ]

lack_ends : (n : ℕ) (bytes : List ℕ) → length bytes < n → lack 0 n bytes ≢ Truncated
lack_ends n bytes lt want =
    let past : allowed 0 bytes < n = omega (arith, lt) in
    let limit : lack 0 n bytes ≡ Limit = lack_limit 0 n bytes past in
    let bad : Limit ≡ Truncated = sym limit ∙ want in
    cc

byte_short : (room : ℕ) (bytes : List ℕ) → length bytes < 1 → byte_in room bytes ≡ Err (lack room 1 bytes)
byte_short room [] lt = refl
byte_short room (b ∷ bytes) lt = absurd (omega (arith, lt))

first_short : (room : ℕ) (bytes : List ℕ) → length bytes < 1 → first_in room bytes ≡ Err (lack room 1 bytes)
first_short room [] lt = refl
first_short room (b ∷ bytes) lt = absurd (omega (arith, lt))

first_stays : (room : ℕ) (bytes more : List ℕ) → StaysDecoded itself seen more (first_in (length more + room) bytes) (first_in room (bytes ++ more))
first_stays room [] more = lack_stays seen room 1 [] more (first_in room ([] ++ more)) (first_short room ([] ++ more))
first_stays room (b ∷ bytes) more = refl

first_ends : (bytes : List ℕ) → Decides itself (first_in 0 bytes)
first_ends [] = lack_ends 1 [] (omega arith)
first_ends (b ∷ bytes) = tt

pub first_reads : DecodesPrefixes itself seen first_in
first_reads = record { stays = first_stays; ends = first_ends }

byte_stays : (room : ℕ) (bytes more : List ℕ) → StaysDecoded itself left more (byte_in (length more + room) bytes) (byte_in room (bytes ++ more))
byte_stays room [] more = lack_stays left room 1 [] more (byte_in room ([] ++ more)) (byte_short room ([] ++ more))
byte_stays room (b ∷ bytes) more = refl

byte_ends : (bytes : List ℕ) → Decides itself (byte_in 0 bytes)
byte_ends [] = lack_ends 1 [] (omega arith)
byte_ends (b ∷ bytes) = tt

pub byte_reads : DecodesPrefixes itself left byte_in
byte_reads = record { stays = byte_stays; ends = byte_ends }

-- n bytes, and what is read after them
abbrev front_in : {Z : Type 0} → ℕ → (ℕ → List ℕ → List ℕ → Result Z FaultKind) → ℕ → List ℕ → Result Z FaultKind
front_in n f room bytes = cond (ltb (length bytes) n) (Err (lack room n bytes)) (f room (take n bytes) (drop n bytes))

front_stays : {Z : Type 0} (gz : Z → List ℕ → Z) (n : ℕ) (f : ℕ → List ℕ → List ℕ → Result Z FaultKind) → ((front : List ℕ) → DecodesPrefixes itself gz (λ room rest. f room front rest)) → (room : ℕ) (bytes more : List ℕ) → StaysDecoded itself gz more (front_in n f (length more + room) bytes) (front_in n f room (bytes ++ more))
front_stays {Z = Z} gz n f then room bytes more =
    elim (cases_lt (length bytes) n) [
      | inl lt ↦
          subst (λ b. StaysDecoded itself gz more (cond b (Err (lack (length more + room) n bytes)) (f (length more + room) (take n bytes) (drop n bytes))) (front_in n f room (bytes ++ more))) (sym (lt-ltb _ _ lt))
          (lack_stays gz room n bytes more (front_in n f room (bytes ++ more)) (λ few. rw (lt-ltb (length (bytes ++ more)) n few) refl))
      | inr le ↦
          let long : ltb (length (bytes ++ more)) n ≡ false = le-ltb _ _ (omega (arith, length-append bytes more, le)) in
          rw (le-ltb (length bytes) n le, long, take-append-le n bytes more le, drop-append-le n bytes more le) ((then (take n bytes)).stays room (drop n bytes) more)
    ]

front_ends : {Z : Type 0} (gz : Z → List ℕ → Z) (n : ℕ) (f : ℕ → List ℕ → List ℕ → Result Z FaultKind) → ((front : List ℕ) → DecodesPrefixes itself gz (λ room rest. f room front rest)) → (bytes : List ℕ) → Decides itself (front_in n f 0 bytes)
front_ends {Z = Z} gz n f then bytes =
    elim (cases_lt (length bytes) n) [
      | inl lt ↦ subst (λ b. Decides itself (cond b (Err (lack 0 n bytes)) (f 0 (take n bytes) (drop n bytes)))) (sym (lt-ltb _ _ lt)) (lack_ends n bytes lt)
      | inr le ↦ rw (le-ltb (length bytes) n le) ((then (take n bytes)).ends (drop n bytes))
    ]

pub front_reads : {Z : Type 0} (gz : Z → List ℕ → Z) (n : ℕ) (f : ℕ → List ℕ → List ℕ → Result Z FaultKind) → ((front : List ℕ) → DecodesPrefixes itself gz (λ room rest. f room front rest)) → DecodesPrefixes itself gz (front_in n f)
front_reads gz n f then = record { stays = front_stays gz n f then; ends = front_ends gz n f then }

-- ---- heads

short_reads : DecodesPrefixes itself left short_in
unfolding short_in
short_reads = bind _ byte_reads (λ b. choose (ltb b 24) _ _ (fails (λ is. cc)) done)

wide_reads : (w : Width) (least : ℕ) → DecodesPrefixes itself left (λ room bytes. wide_argument_in room w least bytes)
wide_reads w least = front_reads left (byte_len w) (λ room front rest. cond (ltb (from_be_bytes w front) least) (Err faults.Range) (Ok (from_be_bytes w front, rest))) (λ front. choose (ltb (from_be_bytes w front) least) _ _ (fails (λ is. cc)) done)

argument_reads : (info : ℕ) → DecodesPrefixes itself left (λ room bytes. argument_in room info bytes)
unfolding argument_in
argument_reads info = choose (eqb info 24) _ _ short_reads (choose (eqb info 25) _ _ (wide_reads w16 256) (choose (eqb info 26) _ _ (wide_reads w32 65536) (choose (eqb info 27) _ _ (wide_reads w64 4294967296) (choose (ltb info 24) _ _ done (fails (λ is. cc))))))

head_reads : (major : ℕ) → DecodesPrefixes itself left (λ room bytes. head_in room major bytes)
unfolding head_in
head_reads major = bind _ byte_reads (λ b. choose (ltb b (32 * major)) _ _ (fails (λ is. cc)) (argument_reads (b - 32 * major)))

limited_reads : (major limit : ℕ) → DecodesPrefixes itself left (λ room bytes. limited_in room major limit bytes)
unfolding limited_in
limited_reads major limit = bind _ (head_reads major) (λ n. choose (ltb n limit) _ _ done (fails (λ is. cc)))

-- ---- an item and its place

placed_stays : {Y : Type 0} (gy : Y → List ℕ → Y) (more : List ℕ) (a b : ℕ) (r later : Result Y FaultKind) → a ≡ b → StaysDecoded itself gy more r later → StaysDecoded fault gy more (fault_placed a r) (fault_placed b later)
placed_stays gy more a b (Ok y) later same stay = ap (fault_placed b) stay
placed_stays gy more a b (Err e) later same (inl want) = inl want
placed_stays {Y = Y} gy more a b (Err e) later same (inr stay) =
    inr (ap (fault_placed b) stay ∙ ap (λ (n : ℕ). failed {Z = Y} (record { fault = e; left = n })) (sym same))

placed_ends : {Y : Type 0} (a : ℕ) (r : Result Y FaultKind) → Decides itself r → Decides fault (fault_placed a r)
placed_ends a (Ok y) is = tt
placed_ends a (Err e) is = is

at : {Y : Type 0} {gy : Y → List ℕ → Y} {read : ℕ → List ℕ → Result Y FaultKind} → DecodesPrefixes itself gy read → DecodesPrefixes fault gy (λ room bytes. fault_placed (allowed room bytes) (read room bytes))
at {gy = gy} {read = read} reads = record {
  stays = λ room bytes more. placed_stays gy more (allowed (length more + room) bytes) (allowed room (bytes ++ more)) (read (length more + room) bytes) (read room (bytes ++ more)) (omega (arith, length-append bytes more)) (reads.stays room bytes more);
  ends = λ bytes. placed_ends (allowed 0 bytes) (read 0 bytes) (reads.ends bytes);
}

-- ---- items

pub unsigned_reads : DecodesPrefixes fault left unsigned_at
unfolding unsigned_at
unsigned_reads = at (head_reads 0)

pub array_reads : DecodesPrefixes fault left array_at
unfolding array_at
array_reads = at (head_reads 4)

pub below_reads : (limit : ℕ) → DecodesPrefixes fault left (λ room bytes. below_at room limit bytes)
unfolding below_at
below_reads limit = at (limited_reads 0 limit)

signed_in_reads : DecodesPrefixes itself left signed_in
unfolding signed_in
signed_in_reads = look _ first_reads (λ b. choose (ltb b 32) _ _ (bind _ (limited_reads 0 (2 ^ 63)) (λ n. done)) (bind _ (limited_reads 1 (2 ^ 63)) (λ n. done)))

pub signed_reads : DecodesPrefixes fault left signed_at
unfolding signed_at
signed_reads = at signed_in_reads

boolean_in_reads : DecodesPrefixes itself left boolean_in
unfolding boolean_in
boolean_in_reads = bind _ byte_reads (λ b. choose (eqb b 244) _ _ done (choose (eqb b 245) _ _ done (fails (λ is. cc))))

pub boolean_reads : DecodesPrefixes fault left boolean_at
unfolding boolean_at
boolean_reads = at boolean_in_reads

null_in_reads : DecodesPrefixes itself rest_with null_in
unfolding null_in
null_in_reads = bind _ byte_reads (λ b. choose (eqb b 246) _ _ done_rest (fails (λ is. cc)))

pub null_reads : DecodesPrefixes fault rest_with null_at
unfolding null_at
null_reads = at null_in_reads

utf8_known : (bytes : List ℕ) → Decides itself (utf8_in bytes)
unfolding utf8_in
utf8_known bytes =
    elim (is_utf8 bytes) as (λ b. Decides itself (cond b (Ok bytes) (failed faults.Utf8))) [
      | true ↦ tt
      | false ↦ λ same. cc
    ]

text_in_reads : DecodesPrefixes itself left text_bytes_in
unfolding text_bytes_in
text_in_reads = bind _ (head_reads 3) (λ n. front_reads left n (λ room front rest. utf8_in front >>= λ t. Ok (t, rest)) (λ front. known (utf8_in front) _ (utf8_known front) (λ t. done)))

pub text_reads : DecodesPrefixes fault left text_at
unfolding text_at
text_reads = at text_in_reads

-- the items of a list fit, or go past the limit: more bytes after it don't change that
list_tail : (n : ℕ) → DecodesPrefixes itself left (λ room rest. cond (ltb (allowed room rest) n) (Err Limit) (Ok (n, rest)))
list_tail n = record {
  stays = λ room bytes more.
      let same : allowed (length more + room) bytes ≡ allowed room (bytes ++ more) = omega (arith, length-append bytes more) in
      rw same (elim (ltb (allowed room (bytes ++ more)) n) as (λ b. StaysDecoded itself left more (cond b (failed Limit) (Ok (n, bytes))) (cond b (failed Limit) (Ok (n, bytes ++ more)))) [
        | true ↦ inr refl
        | false ↦ refl
      ]);
  ends = λ bytes. elim (ltb (allowed 0 bytes) n) as (λ b. Decides {Y = ℕ × List ℕ} itself (cond b (failed Limit) (Ok (n, bytes)))) [
    | true ↦ λ is. cc
    | false ↦ tt
  ];
}

list_in_reads : DecodesPrefixes itself left list_in
unfolding list_in
list_in_reads = bind _ (head_reads 4) list_tail

pub list_reads : DecodesPrefixes fault left list_at
unfolding list_at
list_reads = at list_in_reads

array_of_in_reads : (count : ℕ) → DecodesPrefixes itself rest_with (λ room bytes. array_of_in room count bytes)
unfolding array_of_in
array_of_in_reads count = bind _ (head_reads 4) (λ n. choose (eqb n count) _ _ done_rest (fails (λ is. cc)))

pub array_of_reads : (count : ℕ) → DecodesPrefixes fault rest_with (λ room bytes. array_of_at room count bytes)
unfolding array_of_at
array_of_reads count = at (array_of_in_reads count)

kind_in_reads : DecodesPrefixes itself seen kind_in
kind_in_reads = look _ first_reads (λ b. seen_done)

pub kind_reads : DecodesPrefixes fault seen kind_at
unfolding kind_at
kind_reads = at kind_in_reads

-- ---- what follows of a decoding that reads so

abbrev given : {Y E : Type 0} → Y → Result Y E
given y = Ok y

-- a value is the same with more bytes after it
pub value_after : {A E : Type 0} {fe : E → FaultKind} {read : ℕ → List ℕ → Result (A × List ℕ) E} → DecodesPrefixes fe left read → (room : ℕ) (bytes more : List ℕ) (x : A) (rest : List ℕ) → read (length more + room) bytes ≡ Ok (x, rest) → read room (bytes ++ more) ≡ Ok (x, rest ++ more)
value_after {A = A} {E = E} {fe = fe} {read = read} reads room bytes more x rest is = subst (λ (r : Result (A × List ℕ) E). StaysDecoded fe left more r (read room (bytes ++ more))) is (reads.stays room bytes more)

early : {A E : Type 0} (fe : E → FaultKind) (more : List ℕ) (r later : Result (A × List ℕ) E) (x : A) → 0 < length more → StaysDecoded fe left more r later → later ≡ Ok (x, []) → FailsBy fe Truncated r
early {A = A} {E = E} fe more (Ok y) later x some stay is =
    let same : ◌≡◌ {A = Result (A × List ℕ) E} (Ok (y.0, y.1 ++ more)) (Ok (x, [])) = sym stay ∙ is in
    let pair : ◌≡◌ {A = A × List ℕ} (y.0, y.1 ++ more) (x, []) = cc in
    let none : y.1 ++ more ≡ [] = ap (λ (z : A × List ℕ). z.1) pair in
    absurd (omega (arith, ap length none, length-append y.1 more, some))
early fe more (Err e) later x some (inl want) is = want
early {A = A} fe more (Err e) later x some (inr same) is = absurd (let bad : failed {Z = A × List ℕ} e ≡ given (x, []) = sym same ∙ is in cc)

-- a value's bytes, without the last of them, want more
pub beginnings : {A E : Type 0} {fe : E → FaultKind} {read : ℕ → List ℕ → Result (A × List ℕ) E} → DecodesPrefixes fe left read → (bytes : List ℕ) (x : A) → ((room : ℕ) → read room (bytes ++ []) ≡ Ok (x, [])) → BeginningsOf fe read bytes
beginnings {A = A} {E = E} {fe = fe} {read = read} reads bytes x is room k lt fits =
    let front : List ℕ = take k bytes in
    let more : List ℕ = drop k bytes in
    let parts : front ++ more ≡ bytes = take-append-drop k bytes in
    let some : length more ≡ length bytes - k = length-drop k bytes in
    let rest : ℕ = room - length more in
    let back : length more + rest ≡ room = omega (arith, some, fits, lt) in
    let whole : read rest (front ++ more) ≡ Ok (x, []) = ap (read rest) (parts ∙ sym (append-nil bytes)) ∙ is rest in
    subst (λ (n : ℕ). FailsBy fe Truncated (read n front)) back (early fe more (read (length more + rest) front) (read rest (front ++ more)) x (omega (arith, some, lt)) (reads.stays rest front more) whole)

-- ---- items and their beginnings

pub unsigned_beginnings : (n : ℕ) → n < 2 ^ 64 → BeginningsOf fault unsigned_at (unsigned n)
unsigned_beginnings n lt = beginnings unsigned_reads (unsigned n) n (λ room. unsigned_again room n [] lt)

pub signed_beginnings : (z : ℤ) → IsSigned z → BeginningsOf fault signed_at (signed z)
signed_beginnings z is = beginnings signed_reads (signed z) z (λ room. signed_again room z [] is)

pub boolean_beginnings : (b : Bool) → BeginningsOf fault boolean_at (boolean b)
boolean_beginnings b = beginnings boolean_reads (boolean b) b (λ room. boolean_again room b [])

pub text_beginnings : (t : List ℕ) → IsText t → BeginningsOf fault text_at (text t)
text_beginnings t is = beginnings text_reads (text t) t (λ room. text_again room t [] is)

pub array_beginnings : (n : ℕ) → n < 2 ^ 64 → BeginningsOf fault array_at (array n)
array_beginnings n lt = beginnings array_reads (array n) n (λ room. array_again room n [] lt)
