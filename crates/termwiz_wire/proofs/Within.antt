-- Decoding within a limit of bytes, from decoding of the bytes that it allows.
use Rattle.std.proofs.Common.{◌≡◌, ℕ, ◌+◌, ◌-◌, ◌≤◌, List, ◌++◌, length, take, drop, Option, Some, None, Result, Ok, Err, refl, sym, ap, subst, ◌∙◌, append_assoc, arith}
use Rattle.std.specs.Prelude.{IfSome}
use Rattle.std.proofs.Math.Seq.{take-append-add, drop-append-add}
use Rattle.std.proofs.lemmas.List.{length-append, length-take, take-append-drop, drop_at}
use Rattle.cbor.specs.declared.error.FaultKind.{FaultKind}
use Rattle.cbor.specs.declared.error.ReadError.{ReadError}
use Rattle.cbor.specs.Decoding.{ok, allowed, fault_of}
use Rattle.termwiz_wire.specs.Answers.{Halt, Decodes, error_of, located, within}
use Rattle.termwiz_wire.specs.declared.fault.Fault.{Fault}
use Rattle.termwiz_wire.specs.declared.fault.WireError.{WireError}

-- what was taken of bytes that were cut at the limit
pub record IsTaken (limit : ℕ) (bytes encoded rest : List ℕ) (taken : ℕ) : Type 0 where
  pub after : drop taken bytes ≡ rest ++ drop limit bytes
  pub parts : bytes ≡ encoded ++ drop taken bytes
  pub len : taken ≡ length encoded
  pub fits : taken ≤ length bytes
  pub limited : taken ≤ length (take limit bytes)

pub taken_of : (limit : ℕ) (bytes encoded rest : List ℕ) → take limit bytes ≡ encoded ++ rest → IsTaken limit bytes encoded rest (length (take limit bytes) - length rest)
taken_of limit bytes encoded rest e =
    let hand : List ℕ = take limit bytes in
    let past : List ℕ = drop limit bytes in
    let whole : bytes ≡ encoded ++ (rest ++ past) = sym (take-append-drop limit bytes) ∙ ap (λ (t : List ℕ). t ++ past) e ∙ append_assoc encoded rest past in
    let lens : length hand ≡ length encoded + length rest = ap length e ∙ length-append encoded rest in
    let all : length bytes ≡ length encoded + length (rest ++ past) = ap length whole ∙ length-append encoded (rest ++ past) in
    let n : length hand - length rest ≡ length encoded = omega (arith, lens) in
    let after : drop (length hand - length rest) bytes ≡ rest ++ past = ap (drop (length hand - length rest)) whole ∙ drop_at encoded (rest ++ past) (length hand - length rest) (sym n) in
    record {
      after = after;
      parts = whole ∙ ap (λ (t : List ℕ). encoded ++ t) (sym after);
      len = n;
      fits = omega (arith, n, all);
      limited = omega (arith, n, lens);
    }

-- a value
pub within_ok : {A : Type 0} (read : ℕ → List ℕ → Result (A × List ℕ) Halt) (limit : ℕ) (bytes encoded rest : List ℕ) (x : A) → take limit bytes ≡ encoded ++ rest → read (limit - length bytes) (take limit bytes) ≡ Ok (x, rest) → within read limit bytes ≡ Ok (x, drop (length (take limit bytes) - length rest) bytes)
within_ok {A = A} read limit bytes encoded rest x e is =
    ap (located (allowed (limit - length bytes) (take limit bytes)) (drop limit bytes)) is ∙ ap (λ (t : List ℕ). ok {E = Fault} x t) (sym (taken_of limit bytes encoded rest e).after)

decodes_none : {X Y : Type 0} (view : X → Y) (o : Option FaultKind) (error : ReadError) (at : ℕ) (change : Option ℕ) (read : Result Y Fault) → fault_of error ≡ o → IfSome o (λ f. read ≡ Err (record { kind = f; at = at; change = change })) → Decodes view (Err (error_of error at change)) read
decodes_none view None error at change read is h = rw is tt
decodes_none view (Some f) error at change read is h = rw is h

pub if_some : {A : Type 0} (o : Option A) (P Q : A → Type 0) → ((x : A) → P x → Q x) → IfSome o P → IfSome o Q
if_some None P Q law is = tt
if_some (Some x) P Q law is = law x is

abbrev fails : {Y : Type 0} → Fault → Result Y Fault
fails f = Err f

-- a fault, at its byte
pub within_err : {X A : Type 0} (view : X → A × List ℕ) (read : ℕ → List ℕ → Result (A × List ℕ) Halt) (limit : ℕ) (bytes rest : List ℕ) (room : ℕ) (error : ReadError) (change : Option ℕ) → room ≡ limit - length bytes → IfSome (fault_of error) (λ f. read (limit - length bytes) (take limit bytes) ≡ Err (record { stop = record { fault = f; left = allowed room rest }; change = change })) → Decodes view (Err (error_of error (length (take limit bytes) - length rest) change)) (within read limit bytes)
within_err {A = A} view read limit bytes rest room error change same h =
    let all : ℕ = allowed (limit - length bytes) (take limit bytes) in
    let at : all - allowed room rest ≡ length (take limit bytes) - length rest = omega (arith, same) in
    decodes_none view (fault_of error) error (length (take limit bytes) - length rest) change (within read limit bytes) refl
    (if_some (fault_of error) (λ f. read (limit - length bytes) (take limit bytes) ≡ Err (record { stop = record { fault = f; left = allowed room rest }; change = change })) (λ f. within read limit bytes ≡ Err (record { kind = f; at = length (take limit bytes) - length rest; change = change }))
    (λ f is. ap (located all (drop limit bytes)) is ∙ ap (λ (n : ℕ). fails (record { kind = f; at = n; change = change })) at) h)

-- ---- what is encoded

-- the bytes of an encoding within the limit
pub within_again : {A : Type 0} (read : ℕ → List ℕ → Result (A × List ℕ) Halt) (limit : ℕ) (bytes encoded rest : List ℕ) (x : A) → length encoded ≤ limit → bytes ≡ encoded ++ rest → ((room : ℕ) (more : List ℕ) → read room (encoded ++ more) ≡ Ok (x, more)) → within read limit bytes ≡ Ok (x, rest)
within_again {A = A} read limit bytes encoded rest x fits e law =
    let n : ℕ = limit - length encoded in
    let sum : length encoded + n ≡ limit = omega (arith, fits) in
    let hand : take limit bytes ≡ encoded ++ take n rest = ap (take limit) e ∙ ap (λ (k : ℕ). take k (encoded ++ rest)) (sym sum) ∙ take-append-add encoded rest n in
    let past : drop limit bytes ≡ drop n rest = ap (drop limit) e ∙ ap (λ (k : ℕ). drop k (encoded ++ rest)) (sym sum) ∙ drop-append-add encoded rest n in
    let is : read (limit - length bytes) (take limit bytes) ≡ Ok (x, take n rest) = ap (read (limit - length bytes)) hand ∙ law (limit - length bytes) (take n rest) in
    let all : ℕ = allowed (limit - length bytes) (take limit bytes) in
    ap (located all (drop limit bytes)) is ∙ ap (λ (t : List ℕ). ok {E = Fault} x t) (ap (λ (t : List ℕ). take n rest ++ t) past ∙ take-append-drop n rest)

-- ---- what a call returns

-- n bytes were taken for the value
pub record Took {A : Type 0} (read : ℕ → List ℕ → Result (A × List ℕ) Halt) (limit : ℕ) (encoded bytes : List ℕ) (n : ℕ) (x : A) : Type 0 where
  pub parts : bytes ≡ encoded ++ drop n bytes
  pub fits : n ≤ length bytes
  pub limited : n ≤ limit
  pub exact : within read limit bytes ≡ Ok (x, drop n bytes)

pub took : {A : Type 0} (read : ℕ → List ℕ → Result (A × List ℕ) Halt) (limit : ℕ) (encoded bytes hand rest : List ℕ) (room n : ℕ) (x : A) → hand ≡ take limit bytes → room ≡ limit - length bytes → hand ≡ encoded ++ rest → read room hand ≡ Ok (x, rest) → n ≡ length hand - length rest → Took read limit encoded bytes n x
took {A = A} read limit encoded bytes hand rest room n x same left parts e is =
    let cut : take limit bytes ≡ encoded ++ rest = sym same ∙ parts in
    let n_is : length (take limit bytes) - length rest ≡ n = ap (λ (h : List ℕ). length h - length rest) (sym same) ∙ sym is in
    let found : IsTaken limit bytes encoded rest n = subst (λ (k : ℕ). IsTaken limit bytes encoded rest k) n_is (taken_of limit bytes encoded rest cut) in
    let here : read (limit - length bytes) (take limit bytes) ≡ Ok (x, rest) = ap (λ (k : ℕ). read k (take limit bytes)) (sym left) ∙ ap (read room) (sym same) ∙ e in
    let few : length (take limit bytes) ≤ limit = omega (arith, length-take limit bytes) in
    record {
      parts = found.parts;
      fits = found.fits;
      limited = omega (arith, found.limited, few);
      exact = within_ok read limit bytes encoded rest x cut here ∙ ap (λ (k : ℕ). ok {E = Fault} x (drop k bytes)) n_is;
    }

abbrev pub Stopped : {A : Type 0} → ReadError → Option ℕ → ℕ → Result (A × List ℕ) Halt → Type 0
Stopped error change left r = IfSome (fault_of error) (λ f. r ≡ Err (record { stop = record { fault = f; left = left }; change = change }))

-- a call fails where decoding halts
pub stopped_at : {X A : Type 0} (view : X → A × List ℕ) (read : ℕ → List ℕ → Result (A × List ℕ) Halt) (limit : ℕ) (bytes hand rest : List ℕ) (room new_room n : ℕ) (error : ReadError) (change : Option ℕ) (result : WireError) → hand ≡ take limit bytes → room ≡ limit - length bytes → new_room ≡ room → Stopped error change (allowed new_room rest) (read room hand) → n ≡ length hand - length rest → result ≡ error_of error n change → Decodes view (Err result) (within read limit bytes)
stopped_at {A = A} view read limit bytes hand rest room new_room n error change result same left kept e is result_is =
    let left_is : ℕ = allowed new_room rest in
    let here : Stopped error change left_is (read (limit - length bytes) (take limit bytes)) = subst (λ (k : ℕ). Stopped error change left_is (read k (take limit bytes))) left (subst (λ (h : List ℕ). Stopped error change left_is (read room h)) same e) in
    let at : n ≡ length (take limit bytes) - length rest = is ∙ ap (λ (h : List ℕ). length h - length rest) same in
    let d : Decodes view (Err (error_of error (length (take limit bytes) - length rest) change)) (within read limit bytes) = within_err view read limit bytes rest new_room error change (kept ∙ left) here in
    subst (λ (w : WireError). Decodes view (Err w) (within read limit bytes)) (ap (λ (k : ℕ). error_of error k change) (sym at) ∙ sym result_is) d

-- what is there of bytes before the call took some of them
pub lens_of : (all hand rest : List ℕ) (n : ℕ) → n ≡ length all - length rest → all ≡ hand → n ≡ length hand - length rest
lens_of all hand rest n is same = is ∙ ap (λ (b : List ℕ). length b - length rest) same
