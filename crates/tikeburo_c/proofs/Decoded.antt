-- Bytes that encode one value, with nothing after it.
use Rattle.std.proofs.Common.{◌≡◌, ◌⊎◌, inl, inr, ℕ, ◌<◌, ◌≤◌, List, [], ◌++◌, length, drop, refl, sym, ap, subst, ◌∙◌, arith}
use Rattle.std.proofs.lemmas.List.{append-nil, length-drop, nil_from_length}
use Rattle.std.specs.Prelude.{Result, Ok, Err, IsErrAnd}
use Rattle.cbor.specs.Decoding.{ok}
use Rattle.termwiz_wire.specs.Answers.{Decodes}
use Rattle.termwiz_wire.specs.declared.fault.Fault.{Fault}
use Rattle.termwiz_wire.specs.declared.fault.WireError.{WireError}
use Rattle.termwiz_wire.specs.declared.fault.WireError.TheVariants as errors
use Rattle.tikeburo_c.specs.Outcomes.{decoding_failure, unread_as}
use Rattle.tikeburo_c.specs.declared.failure.Failure.{Failure}
use Rattle.tikeburo_c.specs.declared.failure.Failure.TheVariants.{Memory, Unreadable}

ok_is : {A : Type 0} (p q : A × List ℕ) → ok {A = A} {E = Fault} p.0 p.1 ≡ ok q.0 q.1 → p ≡ q
ok_is p q e = cc

no_fault : {A : Type 0} (a : A) (l : List ℕ) (f : Fault) → ok {A = A} {E = Fault} a l ≡ Err f → ⊥
no_fault a l f e = cc

-- what holds of the one failure that a result may be
pub failed_by : {A : Type 0} (P : Result A Failure → Type 0) (r : Result A Failure) (f : Failure) → IsErrAnd r (λ g. g ≡ f) → P (Err f) → P r
failed_by P (Ok a) f is p = absurd is
failed_by P (Err g) f is p = subst (λ (h : Failure). P (Err h)) (sym is) p

-- all bytes are taken just where nothing is left
all_taken : (n : ℕ) (bytes : List ℕ) → length bytes ≤ n → drop n bytes ≡ []
all_taken n bytes le = nil_from_length (drop n bytes) (omega (arith, length-drop n bytes, le))

taken_all : (n : ℕ) (bytes : List ℕ) → drop n bytes ≡ [] → length bytes ≤ n
taken_all n bytes e = omega (arith, length-drop n bytes, ap length e)

both_taken : (n : ℕ) (bytes : List ℕ) → n < length bytes → drop n bytes ≡ [] → ⊥
both_taken n bytes lt e = absurd (omega (arith, taken_all n bytes e, lt))

module _ {A : Type 0} (Is : A → Type 0) (encode : A → List ℕ) (bytes : List ℕ) where
  module _ (x : A) (n : ℕ) (again : (a : A) (rest : List ℕ) → Is a → bytes ≡ encode a ++ rest → ok {A = A} {E = Fault} a rest ≡ Ok (x, drop n bytes)) where
    same : (a : A) → Is a → bytes ≡ encode a → ◌≡◌ {A = A × List ℕ} (a, []) (x, drop n bytes)
    same a is e = ok_is {A = A} (a, []) (x, drop n bytes) (again a [] is (e ∙ sym (append-nil (encode a))))

    -- a value that takes all bytes is the one that they encode
    pub one_whole : bytes ≡ encode x ++ drop n bytes → length bytes ≤ n → (bytes ≡ encode x) × ((a : A) → Is a → bytes ≡ encode a → x ≡ a)
    one_whole parts le = (
      parts ∙ ap (λ (rest : List ℕ). encode x ++ rest) (all_taken n bytes le) ∙ append-nil (encode x),
      λ a is e. sym (ap (λ (p : A × List ℕ). p.0) (same a is e)),
    )

    -- with bytes after a value they encode none
    pub more_behind : (read : Result (A × List ℕ) Fault) → read ≡ Ok (x, drop n bytes) → n < length bytes → (Unreadable ≡ unread_as read) × ((a : A) → Is a → bytes ≡ encode a → ⊥)
    more_behind read exact lt = (
      ap unread_as (sym exact),
      λ a is e. both_taken n bytes lt (sym (ap (λ (p : A × List ℕ). p.1) (same a is e))),
    )

  -- bytes that were not decoded encode no value, unless memory was refused
  pub not_decoded : {X : Type 0} (view : X → A × List ℕ) (e : WireError) (read : Result (A × List ℕ) Fault) → Decodes view (Err e) read → ((a : A) (rest : List ℕ) → Is a → bytes ≡ encode a ++ rest → Decodes view (Err e) (ok a rest)) → (decoding_failure e ≡ Memory) ⊎ ((decoding_failure e ≡ unread_as read) × ((a : A) → Is a → bytes ≡ encode a → ⊥))
  not_decoded view errors.Memory read exact again = inl refl
  not_decoded view (errors.Fault f) read exact again = inr (ap unread_as (sym exact), λ a is e. no_fault a [] f (again a [] is (e ∙ sym (append-nil (encode a)))))
