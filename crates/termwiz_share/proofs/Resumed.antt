-- What a client began to decode leads on, when more bytes come.
use Rattle.std.proofs.Common.{◌≡◌, ℕ, ◌+◌, ◌-◌, ◌<◌, ◌≤◌, List, [], ◌++◌, refl, length, take, drop, Option, Some, None, Result, Ok, Err, false, sym, ap, subst, ◌∙◌, append_assoc, append-nil, arith, inl, inr}
use Rattle.std.proofs.Math.Seq.{take-append-add}
use Rattle.std.proofs.lemmas.Bool.{cases_lt, true≢false}
use Rattle.std.proofs.lemmas.List.{length-append, length-drop, take-append-drop, take-append-le, take_all}
use Rattle.std.specs.Option.{ForSome}
use Rattle.std.specs.Prelude.{IfSome, OnOk}
use Rattle.std.specs.Result.{is_err}
use Rattle.termwiz_wire.specs.Answers.{answer_in}
use Rattle.termwiz_wire.specs.Resuming.{LeadsOn, resumed_in}
use Rattle.termwiz_wire.specs.declared.decode.begun.Begun.{Begun}
use Rattle.termwiz_wire.specs.declared.fault.Limits.{Limits}

abbrev some : {A : Type 0} → A → Option A
some x = Some x

some_is : {A : Type 0} (x y : A) → some x ≡ some y → x ≡ y
some_is x y e = cc

-- a fact of what is there, if anything is
pub for_if : {A : Type 0} (P : A → Type 0) (o : Option A) → IfSome o P → ForSome o P
for_if P None is = λ x e. absurd cc
for_if {A = A} P (Some y) is = λ x e. let same : y ≡ x = some_is {A = A} y x e in subst P same is

pub if_for : {A : Type 0} (P : A → Type 0) (o : Option A) → ForSome o P → IfSome o P
if_for P None is = tt
if_for P (Some y) is = is y refl

-- what holds of a call that succeeded
pub on_ok : {A E : Type 0} (P : Type 0) (r : Result A E) → is_err r ≡ false → OnOk r P → P
on_ok P (Ok x) e is = is
on_ok P (Err x) e is = absurd (true≢false e)

module _ (measure : List ℕ → ℕ) (limits : Limits) (kept piece : List ℕ) where
  -- the bytes that come within the limit
  record IsMore (extra : List ℕ) : Type 0 where
    hand : take limits.bytes (kept ++ piece) ≡ take limits.bytes kept ++ extra
    sums : (near room : ℕ) → near + room ≡ limits.bytes - length (kept ++ piece) → length extra + near + room ≡ limits.bytes - length kept

  more_past : limits.bytes < length kept → IsMore []
  more_past lt = record {
    hand = take-append-le limits.bytes kept piece (omega (arith, lt)) ∙ sym (append-nil (take limits.bytes kept));
    sums = λ near room all. omega (arith, lt, all, length-append kept piece);
  }

  more_within : length kept ≤ limits.bytes → IsMore (take (limits.bytes - length kept) piece)
  more_within le =
      let k : ℕ = limits.bytes - length kept in
      let e : limits.bytes ≡ length kept + k = omega (arith, le) in
      let lens : length (take k piece) + length (drop k piece) ≡ length piece = sym (length-append (take k piece) (drop k piece)) ∙ ap length (take-append-drop k piece) in
      record {
        hand = ap (λ (n : ℕ). take n (kept ++ piece)) e ∙ take-append-add kept piece k ∙ ap (λ (t : List ℕ). t ++ take k piece) (sym (take_all limits.bytes kept le));
        sums = λ near room all. omega (arith, le, all, lens, length-drop k piece, length-append kept piece);
      }

  leads_by : (b : Begun) (extra : List ℕ) → IsMore extra → LeadsOn measure limits b kept → LeadsOn measure limits b (kept ++ piece)
  leads_by b extra more leads = record {
    width = leads.width;
    height = leads.height;
    numbers = leads.numbers;
    taken = rw more.hand (omega (arith, leads.taken, length-append (take limits.bytes kept) extra));
    spent = leads.spent;
    borne = leads.borne;
    next = leads.next;
    same = λ near room all.
        let e : take limits.bytes (kept ++ piece) ++ near ≡ take limits.bytes kept ++ (extra ++ near) = ap (λ (t : List ℕ). t ++ near) more.hand ∙ append_assoc (take limits.bytes kept) extra near in
        ap (answer_in measure room limits) e ∙ leads.same (extra ++ near) room (omega (arith, length-append extra near, more.sums (length near) room all)) ∙ ap (resumed_in measure room b) (sym e);
  }

  pub leads_behind : (begun : Option Begun) → IfSome begun (λ b. LeadsOn measure limits b kept) → IfSome begun (λ b. LeadsOn measure limits b (kept ++ piece))
  leads_behind None leads = tt
  leads_behind (Some b) leads = elim (cases_lt limits.bytes (length kept)) [
    | inl lt ↦ leads_by b [] (more_past lt) leads
    | inr le ↦ leads_by b (take (limits.bytes - length kept) piece) (more_within le) leads
  ]
