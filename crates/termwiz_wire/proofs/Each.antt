-- Changes one after another, as they are encoded and decoded.
use Rattle.std.proofs.Common.{◌≡◌, ℕ, zero, suc, true, false, cond, inl, inr, ◌^◌, ◌<◌, ◌≤◌, List, [], ◌∷◌, ◌++◌, length, Option, Some, None, Result, Ok, Err, refl, sym, ap, subst, ◌∙◌, append_assoc, arith}
use Rattle.std.specs.List.{flat_map, AllByRecursion}
use Rattle.std.proofs.lemmas.List.{append-nil, length-append}
use Rattle.std.proofs.lemmas.Bool.{cases_Bool}
use Rattle.std.proofs.lemmas.List.Concat.{flat_map-cons}
use Rattle.cbor.specs.Encoding.{array}
use Rattle.std.specs.Prelude.{IfSome}
use Rattle.cbor.specs.declared.error.FaultKind.{FaultKind}
use Rattle.cbor.specs.declared.error.FaultKind.TheVariants.{Limit}
use Rattle.cbor.specs.declared.error.FaultKind.TheVariants as faults
use Rattle.cbor.specs.Prefixes.{fault, FailsBy}
use Rattle.cbor.specs.declared.error.ReadError.{ReadError}
use Rattle.cbor.specs.Decoding.{◌>>=◌, Stop, Stops, allowed, fault_of, IsBytes, list_at}
use Rattle.cbor.proofs.Items.{list_again, list_takes}
use Rattle.cbor.proofs.Steps.{Takes, Takes-then, bind_ok, guard_ended, ok_is}
use Rattle.termwiz_cell.specs.ChangeValue.{ChangeValue}
use Rattle.termwiz_wire.specs.Answers.{Halt, halted, each_at, next_at, changes_in}
use Rattle.termwiz_wire.specs.Cuts.{refused}
use Rattle.termwiz_wire.specs.MoreBytes.{halt}
use Rattle.termwiz_wire.specs.Work.{bears, head_rows, spent_on}
use Rattle.termwiz_wire.specs.declared.decode.heads.Head.{Head}
use Rattle.termwiz_wire.specs.Decoding.{change_at}
use Rattle.termwiz_wire.specs.Encoding.{change, changes}
use Rattle.termwiz_wire.specs.Forms.{IsChange, AreChanges}
use Rattle.termwiz_wire.proofs.Again.{change_again}
use Rattle.termwiz_wire.proofs.Bounded.{each-some}
use Rattle.termwiz_wire.proofs.Bounds.{Bears, Passes, bears_more, bears_next, bears_none, not_both}
use Rattle.termwiz_wire.proofs.Steps.{stopped}
use Rattle.termwiz_wire.proofs.Found.{change_takes}
use Rattle.termwiz_wire.proofs.Rows.{FitsRows, each_any}

abbrev done : {Y : Type 0} → Y → Result Y Stop
done y = Ok y

-- what was decoded did not halt
pub halted_ok : {Y : Type 0} (k : Option ℕ) (r : Result Y Stop) (y : Y) → halted k r ≡ Ok y → r ≡ Ok y
halted_ok {Y = Y} k (Ok x) y e = ap (λ (z : Y). done z) (ok_is {A = Y} {E = Halt} x y e)
halted_ok k (Err s) y e = absurd cc

-- what was decoded, and does not halt
pub halted_is : {Y : Type 0} (k : Option ℕ) (r : Result Y Stop) (y : Y) → r ≡ Ok y → halted k r ≡ Ok y
halted_is k r y e = ap (halted k) e

abbrev Stopped : {Y : Type 0} → ℕ → Option ℕ → Option FaultKind → Result Y Halt → Type 0
Stopped left k o r = IfSome o (λ f. r ≡ Err (record { stop = record { fault = f; left = left }; change = k }))

stopped_if : {Y : Type 0} (k : Option ℕ) (left : ℕ) (o : Option FaultKind) (r : Result Y Stop) → IfSome o (λ f. r ≡ Err (record { fault = f; left = left })) → Stopped left k o (halted k r)
stopped_if k left None r e = tt
stopped_if k left (Some f) r e = ap (halted k) e

-- a stop is a halt
pub halted_stops : {Y : Type 0} (k : Option ℕ) (left : ℕ) (error : ReadError) (r : Result Y Stop) → Stops left error r → Stopped left k (fault_of error) (halted k r)
halted_stops k left error r e = stopped_if k left (fault_of error) r e

-- the bytes of the first, and those of the others
apart : (measure : List ℕ → ℕ) (c : ChangeValue) (cs : List ChangeValue) (rest : List ℕ) → flat_map (change measure) (c ∷ cs) ++ rest ≡ change measure c ++ (flat_map (change measure) cs ++ rest)
apart measure c cs rest = ap (λ (x : List ℕ). x ++ rest) (flat_map-cons (change measure) c cs) ∙ append_assoc (change measure c) (flat_map (change measure) cs) rest

-- a change that the screen bears
next_again : (measure : List ℕ → ℕ) (room : ℕ) (head : Option Head) (spent : ℕ) (c : ChangeValue) (rest : List ℕ) → IsChange measure c → FitsRows (head_rows head) c → bears head spent c ≡ true → next_at measure room head spent (change measure c ++ rest) ≡ Ok (c, rest)
unfolding next_at
next_again measure room head spent c rest is on borne = rw (change_again measure room (head_rows head) c rest is on, borne) refl

pub each_again : (measure : List ℕ → ℕ) (room : ℕ) (head : Option Head) (made cs : List ChangeValue) (rest : List ℕ) → AllByRecursion (IsChange measure) cs → AllByRecursion (FitsRows (head_rows head)) cs → Bears head (made ++ cs) → each_at measure room head made (length cs) (flat_map (change measure) cs ++ rest) ≡ Ok (made ++ cs, rest)
unfolding each_at
each_again measure room head made [] rest are on borne = ap (λ (x : List ChangeValue). Ok (x, rest)) (sym (append-nil made))
each_again measure room head made (c ∷ cs) rest are on borne =
    ap (λ (bytes : List ℕ). each_at measure room head made (suc (length cs)) bytes) (apart measure c cs rest)
    ∙ rw (next_again measure room head (spent_on head made) c (flat_map (change measure) cs ++ rest) are.0 on.0 (bears_next head made c cs borne)) (each_again measure room head (made ++ c ∷ []) cs rest are.1 on.1 (subst (λ (x : List ChangeValue). Bears head x) (sym (append_assoc made (c ∷ []) cs)) borne) ∙ ap (λ (x : List ChangeValue). Ok (x, rest)) (append_assoc made (c ∷ []) cs))

-- one that it doesn't bear
next_past : (measure : List ℕ → ℕ) (room : ℕ) (head : Option Head) (spent : ℕ) (c : ChangeValue) (rest : List ℕ) → IsChange measure c → FitsRows (head_rows head) c → bears head spent c ≡ false → FailsBy fault Limit (next_at measure room head spent (change measure c ++ rest))
unfolding next_at
next_past measure room head spent c rest is on past = rw (change_again measure room (head_rows head) c rest is on, past) refl

halted_fails : {Y Z : Type 0} (k : Option ℕ) (r : Result Y Stop) (then : Y → Result Z Halt) → FailsBy fault Limit r → FailsBy halt Limit (halted k r >>= then)
halted_fails k (Ok y) then fails = absurd fails
halted_fails k (Err e) then fails = fails

-- changes that the screen doesn't bear are past the limit
pub each_past : (measure : List ℕ → ℕ) (room : ℕ) (head : Option Head) (made cs : List ChangeValue) (rest : List ℕ) → AllByRecursion (IsChange measure) cs → AllByRecursion (FitsRows (head_rows head)) cs → Bears head made → Passes head (made ++ cs) → FailsBy halt Limit (each_at measure room head made (length cs) (flat_map (change measure) cs ++ rest))
unfolding each_at
each_past measure room head made [] rest are on borne past = absurd (not_both head made borne (subst (λ (x : List ChangeValue). Passes head x) (append-nil made) past))
each_past measure room head made (c ∷ cs) rest are on borne past =
    subst (λ (bytes : List ℕ). FailsBy halt Limit (each_at measure room head made (suc (length cs)) bytes)) (sym (apart measure c cs rest))
    (elim (cases_Bool (bears head (spent_on head made) c)) [
      | inl is ↦ rw (next_again measure room head (spent_on head made) c (flat_map (change measure) cs ++ rest) are.0 on.0 is) (each_past measure room head (made ++ c ∷ []) cs rest are.1 on.1 (bears_more head made c is) (subst (λ (x : List ChangeValue). Passes head x) (sym (append_assoc made (c ∷ []) cs)) past))
      | inr isnt ↦ halted_fails (Some (length made)) (next_at measure room head (spent_on head made) (change measure c ++ (flat_map (change measure) cs ++ rest))) (λ first. each_at measure room head (made ++ first.0 ∷ []) (length cs) first.1) (next_past measure room head (spent_on head made) c (flat_map (change measure) cs ++ rest) are.0 on.0 isnt)
    ])

-- a list of changes fits its bytes
pub changes_fit : (measure : List ℕ → ℕ) (room : ℕ) (cs : List ChangeValue) (rest : List ℕ) → length cs ≤ allowed room (flat_map (change measure) cs ++ rest)
changes_fit measure room cs rest = omega (arith, each-some measure cs, length-append (flat_map (change measure) cs) rest)

pub changes_again : (measure : List ℕ → ℕ) (room : ℕ) (cs : List ChangeValue) (rest : List ℕ) → AreChanges measure cs → changes_in measure room None (changes measure cs ++ rest) ≡ Ok (cs, rest)
unfolding changes_in changes
changes_again measure room cs rest are =
    ap (changes_in measure room None) (append_assoc (array (length cs)) (flat_map (change measure) cs) rest)
    ∙ rw (list_again room (length cs) (flat_map (change measure) cs ++ rest) are.count (changes_fit measure room cs rest), each_again measure room None [] cs rest are.each (each_any cs) tt) refl

-- ---- what is decoded

pub record ChangesFound (measure : List ℕ → ℕ) (head : Option Head) (made : List ChangeValue) (n : ℕ) (bytes : List ℕ) (x : List ChangeValue × List ℕ) : Type 0 where
  pub changes : List ChangeValue
  pub made_is : x.0 ≡ made ++ changes
  pub count : length changes ≡ n
  pub taken : Takes bytes (flat_map (change measure) changes) x.1
  pub each : AllByRecursion (IsChange measure) changes
  pub on : AllByRecursion (FitsRows (head_rows head)) changes
  pub borne : Bears head made → Bears head x.0

-- a change that was decoded is one that the screen bears
next_takes : (measure : List ℕ → ℕ) (room : ℕ) (head : Option Head) (spent : ℕ) (bytes : List ℕ) (x : ChangeValue × List ℕ) → next_at measure room head spent bytes ≡ Ok x → (change_at measure room (head_rows head) bytes ≡ Ok x) × (bears head spent x.0 ≡ true)
unfolding next_at
next_takes measure room head spent bytes x e =
    let c = bind_ok (change_at measure room (head_rows head) bytes) _ x e in
    let g = guard_ended (bears head spent c.0.0) (stopped faults.Limit room bytes) c.0 x c.2 in
    subst (λ (y : ChangeValue × List ℕ). (change_at measure room (head_rows head) bytes ≡ Ok y) × (bears head spent y.0 ≡ true)) g.1 (c.1, g.0)

-- what was decoded next in an answer
pub next_found : (measure : List ℕ → ℕ) (room : ℕ) (head : Option Head) (spent : ℕ) (bytes : List ℕ) (x : ChangeValue × List ℕ) → IsBytes bytes → next_at measure room head spent bytes ≡ Ok x → Takes bytes (change measure x.0) x.1
next_found measure room head spent bytes x fits e = (change_takes measure room (head_rows head) bytes x fits (next_takes measure room head spent bytes x e).0).0

pub each_takes : (measure : List ℕ → ℕ) (room : ℕ) (head : Option Head) (n : ℕ) (made : List ChangeValue) (bytes : List ℕ) (x : List ChangeValue × List ℕ) → IsBytes bytes → each_at measure room head made n bytes ≡ Ok x → ChangesFound measure head made n bytes x
unfolding each_at
each_takes measure room head zero made bytes x fits e =
    subst (λ (y : List ChangeValue × List ℕ). ChangesFound measure head made zero bytes y) (ok_is {A = List ChangeValue × List ℕ} {E = Halt} (made, bytes) x e)
    (record { changes = []; made_is = sym (append-nil made); count = refl; taken = record { parts = refl; rest_fits = fits }; each = tt; on = tt; borne = λ is. is })
each_takes measure room head (suc n) made bytes x fits e =
    let spent : ℕ = spent_on head made in
    let first = bind_ok (halted (Some (length made)) (next_at measure room head spent bytes)) _ x e in
    let next = next_takes measure room head spent bytes first.0 (halted_ok (Some (length made)) (next_at measure room head spent bytes) first.0 first.1) in
    let t = change_takes measure room (head_rows head) bytes first.0 fits next.0 in
    let c : ChangeValue = first.0.0 in
    let more = each_takes measure room head n (made ++ c ∷ []) first.0.1 x t.0.rest_fits first.2 in
    record {
      changes = c ∷ more.changes;
      made_is = more.made_is ∙ append_assoc made (c ∷ []) more.changes;
      count = ap suc more.count;
      taken = subst (λ (z : List ℕ). Takes bytes z x.1) (sym (flat_map-cons (change measure) c more.changes)) (Takes-then bytes (change measure c) first.0.1 (flat_map (change measure) more.changes) x.1 t.0 more.taken);
      each = (t.1, more.each);
      on = (t.2, more.on);
      borne = λ is. more.borne (bears_more head made c next.1);
    }

-- the changes after a head that says how many there are
pub listed_takes : (measure : List ℕ → ℕ) (room : ℕ) (head : Option Head) (n : ℕ) (before bytes : List ℕ) (x : List ChangeValue × List ℕ) → Takes before (array n) bytes → n < 2 ^ 64 → each_at measure room head [] n bytes ≡ Ok x → Takes before (changes measure x.0) x.1 × AreChanges measure x.0 × AllByRecursion (FitsRows (head_rows head)) x.0 × Bears head x.0
unfolding changes
listed_takes measure room head n before bytes x opened lt e =
    let tc = each_takes measure room head n [] bytes x opened.rest_fits e in
    let all = Takes-then before (array n) bytes (flat_map (change measure) tc.changes) x.1 opened tc.taken in
    let counted = subst (λ (k : ℕ). Takes before (array k ++ flat_map (change measure) tc.changes) x.1) (sym tc.count) all in
    let few : length tc.changes < 2 ^ 64 = omega (arith, lt, tc.count) in
    let are : AreChanges measure tc.changes = record { count = few; each = tc.each } in
    subst (λ (cs : List ChangeValue). Takes before (array (length cs) ++ flat_map (change measure) cs) x.1 × AreChanges measure cs × AllByRecursion (FitsRows (head_rows head)) cs × Bears head cs) (sym tc.made_is) (counted, are, tc.on, subst (λ (cs : List ChangeValue). Bears head cs) tc.made_is (tc.borne (bears_none head)))

pub changes_takes : (measure : List ℕ → ℕ) (room : ℕ) (bytes : List ℕ) (x : List ChangeValue × List ℕ) → IsBytes bytes → changes_in measure room None bytes ≡ Ok x → Takes bytes (changes measure x.0) x.1
unfolding changes_in
changes_takes measure room bytes x fits e =
    let n = bind_ok (halted None (list_at room bytes)) _ x e in
    let tn = list_takes room bytes n.0 fits (halted_ok None (list_at room bytes) n.0 n.1) in
    (listed_takes measure room None n.0.0 bytes n.0.1 x tn.0 tn.1 n.2).0
