-- A loop that decodes a number of values, one after another.
use Rattle.std.proofs.Common.{◌≡◌, ℕ, zero, suc, ◌-◌, ◌+◌, ◌≤◌, ◌<◌, List, [], ◌∷◌, ◌++◌, length, Option, Some, None, Result, Ok, Err, refl, sym, ap, ◌∙◌, arith}
use Rattle.std.specs.Prelude.{IfSome}
use Rattle.cbor.specs.declared.error.FaultKind.{FaultKind}
use Rattle.cbor.specs.declared.error.ReadError.{ReadError}
use Rattle.cbor.specs.Decoding.{◌>>=◌, Stop, Stops, fault_of}
use Rattle.termwiz_cell.specs.ChangeValue.{ChangeValue}
use Rattle.termwiz_wire.specs.Answers.{Halt, halted, each_at, next_at}
use Rattle.termwiz_wire.specs.Decoding.{param_item_at, params_at}
use Rattle.termwiz_wire.specs.Work.{spent_on}
use Rattle.termwiz_wire.specs.declared.decode.heads.Head.{Head}

module _ {S X E : Type 0} (read : S → List ℕ → Result (X × List ℕ) E) (add : S → X → S) (many : S → ℕ → List ℕ → Result (S × List ℕ) E)
    (none : (s : S) (bytes : List ℕ) → many s zero bytes ≡ Ok (s, bytes)) (some : (s : S) (n : ℕ) (bytes : List ℕ) → many s (suc n) bytes ≡ (read s bytes >>= λ x. many (add s x.0) n x.1)) where
  pub goes_on : (s : S) (count i : ℕ) (bytes : List ℕ) (x : X) (after : List ℕ) (total : Result (S × List ℕ) E) → i < count → read s bytes ≡ Ok (x, after) → many s (count - i) bytes ≡ total → many (add s x) (count - (i + 1)) after ≡ total
  goes_on s count i bytes x after total lt h so_far =
      let k : count - i ≡ suc (count - (i + 1)) = omega arith in
      let one : many s (count - i) bytes ≡ many (add s x) (count - (i + 1)) after = ap (λ (n : ℕ). many s n bytes) k ∙ some s (count - (i + 1)) bytes ∙ ap (λ (r : Result (X × List ℕ) E). r >>= λ x. many (add s x.0) (count - (i + 1)) x.1) h in
      sym one ∙ so_far

  pub ends_with : (f : Option FaultKind) (stop : FaultKind → E) (s : S) (count i : ℕ) (bytes : List ℕ) (total : Result (S × List ℕ) E) → i < count → IfSome f (λ f. read s bytes ≡ Err (stop f)) → many s (count - i) bytes ≡ total → IfSome f (λ f. total ≡ Err (stop f))
  ends_with None stop s count i bytes total lt h so_far = tt
  ends_with (Some f) stop s count i bytes total lt h so_far =
      let k : count - i ≡ suc (count - (i + 1)) = omega arith in
      let one : many s (count - i) bytes ≡ Err (stop f) = ap (λ (n : ℕ). many s n bytes) k ∙ some s (count - (i + 1)) bytes ∙ ap (λ (r : Result (X × List ℕ) E). r >>= λ x. many (add s x.0) (count - (i + 1)) x.1) h in
      sym so_far ∙ one

  pub is_done : (s : S) (count i : ℕ) (bytes : List ℕ) (total : Result (S × List ℕ) E) → count ≤ i → many s (count - i) bytes ≡ total → total ≡ Ok (s, bytes)
  is_done s count i bytes total le so_far =
      let k : count - i ≡ 0 = omega arith in
      let one : many s (count - i) bytes ≡ Ok (s, bytes) = ap (λ (n : ℕ). many s n bytes) k ∙ none s bytes in
      sym so_far ∙ one

abbrev stop_at : ℕ → FaultKind → Stop
stop_at left f = record { fault = f; left = left }

-- params
abbrev Param : Type 0
Param = List ℕ × List ℕ

abbrev param_added : List Param → Param → List Param
param_added s x = s ++ x ∷ []

pub params_none : (room : ℕ) (s : List Param) (bytes : List ℕ) → params_at room s zero bytes ≡ Ok (s, bytes)
unfolding params_at
params_none room s bytes = refl

pub params_some : (room : ℕ) (s : List Param) (n : ℕ) (bytes : List ℕ) → params_at room s (suc n) bytes ≡ (param_item_at room s bytes >>= λ x. params_at room (s ++ x.0 ∷ []) n x.1)
unfolding params_at
params_some room s n bytes = refl

pub params_go_on : (room : ℕ) (s : List Param) (count i : ℕ) (bytes : List ℕ) (x : Param) (after : List ℕ) (total : Result (List Param × List ℕ) Stop) → i < count → param_item_at room s bytes ≡ Ok (x, after) → params_at room s (count - i) bytes ≡ total → params_at room (s ++ x ∷ []) (count - (i + 1)) after ≡ total
params_go_on room = goes_on (param_item_at room) param_added (params_at room) (params_none room) (params_some room)

pub params_end : (room left : ℕ) (e : ReadError) (s : List Param) (count i : ℕ) (bytes : List ℕ) (total : Result (List Param × List ℕ) Stop) → i < count → Stops left e (param_item_at room s bytes) → params_at room s (count - i) bytes ≡ total → Stops left e total
params_end room left e = ends_with (param_item_at room) param_added (params_at room) (params_none room) (params_some room) (fault_of e) (stop_at left)

pub params_done : (room : ℕ) (s : List Param) (count i : ℕ) (bytes : List ℕ) (total : Result (List Param × List ℕ) Stop) → count ≤ i → params_at room s (count - i) bytes ≡ total → total ≡ Ok (s, bytes)
params_done room = is_done (param_item_at room) param_added (params_at room) (params_none room) (params_some room)

-- changes
abbrev change_next : (List ℕ → ℕ) → ℕ → Option Head → List ChangeValue → List ℕ → Result (ChangeValue × List ℕ) Halt
change_next measure room head s bytes = halted (Some (length s)) (next_at measure room head (spent_on head s) bytes)

abbrev added : List ChangeValue → ChangeValue → List ChangeValue
added s x = s ++ x ∷ []

each_none : (measure : List ℕ → ℕ) (room : ℕ) (head : Option Head) (s : List ChangeValue) (bytes : List ℕ) → each_at measure room head s zero bytes ≡ Ok (s, bytes)
unfolding each_at
each_none measure room head s bytes = refl

pub each_some : (measure : List ℕ → ℕ) (room : ℕ) (head : Option Head) (s : List ChangeValue) (n : ℕ) (bytes : List ℕ) → each_at measure room head s (suc n) bytes ≡ (halted (Some (length s)) (next_at measure room head (spent_on head s) bytes) >>= λ x. each_at measure room head (s ++ x.0 ∷ []) n x.1)
unfolding each_at
each_some measure room head s n bytes = refl

pub each_go_on : (measure : List ℕ → ℕ) (room : ℕ) (head : Option Head) (s : List ChangeValue) (count i : ℕ) (bytes : List ℕ) (x : ChangeValue) (after : List ℕ) (total : Result (List ChangeValue × List ℕ) Halt) → i < count → next_at measure room head (spent_on head s) bytes ≡ Ok (x, after) → each_at measure room head s (count - i) bytes ≡ total → each_at measure room head (s ++ x ∷ []) (count - (i + 1)) after ≡ total
each_go_on measure room head s count i bytes x after total lt h so_far = goes_on (change_next measure room head) added (each_at measure room head) (each_none measure room head) (each_some measure room head) s count i bytes x after total lt (ap (halted (Some (length s))) h) so_far

halts : {Y : Type 0} (k : Option ℕ) (left : ℕ) (f : Option FaultKind) (r : Result Y Stop) → IfSome f (λ f. r ≡ Err (stop_at left f)) → IfSome f (λ f. halted k r ≡ Err (record { stop = stop_at left f; change = k }))
halts k left None r h = tt
halts k left (Some f) r h = ap (halted k) h

pub each_end : (measure : List ℕ → ℕ) (room : ℕ) (head : Option Head) (left : ℕ) (e : ReadError) (s : List ChangeValue) (count i : ℕ) (bytes : List ℕ) (total : Result (List ChangeValue × List ℕ) Halt) → i < count → length s ≡ i → Stops left e (next_at measure room head (spent_on head s) bytes) → each_at measure room head s (count - i) bytes ≡ total → IfSome (fault_of e) (λ f. total ≡ Err (record { stop = record { fault = f; left = left }; change = Some i }))
each_end measure room head left e s count i bytes total lt len h so_far =
    rw (sym len) (ends_with (change_next measure room head) added (each_at measure room head) (each_none measure room head) (each_some measure room head) (fault_of e) (λ f. record { stop = stop_at left f; change = Some (length s) }) s count (length s) bytes total (omega (arith, lt, len)) (halts (Some (length s)) left (fault_of e) (next_at measure room head (spent_on head s) bytes) h) (ap (λ (n : ℕ). each_at measure room head s (count - n) bytes) len ∙ so_far))

pub each_done : (measure : List ℕ → ℕ) (room : ℕ) (head : Option Head) (s : List ChangeValue) (count i : ℕ) (bytes : List ℕ) (total : Result (List ChangeValue × List ℕ) Halt) → count ≤ i → each_at measure room head s (count - i) bytes ≡ total → total ≡ Ok (s, bytes)
each_done measure room head = is_done (change_next measure room head) added (each_at measure room head) (each_none measure room head) (each_some measure room head)
