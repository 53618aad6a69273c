-- What a log has from a number on.
use Rattle.std.proofs.Common.{◌≡◌, ℕ, ◌+◌, ◌-◌, ◌≤◌, ◌<◌, ◌^◌, min, true, false, inl, inr, List, [], length, take, drop, map, refl, sym, ◌∙◌, ap, arith, length-append, length-drop}
use Rattle.std.specs.Prelude.{◌==◌, if◌then◌else◌}
use Rattle.termwiz_cell.specs.ChangeValue.{ChangeValue}
use Rattle.std.proofs.lemmas.Bool.{cases_Bool, cases_lt, ne_eqb, le-leb}
use Rattle.std.proofs.lemmas.Bool.Decides.{nat_tests}
use Rattle.std.proofs.lemmas.List.{take_all, drop_all, drop-map, drop-drop}
use Rattle.termwiz_screen.specs.Log.{LogValue, due, reaches, is_known, next_number, appended, flushed, passed, restarted}

module _ (l : LogValue) (n : ℕ) (from : l.first ≤ n) (upto : n ≤ next_number l) where
  pub reaches_it : reaches l n ≡ true
  reaches_it = rw (le-leb l.first n from, le-leb n (next_number l) upto) refl

  pub known : (most : ℕ) → (n ≡ 0 → ⊥) → length (due l n) ≤ most → is_known most l n ≡ true
  known most other few = rw (ne_eqb n 0 other, reaches_it, le-leb (length (due l n)) most few) refl

-- the elements from one on, and all of them
pub rest_mapped : {X Y : Type 0} (f : X → Y) (xs : List X) (k m : ℕ) → length xs - k ≤ m → map f (take m (drop k xs)) ≡ drop k (map f xs)
rest_mapped f xs k m l = ap (map f) (take_all m (drop k xs) (omega (arith, length-drop k xs))) ∙ sym (drop-map f k xs)

-- no more changes are due than there are numbers
pub known-least : (l : LogValue) (n most : ℕ) → next_number l < 2 ^ 64 → is_known (min most (2 ^ 64 - 1)) l n ≡ is_known most l n
known-least l n most fits = elim (cases_lt most (2 ^ 64)) [
  | inl small ↦
      let same : min most (2 ^ 64 - 1) ≡ most = omega arith in
      ap (λ k. is_known k l n) same
  | inr large ↦
      let few : length (due l n) ≤ min most (2 ^ 64 - 1) = omega (arith, length-drop (n - l.first) l.changes) in
      rw (le-leb (length (due l n)) (min most (2 ^ 64 - 1)) few, le-leb (length (due l n)) most (omega arith)) refl
]

-- there is a number for an emptied log
pub restarted_fits : (l : LogValue) → next_number l + 1 < 2 ^ 64 → next_number (restarted l) < 2 ^ 64
restarted_fits l fits = elim (cases_Bool (next_number l == 0)) [ inl e ↦ rw e (omega arith) | inr e ↦ rw e (omega arith) ]

-- where the log reaches a number, it is from the first number up to the coming one
pub reached : (l : LogValue) (n : ℕ) → reaches l n ≡ true → (l.first ≤ n) × (n ≤ next_number l)
reached l n h = (grind (arith, nat_tests), grind (arith, nat_tests))

-- a flush up to the coming number leaves no change
pub flushed_whole : (l : LogValue) → (flushed l (next_number l)).changes ≡ []
flushed_whole l =
    rw (le-leb l.first (next_number l) (omega arith), le-leb (next_number l) (next_number l) (omega arith))
    (drop_all (next_number l - l.first) l.changes (omega arith))

-- and is one under the coming number
pub flushed_all : (l : LogValue) → flushed l (next_number l) ≡ record { first = next_number l; changes = [] }
flushed_all l =
    rw (le-leb l.first (next_number l) (omega arith), le-leb (next_number l) (next_number l) (omega arith))
    (λ i. record { first = next_number l; changes = drop_all (next_number l - l.first) l.changes (omega arith) i })

-- changes that pass leave what is left where they are logged and all is flushed
pub passed-flushed : (l : LogValue) (cs : List ChangeValue) → passed l (length cs) ≡ flushed (appended l cs) (next_number (appended l cs))
passed-flushed l cs =
    let number : next_number l + length cs ≡ next_number (appended l cs) = omega (arith, length-append l.changes cs) in
    (λ i. record { first = number i; changes = [] }) ∙ sym (flushed_all (appended l cs))

-- where all is flushed, no other number is known
pub passed-unknown : (l : LogValue) (count most n : ℕ) → (n ≡ next_number (passed l count) → ⊥) → is_known most (passed l count) n ≡ false
passed-unknown l count most n other = grind (arith, nat_tests)

-- a flush leaves the number
pub flushed_number : (l : LogValue) (n : ℕ) → next_number (flushed l n) ≡ next_number l
flushed_number l n =
    elim (reaches l n) as (λ b. reaches l n ≡ b → (if b then n else l.first) + length (if b then due l n else l.changes) ≡ l.first + length l.changes) [
      | true ↦ λ e. let k = reached l n e in omega (arith, k.0, k.1, length-drop (n - l.first) l.changes)
      | false ↦ λ e. refl
    ] refl

-- an emptied log's number is at most one greater
pub restarted_number : (l : LogValue) → next_number (restarted l) ≤ next_number l + 1
restarted_number l = elim (cases_Bool (next_number l == 0)) [ inl e ↦ rw e (omega arith) | inr e ↦ rw e (omega arith) ]

-- what is due from a number on that is not flushed, and whether it is known
pub flushed_alike : (l : LogValue) (n k most : ℕ) → n ≤ k → (is_known most (flushed l n) k ≡ is_known most l k) × (due (flushed l n) k ≡ due l k)
flushed_alike l n k most from = elim (cases_Bool (reaches l n)) [
  | inr e ↦ rw e (refl, refl)
  | inl e ↦
      let in_log = reached l n e in
      let sum : n - l.first + (k - n) ≡ k - l.first = omega (arith, in_log.0, from) in
      let rest : drop (k - n) (due l n) ≡ due l k = drop-drop (k - n) (n - l.first) l.changes ∙ ap (λ j. drop j l.changes) sum in
      let end : n + length (due l n) ≡ next_number l = omega (arith, in_log.0, in_log.1, length-drop (n - l.first) l.changes) in
      let first : l.first ≤ k = omega (arith, in_log.0, from) in
      rw (e, rest, end, le-leb n k from, le-leb l.first k first) (refl, refl)
]
