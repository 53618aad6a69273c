-- The mark of the last visible cell, set at one place or at two.
use Rattle.std.proofs.Common.{◌≡◌, ℕ, zero, suc, ◌+◌, ◌-◌, ◌<◌, ◌≢◌, Bool, true, false, ◌&&◌, not, cond, inl, inr, List, [], ◌∷◌, length, set, refl, sym, ap, arith}
use Rattle.std.proofs.lemmas.Bool.{cases_Bool}
use Rattle.std.proofs.lemmas.List.{get_or-set_other}
use Rattle.termwiz_cell.specs.CellValue.{CellValue, blank, is_wide}
use Rattle.termwiz_storage.specs.Stored.{stored, hides, visible, visible_from}
use Rattle.termwiz_storage.specs.Wrapped.{last_index, with_wrapped, wrapped_from, wrapped_last}

-- ---- which stored cell is the last visible one

pub hides-behind_narrow : (c : CellValue) (cs : List CellValue) (k : ℕ) → is_wide c ≡ false → hides (c ∷ cs) (suc k) ≡ hides cs k
hides-behind_narrow c cs zero w = rw w refl
hides-behind_narrow c cs (suc k) w = ap (λ b. is_wide (stored cs k) && not b) (hides-behind_narrow c cs k w)

no_and : (b : Bool) → (b && false) ≡ false
no_and true = refl
no_and false = refl

pub hides-behind_wide : (c d : CellValue) (cs : List CellValue) (k : ℕ) → is_wide c ≡ true → hides (c ∷ d ∷ cs) (suc (suc k)) ≡ hides cs k
hides-behind_wide c d cs zero w = rw w (no_and (is_wide d))
hides-behind_wide c d cs (suc k) w = ap (λ b. is_wide (stored cs k) && not b) (hides-behind_wide c d cs k w)

behind_narrow : (i n : ℕ) (c d : CellValue) (ds : List CellValue) → is_wide c ≡ false → last_index (visible_from (i + 1) 0 (d ∷ ds)) + cond (hides (d ∷ ds) n) 1 0 ≡ i + 1 + n → last_index (visible_from i 0 (c ∷ d ∷ ds)) + cond (hides (c ∷ d ∷ ds) (suc n)) 1 0 ≡ i + suc n
behind_narrow i n c d ds w r =
    let h : hides (c ∷ d ∷ ds) (suc n) ≡ hides (d ∷ ds) n = hides-behind_narrow c (d ∷ ds) n w in
    rw (h, w) (omega (arith, r))

behind_wide : (i n : ℕ) (c d x : CellValue) (xs : List CellValue) → is_wide c ≡ true → last_index (visible_from (i + 1 + 1) 0 (x ∷ xs)) + cond (hides (x ∷ xs) n) 1 0 ≡ i + 1 + 1 + n → last_index (visible_from i 0 (c ∷ d ∷ x ∷ xs)) + cond (hides (c ∷ d ∷ x ∷ xs) (suc (suc n))) 1 0 ≡ i + suc (suc n)
behind_wide i n c d x xs w r =
    let h : hides (c ∷ d ∷ x ∷ xs) (suc (suc n)) ≡ hides (x ∷ xs) n = hides-behind_wide c d (x ∷ xs) n w in
    rw (h, w) (omega (arith, r))

-- it is the last stored cell, or the one before where that is hidden
last_shown : (i n : ℕ) (cs : List CellValue) → length cs ≡ suc n → last_index (visible_from i 0 cs) + cond (hides cs n) 1 0 ≡ i + n
last_shown i n [] e = absurd (omega arith)
last_shown i zero (c ∷ []) e = omega arith
last_shown i (suc n) (c ∷ []) e = absurd (omega arith)
last_shown i zero (c ∷ d ∷ ds) e = absurd (omega arith)
last_shown i (suc zero) (c ∷ d ∷ []) e = elim (cases_Bool (is_wide c)) [
  | inl w ↦ rw w (omega arith)
  | inr w ↦ behind_narrow i 0 c d [] w (last_shown (i + 1) 0 (d ∷ []) refl)
]
last_shown i (suc (suc n)) (c ∷ d ∷ []) e = absurd (omega arith)
last_shown i (suc zero) (c ∷ d ∷ x ∷ xs) e = absurd (omega arith)
last_shown i (suc (suc n)) (c ∷ d ∷ x ∷ xs) e = elim (cases_Bool (is_wide c)) [
  | inl w ↦ behind_wide i n c d x xs w (last_shown (i + 1 + 1) n (x ∷ xs) (omega arith))
  | inr w ↦ behind_narrow i (suc n) c d (x ∷ xs) w (last_shown (i + 1) (suc n) (d ∷ x ∷ xs) (omega arith))
]

pub last_index-is : (last : ℕ) (cs : List CellValue) → length cs ≡ last + 1 → last_index (visible cs) + cond (hides cs last) 1 0 ≡ last
last_index-is last cs e = omega (arith, last_shown 0 last cs (omega (arith, e)))

-- ---- the mark at one place, and at two

one_place : (b : Bool) (n : ℕ) (cs : List CellValue) → length cs ≡ suc n → wrapped_from b n cs ≡ set cs n (with_wrapped b (stored cs n))
one_place b n [] e = absurd (omega arith)
one_place b zero (c ∷ []) e = refl
one_place b (suc n) (c ∷ []) e = absurd (omega arith)
one_place b zero (c ∷ d ∷ ds) e = absurd (omega arith)
one_place b (suc n) (c ∷ d ∷ ds) e = ap (λ (xs : List CellValue). c ∷ xs) (one_place b n (d ∷ ds) (omega arith))

two_places : (b : Bool) (n : ℕ) (cs : List CellValue) → length cs ≡ suc (suc n) → wrapped_from b n cs ≡ set (set cs n (with_wrapped b (stored cs n))) (suc n) (with_wrapped b (stored cs (suc n)))
two_places b n [] e = absurd (omega arith)
two_places b n (c ∷ []) e = absurd (omega arith)
two_places b zero (c ∷ d ∷ []) e = refl
two_places b (suc n) (c ∷ d ∷ []) e = absurd (omega arith)
two_places b zero (c ∷ d ∷ x ∷ xs) e = absurd (omega arith)
two_places b (suc n) (c ∷ d ∷ x ∷ xs) e = ap (λ (ys : List CellValue). c ∷ ys) (two_places b n (d ∷ x ∷ xs) (omega arith))

pub wrapped_last-shown : (b : Bool) (last : ℕ) (cs : List CellValue) → length cs ≡ last + 1 → hides cs last ≡ false → set cs last (with_wrapped b (stored cs last)) ≡ wrapped_last b cs
wrapped_last-shown b last cs e h =
    let r = last_shown 0 last cs (omega (arith, e)) in
    let i : last_index (visible cs) ≡ last = omega (arith, rw h at r) in
    rw i (sym (one_place b last cs (omega (arith, e))))

pub wrapped_last-hidden : (b : Bool) (last : ℕ) (cs mid : List CellValue) → length cs ≡ last + 1 → 0 < last → hides cs last ≡ true → mid ≡ set cs (last - 1) (with_wrapped b (stored cs (last - 1))) → set mid last (with_wrapped b (stored mid last)) ≡ wrapped_last b cs
wrapped_last-hidden b zero cs mid e p h m = absurd (omega arith)
wrapped_last-hidden b (suc n) cs mid e p h m =
    let r = last_shown 0 (suc n) cs (omega (arith, e)) in
    let i : last_index (visible cs) ≡ n = omega (arith, rw h at r) in
    let k : suc n - 1 ≡ n = omega arith in
    let d : suc n ≢ n = omega arith in
    let other : stored (set cs n (with_wrapped b (stored cs n))) (suc n) ≡ stored cs (suc n) = get_or-set_other cs n (suc n) (with_wrapped b (stored cs n)) blank d in
    rw (m, k, other, i) (sym (two_places b n cs (omega (arith, e))))
