-- Reading painted and cleared rows, column by column.
use Rattle.std.proofs.Common.{◌≡◌, ℕ, suc, ◌&&◌, ◌<◌, ◌≤◌, true, false, eqb, leb, List, length, replicate, arith, ◌≢◌, inl, inr, refl, ap, eq-eqb, ne_eqb, le-leb, sym, ◌∙◌}
use Rattle.std.proofs.lemmas.List.FromFn.{get_or-map-range_with_len, length-map-range_with_len}
use Rattle.std.proofs.lemmas.List.{get_or_past, ext_get_or, get_or-replicate, length-replicate}
use Rattle.std.proofs.lemmas.Bool.{cases_lt, cases_eq, cases_Bool, and_right, lt-leb}
use Rattle.std.proofs.lemmas.Bool.Decides.{nat_tests}
use Rattle.termwiz_cell.specs.CellValue.{CellValue, blank, half, is_wide}
use Rattle.termwiz_storage.specs.Stored.{stored}
use Rattle.termwiz_line.specs.Row.{painted, paint, cleared, clear}

pub length-paint : (r : List CellValue) (c : ℕ) (x : CellValue) → length (paint r c x) ≡ length r
unfolding paint
length-paint r c x = length-map-range_with_len (painted r c x) 0 (length r)

pub paint_at : (r : List CellValue) (c : ℕ) (x : CellValue) (k : ℕ) → k < length r → stored (paint r c x) k ≡ painted r c x k
unfolding paint
paint_at r c x k h = get_or-map-range_with_len (painted r c x) 0 (length r) k k blank h (omega arith)

-- past its end every row reads the default
pub paint_past : (r : List CellValue) (c : ℕ) (x : CellValue) (k : ℕ) → length r ≤ k → stored (paint r c x) k ≡ stored r k
paint_past r c x k h =
    let l : length (paint r c x) ≤ k = omega (arith, length-paint r c x) in
    get_or_past (paint r c x) k blank l ∙ sym (get_or_past r k blank h)

-- the cases of a painted row: its column
pub paint_here : (r : List CellValue) (c : ℕ) (x : CellValue) (k : ℕ) → k ≡ c → c < length r → stored (paint r c x) k ≡ x
paint_here r c x k e h =
    let l : k < length r = omega arith in
    let t : eqb k c ≡ true = eq-eqb k c e in
    paint_at r c x k l ∙ rw t

-- the second column of a wide cell
pub paint_second : (r : List CellValue) (c : ℕ) (x : CellValue) (k : ℕ) → k ≡ suc c → k < length r → is_wide x ≡ true → stored (paint r c x) k ≡ half x
paint_second r c x k e h w =
    let f : eqb k c ≡ false = ne_eqb k c (omega arith) in
    let t : eqb k (suc c) ≡ true = eq-eqb k (suc c) e in
    paint_at r c x k h ∙ rw (f, w, t)

-- a column that x does not cover, and whose cell x does not break
pub paint_other : (r : List CellValue) (c : ℕ) (x : CellValue) (k : ℕ) → k ≢ c → (k ≡ suc c → is_wide x ≡ false) → (suc k ≡ c → is_wide (stored r k) ≡ false) → stored (paint r c x) k ≡ stored r k
paint_other r c x k n s b =
    elim (cases_lt k (length r)) [ inl h ↦ paint_at r c x k h ∙ inside h | inr h ↦ paint_past r c x k h ]
  where
    inside : k < length r → painted r c x k ≡ stored r k
    inside h = grind (arith, nat_tests)

pub length-clear : (r : List CellValue) (c : ℕ) (b : CellValue) → length (clear r c b) ≡ length r
unfolding clear
length-clear r c b = elim (cases_Bool (leb (length r) c)) [ inl t ↦ rw t | inr f ↦ rw f (length-map-range_with_len (cleared r c b) 0 (length r)) ]

pub clear_at : (r : List CellValue) (c : ℕ) (b : CellValue) (k : ℕ) → c < length r → k < length r → stored (clear r c b) k ≡ cleared r c b k
unfolding clear
clear_at r c b k l h =
    let f : leb (length r) c ≡ false = lt-leb (length r) c l in
    rw f (get_or-map-range_with_len (cleared r c b) 0 (length r) k k blank h (omega arith))

-- a cleared column
pub clear_from : (r : List CellValue) (c : ℕ) (b : CellValue) (k : ℕ) → k < length r → c ≤ k → stored (clear r c b) k ≡ b
clear_from r c b k h m = let t : leb c k ≡ true = le-leb c k m in clear_at r c b k (omega arith) h ∙ rw t

-- a column to the left whose cell the clear does not break
pub clear_left : (r : List CellValue) (c : ℕ) (b : CellValue) (k : ℕ) → c < length r → k < c → (suc k ≡ c → is_wide (stored r k) ≡ false) → stored (clear r c b) k ≡ stored r k
clear_left r c b k l h n =
    let f : leb c k ≡ false = lt-leb c k h in
    clear_at r c b k l (omega arith) ∙ elim (cases_eq (suc k) c) [
      | inl e ↦ (let t : eqb (suc k) c ≡ true = eq-eqb (suc k) c e in let w : is_wide (stored r k) ≡ false = n e in rw (f, t, w))
      | inr e ↦ (let t : eqb (suc k) c ≡ false = ne_eqb (suc k) c e in rw (f, t))
    ]

-- the first column of a wide cell that x breaks from the right
pub paint_broken : (r : List CellValue) (c : ℕ) (x : CellValue) (k : ℕ) → suc k ≡ c → c < length r → is_wide (stored r k) ≡ true → stored (paint r c x) k ≡ half (stored r k)
paint_broken r c x k e l t =
    let n₁ : eqb k c ≡ false = ne_eqb k c (omega arith) in
    let n₂ : (is_wide x && eqb k (suc c)) ≡ false = and_right _ _ (ne_eqb k (suc c) (omega arith)) in
    let n₃ : eqb (suc k) c ≡ true = eq-eqb (suc k) c e in
    paint_at r c x k (omega arith) ∙ rw (n₁, n₂, n₃, t)

-- the column before x holds nothing wide
pub paint_before : (r : List CellValue) (c : ℕ) (x : CellValue) (k : ℕ) → suc k ≡ c → c < length r → is_wide (stored (paint r c x) k) ≡ false
paint_before r c x k e l = elim (cases_Bool (is_wide (stored r k))) [
  | inl t ↦ ap is_wide (paint_broken r c x k e l t)
  | inr f ↦ ap is_wide (paint_other r c x k (omega arith) (λ n. absurd (omega arith)) (λ n. f)) ∙ f
]

-- the first column of a wide cell that the clear breaks
pub clear_broken : (r : List CellValue) (c : ℕ) (b : CellValue) (k : ℕ) → c < length r → suc k ≡ c → is_wide (stored r k) ≡ true → stored (clear r c b) k ≡ half (stored r k)
clear_broken r c b k l e t =
    let f : leb c k ≡ false = lt-leb c k (omega arith) in
    let u : eqb (suc k) c ≡ true = eq-eqb (suc k) c e in
    clear_at r c b k l (omega arith) ∙ rw (f, u, t)

-- nothing is cleared from the width on
pub clear_none : (r : List CellValue) (c : ℕ) (b : CellValue) → length r ≤ c → clear r c b ≡ r
unfolding clear
clear_none r c b l = rw (le-leb (length r) c l) refl

-- a row that is cleared whole
pub clear_whole : (w : ℕ) (r : List CellValue) (b : CellValue) → length r ≡ w → clear r 0 b ≡ replicate w b
clear_whole w r b e = ext_get_or blank (clear r 0 b) (replicate w b) (omega (arith, length-clear r 0 b, length-replicate w b))
    (λ j h. clear_from r 0 b j (omega (arith, length-clear r 0 b)) (omega arith) ∙ sym (get_or-replicate w j b blank (omega (arith, length-clear r 0 b))))
