-- What is stored after columns are filled, by position.
use Rattle.std.proofs.Common.{◌≡◌, ℕ, zero, suc, ◌+◌, ◌-◌, ◌<◌, ◌≤◌, inl, inr, true, false, max, List, length, ◌∙◌, ap, arith}
use Rattle.std.proofs.lemmas.Bool.{cases_eq, cases_lt}
use Rattle.termwiz_cell.specs.CellValue.{columns, CellValue, half, is_wide}
use Rattle.termwiz_storage.specs.FilledAs.{IsFilledAs}
use Rattle.termwiz_storage.specs.Stored.{stored, set_cell, fill}
use Rattle.termwiz_storage.proofs.Widths.{columns_bounds}
use Rattle.termwiz_storage.proofs.SetCell.{IsSet, IsSet-set_cell, length-set_cell}

-- what is stored after a fill of n + 1 columns from i on, by position
pub record IsFilledFrom (f : ℕ → CellValue) (i n : ℕ) (c : CellValue) (g : ℕ → CellValue) : Type 0 where
  pub last : g (i + n) ≡ c
  pub next : is_wide c ≡ true → g (i + n + 1) ≡ half c
  pub wide : (x : ℕ) → is_wide c ≡ true → i ≤ x → x < i + n → g x ≡ half c
  pub narrow : (x : ℕ) → is_wide c ≡ false → i ≤ x → x < i + n → g x ≡ c
  pub torn : (x : ℕ) → x + 1 ≡ i → is_wide (f x) ≡ true → g x ≡ half (f x)
  pub kept : (x : ℕ) → x + 1 ≡ i → is_wide (f x) ≡ false → g x ≡ f x
  pub below : (x : ℕ) → x + 1 < i → g x ≡ f x
  pub above : (x : ℕ) → i + n + (columns c) ≤ x → g x ≡ f x

once : (f : ℕ → CellValue) (i : ℕ) (c : CellValue) (g : ℕ → CellValue) → IsSet f i c g → IsFilledFrom f i 0 c g
once f i c g s =
    let z : i + 0 ≡ i = omega arith in
    record {
      last = rw z s.at;
      next = λ w. rw z (s.next w);
      wide = λ x w a b. absurd (omega arith);
      narrow = λ x w a b. absurd (omega arith);
      torn = s.torn;
      kept = s.narrow;
      below = s.below;
      above = λ x l. s.above x (omega arith);
    }

again : (f : ℕ → CellValue) (i n : ℕ) (c : CellValue) (m g : ℕ → CellValue) → IsSet f i c m → IsFilledFrom m (i + 1) n c g → IsFilledFrom f i (suc n) c g
again f i n c m g s t =
    let pos : 0 < columns c = (columns_bounds c).0 in
    let two : columns c ≤ 2 = (columns_bounds c).1 in
    let z : i + suc n ≡ i + 1 + n = omega arith in
    record {
      last = rw z t.last;
      next = λ w. rw z (t.next w);
      wide = λ x w a b. elim (cases_eq x i) [
        | inl q ↦ t.torn x (omega arith) (ap is_wide (ap m q ∙ s.at) ∙ w) ∙ ap half (ap m q ∙ s.at)
        | inr q ↦ t.wide x w (omega arith) (omega arith)
      ];
      narrow = λ x w a b. elim (cases_eq x i) [
        | inl q ↦ t.kept x (omega arith) (ap is_wide (ap m q ∙ s.at) ∙ w) ∙ ap m q ∙ s.at
        | inr q ↦ t.narrow x w (omega arith) (omega arith)
      ];
      torn = λ x q w. t.below x (omega arith) ∙ s.torn x q w;
      kept = λ x q w. t.below x (omega arith) ∙ s.narrow x q w;
      below = λ x q. t.below x (omega arith) ∙ s.below x q;
      above = λ x l. t.above x (omega arith) ∙ s.above x (omega arith);
    }

pub IsFilledFrom-fill : (n i : ℕ) (c : CellValue) (cs : List CellValue) → IsFilledFrom (stored cs) i n c (stored (fill (suc n) i c cs))
IsFilledFrom-fill zero i c cs = once (stored cs) i c (stored (set_cell i c cs)) (IsSet-set_cell i c cs)
IsFilledFrom-fill (suc n) i c cs = again (stored cs) i n c (stored (set_cell i c cs)) _ (IsSet-set_cell i c cs) (IsFilledFrom-fill n (i + 1) c (set_cell i c cs))

pub length-fill : (n i : ℕ) (c : CellValue) (cs : List CellValue) → length (fill (suc n) i c cs) ≡ max (length cs) (i + n + columns c)
length-fill zero i c cs = length-set_cell i c cs ∙ omega arith
length-fill (suc n) i c cs = let e : length (set_cell i c cs) ≡ max (length cs) (i + columns c) = length-set_cell i c cs in length-fill n (i + 1) c (set_cell i c cs) ∙ omega arith

-- the same in the words of the specification
pub fill-closed_form : (a b : ℕ) (c : CellValue) (cs : List CellValue) → a < b → IsFilledAs a b c cs (fill (b - a) a c cs)
fill-closed_form a b c cs l =
    let n : ℕ = b - a - 1 in
    let e : b - a ≡ suc n = omega arith in
    let h : IsFilledFrom (stored cs) a n c (stored (fill (suc n) a c cs)) = IsFilledFrom-fill n a c cs in
    let z : length (fill (suc n) a c cs) ≡ max (length cs) (a + n + columns c) = length-fill n a c cs in
    let q : a + n + columns c ≡ b - 1 + columns c = omega arith in
    rw e (record {
      len = z ∙ ap (max (length cs)) q;
      torn = λ x f w. h.torn x (omega arith) w;
      kept = λ x f w. h.kept x (omega arith) w;
      below = λ x f. h.below x (omega arith);
      narrow = λ w x f g. elim (cases_lt x (a + n)) [
        | inl m ↦ h.narrow x w f m
        | inr m ↦ let o : x ≡ a + n = omega arith in ap (stored (fill (suc n) a c cs)) o ∙ h.last
      ];
      wide = λ w x f g. h.wide x w f (omega arith);
      last = λ x f. let o : x ≡ a + n = omega arith in ap (stored (fill (suc n) a c cs)) o ∙ h.last;
      behind = λ w. let o : b ≡ a + n + 1 = omega arith in ap (stored (fill (suc n) a c cs)) o ∙ h.next w;
      above = λ x f. h.above x (omega arith);
    })
