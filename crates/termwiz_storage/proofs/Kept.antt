-- The length up to which the last visible cell that is no default blank reaches.
use Rattle.std.proofs.Common.{◌≡◌, ◌≢◌, ℕ, zero, suc, ◌+◌, ◌-◌, ◌<◌, ◌≤◌, ◌⊎◌, inl, inr, min, List, [], ◌∷◌, length, Some, None, true, false, refl, sym, ◌∙◌, ap, arith}
use Rattle.std.proofs.lemmas.Bool.{cases_lt, cases_eq}
use Rattle.termwiz_cell.specs.CellValue.{columns, CellValue, blank}
use Rattle.termwiz_storage.proofs.VisibleAt.{cell_at-before, cell_at-first, cell_at-hidden, cell_at-later, cell_at-shown, stored-visible}
use Rattle.termwiz_storage.proofs.Widths.{columns_bounds}
use Rattle.termwiz_storage.specs.Stored.{stored, visible_from, visible, cell_at, hides, IsKept}
use Rattle.termwiz_storage.specs.Used.{IsUsedTo, IsFilledTo}
use Rattle.termwiz_storage.specs.VisibleCell.{VisibleCell, at_column}

-- e is where the last visible cell that isn't blank ends, or k where there is none
pub data EndsAt : ℕ → List VisibleCell → ℕ → Type 0 where
  nothing : {k : ℕ} → EndsAt k [] k
  blank_cell : {k i e : ℕ} {c : CellValue} {ps : List VisibleCell} → c ≡ blank → EndsAt k ps e → EndsAt k (at_column i c ∷ ps) e
  other_cell : {k i e : ℕ} {c : CellValue} {ps : List VisibleCell} → c ≢ blank → EndsAt (i + (columns c)) ps e → EndsAt k (at_column i c ∷ ps) e

-- from e on all is blank
blank_after : (k i s e : ℕ) (cs : List CellValue) → EndsAt k (visible_from i s cs) e → k ≤ i + s → (s ≡ 0) ⊎ (i + s ≤ k) → (k ≤ e) × ((x : ℕ) → e ≤ x → i ≤ x → x < i + length cs → cell_at (visible_from i s cs) x ≡ Some blank)
blank_after k i s e [] nothing m p = (omega arith, λ x l b h. absurd (omega arith))
blank_after k i zero e (c ∷ cs) (blank_cell q h) m p =
    let b2 : (0 < columns c) × (columns c ≤ 2) = columns_bounds c in
    let w : (columns c) ≡ 1 = ap columns q in
    let r : (k ≤ e) × ((x : ℕ) → e ≤ x → i + 1 ≤ x → x < i + 1 + length cs → cell_at (visible_from (i + 1) ((columns c) - 1) cs) x ≡ Some blank) =
    blank_after k (i + 1) ((columns c) - 1) e cs h (omega arith) (inl (omega arith)) in (
      r.0,
      λ x l b t. elim (cases_eq x i) [
        | inl z ↦ rw z (cell_at-first i c (visible_from (i + 1) ((columns c) - 1) cs) ∙ ap Some q)
        | inr z ↦ cell_at-later i x c (visible_from (i + 1) ((columns c) - 1) cs) (omega arith) ∙ r.1 x l (omega arith) (omega arith)
      ],
    )
blank_after k i zero e (c ∷ cs) (other_cell n h) m p =
    let b2 : (0 < columns c) × (columns c ≤ 2) = columns_bounds c in
    let r : (i + (columns c) ≤ e) × ((x : ℕ) → e ≤ x → i + 1 ≤ x → x < i + 1 + length cs → cell_at (visible_from (i + 1) ((columns c) - 1) cs) x ≡ Some blank) =
    blank_after (i + (columns c)) (i + 1) ((columns c) - 1) e cs h (omega arith) (inr (omega arith)) in
    let b0 : i + (columns c) ≤ e = r.0 in
    (omega arith, λ x l b t. cell_at-later i x c (visible_from (i + 1) ((columns c) - 1) cs) (omega arith) ∙ r.1 x l (omega arith) (omega arith))
blank_after k i (suc s) e (c ∷ cs) h m p =
    let p' : (s ≡ 0) ⊎ (i + 1 + s ≤ k) = elim p [ inl z ↦ absurd (omega arith) | inr z ↦ inr (omega arith) ] in
    let z : i + suc s ≤ k = elim p [ inl z ↦ absurd (omega arith) | inr z ↦ z ] in
    let r : (k ≤ e) × ((x : ℕ) → e ≤ x → i + 1 ≤ x → x < i + 1 + length cs → cell_at (visible_from (i + 1) s cs) x ≡ Some blank) = blank_after k (i + 1) s e cs h (omega arith) p' in
    let k0 : k ≤ e = r.0 in
    (k0, λ x l b t. r.1 x l (omega arith) (omega arith))

-- nothing less will do
least : (k i s e : ℕ) (cs : List CellValue) (j : ℕ) → EndsAt k (visible_from i s cs) e → k ≤ j → ((x : ℕ) → j ≤ x → i ≤ x → x < i + length cs → cell_at (visible_from i s cs) x ≡ Some blank) → min e (i + length cs) ≤ j
least k i s e [] j nothing l f = omega arith
least k i zero e (c ∷ cs) j (blank_cell q h) l f =
    let b2 : (0 < columns c) × (columns c ≤ 2) = columns_bounds c in
    let r : min e (i + 1 + length cs) ≤ j = least k (i + 1) ((columns c) - 1) e cs j h l (λ x u v t. sym (cell_at-later i x c (visible_from (i + 1) ((columns c) - 1) cs) (omega arith)) ∙ f x u (omega arith) (omega arith)) in
    omega arith
least k i zero e (c ∷ cs) j (other_cell n h) l f =
    let b2 : (0 < columns c) × (columns c ≤ 2) = columns_bounds c in
    let ps : List VisibleCell = visible_from (i + 1) ((columns c) - 1) cs in
    elim (cases_lt j (i + (columns c))) [
      | inr g ↦
          let r : min e (i + 1 + length cs) ≤ j = least (i + (columns c)) (i + 1) ((columns c) - 1) e cs j h g (λ x u v t. sym (cell_at-later i x c ps (omega arith)) ∙ f x u (omega arith) (omega arith)) in
          omega arith
      | inl g ↦ elim (cases_lt i j) [
        | inr u ↦ let same : Some c ≡ Some blank = sym (cell_at-first i c ps) ∙ f i u (omega arith) (omega arith) in absurd (n (cc))
        | inl u ↦ elim (cases_lt j (i + suc (length cs))) [
          | inr v ↦ omega arith
          | inl v ↦
              let same : None ≡ Some blank = sym (cell_at-before (i + 1) ((columns c) - 1) cs j (omega arith)) ∙ sym (cell_at-later i j c ps u) ∙ f j (omega arith) (omega arith) v in
              absurd (cc)
        ]
      ]
    ]
least k i (suc s) e (c ∷ cs) j h l f =
    let r : min e (i + 1 + length cs) ≤ j = least k (i + 1) s e cs j h l (λ x u v t. f x u (omega arith) (omega arith)) in
    omega arith

-- what the loop over the visible cells computes
pub IsKept-ends : (cs : List CellValue) (e : ℕ) → EndsAt 0 (visible cs) e → IsKept cs (min e (length cs))
IsKept-ends cs e h =
    let r : (0 ≤ e) × ((x : ℕ) → e ≤ x → 0 ≤ x → x < 0 + length cs → cell_at (visible cs) x ≡ Some blank) = blank_after 0 0 0 e cs h (omega arith) (inl refl) in
    record {
      within = omega arith;
      blank_after = λ x l b. r.1 x (omega arith) (omega arith) (omega arith);
      least = λ j f. let t : min e (0 + length cs) ≤ j = least 0 0 0 e cs j h (omega arith) (λ x u v w. f x u (omega arith)) in omega arith;
    }

-- ---- what is kept of a list that is stored as a vector

behind_blank : (x : ℕ) (cs : List CellValue) → stored cs x ≡ blank → hides cs (suc x) ≡ false
behind_blank x cs e = rw e refl

-- a stored default blank is visible but directly after a wide cell
shown_blank : (k x : ℕ) (cs : List CellValue) → IsUsedTo k cs → k < x → x < length cs → cell_at (visible cs) x ≡ Some blank
shown_blank k zero cs u l m = absurd (omega arith)
shown_blank k (suc x) cs u l m = cell_at-shown cs (suc x) m (behind_blank x cs (u.rest x (omega arith))) ∙ ap Some (u.rest (suc x) (omega arith))

-- the last cell that is no default blank hides none
pub IsKept-filled : (e : ℕ) (cs : List CellValue) → IsFilledTo e cs → (e < length cs → hides cs e ≡ false) → IsKept cs e
IsKept-filled e cs f n = record {
  within = f.within;
  blank_after = λ x l m. elim (cases_eq x e) [
    | inl q ↦ rw q (cell_at-shown cs e (omega arith) (n (omega arith)) ∙ ap Some (f.rest e (omega arith)))
    | inr q ↦ shown_blank e x cs (record { rest = f.rest }) (omega arith) m
  ];
  least = λ j b. elim (cases_lt j e) [
    | inr g ↦ g
    | inl g ↦
        let last : stored cs (e - 1) ≡ blank = stored-visible cs (e - 1) blank (omega (arith, f.within)) (b (e - 1) (omega arith) (omega (arith, f.within))) in
        absurd (f.last (e - 1) (omega arith) last)
  ];
}

-- it hides the first default blank
pub IsKept-hiding : (e : ℕ) (cs : List CellValue) → IsFilledTo e cs → e < length cs → hides cs e ≡ true → IsKept cs (e + 1)
IsKept-hiding e cs f l h = record {
  within = omega arith;
  blank_after = λ x m n. shown_blank e x cs (record { rest = f.rest }) (omega arith) n;
  least = λ j b. elim (cases_lt e j) [
    | inl g ↦ omega arith
    | inr g ↦ let none : None ≡ Some blank = sym (cell_at-hidden cs e l h) ∙ b e g l in cc
  ];
}
