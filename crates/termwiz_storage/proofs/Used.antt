-- Up to which column cells were used, once they are edited.
use Rattle.std.proofs.Common.{◌≡◌, ◌≢◌, ℕ, ◌+◌, ◌-◌, ◌<◌, ◌≤◌, inl, inr, min, max, List, ◌++◌, length, take, drop, set, replicate, refl, sym, ◌∙◌, ap, arith, length-append, suc}
use Rattle.std.proofs.lemmas.Bool.{cases_Bool, cases_lt, cases_eq}
use Rattle.std.proofs.lemmas.List.{get_or_past, get_or-take, length-take, get_or-set_other, length-replicate, ext_get_or, get_or-replicate, length-set, get_or-set_same}
use Rattle.std.proofs.Math.Seq.{take-append_seam}
use Rattle.termwiz_cell.specs.CellValue.{CellValue, blank, half, is_wide, columns}
use Rattle.termwiz_storage.specs.Stored.{stored, padded, torn, fill}
use Rattle.termwiz_storage.specs.Used.{IsUsedTo, IsBlanked}
use Rattle.termwiz_storage.proofs.SetCell.{stored-padded, torn_at, torn_narrow, torn_else}
use Rattle.termwiz_storage.proofs.Halves.{length-torn, length-padded}
use Rattle.termwiz_storage.proofs.Fill.{IsFilledFrom, IsFilledFrom-fill, length-fill}

pub used-all : (cs : List CellValue) → IsUsedTo (length cs) cs
used-all cs = record { rest = λ x l. get_or_past cs x blank l }

pub used-more : (u v : ℕ) (cs : List CellValue) → u ≤ v → IsUsedTo u cs → IsUsedTo v cs
used-more u v cs l h = record { rest = λ x m. h.rest x (omega arith) }

pub used-padded : (u n : ℕ) (cs : List CellValue) → IsUsedTo u cs → IsUsedTo u (padded n cs)
used-padded u n cs h = record { rest = λ x m. stored-padded n cs x ∙ h.rest x m }

pub used-set : (u i : ℕ) (c : CellValue) (cs : List CellValue) → IsUsedTo u cs → IsUsedTo (max u (i + 1)) (set cs i c)
used-set u i c cs h = record { rest = λ x m. let n : x ≢ i = omega arith in get_or-set_other cs i x c blank n ∙ h.rest x (omega arith) }

-- one more cell becomes a default blank
pub blanked-more : (a i : ℕ) (old mid : List CellValue) → a ≤ i → i < length mid → IsBlanked a i old mid → IsBlanked a (i + 1) old (set mid i blank)
blanked-more a i old mid l h p = record {
  len = length-set mid i blank ∙ p.len;
  inside = λ x m n. elim (cases_eq x i) [
    | inl e ↦ ap (stored (set mid i blank)) e ∙ get_or-set_same mid i blank blank h
    | inr e ↦ get_or-set_other mid i x blank blank e ∙ p.inside x m (omega arith)
  ];
  before = λ x m. let n : x ≢ i = omega arith in get_or-set_other mid i x blank blank n ∙ p.before x m;
  behind = λ x m. let n : x ≢ i = omega arith in get_or-set_other mid i x blank blank n ∙ p.behind x (omega arith);
}

-- as far as there are cells
pub blanked-cut : (a b i : ℕ) (old new : List CellValue) → min b (length old) ≤ i → (a < i → i ≤ b) → IsBlanked a i old new → IsBlanked a b old new
blanked-cut a b i old new l m p = record {
  len = p.len;
  inside = λ x n o. elim (cases_lt x i) [
    | inl u ↦ p.inside x n u
    | inr u ↦ get_or_past new x blank (omega (arith, p.len))
  ];
  before = p.before;
  behind = λ x n. elim (cases_lt x i) [
    | inr u ↦ p.behind x u
    | inl u ↦ elim (cases_lt x a) [
      | inl v ↦ p.before x v
      | inr v ↦ let w : i ≤ b = m (omega arith) in absurd (omega arith)
    ]
  ];
}

-- cells that are written over a whole list
pub written-whole : (n : ℕ) (old new : List CellValue) → length new ≡ n → take n (new ++ drop (length new) old) ≡ new
written-whole n old new e = ap (λ (k : ℕ). take k (new ++ drop (length new) old)) (sym e) ∙ take-append_seam new (drop (length new) old)

pub blanked-all : (n : ℕ) (old new : List CellValue) → length old ≡ n → IsBlanked 0 n old new → new ≡ replicate n blank
blanked-all n old new e p = ext_get_or blank new (replicate n blank) (omega (arith, p.len, length-replicate n blank))
    (λ j l. p.inside j (omega arith) (omega (arith, p.len)) ∙ sym (get_or-replicate n j blank blank (omega (arith, p.len))))

-- blanks that are set one by one
pub fill-blanked : (a b : ℕ) (cs new : List CellValue) → a < b → IsBlanked a b (torn a (padded b cs)) new → new ≡ fill (b - a) a blank cs
fill-blanked a b cs new l p =
    let n : ℕ = b - a - 1 in
    let e : b - a ≡ suc n = omega arith in
    let f : IsFilledFrom (stored cs) a n blank (stored (fill (suc n) a blank cs)) = IsFilledFrom-fill n a blank cs in
    let pad : List CellValue = padded b cs in
    let lp : b ≤ length pad = (length-padded b cs).0 in
    let lt : length (torn a pad) ≡ length pad = length-torn a pad in
    let long : length pad ≡ length cs + (b - length cs) = length-append cs (replicate (b - length cs) blank) ∙ ap (λ (k : ℕ). length cs + k) (length-replicate (b - length cs) blank) in
    let lf : length (fill (suc n) a blank cs) ≡ max (length cs) (a + n + columns blank) = length-fill n a blank cs in
    rw e (ext_get_or blank new (fill (suc n) a blank cs) (omega (arith, p.len)) (λ x u. elim (cases_lt x a) [
      | inl m ↦ p.before x m ∙ elim (cases_eq (x + 1) a) [
        | inl o ↦ elim (cases_Bool (is_wide (stored cs x))) [
          | inl w ↦
              let same : stored pad x ≡ stored cs x = stored-padded b cs x in
              torn_at a pad x o (omega arith) (ap is_wide same ∙ w) ∙ ap half same ∙ sym (f.torn x o w)
          | inr w ↦
              let same : stored pad x ≡ stored cs x = stored-padded b cs x in
              torn_narrow a pad x o (ap is_wide same ∙ w) ∙ same ∙ sym (f.kept x o w)
        ]
        | inr o ↦ torn_else a pad x o ∙ stored-padded b cs x ∙ sym (f.below x (omega arith))
      ]
      | inr m ↦ elim (cases_lt x b) [
        | inl o ↦ p.inside x m o ∙ elim (cases_lt x (a + n)) [
          | inl v ↦ sym (f.narrow x refl m v)
          | inr v ↦ let z : x ≡ a + n = omega arith in sym (ap (stored (fill (suc n) a blank cs)) z ∙ f.last)
        ]
        | inr o ↦ let q : x + 1 ≢ a = omega arith in p.behind x o ∙ torn_else a pad x q ∙ stored-padded b cs x ∙ sym (f.above x (omega arith))
      ]
    ]))

-- a copy of the cells that were used, up to some length, and default blanks after them
pub used-first : (v u have len : ℕ) (cs : List CellValue) → IsUsedTo v cs → have ≡ min len (length cs) → u ≡ min have v → padded have (take u cs) ≡ take len cs
used-first v u have len cs h e f =
    let lu : length (take u cs) ≡ min u (length cs) = length-take u cs in
    let ll : length (take len cs) ≡ min len (length cs) = length-take len cs in
    let lp : length (padded have (take u cs)) ≡ length (take u cs) + (have - length (take u cs)) = length-append (take u cs) (replicate (have - length (take u cs)) blank) ∙ ap (λ (k : ℕ). length (take u cs) + k) (length-replicate (have - length (take u cs)) blank) in
    ext_get_or blank (padded have (take u cs)) (take len cs) (omega arith) (λ j l. stored-padded have (take u cs) j ∙ elim (cases_lt j u) [
      | inl m ↦ get_or-take u cs j blank m ∙ sym (get_or-take len cs j blank (omega arith))
      | inr m ↦ get_or_past (take u cs) j blank (omega arith) ∙ sym (get_or-take len cs j blank (omega arith) ∙ h.rest j (omega arith))
    ])
