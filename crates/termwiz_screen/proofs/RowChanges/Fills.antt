-- What a fill that runs out of memory leaves.
use Rattle.std.proofs.Common.{◌≡◌, ℕ, ◌-◌, ◌<◌, ◌≤◌, inl, inr, List, [], length, sym, ◌∙◌, ap, subst, arith}
use Rattle.termwiz_cell.specs.CellValue.{CellValue}
use Rattle.termwiz_storage.specs.Stored.{fill, IsPruned}
use Rattle.std.specs.Prelude.{slice_set}
use Rattle.std.proofs.lemmas.Bool.{cases_eq, cases_lt}
use Rattle.std.proofs.lemmas.List.{length-set, get_or-set_same, get_or-set_other}
use Rattle.termwiz_screen.specs.Screen.{row_at}
use Rattle.termwiz_line.specs.LineValue.{LineValue}
use Rattle.termwiz_line.specs.Filled.{IsPartlyFilled}
use Rattle.termwiz_screen.specs.Rows.{IsPartly, ArePartly}

pub IsPartly-same : (w : ℕ) (c : CellValue) (old new : List CellValue) → new ≡ old → IsPartly w c old new
IsPartly-same w c old new e = record { from = 0; count = 0; inside = omega arith; left = inl e }

pub IsPartly-part : (w : ℕ) (x seqno : ℕ) (c : CellValue) (old new : LineValue) → x ≤ w → IsPartlyFilled old x w c seqno new → IsPartly w c old.cells new.cells
IsPartly-part w x seqno c old new l p = record { from = x; count = p.count; inside = let b : p.count ≤ w - x = p.within in omega arith; left = inl p.fills.cells }

pub IsPartly-whole : (w x : ℕ) (c : CellValue) (old new : List CellValue) → x ≤ w → IsPruned (fill (w - x) x c old) new → IsPartly w c old new
IsPartly-whole w x c old new l p = record { from = x; count = w - x; inside = omega arith; left = inr p }

pub ArePartly-during : (w x y j : ℕ) (c : CellValue) (old mid : List (List CellValue)) (r : List CellValue) → x ≤ w → y < j → j < length mid → length mid ≡ length old
    → ((k : ℕ) → k < y → row_at mid k ≡ row_at old k) → IsPruned (fill (w - x) x c (row_at old y)) (row_at mid y)
    → ((k : ℕ) → y < k → k < j → IsPruned (fill w 0 c (row_at old k)) (row_at mid k)) → ((k : ℕ) → j ≤ k → row_at mid k ≡ row_at old k)
    → IsPartly w c (row_at mid j) r → ArePartly w c old (slice_set mid j r)
ArePartly-during w x y j c old mid r l yj jm e above here below left p = record {
  same_count = length-set mid j r ∙ e;
  each = λ k kl. elim (cases_eq k j) [
    | inl q ↦ subst (IsPartly w c (row_at old k)) (sym (ap (row_at (slice_set mid j r)) q ∙ get_or-set_same mid j r [] jm))
        (subst (λ z. IsPartly w c z r) (left j (omega arith) ∙ ap (row_at old) (sym q)) p)
    | inr n ↦ subst (IsPartly w c (row_at old k)) (sym (get_or-set_other mid j k r [] n)) (elim (cases_lt k y) [
      | inl u ↦ IsPartly-same w c _ _ (above k u)
      | inr u ↦ elim (cases_eq k y) [
        | inl z ↦ subst (λ (i : ℕ). IsPartly w c (row_at old i) (row_at mid i)) (sym z) (IsPartly-whole w x c _ _ l here)
        | inr z ↦ elim (cases_lt k j) [
          | inl v ↦ IsPartly-whole w 0 c _ _ (omega arith) (let m : w - 0 ≡ w = omega arith in rw m (below k (omega arith) v))
          | inr v ↦ IsPartly-same w c _ _ (left k v)
        ]
      ]
    ])
  ];
}
