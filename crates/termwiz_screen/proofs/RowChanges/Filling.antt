-- Rows that are filled one after another.
use Rattle.std.proofs.Common.{◌≡◌, ℕ, ◌+◌, ◌-◌, ◌<◌, ◌≤◌, inl, inr, List, [], length, set, sym, ◌∙◌, subst, arith}
use Rattle.std.proofs.lemmas.Bool.{cases_eq, cases_lt}
use Rattle.std.proofs.lemmas.List.{length-set, get_or_past, get_or-set_same, get_or-set_other}
use Rattle.termwiz_cell.specs.CellValue.{CellValue}
use Rattle.termwiz_storage.specs.Stored.{fill, IsPruned}
use Rattle.termwiz_screen.specs.Screen.{row_at}
use Rattle.termwiz_screen.specs.Rows.{AreFilled, IsPartly, ArePartly}
use Rattle.termwiz_screen.proofs.RowChanges.Fills.{IsPartly-same, ArePartly-during}

-- one row is filled
pub filled-set : (w x y : ℕ) (c : CellValue) (old : List (List CellValue)) (r : List CellValue) → y < length old
    → IsPruned (fill (w - x) x c (row_at old y)) r → AreFilled w x y (y + 1) c old (set old y r)
filled-set w x y c old r l p = record {
  same_count = length-set old y r;
  above = λ j m. get_or-set_other old y j r [] (omega arith);
  here = subst (IsPruned (fill (w - x) x c (row_at old y))) (sym (get_or-set_same old y r [] l)) p;
  below = λ j m n. absurd (omega arith);
  left = λ j m. get_or-set_other old y j r [] (omega arith);
}

-- the others are as before
pub filled-others : (w x y : ℕ) (c : CellValue) (old new : List (List CellValue)) → AreFilled w x y (y + 1) c old new → (j : ℕ) → ((j ≡ y) → ⊥) → row_at new j ≡ row_at old j
filled-others w x y c old new f j n = elim (cases_lt j y) [
  | inl l ↦ f.above j l
  | inr g ↦ elim (cases_eq j y) [
    | inl e ↦ absurd (n e)
    | inr m ↦ f.left j (omega arith)
  ]
]

pub partly-set : (w y : ℕ) (c : CellValue) (old : List (List CellValue)) (r : List CellValue) → y < length old
    → IsPartly w c (row_at old y) r → ArePartly w c old (set old y r)
partly-set w y c old r l p = record {
  same_count = length-set old y r;
  each = λ k kl. elim (cases_eq k y) [
    | inl e ↦ rw e (rw (get_or-set_same old y r [] l) p)
    | inr n ↦ IsPartly-same w c _ _ (get_or-set_other old y k r [] n)
  ];
}

pub filling-more : (w x y j : ℕ) (c : CellValue) (old mid : List (List CellValue)) (r : List CellValue) → y < j → j < length mid → AreFilled w x y j c old mid
    → IsPruned (fill (w - 0) 0 c (row_at mid j)) r → AreFilled w x y (j + 1) c old (set mid j r)
filling-more w x y j c old mid r yj jm f p = record {
  same_count = length-set mid j r ∙ f.same_count;
  above = λ k l. get_or-set_other mid j k r [] (omega arith) ∙ f.above k l;
  here = subst (IsPruned (fill (w - x) x c (row_at old y))) (sym (get_or-set_other mid j y r [] (omega arith))) f.here;
  below = λ k l m. elim (cases_eq k j) [
    | inl e ↦
        let whole : w - 0 ≡ w = omega arith in
        let q : IsPruned (fill w 0 c (row_at old j)) r = subst (λ z. IsPruned (fill w 0 c z) r) (f.left j (omega arith)) (rw whole at p) in
        rw e (subst (IsPruned (fill w 0 c (row_at old j))) (sym (get_or-set_same mid j r [] jm)) q)
    | inr n ↦ subst (IsPruned (fill w 0 c (row_at old k))) (sym (get_or-set_other mid j k r [] n)) (f.below k l (omega arith))
  ];
  left = λ k l. get_or-set_other mid j k r [] (omega arith) ∙ f.left k (omega arith);
}

pub filling-all : (w x y j : ℕ) (c : CellValue) (old mid : List (List CellValue)) → length mid ≤ j → AreFilled w x y j c old mid → AreFilled w x y (length old) c old mid
filling-all w x y j c old mid l f = record {
  same_count = f.same_count;
  above = f.above;
  here = f.here;
  below = λ k m n. f.below k m (omega (arith, f.same_count));
  left = λ k m. get_or_past mid k [] (omega (arith, f.same_count)) ∙ sym (get_or_past old k [] m);
}

pub filling-partly : (w x y j : ℕ) (c : CellValue) (old mid : List (List CellValue)) (r : List CellValue) → x ≤ w → y < j → j < length mid → AreFilled w x y j c old mid
    → IsPartly w c (row_at mid j) r → ArePartly w c old (set mid j r)
filling-partly w x y j c old mid r m yj jm f p = ArePartly-during w x y j c old mid r m yj jm f.same_count f.above f.here f.below f.left p
