-- What the calls that make diffs answer, from the list that they write.
use Rattle.std.proofs.Common.{◌≡◌, ℕ, zero, suc, ◌+◌, ◌-◌, ◌||◌, inl, inr, true, eqb, min, List, [], ◌++◌, map, arith, refl, sym, ap, ap₂, ◌∙◌, subst}
use Rattle.std.proofs.lemmas.Bool.{cases_eq, ne_eqb, false≢true}
use Rattle.termwiz_cell.specs.CellValue.{CellValue}
use Rattle.termwiz_cell.specs.ChangeValue.{ChangeValue}
use Rattle.termwiz_screen.specs.Diff.{Region, cut, whole, in_row, row_need, need_upto, need, prints_out, diff}
use Rattle.termwiz_screen.specs.DiffLists.{IsDiff}
use Rattle.termwiz_screen.specs.DiffRegions.{AreRows, CrossNone, HaveRegion}
use Rattle.termwiz_screen.specs.Prints.{Print}
use Rattle.termwiz_screen.specs.Screen.{Screen, row_at}
use Rattle.termwiz_screen.specs.Step.{replay}
use Rattle.termwiz_screen.proofs.Diffs.Lists.{gives_rows, gives_region}
use Rattle.termwiz_screen.proofs.Diffs.Screens.{cut_inside, need_nothing}

-- regions that are cut to nothing
no_columns : (a b : List (List CellValue)) (r : Region) (i : ℕ) → r.width ≡ 0 → need_upto a b r i ≡ []
no_columns a b r zero e = refl
no_columns a b r (suc i) e = ap₂ (λ ps m. ps ++ map (in_row (r.y + i)) m) (no_columns a b r i e) (ap (row_need (row_at a (r.y + i)) r.x (row_at b (r.other_y + i)) r.other_x) e)

pub nothing_there : (a b : List (List CellValue)) (r : Region) → (eqb r.width 0 || eqb r.height 0) ≡ true → diff a b r ≡ []
nothing_there a b r h = elim (cases_eq r.width 0) [
  | inl e ↦ ap (λ ps. prints_out ps) (no_columns a b r r.height e)
  | inr n ↦ elim (cases_eq r.height 0) [
    | inl e ↦ ap (λ i. prints_out (need_upto a b r i)) e
    | inr m ↦ absurd (false≢true (sym (ap₂ (λ x y. x || y) (ne_eqb r.width 0 n) (ne_eqb r.height 0 m)) ∙ h))
  ]
]

-- the whole of screens of one size is not cut
whole_cut : (w h v g : ℕ) → w ≡ v → h ≡ g → cut (whole w h) w h v g ≡ whole w h
whole_cut w h v g e k =
    let width : min w (min (w - 0) (v - 0)) ≡ w = omega (arith, e) in
    let height : min h (min (h - 0) (g - 0)) ≡ h = omega (arith, k) in
    λ i. record { x = 0; y = 0; width = width i; height = height i; other_x = 0; other_y = 0 }

-- a diff by one width function
by_one : (f g : List ℕ → ℕ) (s : Screen) (ps : List Print) (l : List ChangeValue) → f ≡ g → IsDiff f s (f ≡ g) ps l → IsDiff f s (f ≡ f) ps l
by_one f g s ps l e d = record { drawing = d.drawing; ends = d.ends; few = d.few; exact = λ _. d.exact e }

module _ (f g : List ℕ → ℕ) (a b : Screen) (l : List ChangeValue) (own : AreRows a.width a.height a.rows) (other : AreRows b.width b.height b.rows) where
  pub same_rows : a.width ≡ b.width → a.height ≡ b.height → f ≡ g → IsDiff f a (f ≡ g) (need a.rows b.rows (cut (whole a.width a.height) a.width a.height b.width b.height)) l → (replay f a l).rows ≡ b.rows
  same_rows w h e d =
      let here : AreRows a.width a.height b.rows = subst (λ n. AreRows a.width n b.rows) (sym h) (subst (λ n. AreRows n b.height b.rows) (sym w) other) in
      (gives_rows f a b l own here (subst (λ r. IsDiff f a (f ≡ f) (need a.rows b.rows r) l) (whole_cut a.width a.height b.width b.height w h) (by_one f g a (need a.rows b.rows (cut (whole a.width a.height) a.width a.height b.width b.height)) l e d))).0

  pub equal_rows : a.width ≡ b.width → a.height ≡ b.height → a.rows ≡ b.rows → l ≡ diff a.rows b.rows (cut (whole a.width a.height) a.width a.height b.width b.height) → l ≡ []
  equal_rows w h e d =
      d ∙ ap (λ r. prints_out (need a.rows b.rows r)) (whole_cut a.width a.height b.width b.height w h) ∙ ap (λ ps. prints_out ps) (need_nothing a.width a.height a.rows b.rows e)

  pub cut_region : (r : Region) → IsDiff f a (f ≡ g) (need a.rows b.rows (cut r a.width a.height b.width b.height)) l → f ≡ g → CrossNone a.width b.width a.rows b.rows (cut r a.width a.height b.width b.height) →
      HaveRegion a.width (replay f a l).rows a.rows b.rows (cut r a.width a.height b.width b.height)
  cut_region r d e c =
      gives_region f a b (cut r a.width a.height b.width b.height) l own other (cut_inside r a.width a.height b.width b.height) c (by_one f g a (need a.rows b.rows (cut r a.width a.height b.width b.height)) l e d)
