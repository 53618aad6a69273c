-- The screens that limits allow, and the work that a screen bears.
use Rattle.std.proofs.Common.{◌≡◌, ◌⊎◌, ℕ, ◌+◌, ◌*◌, ◌<◌, ◌≤◌, Bool, true, false, ◌||◌, ltb, le-leb, List, [], ◌∷◌, ◌++◌, Option, Some, None, refl, arith, inl, inr}
use Rattle.std.proofs.lemmas.Bool.{cases_Bool, le-ltb, leb-true, ltb-false}
use Rattle.termwiz_cell.specs.ChangeValue.{ChangeValue}
use Rattle.termwiz_wire.specs.Screens.{FitsLimits, is_past}
use Rattle.termwiz_wire.specs.Work.{bears, cost, most_work, spent_on, work_of}
use Rattle.termwiz_wire.specs.declared.decode.heads.Head.{Head}
use Rattle.termwiz_wire.specs.declared.fault.Limits.{Limits}

-- ---- screens

neither : (a b : Bool) → (a || b) ≡ false → (a ≡ false) × (b ≡ false)
neither true b e = absurd cc
neither false b e = (refl, e)

pub fits_of : (limits : Limits) (w h : ℕ) → is_past limits w h ≡ false → FitsLimits limits w h
fits_of limits w h e =
    let parts = neither (ltb limits.cells (w * h)) (ltb limits.rows h) e in
    record { cells = ltb-false _ _ parts.0; rows = ltb-false _ _ parts.1 }

pub not_past : (limits : Limits) (w h : ℕ) → FitsLimits limits w h → is_past limits w h ≡ false
not_past limits w h fits = rw (le-ltb limits.cells (w * h) fits.cells, le-ltb limits.rows h fits.rows) refl

pub past_or_fits : (limits : Limits) (w h : ℕ) → (is_past limits w h ≡ true) ⊎ FitsLimits limits w h
past_or_fits limits w h = elim (cases_Bool (is_past limits w h)) [
  | inl past ↦ inl past
  | inr not ↦ inr (fits_of limits w h not)
]

-- ---- work

-- the work of all is that of the first, and of those after them
pub work-append : (w h : ℕ) (cs ds : List ChangeValue) → work_of w h (cs ++ ds) ≡ work_of w h cs + work_of w h ds
work-append w h [] ds = omega arith
work-append w h (c ∷ cs) ds =
    let more : work_of w h (cs ++ ds) ≡ work_of w h cs + work_of w h ds = work-append w h cs ds in
    omega (arith, more)

-- one more
pub spent_more : (head : Option Head) (cs : List ChangeValue) (c : ChangeValue) → spent_on head (cs ++ c ∷ []) ≡ spent_on head cs + cost head c
spent_more None cs c = refl
spent_more (Some head) cs c =
    let all : work_of head.width head.height (cs ++ c ∷ []) ≡ work_of head.width head.height cs + work_of head.width head.height (c ∷ []) = work-append head.width head.height cs (c ∷ []) in
    omega (arith, all)

-- the screen bears these changes
abbrev pub Bears : Option Head → List ChangeValue → Type 0
Bears None cs = Unit {0}
Bears (Some head) cs = work_of head.width head.height cs ≤ most_work head.width head.height

abbrev pub Passes : Option Head → List ChangeValue → Type 0
Passes None cs = ⊥
Passes (Some head) cs = most_work head.width head.height < work_of head.width head.height cs

pub bears_none : (head : Option Head) → Bears head []
bears_none None = tt
bears_none (Some head) = omega arith

-- a change of those that it bears,
pub bears_next : (head : Option Head) (made : List ChangeValue) (c : ChangeValue) (cs : List ChangeValue) → Bears head (made ++ (c ∷ cs)) → bears head (spent_on head made) c ≡ true
bears_next None made c cs is = refl
bears_next (Some head) made c cs is =
    let all : work_of head.width head.height (made ++ (c ∷ cs)) ≡ work_of head.width head.height made + work_of head.width head.height (c ∷ cs) = work-append head.width head.height made (c ∷ cs) in
    le-leb _ _ (omega (arith, is, all))

-- those before it with it,
pub bears_more : (head : Option Head) (made : List ChangeValue) (c : ChangeValue) → bears head (spent_on head made) c ≡ true → Bears head (made ++ c ∷ [])
bears_more None made c is = tt
bears_more (Some head) made c is =
    let all : work_of head.width head.height (made ++ c ∷ []) ≡ work_of head.width head.height made + work_of head.width head.height (c ∷ []) = work-append head.width head.height made (c ∷ []) in
    omega (arith, leb-true _ _ is, all)

-- it doesn't bear those that pass
pub not_both : (head : Option Head) (cs : List ChangeValue) → Bears head cs → Passes head cs → ⊥
not_both None cs borne past = past
not_both (Some head) cs borne past = absurd (omega (arith, borne, past))
