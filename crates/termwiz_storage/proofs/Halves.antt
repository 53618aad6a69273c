-- The halves of wide cells: room for one, what is left of one, and the one that a list lacks.
use Rattle.std.proofs.Common.{[], ◌∷◌, ◌++◌, length, take, length-append, length-set, le-leb, ◌≡◌, ℕ, ◌+◌, ◌-◌, ◌<◌, ◌≤◌, inl, inr, true, false, ◌&&◌, List, set, refl, sym, ◌∙◌, arith}
use Rattle.std.specs.Prelude.{nat_lt}
use Rattle.std.proofs.lemmas.Bool.{cases_Bool, lt-leb}
use Rattle.std.proofs.lemmas.List.{append-nil, length-replicate, take_all}
use Rattle.termwiz_cell.specs.CellValue.{CellValue, half, is_wide, columns}
use Rattle.termwiz_storage.proofs.Widths.{columns-narrow, columns-wide}
use Rattle.termwiz_storage.specs.Stored.{stored, padded, hides, torn, put, set_cell}
use Rattle.termwiz_storage.specs.Halves.{missing_half, resized}

pub length-torn : (i : ℕ) (cs : List CellValue) → length (torn i cs) ≡ length cs
length-torn i cs = elim (cases_Bool (nat_lt 0 i && is_wide (stored cs (i - 1)))) [
  | inl t ↦ rw t (simp length-set)
  | inr f ↦ rw f refl
]

pub set_cell-torn : (i e : ℕ) (c : CellValue) (cs : List CellValue) → e ≡ i + columns c → put i c (torn i (padded e cs)) ≡ set_cell i c cs
set_cell-torn i e c cs h = rw h refl

-- the same for a narrow cell, and for a wide one with its half
pub set_narrow-torn : (i e : ℕ) (c : CellValue) (cs : List CellValue) → is_wide c ≡ false → e ≡ i + 1 → set (torn i (padded e cs)) i c ≡ set_cell i c cs
set_narrow-torn i e c cs n h =
    let one : columns c ≡ 1 = columns-narrow c n in
    let same : put i c (torn i (padded e cs)) ≡ set (torn i (padded e cs)) i c = rw n refl in
    sym same ∙ set_cell-torn i e c cs (omega arith)

pub set_wide-torn : (i e : ℕ) (c : CellValue) (cs : List CellValue) → is_wide c ≡ true → e ≡ i + 2 → set (set (torn i (padded e cs)) (i + 1) (half c)) i c ≡ set_cell i c cs
set_wide-torn i e c cs w h =
    let two : columns c ≡ 2 = columns-wide c w in
    let same : put i c (torn i (padded e cs)) ≡ set (set (torn i (padded e cs)) (i + 1) (half c)) i c = rw w refl in
    sym same ∙ set_cell-torn i e c cs (omega arith)

pub length-padded : (n : ℕ) (cs : List CellValue) → (n ≤ length (padded n cs)) × (length cs ≤ length (padded n cs))
length-padded n cs = let e : length (padded n cs) ≡ length cs + (n - length cs) = simp (length-append, length-replicate) in (omega arith, omega arith)

-- what a list that grows begins with
pub grown-wide : (cs : List CellValue) (h : CellValue) → hides cs (length cs) ≡ true → h ≡ half (stored cs (length cs - 1)) → cs ++ h ∷ [] ≡ cs ++ missing_half cs
grown-wide cs h t e = rw (t, e) refl

pub grown-narrow : (cs : List CellValue) → hides cs (length cs) ≡ false → cs ≡ cs ++ missing_half cs
grown-narrow cs f = rw f (sym (append-nil cs))

pub resized-grown : (k : ℕ) (cs ds : List CellValue) → length cs < k → ds ≡ cs ++ missing_half cs → padded k ds ≡ resized k cs
resized-grown k cs ds l e = rw (e, lt-leb k (length cs) l) refl

pub resized-cut : (k : ℕ) (cs : List CellValue) → k ≤ length cs → take k cs ≡ resized k cs
resized-cut k cs l = rw (le-leb k (length cs) l) refl

-- a list that is short enough is not cut
pub take_whole : (n : ℕ) (cs : List CellValue) → length cs ≤ n → cs ≡ take n cs
take_whole n cs l = sym (take_all n cs l)
