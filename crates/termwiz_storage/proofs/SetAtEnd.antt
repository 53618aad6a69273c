-- Setting a cell after a list in which each wide cell is followed by its half.
use Rattle.std.proofs.Common.{◌≡◌, ℕ, zero, suc, ◌+◌, ◌-◌, List, [], ◌∷◌, ◌++◌, length, set, replicate, Bool, true, false, nat_lt, ◌&&◌, not, refl, ap, sym, ◌∙◌, arith, inl, inr}
use Rattle.std.proofs.lemmas.List.{get_or_append_left}
use Rattle.std.proofs.lemmas.Bool.{cases_Bool, cond-false}
use Rattle.termwiz_cell.specs.Attributes.{Attributes}
use Rattle.termwiz_cell.specs.CellValue.{CellValue, blank, half, is_wide, columns}
use Rattle.termwiz_storage.specs.Clustered.{IsWhole}
use Rattle.termwiz_storage.specs.Edits.{with_half}
use Rattle.termwiz_storage.specs.Stored.{hides, stored, padded, torn, put, set_cell}

half_is_narrow : (n : ℕ) (cs : List CellValue) → IsWhole cs → length cs ≡ suc n → hides cs n ≡ true → is_wide (stored cs n) ≡ false
half_is_narrow zero cs h e w = cc
half_is_narrow (suc n) cs h e w = ap is_wide (h.halves n (omega arith) w)

-- the last cell is narrow
narrow_last : (n : ℕ) (cs : List CellValue) → IsWhole cs → length cs ≡ suc n → is_wide (stored cs n) ≡ false
narrow_last n cs h e = elim (cases_Bool (is_wide (stored cs n))) [
  | inr w ↦ w
  | inl w ↦ elim (cases_Bool (hides cs n)) [
    | inl v ↦ half_is_narrow n cs h e v
    | inr v ↦
        let last : (is_wide (stored cs n) && not (hides cs n)) ≡ false = ap (hides cs) (sym e) ∙ h.complete in
        let no : true ≡ false = rw (w, v) at last in
        cc
  ]
]

and_false : (b : Bool) → (b && false) ≡ false
and_false true = refl
and_false false = refl

-- nothing is torn there
torn_at_end : (cs ds : List CellValue) → IsWhole cs → torn (length cs) (cs ++ ds) ≡ cs ++ ds
torn_at_end [] ds h = refl
torn_at_end (y ∷ ys) ds h =
    let cs : List CellValue = y ∷ ys in
    let n : ℕ = length cs in
    let e : n - 1 ≡ length ys = omega arith in
    let last : stored (cs ++ ds) (n - 1) ≡ stored cs (length ys) = get_or_append_left cs ds blank (n - 1) (omega arith) ∙ ap (stored cs) e in
    let narrow : is_wide (stored cs (length ys)) ≡ false = narrow_last (length ys) cs h refl in
    let test : (nat_lt 0 n && is_wide (stored (cs ++ ds) (n - 1))) ≡ false = ap (λ (c : CellValue). nat_lt 0 n && is_wide c) last ∙ ap (λ (b : Bool). nat_lt 0 n && b) narrow ∙ and_false (nat_lt 0 n) in
    cond-false (nat_lt 0 n && is_wide (stored (cs ++ ds) (n - 1))) (set (cs ++ ds) (n - 1) (half (stored (cs ++ ds) (n - 1)))) (cs ++ ds) test

put_at_end : (b : Bool) (x : List ℕ) (a : Attributes) (cs : List CellValue) → put (length cs) (record { text = x; wide = b; attrs = a }) (cs ++ replicate (columns (record { text = x; wide = b; attrs = a })) blank) ≡ cs ++ with_half (record { text = x; wide = b; attrs = a })
put_at_end true x a [] = refl
put_at_end false x a [] = refl
put_at_end true x a (y ∷ cs) =
    let e : suc (length cs) + 1 ≡ suc (length cs + 1) = omega arith in
    rw e (ap (λ (z : List CellValue). y ∷ z) (put_at_end true x a cs))
put_at_end false x a (y ∷ cs) = ap (λ (z : List CellValue). y ∷ z) (put_at_end false x a cs)

pub set_cell-at_end : (i : ℕ) (c : CellValue) (cs : List CellValue) → IsWhole cs → length cs ≡ i → set_cell i c cs ≡ cs ++ with_half c
set_cell-at_end i c cs h e =
    let pad : padded (i + columns c) cs ≡ cs ++ replicate (columns c) blank = let n : i + columns c - length cs ≡ columns c = omega arith in rw n refl in
    rw (pad, ← e, torn_at_end cs (replicate (columns c) blank) h) (put_at_end c.wide c.text c.attrs cs)
