-- What a table of widths gives a character: the range at which those that end below it end is the only one that may have it.
use Rattle.std.proofs.Common.{◌≡◌, ℕ, zero, suc, ◌+◌, ◌<◌, ◌≤◌, true, false, ◌&&◌, List, [], ◌∷◌, Some, None, inl, inr, ltb, length, refl, sym, ◌∙◌, min, arith, nat_le}
use Rattle.std.proofs.lemmas.Bool.{and_from, and_left, and_parts, and_right, cases_Bool, cond-false, cond-true, leb-true, leb-false, ltb-true, ltb-false, le-leb, lt-leb}
use Rattle.std.proofs.Math.ListN.{get_or}
use Rattle.std.specs.List.{slice_get}
use Rattle.std.specs.List.Sorted.{IsNonDecreasingBy, IsPartitionPoint}
use Rattle.termwiz_cell.specs.UsualWidths.{HasNarrowAscii}
use Rattle.termwiz_text.specs.Plain.{is_one_plain}
use Rattle.tikeburo_c.specs.TableLaws.{columns_in-plain}
use Rattle.tikeburo_c.specs.WidthRanges.{columns_at, columns_in, given_by, is_table, is_width_range, rises_from}
use Rattle.tikeburo_c.specs.declared.tables.WidthRange.{WidthRange}

-- what a table says of its first range
record Rising (from : ℕ) (r : WidthRange) (rs : List WidthRange) : Type 0 where
  begins : from ≤ r.first
  some : r.first ≤ r.last
  others : rises_from (r.last + 1) rs ≡ true

rising : (from : ℕ) (r : WidthRange) (rs : List WidthRange) → rises_from from (r ∷ rs) ≡ true → Rising from r rs
rising from r rs h =
    let both = and_parts (nat_le from r.first && is_width_range r) (rises_from (r.last + 1) rs) h in
    let first = and_parts (nat_le from r.first) (is_width_range r) both.0 in
    let range = and_parts (nat_le r.first r.last && nat_le r.last 0x10FFFF) _ first.1 in
    record {
      begins = leb-true _ _ first.0;
      some = leb-true _ _ (and_parts (nat_le r.first r.last) (nat_le r.last 0x10FFFF) range.0).0;
      others = both.1;
    }

-- each range lies above where the table begins
above : (from : ℕ) (ranges : List WidthRange) → rises_from from ranges ≡ true → (j : ℕ) (d : WidthRange) → j < length ranges → from ≤ (get_or ranges j d).last
above from [] h j d lt = absurd (omega arith)
above from (r ∷ rs) h zero d lt = let k = rising from r rs h in let b = k.begins in let s = k.some in omega arith
above from (r ∷ rs) h (suc j) d lt =
    let k = rising from r rs h in let b = k.begins in let s = k.some in
    let rest = above (r.last + 1) rs k.others j d (omega arith) in omega arith

pub table_rises : (from : ℕ) (ranges : List WidthRange) → rises_from from ranges ≡ true → IsNonDecreasingBy (λ r. r.last) ranges
table_rises from [] h i j d le lt = absurd (omega arith)
table_rises from (r ∷ rs) h zero zero d le lt = omega arith
table_rises from (r ∷ rs) h zero (suc j) d le lt =
    let rest = above (r.last + 1) rs (rising from r rs h).others j d (omega arith) in omega arith
table_rises from (r ∷ rs) h (suc i) zero d le lt = absurd (omega arith)
table_rises from (r ∷ rs) h (suc i) (suc j) d le lt = table_rises (r.last + 1) rs (rising from r rs h).others i j d (omega arith) (omega arith)

-- no range has a character that lies below the table
none_below : (from c : ℕ) (ranges : List WidthRange) → rises_from from ranges ≡ true → c < from → columns_at ranges c ≡ None
none_below from c [] h lt = refl
none_below from c (r ∷ rs) h lt =
    let k = rising from r rs h in let b = k.begins in let s = k.some in
    cond-false (nat_le r.first c && nat_le c r.last) (Some r.columns) (columns_at rs c) (and_left (nat_le r.first c) (nat_le c r.last) (lt-leb r.first c (omega arith)))
    ∙ none_below (r.last + 1) c rs k.others (omega arith)

module _ (c : ℕ) where
  pub columns_found : (from : ℕ) (ranges : List WidthRange) (k : ℕ) → rises_from from ranges ≡ true → IsPartitionPoint (λ r. ltb r.last c ≡ true) (λ r. ltb r.last c ≡ false) ranges k → columns_at ranges c ≡ given_by (slice_get ranges k) c
  columns_found from [] k h point = refl
  columns_found from (r ∷ rs) zero h point =
      let q = rising from r rs h in let s = q.some in let above = ltb-false r.last c (point.1 zero r (omega arith) (omega arith)) in
      elim (cases_Bool (nat_le r.first c)) [
        | inl has ↦ cond-true (nat_le r.first c && nat_le c r.last) (Some r.columns) (columns_at rs c) (and_from (nat_le r.first c) (nat_le c r.last) has (le-leb c r.last above)) ∙ sym (cond-true (nat_le r.first c) (Some r.columns) None has)
        | inr n ↦ let lt = leb-false r.first c n in
            cond-false (nat_le r.first c && nat_le c r.last) (Some r.columns) (columns_at rs c) (and_left (nat_le r.first c) (nat_le c r.last) n)
            ∙ none_below (r.last + 1) c rs q.others (omega arith) ∙ sym (cond-false (nat_le r.first c) (Some r.columns) None n)
      ]
  columns_found from (r ∷ rs) (suc k) h point =
      let q = rising from r rs h in let below = ltb-true r.last c (point.0 zero r (omega arith) (omega arith)) in
      cond-false (nat_le r.first c && nat_le c r.last) (Some r.columns) (columns_at rs c) (and_right (nat_le r.first c) (nat_le c r.last) (lt-leb c r.last below))
      ∙ columns_found (r.last + 1) rs k q.others (λ i d l u. point.0 (suc i) d (omega arith) (omega arith), λ i d l u. point.1 (suc i) d (omega arith) (omega arith))

-- a character more of what is added up, up to two columns
pub more_columns : (columns given rest : ℕ) → min (min (min (given + columns) 18446744073709551615) 2 + rest) 2 ≡ min (columns + (given + rest)) 2
more_columns columns given rest = omega arith

-- a text of one character of printable ASCII
pub plain_columns : (text : List ℕ) (ranges : List WidthRange) → is_table ranges ≡ true → is_one_plain text ≡ true → columns_in ranges text ≡ 1
plain_columns [] ranges rises h = absurd cc
plain_columns (c ∷ []) ranges rises h = columns_in-plain c ranges rises h
plain_columns (c ∷ (d ∷ text)) ranges rises h = absurd cc

-- printable ASCII is narrow by a table
pub narrow_by_table : (ranges : List WidthRange) → is_table ranges ≡ true → HasNarrowAscii (columns_in ranges)
narrow_by_table ranges rises c h = let one = columns_in-plain c ranges rises h in omega arith
