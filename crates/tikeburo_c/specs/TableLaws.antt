-- The laws of width values, of a table: its texts have two columns at most, and printable ASCII has one.
use Rattle.std.proofs.Common.{◌≡◌, ◌≤◌, ℕ, ◌+◌, true, false, ◌&&◌, ◌||◌, ◌==◌, List, [], ◌∷◌, Option, Some, None, inl, inr, unwrap_or, min, sum_by, ap, ◌∙◌, arith, nat_le, nat_lt, add-zero}
use Rattle.std.proofs.lemmas.Bool.{and_parts, cond-true, cond_both, or_cases, leb-true, ltb-true, lt-ltb, eqb-true}
use Rattle.std.proofs.lemmas.List.Sums.{sum_by-cons}
use Rattle.std.proofs.lemmas.Str.{chars-nil}
use Rattle.std.specs.Bool.{⊤}
use Rattle.std.specs.Option.{MatchOption}
use Rattle.std.specs.Str.{chars}
use Rattle.termwiz_cell.proofs.PlainWidths.{one_plain_width}
use Rattle.termwiz_cell.specs.Width.{unicode_columns}
use Rattle.termwiz_cell.specs.WidthLaws.{unicode_columns-le}
use Rattle.termwiz_text.proofs.Plain.{chars_plain, utf8_one}
use Rattle.termwiz_text.specs.Plain.{is_plain}
use Rattle.unicode_width.specs.Width.{char_width}
use Rattle.tikeburo_c.specs.WidthRanges.{char_columns, columns_at, columns_in, has_any, is_table, is_width_range, rises_from}
use Rattle.tikeburo_c.specs.declared.tables.WidthRange.{WidthRange}

-- printable ASCII has one column, where a range has it
narrow_range : (c : ℕ) (r : WidthRange) → is_width_range r ≡ true → 0x20 ≤ c → c ≤ 0x7E → (nat_le r.first c && nat_le c r.last) ≡ true → r.columns ≡ 1
narrow_range c r h low high has =
    let in_it = and_parts (nat_le r.first c) (nat_le c r.last) has in
    let first = leb-true _ _ in_it.0 in let last = leb-true _ _ in_it.1 in
    let sides = (r.columns == 1) || nat_lt r.last 0x20 in
    let rest = and_parts (nat_le r.columns 2) (sides || nat_lt 0x7E r.first) (and_parts (nat_le r.first r.last && nat_le r.last 0x10FFFF) _ h).1 in
    elim (or_cases sides (nat_lt 0x7E r.first) rest.1) [
      | inl x ↦ elim (or_cases (r.columns == 1) (nat_lt r.last 0x20) x) [
        | inl one ↦ eqb-true r.columns 1 one
        | inr y ↦ let lt = ltb-true r.last 0x20 y in absurd (omega arith)
      ]
      | inr y ↦ let lt = ltb-true 0x7E r.first y in absurd (omega arith)
    ]

-- a printable character of ASCII has one column, or no range has it
plain_given : (c from : ℕ) (ranges : List WidthRange) → rises_from from ranges ≡ true → 0x20 ≤ c → c ≤ 0x7E → MatchOption (columns_at ranges c) ⊤ (λ n. n ≡ 1)
plain_given c from [] h low high = cc
plain_given c from (r ∷ rs) h low high =
    let both = and_parts (nat_le from r.first && is_width_range r) (rises_from (r.last + 1) rs) h in
    let range = (and_parts (nat_le from r.first) (is_width_range r) both.0).1 in
    cond_both (nat_le r.first c && nat_le c r.last) (Some r.columns) (columns_at rs c) (λ o. MatchOption o ⊤ (λ n. n ≡ 1))
    (λ has. narrow_range c r range low high has) (λ _. plain_given c (r.last + 1) rs both.1 low high)

pub columns_in-le : (ranges : List WidthRange) (text : List ℕ) → columns_in ranges text ≤ 2
columns_in-le ranges text =
    cond_both (has_any ranges (chars text)) (min (sum_by (char_columns ranges) (chars text)) 2) (unicode_columns text) (λ n. n ≤ 2)
    (λ _. Prim.omega arith) (λ _. unicode_columns-le text)

plain_width : (c : ℕ) → is_plain c ≡ true → char_width false c ≡ Some 1
unfolding char_width
plain_width c h =
    let ends = and_parts (nat_le 0x20 c) (nat_le c 0x7E) h in let last = leb-true c 0x7E ends.1 in
    cond-true (nat_lt c 0x7F) _ _ (lt-ltb c 0x7F (Prim.omega arith)) ∙ cond-true (nat_le 0x20 c) (Some 1) None ends.0

one_of : (given wide : Option ℕ) → MatchOption given ⊤ (λ n. n ≡ 1) → unwrap_or wide 1 ≡ 1 → unwrap_or given (unwrap_or wide 1) ≡ 1
one_of None wide g w = w
one_of (Some n) wide g w = g

plain_columns : (c : ℕ) (ranges : List WidthRange) → is_table ranges ≡ true → is_plain c ≡ true → char_columns ranges c ≡ 1
plain_columns c ranges rises h =
    let ends = and_parts (nat_le 0x20 c) (nat_le c 0x7E) h in
    one_of (columns_at ranges c) (char_width false c) (plain_given c 0 ranges rises (leb-true 0x20 c ends.0) (leb-true c 0x7E ends.1)) (ap (λ w. unwrap_or w 1) (plain_width c h))

pub columns_in-plain : (c : ℕ) (ranges : List WidthRange) → is_table ranges ≡ true → is_plain c ≡ true → columns_in ranges (c ∷ []) ≡ 1
columns_in-plain c ranges rises h =
    let f = char_columns ranges in
    let one = plain_columns c ranges rises h in
    let alone = chars_plain c [] (utf8_one c h) h ∙ ap (λ cs. c ∷ cs) chars-nil in
    cond_both (has_any ranges (chars (c ∷ []))) (min (sum_by f (chars (c ∷ []))) 2) (unicode_columns (c ∷ [])) (λ n. n ≡ 1)
    (λ _. ap (λ cs. min (sum_by f cs) 2) alone ∙ ap (λ n. min n 2) (sum_by-cons f c [] ∙ add-zero (f c) ∙ one))
    (λ _. one_plain_width (c ∷ []) h)
