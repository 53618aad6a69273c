-- The entries of rows, one row more at a time, and those of blank rows at the bottom.
use Rattle.std.proofs.Common.{◌≡◌, ℕ, zero, suc, replicate, ◌+◌, ◌-◌, ◌<◌, ◌≤◌, Bool, true, false, cond, not, ◌&&◌, eqb, ltb, List, [], ◌∷◌, ◌++◌, ltb-true, arith, add-one, append-nil, append_assoc, refl, sym, ap, ◌∙◌}
use Rattle.std.proofs.lemmas.Bool.{cond-true, cond-false, and_parts, and_from, and_left, false_from_ne_true, lt-ltb, ne_eqb}
use Rattle.termwiz_cell.specs.Attributes.{Attributes, default_attributes, attributes_eq, has_only_background}
use Rattle.std.specs.Cmp.Lexicographic.{pointwise}
use Rattle.termwiz_cell.specs.CellValue.{CellValue, blank_of, cell_eq}
use Rattle.termwiz_cell.specs.ChangeValue as change
use Rattle.termwiz_cell.specs.ChangeValue.{ChangeValue, is_text}
use Rattle.termwiz_line.specs.Row.{visible_upto}
use Rattle.termwiz_line.specs.Entries.{Penned, row_entries}
use Rattle.termwiz_line.specs.LastChange.{last_is}
use Rattle.termwiz_line.specs.Writing.{Writing, behind}
use Rattle.termwiz_line.proofs.LastChange.{last_pushed}
use Rattle.termwiz_screen.specs.Drawing.{IsBeforeRow, AreApart, IsWrittenUpto}
use Rattle.termwiz_screen.proofs.Repaints.LastChanges.{front_behind_first}
use Rattle.termwiz_screen.specs.Screen.{row_at}
use Rattle.termwiz_screen.specs.Repaint.{next_line, ends_with, rows_upto, bottom_attrs, first_blank, front_of, joined_row, bottom, joins_rows, all_rows}

pub and_not_false : (p b : Bool) → b ≡ false → p ≡ (p && not b)
and_not_false true b e = sym (ap not e)
and_not_false false b e = refl

-- the row before at most
pub row_before : (b : Bool) (n : ℕ) → n ≤ cond b (n - 1) n + 1
row_before true n = omega arith
row_before false n = omega arith

-- a row that is written after those above it, with the move to it
module _ (w : ℕ) (rows : List (List CellValue)) (v u t : Writing) where
  -- after the move, or before the first row, no text grows
  pub no_text : (i : ℕ) → IsBeforeRow i v → u.printed ≡ record v.printed { entries = v.printed.entries ++ cond (eqb i 0) [] (next_line ∷ []) } → last_is is_text u.printed.entries ≡ false
  no_text zero z e = ap (λ (d : Penned). last_is is_text d.entries) e ∙ ap (last_is is_text) (append-nil v.printed.entries) ∙ z.apart refl
  no_text (suc i) z e =
      ap (λ (d : Penned). last_is is_text d.entries) e
      ∙ ap (λ b. last_is is_text (v.printed.entries ++ cond b [] (next_line ∷ []))) (ne_eqb (suc i) 0 (omega arith))
      ∙ last_pushed is_text v.printed.entries next_line

  pub row_drawn : (first : List ChangeValue) (i : ℕ) (row : List CellValue) → IsWrittenUpto first w rows i v → u.printed ≡ record v.printed { entries = v.printed.entries ++ cond (eqb i 0) [] (next_line ∷ []) } →
      t.printed ≡ behind u.printed.entries (row_entries u.printed.pen (visible_upto row w)) → row_at rows i ≡ row → IsWrittenUpto first w rows (i + 1) t
  row_drawn first i row z eu et er = record {
    printed =
        et ∙ (λ k. behind (drawn k).entries (row_entries (drawn k).pen (visible_upto (sym er k) w)))
        ∙ (λ k. record { entries = regroup k; pen = (row_entries above.pen (visible_upto (row_at rows i) w)).pen })
        ∙ sym (ap (λ j. behind first (rows_upto w rows j)) (add-one i));
  }
    where
      above : Penned
      above = rows_upto w rows i

      move : List ChangeValue
      move = cond (eqb i 0) [] (next_line ∷ [])

      drawn : u.printed ≡ record { entries = (first ++ above.entries) ++ move; pen = above.pen }
      drawn = eu ∙ ap (λ (d : Penned). record d { entries = d.entries ++ move }) z.printed

      row_here : List ChangeValue
      row_here = (row_entries above.pen (visible_upto (row_at rows i) w)).entries

      regroup : ((first ++ above.entries) ++ move) ++ row_here ≡ first ++ (above.entries ++ (move ++ row_here))
      regroup = simp append_assoc

-- the entries, whose last clears a line, with all below cleared in its place
abbrev pub cleared_below : Attributes → Penned → Penned
cleared_below a d = record { entries = front_of d.entries ++ change.ClearToEndOfScreen a.background ∷ []; pen = a }

-- the attributes of the last column can be cleared
abbrev pub clearable : Attributes → Bool
clearable a = has_only_background a && not (attributes_eq a default_attributes)

-- after the first entries
pub cleared_behind : (a : Attributes) (first : List ChangeValue) (d : Penned) → ends_with a d.entries ≡ true → cleared_below a (behind first d) ≡ behind first (cleared_below a d)
cleared_behind a first d h =
    let cleared = change.ClearToEndOfScreen a.background ∷ [] in
    ap (λ es. record { entries = es; pen = a }) (ap (λ es. es ++ cleared) (front_behind_first a first d.entries h) ∙ append_assoc first (front_of d.entries) cleared)

module _ (w h : ℕ) (rows : List (List CellValue)) (a : Attributes) (is_bottom : a ≡ bottom_attrs w h rows) where
  pub not_clearable : clearable a ≡ false → all_rows w h rows ≡ rows_upto w rows h
  not_clearable f = cond-false (joins_rows w h rows) _ (rows_upto w rows h) (and_left (clearable (bottom_attrs w h rows)) _ (sym (ap clearable is_bottom) ∙ f))

  module _ (c : clearable a ≡ true) (i t : ℕ) (is_above : i ≡ first_blank w a rows h) (is_joined : t ≡ joined_row w a rows i) where
    above_is : i ≡ bottom w h rows
    above_is = is_above ∙ ap (λ b. first_blank w b rows h) is_bottom

    joined_is : t ≡ joined_row w (bottom_attrs w h rows) rows (bottom w h rows)
    joined_is = is_joined ∙ (λ k. joined_row w (is_bottom k) rows (above_is k))

    joins_are : joins_rows w h rows ≡ (ltb i h && ltb (suc t) h)
    joins_are = ap (λ b. b && (ltb (bottom w h rows) h && ltb (suc (joined_row w (bottom_attrs w h rows) rows (bottom w h rows))) h)) (sym (ap clearable is_bottom) ∙ c) ∙ sym (λ k. ltb (above_is k) h && ltb (suc (joined_is k)) h)

    pub joined : i < h → t + 1 < h → all_rows w h rows ≡ cleared_below a (rows_upto w rows (t + 1))
    joined li lt =
        cond-true (joins_rows w h rows) _ (rows_upto w rows h) (joins_are ∙ and_from (ltb i h) (ltb (suc t) h) (lt-ltb i h li) (lt-ltb (suc t) h (omega arith)))
        ∙ sym (λ k. cleared_below (is_bottom k) (rows_upto w rows (suc (joined_is k)))) ∙ sym (ap (λ j. cleared_below a (rows_upto w rows j)) (add-one t))

    pub apart : (i < h → t + 1 < h → ⊥) → all_rows w h rows ≡ rows_upto w rows h
    apart n = cond-false (joins_rows w h rows) _ (rows_upto w rows h) (joins_are ∙ false_from_ne_true _ (λ e. let parts = and_parts (ltb i h) (ltb (suc t) h) e in n (ltb-true i h parts.0) (omega (arith, ltb-true (suc t) h parts.1))))

-- the row above row n is such a blank one, or it is not
pub first_blank-above : (w : ℕ) (a : Attributes) (rows : List (List CellValue)) (n : ℕ) → 0 < n → pointwise cell_eq (row_at rows (n - 1)) (replicate w (blank_of a)) ≡ true → first_blank w a rows (n - 1) ≡ first_blank w a rows n
first_blank-above w a rows zero l e = absurd (omega arith)
first_blank-above w a rows (suc n) l e =
    let one : suc n - 1 ≡ n = omega arith in
    let here : pointwise cell_eq (row_at rows n) (replicate w (blank_of a)) ≡ true = rw one at e in
    ap (first_blank w a rows) one ∙ sym (cond-true _ (first_blank w a rows n) (suc n) here)

pub first_blank-here : (w : ℕ) (a : Attributes) (rows : List (List CellValue)) (n : ℕ) → 0 < n → pointwise cell_eq (row_at rows (n - 1)) (replicate w (blank_of a)) ≡ false → n ≡ first_blank w a rows n
first_blank-here w a rows zero l e = absurd (omega arith)
first_blank-here w a rows (suc n) l e =
    let one : suc n - 1 ≡ n = omega arith in
    let here : pointwise cell_eq (row_at rows n) (replicate w (blank_of a)) ≡ false = rw one at e in
    sym (cond-false _ (first_blank w a rows n) (suc n) here)

-- nothing is written yet but these entries
module _ (first : List ChangeValue) (writer : Writing) (e : writer.printed ≡ record { entries = first; pen = default_attributes }) where
  pub before_rows : AreApart first → writer.spaces ≡ 0 → IsBeforeRow 0 writer
  before_rows apart none = record { between = none; apart = λ zero. ap (λ (d : Penned). last_is is_text d.entries) e ∙ apart.no_text }

  pub none_drawn : (w : ℕ) (rows : List (List CellValue)) → IsWrittenUpto first w rows 0 writer
  none_drawn w rows = record { printed = e ∙ ap (λ es. record { entries = es; pen = default_attributes }) (sym (append-nil first)) }
