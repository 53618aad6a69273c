-- The stored cells of a row and default blanks after them are what the row shows.
use Rattle.std.proofs.Common.{◌≡◌, ℕ, zero, suc, ◌+◌, ◌-◌, ◌<◌, ◌≤◌, false, true, not, List, [], ◌∷◌, ◌++◌, length, arith, inl, inr, append-nil, append_assoc, add-zero, le_refl, refl, subst, sym, ap, ◌∙◌, Some, None, option_map, slice_get}
use Rattle.std.proofs.lemmas.Bool.{and_left, cases_Bool}
use Rattle.std.proofs.lemmas.List.{get_or_past, length-append}
use Rattle.std.proofs.lemmas.Option.{get_or_from_slice_get, slice_get-map, slice_get_within}
use Rattle.termwiz_cell.specs.CellValue.{CellValue, blank, columns, is_wide}
use Rattle.termwiz_storage.specs.Stored.{hides, stored, visible, visible_from}
use Rattle.termwiz_storage.specs.VisibleCell.{at_column}
use Rattle.termwiz_line.specs.Row.{is_hidden, row_of, visible_upto}
use Rattle.termwiz_line.proofs.RowOf.{row_of_at, settled_hidden, settled_visible}
use Rattle.termwiz_line.proofs.RowVisible.{visible_shown}
use Rattle.termwiz_screen.specs.Measured.{IsStored}
use Rattle.termwiz_screen.specs.Padding.{IsPaddable}
use Rattle.termwiz_screen.specs.Screen.{row_at}
use Rattle.termwiz_screen.proofs.ShownTexts.{visible_stored}
use Rattle.termwiz_surface.specs.Surface.{IsSound, SurfaceValue}
use Rattle.tikeburo_c.specs.Outcomes.{Outcome}
use Rattle.tikeburo_c.specs.Results.{OrNoMemory, Refused}
use Rattle.tikeburo_c.specs.Rows.{GivesParts, GivesShown, RowPlace, blanks_at, row_value}
use Rattle.tikeburo_c.specs.declared.failure.Failure.TheVariants.{Range}
use Rattle.tikeburo_c.specs.declared.widths.ChosenWidths.{ChosenWidths}

module _ (w : ℕ) (cs : List CellValue) (closed : (k : ℕ) → suc k < w → is_wide (stored cs k) ≡ true → suc k < length cs) where
  narrow : (k : ℕ) → length cs ≤ suc k → suc k < w → is_wide (stored cs k) ≡ false
  narrow k m l = elim (cases_Bool (is_wide (stored cs k))) [ inl t ↦ absurd (omega (arith, closed k l t)) | inr f ↦ f ]

  -- no cell is hidden after the stored ones
  past_hides : (k : ℕ) → length cs ≤ k → k < w → hides cs k ≡ false
  past_hides zero m l = refl
  past_hides (suc k) m l = and_left (is_wide (stored cs k)) (not (hides cs k)) (narrow k m l)

  past_hidden : (k : ℕ) → length cs ≤ k → k < w → is_hidden (row_of w cs) k ≡ false
  past_hidden zero m l = refl
  past_hidden (suc k) m l = ap is_wide (row_of_at w cs k (omega arith)) ∙ elim (cases_Bool (hides cs k)) [
    | inl t ↦ settled_hidden cs k t
    | inr f ↦ ap is_wide (settled_visible cs k f) ∙ narrow k m l
  ]

  past_blank : (k : ℕ) → length cs ≤ k → k < w → stored (row_of w cs) k ≡ blank
  past_blank k m l = row_of_at w cs k l ∙ settled_visible cs k (past_hides k m l) ∙ get_or_past cs k blank m

  -- from a column after the stored cells on, the row shows default blanks
  pub blanks_behind : (n k : ℕ) → length cs ≤ k → k + n ≤ w → visible_upto (row_of w cs) (k + n) ≡ visible_upto (row_of w cs) k ++ blanks_at k n
  blanks_behind zero k m l = ap (visible_upto (row_of w cs)) (add-zero k) ∙ sym (append-nil (visible_upto (row_of w cs) k))
  blanks_behind (suc n) k m l =
      let inside : k < w = omega (arith, l) in
      let next : k + suc n ≡ suc k + n = omega arith in
      ap (visible_upto (row_of w cs)) next ∙ blanks_behind n (suc k) (omega (arith, m)) (omega (arith, l))
      ∙ ap (λ ps. ps ++ blanks_at (suc k) n) (visible_shown (row_of w cs) k (past_hidden k m inside) ∙ ap (λ c. visible_upto (row_of w cs) k ++ at_column k c ∷ []) (past_blank k m inside))
      ∙ append_assoc (visible_upto (row_of w cs) k) (at_column k blank ∷ []) (blanks_at (suc k) n)

-- padded cells are the row's
pub is_filled : (w : ℕ) (cs : List CellValue) → IsPaddable w cs → visible cs ++ blanks_at (length cs) (w - length cs) ≡ visible_upto (row_of w cs) w
is_filled w cs z =
    let whole : length cs + (w - length cs) ≡ w = omega (arith, z.within) in
    ap (λ ps. ps ++ blanks_at (length cs) (w - length cs)) (visible_stored w cs z.within)
    ∙ sym (blanks_behind w cs z.closed (w - length cs) (length cs) (le_refl (length cs)) (omega (arith, whole)))
    ∙ ap (visible_upto (row_of w cs)) whole

-- no more cells are visible than there are
visible_few : (i skip : ℕ) (cs : List CellValue) → length (visible_from i skip cs) ≤ length cs
visible_few i skip [] = omega arith
visible_few i zero (c ∷ cs) = let few : length (visible_from (i + 1) (columns c - 1) cs) ≤ length cs = visible_few (i + 1) (columns c - 1) cs in omega (arith, few)
visible_few i (suc k) (c ∷ cs) = let few : length (visible_from (i + 1) k cs) ≤ length cs = visible_few (i + 1) k cs in omega (arith, few)

length-blanks : (x n : ℕ) → length (blanks_at x n) ≡ n
length-blanks x zero = refl
length-blanks x (suc n) = ap suc (length-blanks (suc x) n)

pub are_few : (cs : List CellValue) (x n : ℕ) → length (visible cs ++ blanks_at x n) ≤ length cs + n
are_few cs x n = omega (arith, length-append (visible cs) (blanks_at x n), length-blanks x n, visible_few 0 0 cs)

module _ {W : Type 0} (s : SurfaceValue W) (row : ℕ) where
  pub is_paddable : (measure : List ℕ → ℕ) (cs : List CellValue) → IsSound measure s → slice_get s.lines row ≡ Some cs → IsPaddable s.width cs
  is_paddable measure cs sound e =
      let within : row < length s.lines = slice_get_within s.lines row cs e in
      let is : row_at s.lines row ≡ cs = get_or_from_slice_get s.lines row cs [] e in
      let z : IsStored measure s.width (row_at s.lines row) = sound.stored_so row (omega (arith, within, sound.full)) in
      subst (IsPaddable s.width) is (record { within = z.within; closed = z.closed })

module _ (s : SurfaceValue ChosenWidths) (row : ℕ) (old : RowPlace) (outcome : Outcome) (new : RowPlace) where
  pub gives_shown : (cs : List CellValue) → slice_get s.lines row ≡ Some cs → OrNoMemory (GivesParts (row_value (visible_upto (row_of s.width cs) s.width))) old outcome new → GivesShown row s old outcome new
  gives_shown cs e h = rw (slice_get-map (row_of s.width) s.lines row ∙ ap (option_map (row_of s.width)) e) h

  pub shows_none : slice_get s.lines row ≡ None → Refused Range old outcome new → GivesShown row s old outcome new
  shows_none e h = rw (slice_get-map (row_of s.width) s.lines row ∙ ap (option_map (row_of s.width)) e) h
