-- The last row once it is cleared.
use Rattle.std.proofs.Common.{◌≡◌, ℕ, ◌-◌, ◌<◌, ◌≤◌, min, set, List, [], length, inl, refl, sym, ap, subst, ◌∙◌, arith, le-leb}
use Rattle.std.proofs.lemmas.List.{get_or-map, get_or-set_same, length-map}
use Rattle.termwiz_surface.specs.{CellsHaveRow, ClearClears, ColorAttribute, IsRow, IsSound, Screen, SurfaceValue, blank_of, clear, replay, row_at, row_of, screen_of, stored, with_background}
use Rattle.uses.specs.LastRow.{last_row_cleared}

-- the last row is cleared from its first column on
rows_cleared : (f : List ℕ → ℕ) (s : Screen) (b : ColorAttribute)
    → (replay f s (last_row_cleared b)).rows ≡ set s.rows (s.height - 1) (clear (row_at s.rows (s.height - 1)) 0 (blank_of (with_background b)))
rows_cleared f s b =
    let low : 0 ≤ s.width = omega arith in
    let last : min (s.height - 1) (s.height - 1) ≡ s.height - 1 = omega arith in
    rw (le-leb 0 s.width low, last) refl

module _ {W : Type 0} (f : List ℕ → ℕ) (old : SurfaceValue W) (sound : IsSound f old) (rows : CellsHaveRow) (clears : ClearClears) where
  last_is_row : IsRow old.width (row_at (screen_of old).rows (old.height - 1))
  last_is_row =
      let inside : old.height - 1 < length old.lines = omega (arith, sound.full, sound.some_row) in
      subst (IsRow old.width) (sym (get_or-map (row_of old.width) old.lines (old.height - 1) [] [] inside)) (rows old.width (row_at old.lines (old.height - 1))).0

  -- each of its columns is a blank with that background
  pub last_row_is_blank : (new : Screen) (b : ColorAttribute) → new ≡ replay f (screen_of old) (last_row_cleared b)
      → (k : ℕ) → k < old.width → stored (row_at new.rows (old.height - 1)) k ≡ blank_of (with_background b)
  last_row_is_blank new b e k l =
      let h = old.height - 1 in
      let row = row_at (screen_of old).rows h in
      let blank = blank_of (with_background b) in
      let inside : h < length (screen_of old).rows = simp length-map (omega (arith, sound.full, sound.some_row)) in
      let is : row_at new.rows h ≡ clear row 0 blank = ap (λ (t : Screen). row_at t.rows h) e ∙ ap (λ rs. row_at rs h) (rows_cleared f (screen_of old) b) ∙ get_or-set_same (screen_of old).rows h (clear row 0 blank) [] inside in
      ap (λ cells. stored cells k) is ∙ (((clears old.width row 0 (with_background b) last_is_row sound.some_column).1 k blank).1 (inl (omega arith, l, refl))).same
