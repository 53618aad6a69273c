-- The row in which the cursor stands after the heading is shown twice as wide.
use Rattle.std.proofs.Common.{◌≡◌, ◌<◌, ℕ, List, map, set, get_or, length, arith, sym, ap, ◌∙◌, subst}
use Rattle.std.proofs.lemmas.List.{get_or-set_same, length-map, length-set, map-set}
use Rattle.termwiz_surface.specs.ChangeValue as change
use Rattle.termwiz_surface.specs.{DoubleWidthLine, IsSound, Kept, LineFlags, Screen, SingleWidthLine, SurfaceValue, full_of, kept_of, line_attribute, no_flags, replay, replay_kept, screen_of, step, step_kept, with_line_attribute}
use Rattle.uses.specs.Headings.{heading_changes}

-- a row with the flag of double width is shown twice as wide
set_wide : (fs : List LineFlags) (y : ℕ) (f : LineFlags) → y < length fs → get_or (map line_attribute (set fs y (with_line_attribute DoubleWidthLine f))) y SingleWidthLine ≡ DoubleWidthLine
set_wide fs y f l =
    ap (λ ls. get_or ls y SingleWidthLine) (map-set line_attribute fs y (with_line_attribute DoubleWidthLine f))
    ∙ get_or-set_same (map line_attribute fs) y DoubleWidthLine SingleWidthLine (subst (λ n. y < n) (sym (length-map fs line_attribute)) l)

module _ {W : Type 0} (measure : List ℕ → ℕ) (old new : SurfaceValue W) (heading : List ℕ) where
  pub row_is_wide : (own : List ℕ → ℕ) → IsSound own new
      → screen_of new ≡ replay measure (screen_of old) (heading_changes heading)
      → kept_of new ≡ replay_kept measure (screen_of old) (kept_of old) (heading_changes heading)
      → get_or (full_of new).lines (screen_of new).y SingleWidthLine ≡ DoubleWidthLine
  row_is_wide own sound screen kept =
      let y = (step measure (screen_of old) (change.Text heading)).y in
      let flags = (step_kept measure (screen_of old) (kept_of old) (change.Text heading)).flags in
      let row : new.y ≡ y = ap (λ (s : Screen). s.y) screen in
      let set_so : new.flags ≡ set flags y (with_line_attribute DoubleWidthLine (get_or flags y no_flags)) = ap (λ (k : Kept). k.flags) kept in
      let inside : y < length flags = omega (arith, sound.row, sound.sides, row, ap length set_so, length-set flags y (with_line_attribute DoubleWidthLine (get_or flags y no_flags))) in
      (λ i. get_or (map line_attribute (set_so i)) (row i) SingleWidthLine) ∙ set_wide flags y (get_or flags y no_flags) inside
