-- What clearing makes of a surface.
use Rattle.std.proofs.Common.{◌≡◌, ◌+◌, ℕ, zero, suc, ◌-◌, ◌<◌, ◌≤◌, inl, inr, Bool, cond, List, [], ◌∷◌, ◌++◌, length, get_or, map, take, drop, set, refl, sym, ◌∙◌, ap, ap₂, subst, arith}
use Rattle.std.specs.Prelude.{nat_lt}
use Rattle.std.proofs.lemmas.List.{get_or-map, length-map, length-set, get_or-set_same, get_or-set_other, ext_get_or, map-set}
use Rattle.std.proofs.lemmas.Bool.{cases_eq, cases_lt, lt-ltb}
use Rattle.termwiz_cell.specs.Attributes.{Attributes}
use Rattle.termwiz_cell.specs.CellValue.{CellValue, blank_of}
use Rattle.termwiz_storage.specs.Stored.{fill, IsPruned}
use Rattle.termwiz_line.specs.Row.{row_of, clear}
use Rattle.termwiz_screen.specs.Screen.{row_at}
use Rattle.termwiz_surface.specs.Surface.{SurfaceValue, IsSound, screen_of}
use Rattle.termwiz_screen.specs.Measured.{IsStored}
use Rattle.termwiz_screen.specs.Clear.{pruned_length, cleared_row, cleared_row_length, cleared_length}
use Rattle.termwiz_screen.specs.Rows.{IsPartly, ArePartly, AreFilled}
use Rattle.termwiz_screen.proofs.RowChanges.Filling.{filled-others}
use Rattle.termwiz_screen.proofs.Stored.{IsLawful}
use Rattle.termwiz_screen.proofs.RowChanges.Clear.{IsStored-fill, length-filled, row-fill, row-pruned, length-pruned, IsStored-pruned}

-- one row
module _ (f : List ℕ → ℕ) (w x : ℕ) (a : Attributes) (cs new : List CellValue) (h : IsLawful f) (s : IsStored f w cs) (l : x ≤ w) (p : IsPruned (fill (w - x) x (blank_of a) cs) new) where
  filled_stored : IsStored f w (fill (w - x) x (blank_of a) cs)
  filled_stored = IsStored-fill f w a h (w - x) x cs s (omega arith)

  pub cleared_row_is : row_of w new ≡ clear (row_of w cs) x (blank_of a)
  cleared_row_is = row-pruned f w (fill (w - x) x (blank_of a) cs) filled_stored new p ∙ row-fill f w x a cs h s l

  pub cleared_length_is : length new ≡ pruned_length (clear (row_of w cs) x (blank_of a)) (cond (nat_lt x w) w (length cs))
  cleared_length_is = length-pruned f w (fill (w - x) x (blank_of a) cs) filled_stored new p ∙ ap₂ pruned_length (row-fill f w x a cs h s l) (length-filled w x a cs s.within)

-- rows that were filled keep the form
pub IsStored-partly : (f : List ℕ → ℕ) (w : ℕ) (a : Attributes) (cs new : List CellValue) → IsLawful f → IsStored f w cs → IsPartly w (blank_of a) cs new → IsStored f w new
IsStored-partly f w a cs new h s p =
    let filled : IsStored f w (fill p.count p.from (blank_of a) cs) = IsStored-fill f w a h p.count p.from cs s p.inside in
    elim p.left [ inl e ↦ subst (IsStored f w) (sym e) filled | inr q ↦ IsStored-pruned f w (fill p.count p.from (blank_of a) cs) filled new q ]

-- lists by position
set-ext : {X : Type 0} (d r : X) (xs zs : List X) (y : ℕ) → y < length xs → length zs ≡ length xs → ((k : ℕ) → (k ≡ y → ⊥) → get_or zs k d ≡ get_or xs k d) → get_or zs y d ≡ r → zs ≡ set xs y r
set-ext d r xs zs y l e others here = ext_get_or d zs (set xs y r) (e ∙ sym (length-set xs y r)) (λ k kl. elim (cases_eq k y) [
  | inl q ↦ ap (λ i. get_or zs i d) q ∙ here ∙ sym (ap (λ i. get_or (set xs y r) i d) q ∙ get_or-set_same xs y r d l)
  | inr n ↦ others k n ∙ sym (get_or-set_other xs y k r d n)
])

map-ext : {U X : Type 0} (d : X) (e : U) (g : U → X) (us : List U) (zs : List X) → length zs ≡ length us → ((k : ℕ) → k < length us → get_or zs k d ≡ g (get_or us k e)) → zs ≡ map g us
map-ext d e g us zs l h = ext_get_or d zs (map g us) (l ∙ sym (length-map us g)) (λ k kl. let m : k < length us = omega arith in h k m ∙ sym (get_or-map g us k e d m))

splice-ext : {U X : Type 0} (d r : X) (e : U) (g : U → X) (us : List U) (xs zs : List X) (y : ℕ) → y < length xs → length zs ≡ length xs → length us ≡ length xs
    → ((k : ℕ) → k < y → get_or zs k d ≡ get_or xs k d) → get_or zs y d ≡ r → ((k : ℕ) → y < k → k < length us → get_or zs k d ≡ g (get_or us k e))
    → zs ≡ take y xs ++ (r ∷ map g (drop (suc y) us))
splice-ext d r e g us [] zs y l lz lu above here below = absurd (omega arith)
splice-ext d r e g us (x ∷ xs) [] y l lz lu above here below = absurd (omega arith)
splice-ext d r e g [] (x ∷ xs) (z ∷ zs) y l lz lu above here below = absurd (omega arith)
splice-ext d r e g (u ∷ us) (x ∷ xs) (z ∷ zs) zero l lz lu above here below =
    ap₂ (λ p q. p ∷ q) here (map-ext d e g us zs (omega arith) (λ k kl. below (suc k) (omega arith) (omega arith)))
splice-ext d r e g (u ∷ us) (x ∷ xs) (z ∷ zs) (suc y) l lz lu above here below =
    ap₂ (λ p q. p ∷ q) (above 0 (omega arith)) (splice-ext d r e g us xs zs y (omega arith) (omega arith) (omega arith)
    (λ k kl. above (suc k) (omega arith)) here (λ k kl km. below (suc k) (omega arith) (omega arith)))

module _ {W : Type 0} (f : List ℕ → ℕ) (s : SurfaceValue W) (lawful : IsLawful f) (sound : IsSound f s) (a : Attributes) where
  w : ℕ
  w = s.width

  in_rows : s.y < length s.lines
  in_rows = let e : length s.lines ≡ s.height = sound.full in let p : s.y < s.height = sound.row in omega arith

  at_row : (j : ℕ) → j < length s.lines → IsStored f s.width (row_at s.lines j)
  at_row j l = let e : length s.lines ≡ s.height = sound.full in sound.stored_so j (omega arith)

  row_is : (j : ℕ) → j < length s.lines → row_at (map (row_of s.width) s.lines) j ≡ row_of s.width (row_at s.lines j)
  row_is j l = get_or-map (row_of s.width) s.lines j [] [] l

  length_is : (j : ℕ) → j < length s.lines → get_or (map length s.lines) j 0 ≡ length (row_at s.lines j)
  length_is j l = get_or-map length s.lines j [] 0 l

  -- other lines, another cursor and pen
  pub IsSound-with : (new : List (List CellValue)) (x y : ℕ) (pen : Attributes) → length new ≡ length s.lines → x ≤ s.width → y < s.height → ((j : ℕ) → j < length s.lines → IsStored f s.width (row_at new j))
      → IsSound f (record s { lines = new; x = x; y = y; pen = pen })
  IsSound-with new x y pen e lx ly each = record {
    some_column = sound.some_column;
    some_row = sound.some_row;
    fits = sound.fits;
    fits_height = sound.fits_height;
    full = e ∙ sound.full;
    sides = sound.sides;
    column = lx;
    row = ly;
    stored_so = λ j l. let q : length s.lines ≡ s.height = sound.full in each j (omega arith);
    number_fits = sound.number_fits;
    regions = sound.regions;
  }

  pub IsSound-partly : (new : List (List CellValue)) → ArePartly s.width (blank_of a) s.lines new → IsSound f (record s { lines = new })
  IsSound-partly new p = IsSound-with new s.x s.y s.pen p.same_count sound.column sound.row (λ j l. IsStored-partly f s.width a (row_at s.lines j) (row_at new j) lawful (at_row j l) (p.each j l))

  -- a row that is cleared from column x on
  module _ (x : ℕ) (lx : x ≤ s.width) (new : List (List CellValue)) where
    stored_new : (j : ℕ) → j < length s.lines → IsPruned (fill (s.width - x) x (blank_of a) (row_at s.lines j)) (row_at new j) → IsStored f s.width (row_at new j)
    stored_new j l p = IsStored-pruned f s.width _ (IsStored-fill f s.width a lawful (s.width - x) x (row_at s.lines j) (at_row j l) (omega arith)) (row_at new j) p

    row_new : (j : ℕ) → j < length s.lines → length new ≡ length s.lines → IsPruned (fill (s.width - x) x (blank_of a) (row_at s.lines j)) (row_at new j)
        → row_at (map (row_of s.width) new) j ≡ clear (row_at (map (row_of s.width) s.lines) j) x (blank_of a)
    row_new j l e p = get_or-map (row_of s.width) new j [] [] (omega arith) ∙ cleared_row_is f s.width x a (row_at s.lines j) (row_at new j) lawful (at_row j l) lx p
        ∙ ap (λ (r : List CellValue). clear r x (blank_of a)) (sym (row_is j l))

    length_new : (j : ℕ) → j < length s.lines → length new ≡ length s.lines → IsPruned (fill (s.width - x) x (blank_of a) (row_at s.lines j)) (row_at new j)
        → get_or (map length new) j 0 ≡ pruned_length (clear (row_at (map (row_of s.width) s.lines) j) x (blank_of a)) (cond (nat_lt x s.width) s.width (get_or (map length s.lines) j 0))
    length_new j l e p = get_or-map length new j [] 0 (omega arith) ∙ cleared_length_is f s.width x a (row_at s.lines j) (row_at new j) lawful (at_row j l) lx p
        ∙ ap₂ (λ (r : List CellValue) (n : ℕ). pruned_length (clear r x (blank_of a)) (cond (nat_lt x s.width) s.width n)) (sym (row_is j l)) (sym (length_is j l))

  -- a row that is cleared whole
  module _ (new : List (List CellValue)) where
    whole_length : (j : ℕ) → j < length s.lines → length new ≡ length s.lines → IsPruned (fill (s.width - 0) 0 (blank_of a) (row_at s.lines j)) (row_at new j)
        → get_or (map length new) j 0 ≡ cleared_length (screen_of s) a (row_at (map (row_of s.width) s.lines) j)
    whole_length j l e p = length_new 0 (omega arith) new j l e p
        ∙ ap (λ (n : ℕ). pruned_length (clear (row_at (map (row_of s.width) s.lines) j) 0 (blank_of a)) n)
        (ap (λ (b : Bool). cond b s.width (get_or (map length s.lines) j 0)) (lt-ltb 0 s.width sound.some_column))

    below_new : (x y : ℕ) → AreFilled s.width x y (length s.lines) (blank_of a) s.lines new → (j : ℕ) → y < j → j < length s.lines → IsPruned (fill (s.width - 0) 0 (blank_of a) (row_at s.lines j)) (row_at new j)
    below_new x y p j u l = let z : s.width - 0 ≡ s.width = omega arith in rw z (p.below j u l)

  -- one row
  module _ (new : List (List CellValue)) (p : AreFilled s.width s.x s.y (s.y + 1) (blank_of a) s.lines new) where
    others : (j : ℕ) → ((j ≡ s.y) → ⊥) → row_at new j ≡ row_at s.lines j
    others = filled-others s.width s.x s.y (blank_of a) s.lines new p

    pub IsSound-eol : IsSound f (record s { lines = new; pen = a })
    IsSound-eol = IsSound-with new s.x s.y a p.same_count sound.column sound.row (λ j l. elim (cases_eq j s.y) [
      | inl q ↦ subst (λ (i : ℕ). IsStored f s.width (row_at new i)) (sym q) (stored_new s.x sound.column new s.y in_rows p.here)
      | inr n ↦ subst (IsStored f s.width) (sym (others j n)) (at_row j l)
    ])

    pub rows-eol : map (row_of s.width) new ≡ set (map (row_of s.width) s.lines) s.y (cleared_row (screen_of s) a)
    rows-eol = ap (map (row_of s.width)) (set-ext [] (row_at new s.y) s.lines new s.y in_rows p.same_count others refl) ∙ map-set (row_of s.width) s.lines s.y (row_at new s.y)
        ∙ ap (set (map (row_of s.width) s.lines) s.y) (sym (get_or-map (row_of s.width) new s.y [] [] (omega (arith, p.same_count, in_rows))) ∙ row_new s.x sound.column new s.y in_rows p.same_count p.here)

    pub lengths-eol : map length new ≡ set (map length s.lines) s.y (cleared_row_length (screen_of s) a (map length s.lines))
    lengths-eol = ap (map length) (set-ext [] (row_at new s.y) s.lines new s.y in_rows p.same_count others refl) ∙ map-set length s.lines s.y (row_at new s.y)
        ∙ ap (set (map length s.lines) s.y) (sym (get_or-map length new s.y [] 0 (omega (arith, p.same_count, in_rows))) ∙ length_new s.x sound.column new s.y in_rows p.same_count p.here)

  -- a row and those below it
  module _ (new : List (List CellValue)) (p : AreFilled s.width s.x s.y (length s.lines) (blank_of a) s.lines new) where
    pub IsSound-eos : IsSound f (record s { lines = new; pen = a })
    IsSound-eos = IsSound-with new s.x s.y a p.same_count sound.column sound.row (λ j l. elim (cases_lt j s.y) [
      | inl q ↦ subst (IsStored f s.width) (sym (p.above j q)) (at_row j l)
      | inr q ↦ elim (cases_eq j s.y) [
        | inl z ↦ subst (λ (i : ℕ). IsStored f s.width (row_at new i)) (sym z) (stored_new s.x sound.column new s.y in_rows p.here)
        | inr z ↦ stored_new 0 (omega arith) new j l (below_new new s.x s.y p j (omega arith) l)
      ]
    ])

    pub rows-eos : map (row_of s.width) new ≡ take s.y (map (row_of s.width) s.lines) ++ (cleared_row (screen_of s) a ∷ map (λ r. clear r 0 (blank_of a)) (drop (suc s.y) (map (row_of s.width) s.lines)))
    rows-eos = splice-ext [] (cleared_row (screen_of s) a) [] (λ (r : List CellValue). clear r 0 (blank_of a)) (map (row_of s.width) s.lines) (map (row_of s.width) s.lines) (map (row_of s.width) new) s.y
        (rw length-map in_rows) (simp length-map p.same_count) refl
        (λ k l. get_or-map (row_of s.width) new k [] [] (omega (arith, p.same_count, in_rows)) ∙ ap (row_of s.width) (p.above k l) ∙ sym (row_is k (omega (arith, in_rows))))
        (row_new s.x sound.column new s.y in_rows p.same_count p.here)
        (λ k u l. let m : k < length s.lines = rw length-map at l in row_new 0 (omega arith) new k m p.same_count (below_new new s.x s.y p k u m))

    pub lengths-eos : map length new ≡ take s.y (map length s.lines) ++ (cleared_row_length (screen_of s) a (map length s.lines) ∷ map (cleared_length (screen_of s) a) (drop (suc s.y) (map (row_of s.width) s.lines)))
    lengths-eos = splice-ext 0 (cleared_row_length (screen_of s) a (map length s.lines)) [] (cleared_length (screen_of s) a) (map (row_of s.width) s.lines) (map length s.lines) (map length new) s.y
        (rw length-map in_rows) (simp length-map p.same_count) (simp length-map)
        (λ k l. get_or-map length new k [] 0 (omega (arith, p.same_count, in_rows)) ∙ ap length (p.above k l) ∙ sym (length_is k (omega (arith, in_rows))))
        (length_new s.x sound.column new s.y in_rows p.same_count p.here)
        (λ k u l. let m : k < length s.lines = rw length-map at l in whole_length new k m p.same_count (below_new new s.x s.y p k u m))

  -- all rows
  module _ (new : List (List CellValue)) (p : AreFilled s.width 0 0 (length s.lines) (blank_of a) s.lines new) where
    each_new : (j : ℕ) → j < length s.lines → IsPruned (fill (s.width - 0) 0 (blank_of a) (row_at s.lines j)) (row_at new j)
    each_new zero l = p.here
    each_new (suc j) l = below_new new 0 0 p (suc j) (omega arith) l

    pub IsSound-screen : IsSound f (record s { lines = new; x = 0; y = 0; pen = a })
    IsSound-screen = IsSound-with new 0 0 a p.same_count (omega arith) sound.some_row (λ j l. stored_new 0 (omega arith) new j l (each_new j l))

    pub rows-screen : map (row_of s.width) new ≡ map (λ r. clear r 0 (blank_of a)) (map (row_of s.width) s.lines)
    rows-screen = map-ext [] [] (λ (r : List CellValue). clear r 0 (blank_of a)) (map (row_of s.width) s.lines) (map (row_of s.width) new) (simp length-map p.same_count)
        (λ k l. let m : k < length s.lines = rw length-map at l in row_new 0 (omega arith) new k m p.same_count (each_new k m))

    pub lengths-screen : map length new ≡ map (cleared_length (screen_of s) a) (map (row_of s.width) s.lines)
    lengths-screen = map-ext 0 [] (cleared_length (screen_of s) a) (map (row_of s.width) s.lines) (map length new) (simp length-map p.same_count)
        (λ k l. let m : k < length s.lines = rw length-map at l in whole_length new k m p.same_count (each_new k m))
