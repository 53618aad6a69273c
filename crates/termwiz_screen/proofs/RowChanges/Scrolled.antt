-- Rows of which a region is scrolled.
use Rattle.std.proofs.Common.{◌≡◌, ℕ, ◌+◌, ◌-◌, ◌<◌, ◌≤◌, inl, inr, true, List, [], ◌∷◌, ◌++◌, length, take, drop, get_or, set, map, replicate, refl, sym, ◌∙◌, ap, subst, arith}
use Rattle.std.specs.List.{All}
use Rattle.std.proofs.lemmas.Bool.{cases_lt}
use Rattle.std.proofs.lemmas.List.{get_or_append_left, get_or-append_right, get_or-take, get_or-drop, get_or-replicate, length-append, length-take, length-drop, length-replicate, length-map, map-append, drop-map, get_or-map}
use Rattle.std.proofs.lemmas.List.Elements.{All-append, All-drop, All-replicate, All-set, All-get_or, All-from_get_or}
use Rattle.termwiz_cell.specs.CellValue.{CellValue, blank}
use Rattle.termwiz_line.specs.LineFlags.{no_flags}
use Rattle.termwiz_line.specs.LineValue.{LineValue}
use Rattle.termwiz_line.specs.Row.{row_of}
use Rattle.termwiz_line.proofs.StoredRows.{row_blank}
use Rattle.termwiz_screen.specs.Print.{scrolled}
use Rattle.termwiz_screen.specs.ScrollRegions.{region_up, region_down}
use Rattle.termwiz_screen.specs.Rows.{ArePartlyReset}
use Rattle.termwiz_screen.specs.Screen.{row_at}
use Rattle.termwiz_screen.specs.ScreenValue.{blank_line, cells_of}
use Rattle.termwiz_screen.specs.Sides.{row_flags, AreVectors}
use Rattle.termwiz_screen.specs.Measured.{IsStored}
use Rattle.termwiz_screen.proofs.Regions.{map-region_up, map-region_down, All-region_up, All-region_down, length-region_up, length-region_down}
use Rattle.termwiz_screen.proofs.Stored.{IsLawful, IsStored-blank}

-- some elements in turn are default ones
module _ {X : Type 0} (d : X) (xs ys : List X) (a n i : ℕ) (e : a + n ≡ i) (l : i ≤ length xs) (is : ys ≡ take a xs ++ (replicate n d ++ drop i xs)) where
  length-front : length (take a xs) ≡ a
  length-front = length-take a xs ∙ omega arith

  length-some : length (replicate n d) ≡ n
  length-some = length-replicate n d

  pub partly_reset : ArePartlyReset d xs ys
  partly_reset = record {
    same_count = ap length is ∙ length-append (take a xs) _ ∙ omega (arith, length-append (replicate n d) (drop i xs), length-front, length-some, length-drop i xs);
    each = λ j z jl. elim (cases_lt j a) [
      | inl m ↦ inl (ap (λ (zs : List X). get_or zs j z) is ∙ get_or_append_left (take a xs) _ z j (omega (arith, length-front)) ∙ get_or-take a xs j z m)
      | inr g ↦
          let behind : get_or ys j z ≡ get_or (replicate n d ++ drop i xs) (j - a) z = ap (λ (zs : List X). get_or zs j z) is ∙ get_or-append_right (take a xs) _ a j z length-front g in
          elim (cases_lt j i) [
            | inl m ↦ inr (behind ∙ get_or_append_left (replicate n d) (drop i xs) z (j - a) (omega (arith, length-some)) ∙ get_or-replicate n (j - a) d z (omega arith))
            | inr m ↦
                let at : i + ((j - a) - n) ≡ j = omega arith in
                inl (behind ∙ get_or-append_right (replicate n d) (drop i xs) n (j - a) z length-some (omega arith) ∙ get_or-drop i xs ((j - a) - n) z ∙ ap (λ k. get_or xs k z) at)
          ]
    ];
  }

-- what a map makes of a list of which some elements are this one
pub partly-map : {X Y : Type 0} (f : X → Y) (d : X) (xs ys : List X) → ArePartlyReset d xs ys → ArePartlyReset (f d) (map f xs) (map f ys)
partly-map f d xs ys p = record {
  same_count = length-map ys f ∙ p.same_count ∙ sym (length-map xs f);
  each = λ j z l.
      let old : j < length xs = omega (arith, length-map xs f) in
      let new : j < length ys = omega (arith, old, p.same_count) in
      elim (p.each j d old) [
        | inl e ↦ inl (get_or-map f ys j d z new ∙ ap f e ∙ sym (get_or-map f xs j d z old))
        | inr e ↦ inr (get_or-map f ys j d z new ∙ ap f e)
      ];
}

pub vectors-set : (ls : List LineValue) (i : ℕ) (m : LineValue) → m.is_vector ≡ true → AreVectors ls → AreVectors (set ls i m)
vectors-set ls i m e v = record { each = All-set (λ (x : LineValue). x.is_vector ≡ true) ls i m e v.each }

pub vectors-partly : (w : ℕ) (xs ys : List LineValue) → ArePartlyReset (blank_line w) xs ys → AreVectors xs → AreVectors ys
vectors-partly w xs ys p v = record {
  each = All-from_get_or (λ (x : LineValue). x.is_vector ≡ true) ys (blank_line w) (λ j l.
      let old : j < length xs = omega (arith, p.same_count) in
      elim (p.each j (blank_line w) old) [
        | inl e ↦ subst (λ (x : LineValue). x.is_vector ≡ true) (sym e) (All-get_or (λ (x : LineValue). x.is_vector ≡ true) xs j (blank_line w) old v.each)
        | inr e ↦ subst (λ (x : LineValue). x.is_vector ≡ true) (sym e) refl
      ]);
}

-- lines of which the first one was scrolled off
module _ (w : ℕ) (xs ys : List LineValue) (is : ys ≡ drop 1 xs ++ blank_line w ∷ []) where
  pub cells-scrolled : cells_of ys ≡ scrolled w (cells_of xs)
  cells-scrolled = ap cells_of is ∙ simp (map-append, drop-map)

  pub flags-scrolled : row_flags ys ≡ drop 1 (row_flags xs) ++ no_flags ∷ []
  flags-scrolled = ap row_flags is ∙ simp (map-append, drop-map)

  pub vectors-scrolled : AreVectors xs → AreVectors ys
  vectors-scrolled v = rw is (record {
    each = All-append (λ (x : LineValue). x.is_vector ≡ true) (drop 1 xs) (blank_line w ∷ []) (All-drop (λ (x : LineValue). x.is_vector ≡ true) 1 xs v.each) (All-replicate (λ (x : LineValue). x.is_vector ≡ true) 1 (blank_line w) refl);
  })

-- lines of which a region was scrolled
module _ (w : ℕ) (xs ys : List LineValue) (a n k : ℕ) where
  pub cells-up : ys ≡ region_up (blank_line w) xs a n k → cells_of ys ≡ region_up (replicate w blank) (cells_of xs) a n k
  cells-up e = ap cells_of e ∙ map-region_up (λ (l : LineValue). l.cells) (blank_line w) xs a n k

  pub flags-up : ys ≡ region_up (blank_line w) xs a n k → row_flags ys ≡ region_up no_flags (row_flags xs) a n k
  flags-up e = ap row_flags e ∙ map-region_up (λ (l : LineValue). l.flags) (blank_line w) xs a n k

  pub cells-down : ys ≡ region_down (blank_line w) xs a n k → cells_of ys ≡ region_down (replicate w blank) (cells_of xs) a n k
  cells-down e = ap cells_of e ∙ map-region_down (λ (l : LineValue). l.cells) (blank_line w) xs a n k

  pub flags-down : ys ≡ region_down (blank_line w) xs a n k → row_flags ys ≡ region_down no_flags (row_flags xs) a n k
  flags-down e = ap row_flags e ∙ map-region_down (λ (l : LineValue). l.flags) (blank_line w) xs a n k

  pub vectors-up : ys ≡ region_up (blank_line w) xs a n k → AreVectors xs → AreVectors ys
  vectors-up e v = rw e (record { each = All-region_up (λ (l : LineValue). l.is_vector ≡ true) (blank_line w) xs a n k refl v.each })

  pub vectors-down : ys ≡ region_down (blank_line w) xs a n k → AreVectors xs → AreVectors ys
  vectors-down e v = rw e (record { each = All-region_down (λ (l : LineValue). l.is_vector ≡ true) (blank_line w) xs a n k refl v.each })

-- rows that have their form keep it
module _ (f : List ℕ → ℕ) (w h : ℕ) (rows : List (List CellValue)) (lawful : IsLawful f) (some : 0 < w) (full : length rows ≡ h) (stored_so : (j : ℕ) → j < h → IsStored f w (row_at rows j)) where
  all_stored : All (IsStored f w) rows
  all_stored = All-from_get_or (IsStored f w) rows [] (λ j l. stored_so j (omega arith))

  pub stored-up : (a n k : ℕ) → a + n ≤ h → (j : ℕ) → j < h → IsStored f w (row_at (region_up (replicate w blank) rows a n k) j)
  stored-up a n k inside j l =
      let long = length-region_up (replicate w blank) rows a n k (omega arith) in
      All-get_or (IsStored f w) _ j [] (omega (arith, long)) (All-region_up (IsStored f w) (replicate w blank) rows a n k (IsStored-blank f w lawful some) all_stored)

  pub stored-down : (a n k : ℕ) → a + n ≤ h → (j : ℕ) → j < h → IsStored f w (row_at (region_down (replicate w blank) rows a n k) j)
  stored-down a n k inside j l =
      let long = length-region_down (replicate w blank) rows a n k (omega arith) in
      All-get_or (IsStored f w) _ j [] (omega (arith, long)) (All-region_down (IsStored f w) (replicate w blank) rows a n k (IsStored-blank f w lawful some) all_stored)

  pub stored-partly_reset : (new : List (List CellValue)) → ArePartlyReset (replicate w blank) rows new → (j : ℕ) → j < h → IsStored f w (row_at new j)
  stored-partly_reset new p j l = elim (p.each j [] (omega arith)) [
    | inl e ↦ subst (IsStored f w) (sym e) (stored_so j l)
    | inr e ↦ subst (IsStored f w) (sym e) (IsStored-blank f w lawful some)
  ]

-- the rows that they show, and their lengths
module _ (w : ℕ) (rows : List (List CellValue)) (a n k : ℕ) where
  pub rows-up : map (row_of w) (region_up (replicate w blank) rows a n k) ≡ region_up (replicate w blank) (map (row_of w) rows) a n k
  rows-up = map-region_up (row_of w) (replicate w blank) rows a n k ∙ ap (λ r. region_up r (map (row_of w) rows) a n k) (row_blank w)

  pub rows-down : map (row_of w) (region_down (replicate w blank) rows a n k) ≡ region_down (replicate w blank) (map (row_of w) rows) a n k
  rows-down = map-region_down (row_of w) (replicate w blank) rows a n k ∙ ap (λ r. region_down r (map (row_of w) rows) a n k) (row_blank w)

  pub lengths-up : map length (region_up (replicate w blank) rows a n k) ≡ region_up w (map length rows) a n k
  lengths-up = map-region_up length (replicate w blank) rows a n k ∙ ap (λ r. region_up r (map length rows) a n k) (length-replicate w blank)

  pub lengths-down : map length (region_down (replicate w blank) rows a n k) ≡ region_down w (map length rows) a n k
  lengths-down = map-region_down length (replicate w blank) rows a n k ∙ ap (λ r. region_down r (map length rows) a n k) (length-replicate w blank)
