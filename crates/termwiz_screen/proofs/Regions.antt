-- Lists of which a region is scrolled.
use Rattle.std.proofs.Common.{◌≡◌, ℕ, zero, suc, ◌+◌, ◌-◌, ◌<◌, ◌≤◌, min, List, [], ◌∷◌, ◌++◌, length, take, drop, get_or, set, map, replicate, refl, sym, ◌∙◌, ap, ap₂, arith, append_assoc, length-append, length-take, length-drop, drop-cons}
use Rattle.std.specs.List.{All}
use Rattle.std.proofs.lemmas.List.Elements.{All-append, All-take, All-drop, All-replicate}
use Rattle.std.proofs.lemmas.List.{take-append-drop, take_at, drop_at, drop-append-le, drop-drop, length-replicate, replicate_more, map-append, drop-map, take-map, take-take}
use Rattle.std.proofs.Math.Seq.{set-append_seam, take-add}
use Rattle.termwiz_screen.specs.ScrollRegions.{region, with_region, region_turned, region_up, region_down}

-- one more default element
pub blank_step : {X : Type 0} (d : X) (xs ys : List X) (a i n m : ℕ) → a + n ≡ i → m ≡ n + 1 → i < length xs
    → ys ≡ take a xs ++ (replicate n d ++ drop i xs) → set ys i d ≡ take a xs ++ (replicate m d ++ drop (i + 1) xs)
blank_step d xs ys a i n m e em l h =
    let s : suc i ≡ i + 1 = omega arith in
    let front : List _ = take a xs ++ replicate n d in
    let len : length front ≡ i = length-append (take a xs) (replicate n d) ∙ omega (arith, length-take a xs, length-replicate n d) in
    let split : ys ≡ front ++ get_or xs i d ∷ drop (i + 1) xs =
    h ∙ sym (append_assoc (take a xs) (replicate n d) (drop i xs)) ∙ ap (λ t. front ++ t) (drop-cons xs i d l ∙ ap (λ k. get_or xs i d ∷ drop k xs) s) in
    ap (λ t. set t i d) split ∙ ap (λ k. set (front ++ get_or xs i d ∷ drop (i + 1) xs) k d) (sym len) ∙ set-append_seam front (get_or xs i d) (drop (i + 1) xs) d
    ∙ append_assoc (take a xs) (replicate n d) (d ∷ drop (i + 1) xs)
    ∙ ap (λ t. take a xs ++ t) (sym (append_assoc (replicate n d) (d ∷ []) (drop (i + 1) xs)) ∙ ap (λ t. t ++ drop (i + 1) xs) (replicate_more n d ∙ ap (λ k. replicate k d) (sym em)))

module _ {X : Type 0} (d : X) (xs : List X) (a n : ℕ) (inside : a + n ≤ length xs) where
  abbrev q : List X
  q = region xs a n

  length-q : length q ≡ n
  length-q = length-take n (drop a xs) ∙ omega (arith, length-drop a xs)

  length-front : length (take a xs) ≡ a
  length-front = length-take a xs ∙ omega arith

  tail : (m : ℕ) → m ≤ n → drop (a + m) xs ≡ drop m q ++ drop (a + n) xs
  tail m l =
      sym (drop-drop m a xs) ∙ ap (drop m) (sym (take-append-drop n (drop a xs)) ∙ ap (λ t. q ++ t) (drop-drop n a xs)) ∙ drop-append-le m q (drop (a + n) xs) (omega (arith, length-q))

  -- a list whose region is s is turned
  turned : (s mid : List X) (k : ℕ) → length s ≡ n → mid ≡ with_region xs a n s → region_turned mid a n k ≡ with_region xs a n (drop k s ++ take k s)
  turned s mid k ls is =
      let rest_is : drop a mid ≡ s ++ drop (a + n) xs = ap (drop a) is ∙ drop_at (take a xs) (s ++ drop (a + n) xs) a length-front in
      let front_is : take a mid ≡ take a xs = ap (take a) is ∙ take_at (take a xs) (s ++ drop (a + n) xs) a length-front in
      let region_is : region mid a n ≡ s = ap (take n) rest_is ∙ take_at s (drop (a + n) xs) n ls in
      let back_is : drop (a + n) mid ≡ drop (a + n) xs = sym (drop-drop n a mid) ∙ ap (drop n) rest_is ∙ drop_at s (drop (a + n) xs) n ls in
      ap₂ (λ u (v : List X × List X). u ++ ((drop k v.0 ++ take k v.0) ++ v.1)) front_is (ap₂ (λ v w. (v, w)) region_is back_is)

  -- the first ones of the region are default ones
  first_blank : (m : ℕ) → m ≤ n → take a xs ++ (replicate m d ++ drop (a + m) xs) ≡ with_region xs a n (replicate m d ++ drop m q)
  first_blank m l = ap (λ t. take a xs ++ t) (ap (λ t. replicate m d ++ t) (tail m l) ∙ sym (append_assoc (replicate m d) (drop m q) (drop (a + n) xs)))

  -- the last ones of the region are default ones
  last_blank : (m b : ℕ) → b + m ≡ a + n → a ≤ b → take b xs ++ (replicate m d ++ drop (b + m) xs) ≡ with_region xs a n (take (n - m) q ++ replicate m d)
  last_blank m b e l =
      let at : b ≡ a + (n - m) = omega arith in
      let f : take b xs ≡ take a xs ++ take (n - m) q = ap (λ j. take j xs) at ∙ take-add a (n - m) xs ∙ ap (λ t. take a xs ++ t) (sym (take-take (n - m) n (drop a xs) (omega arith))) in
      ap₂ (λ u v. u ++ (replicate m d ++ drop v xs)) f e ∙ append_assoc (take a xs) (take (n - m) q) (replicate m d ++ drop (a + n) xs)
      ∙ ap (λ t. take a xs ++ t) (sym (append_assoc (take (n - m) q) (replicate m d) (drop (a + n) xs)))

  pub scrolled_up : (k m : ℕ) (mid : List X) → m ≡ min k n → mid ≡ take a xs ++ (replicate m d ++ drop (a + m) xs) → region_turned mid a n m ≡ region_up d xs a n k
  scrolled_up k m mid em is =
      let ls : length (replicate m d ++ drop m q) ≡ n = length-append (replicate m d) (drop m q) ∙ omega (arith, length-replicate m d, length-drop m q, length-q) in
      turned (replicate m d ++ drop m q) mid m ls (is ∙ first_blank m (omega arith))
      ∙ ap₂ (λ u v. with_region xs a n (u ++ v)) (drop_at (replicate m d) (drop m q) m (length-replicate m d)) (take_at (replicate m d) (drop m q) m (length-replicate m d))
      ∙ ap (λ j. with_region xs a n (drop j q ++ replicate j d)) em

  pub scrolled_down : (k m b t : ℕ) (mid : List X) → m ≡ min k n → t ≡ n - m → b ≡ a + (n - m) → mid ≡ take b xs ++ (replicate m d ++ drop (b + m) xs) → region_turned mid a n t ≡ region_down d xs a n k
  scrolled_down k m b t mid em et eb is =
      let lf : length (take (n - m) q) ≡ t = length-take (n - m) q ∙ omega (arith, length-q) in
      let ls : length (take (n - m) q ++ replicate m d) ≡ n = length-append (take (n - m) q) (replicate m d) ∙ omega (arith, length-replicate m d, lf) in
      turned (take (n - m) q ++ replicate m d) mid t ls (is ∙ last_blank m b (omega arith) (omega arith))
      ∙ ap₂ (λ u v. with_region xs a n (u ++ v)) (drop_at (take (n - m) q) (replicate m d) t lf) (take_at (take (n - m) q) (replicate m d) t lf)
      ∙ ap (λ j. with_region xs a n (replicate j d ++ take (n - j) q)) em

pub map-replicate : {X Y : Type 0} (f : X → Y) (n : ℕ) (x : X) → map f (replicate n x) ≡ replicate n (f x)
map-replicate f zero x = refl
map-replicate f (suc n) x = ap (λ t. f x ∷ t) (map-replicate f n x)

-- what a map makes of a scrolled region
module _ {X Y : Type 0} (f : X → Y) (d : X) (xs : List X) (a n k : ℕ) where
  pub map-region_up : map f (region_up d xs a n k) ≡ region_up (f d) (map f xs) a n k
  map-region_up = simp (map-append, map-replicate, drop-map, take-map)

  pub map-region_down : map f (region_down d xs a n k) ≡ region_down (f d) (map f xs) a n k
  map-region_down = simp (map-append, map-replicate, drop-map, take-map)

-- what holds of all elements and of a default one holds of all after a scroll
module _ {X : Type 0} (P : X → Type 0) (d : X) (xs : List X) (a n k : ℕ) (p : P d) (h : All P xs) where
  within : All P (region xs a n)
  within = All-take P n (drop a xs) (All-drop P a xs h)

  pub All-region_up : All P (region_up d xs a n k)
  All-region_up = All-append P (take a xs) _ (All-take P a xs h) (All-append P _ (drop (a + n) xs) (All-append P _ _ (All-drop P (min k n) _ within) (All-replicate P (min k n) d p)) (All-drop P (a + n) xs h))

  pub All-region_down : All P (region_down d xs a n k)
  All-region_down = All-append P (take a xs) _ (All-take P a xs h) (All-append P _ (drop (a + n) xs) (All-append P _ _ (All-replicate P (min k n) d p) (All-take P (n - min k n) _ within)) (All-drop P (a + n) xs h))

module _ {X : Type 0} (d : X) (xs : List X) (a n k : ℕ) (inside : a + n ≤ length xs) where
  pub length-region_up : length (region_up d xs a n k) ≡ length xs
  length-region_up = simp (length-append, length-take, length-drop, length-replicate) (omega arith)

  pub length-region_down : length (region_down d xs a n k) ≡ length xs
  length-region_down = simp (length-append, length-take, length-drop, length-replicate) (omega arith)
