-- Lists of which a region is reversed, and how three such steps turn it.
use Rattle.std.proofs.Common.{◌≡◌, ℕ, ◌+◌, ◌≤◌, List, [], ◌∷◌, ◌++◌, length, take, drop, get_or, set, reverse, refl, sym, ◌∙◌, ap, ap₂, arith, append_assoc, length-append, length-take, length-drop}
use Rattle.std.specs.List.{swap}
use Rattle.std.proofs.lemmas.List.{take-append-drop, take_at, drop_at, drop-drop, drop_more, get_or_at, set_at, length_push, reverse-append, reverse-reverse, length-reverse}
use Rattle.std.proofs.lemmas.List.Edits.{swap_is}
use Rattle.termwiz_screen.specs.ScrollRegions.{region, region_reversed, region_turned}

-- a region between two other lists
at_region : {X : Type 0} (p q r : List X) (a n : ℕ) → length p ≡ a → length q ≡ n → region_reversed (p ++ (q ++ r)) a n ≡ p ++ (reverse q ++ r)
at_region {X = X} p q r a n ea en =
    let xs = p ++ (q ++ r) in
    let rest : drop a xs ≡ q ++ r = drop_at p (q ++ r) a ea in
    let inner : take n (drop a xs) ≡ q = ap (take n) rest ∙ take_at q r n en in
    let back : drop (a + n) xs ≡ r = sym (drop-drop n a xs) ∙ ap (drop n) rest ∙ drop_at q r n en in
    ap₂ (λ u (v : List X × List X). u ++ (reverse v.0 ++ v.1)) (take_at p (q ++ r) a ea) (ap₂ (λ v w. (v, w)) inner back)

-- a list with two elements in each other's place
swap_at : {X : Type 0} (p m r : List X) (x y : X) (a b n : ℕ) → length p ≡ a → length m ≡ n → b ≡ a + n + 1 → swap (p ++ x ∷ (m ++ y ∷ r)) a b ≡ p ++ y ∷ (m ++ x ∷ r)
swap_at p m r x y a b n ea en eb =
    let xs = p ++ x ∷ (m ++ y ∷ r) in
    let len : length xs ≡ length p + length (x ∷ (m ++ y ∷ r)) = length-append p (x ∷ (m ++ y ∷ r)) in
    let tail : length (m ++ y ∷ r) ≡ length m + length (y ∷ r) = length-append m (y ∷ r) in
    let to_b : length (p ++ x ∷ m) ≡ b = length-append p (x ∷ m) ∙ omega (arith, ea, en, eb) in
    let to_b_next : length (p ++ y ∷ m) ≡ b = length-append p (y ∷ m) ∙ omega (arith, ea, en, eb) in
    let at_a : get_or xs a x ≡ x = get_or_at p x (m ++ y ∷ r) x a ea in
    let at_b : get_or xs b x ≡ y = ap (λ t. get_or t b x) (sym (append_assoc p (x ∷ m) (y ∷ r))) ∙ get_or_at (p ++ x ∷ m) y r x b to_b in
    sym (swap_is xs a b x (omega (arith, len, tail, ea)) (omega (arith, len, tail, ea, en, eb)))
    ∙ ap₂ (λ u v. set (set xs a u) b v) at_b at_a
    ∙ ap (λ t. set t b x) (set_at p x (m ++ y ∷ r) y a ea ∙ sym (append_assoc p (y ∷ m) (y ∷ r)))
    ∙ set_at (p ++ y ∷ m) y r x b to_b_next ∙ append_assoc p (y ∷ m) (x ∷ r)

-- a list between two elements
reverse_between : {X : Type 0} (m : List X) (x y : X) → reverse (x ∷ (m ++ y ∷ [])) ≡ y ∷ (reverse m ++ x ∷ [])
reverse_between m x y = reverse-append (x ∷ []) (m ++ y ∷ []) ∙ ap (λ t. t ++ x ∷ []) (reverse-append m (y ∷ []))

more_at : {X : Type 0} (p m r : List X) (x y : X) (a b c n k : ℕ) → length p ≡ a → length m ≡ n → b ≡ a + n + 1 → c ≡ a + 1 → k ≡ n + 2
    → region_reversed (swap (p ++ x ∷ (m ++ y ∷ r)) a b) c n ≡ region_reversed (p ++ x ∷ (m ++ y ∷ r)) a k
more_at p m r x y a b c n k ea en eb ec ek =
    let inner = x ∷ (m ++ y ∷ []) in
    let len : length inner ≡ k = omega (arith, length-append m (y ∷ []), en, ek) in
    ap (λ t. region_reversed t c n) (swap_at p m r x y a b n ea en eb ∙ sym (append_assoc p (y ∷ []) (m ++ x ∷ r)))
    ∙ at_region (p ++ y ∷ []) m (x ∷ r) c n (length_push p y ∙ omega (arith, ea, ec)) en
    ∙ append_assoc p (y ∷ []) (reverse m ++ x ∷ r)
    ∙ ap (λ t. p ++ y ∷ t) (sym (append_assoc (reverse m) (x ∷ []) r))
    ∙ ap (λ t. p ++ (t ++ r)) (sym (reverse_between m x y))
    ∙ sym (at_region p inner r a k ea len)
    ∙ ap (λ t. region_reversed (p ++ x ∷ t) a k) (append_assoc m (y ∷ []) r)

-- the two ends of a region in each other's place, and what is between them reversed
pub reversed_more : {X : Type 0} (xs : List X) (a b c n k : ℕ) → b ≡ a + n + 1 → c ≡ a + 1 → k ≡ n + 2 → a + k ≤ length xs → region_reversed (swap xs a b) c n ≡ region_reversed xs a k
reversed_more [] a b c n k eb ec ek l = absurd (omega (arith, ek, l))
reversed_more (z ∷ zs) a b c n k eb ec ek l =
    let xs = z ∷ zs in
    let rest = drop (a + 1) xs in
    let mid = take n rest in
    let behind : drop n rest ≡ get_or xs b z ∷ drop (b + 1) xs = drop-drop n (a + 1) xs ∙ ap (λ j. drop j xs) (omega (arith, eb)) ∙ drop_more xs b z (omega (arith, eb, ek, l)) in
    let split : xs ≡ take a xs ++ get_or xs a z ∷ (mid ++ get_or xs b z ∷ drop (b + 1) xs) =
    sym (take-append-drop a xs) ∙ ap (λ t. take a xs ++ t) (drop_more xs a z (omega (arith, ek, l)) ∙ ap (λ t. get_or xs a z ∷ t) (sym (take-append-drop n rest) ∙ ap (λ t. mid ++ t) behind)) in
    let front : length (take a xs) ≡ a = length-take a xs ∙ omega (arith, ek, l) in
    let inner : length mid ≡ n = length-take n rest ∙ omega (arith, length-drop (a + 1) xs, ek, l) in
    ap (λ t. region_reversed (swap t a b) c n) split
    ∙ more_at (take a xs) mid (drop (b + 1) xs) (get_or xs a z) (get_or xs b z) a b c n k front inner eb ec ek
    ∙ ap (λ t. region_reversed t a k) (sym split)

reverse_few : {X : Type 0} (q : List X) → length q ≤ 1 → reverse q ≡ q
reverse_few [] l = refl
reverse_few (x ∷ []) l = refl
reverse_few (x ∷ y ∷ ys) l = absurd (omega (arith, l))

-- a region of at most one element
pub reversed_few : {X : Type 0} (xs : List X) (a n : ℕ) → n ≤ 1 → region_reversed xs a n ≡ xs
reversed_few xs a n l =
    ap (λ t. take a xs ++ (t ++ drop (a + n) xs)) (reverse_few (region xs a n) (omega (arith, length-take n (drop a xs), l)))
    ∙ ap (λ t. take a xs ++ (region xs a n ++ t)) (sym (drop-drop n a xs))
    ∙ ap (λ t. take a xs ++ t) (take-append-drop n (drop a xs))
    ∙ take-append-drop a xs

-- each of its two parts is reversed, and then the region
pub turned_by_three : {X : Type 0} (xs : List X) (a n k b m : ℕ) → a + n ≤ length xs → b ≡ a + k → k + m ≡ n → region_reversed (region_reversed (region_reversed xs a k) b m) a n ≡ region_turned xs a n k
turned_by_three xs a n k b m l eb em =
    let p = take a xs in
    let inner = region xs a n in
    let u = take k inner in
    let v = drop k inner in
    let r = drop (a + n) xs in
    let front : length p ≡ a = length-take a xs ∙ omega (arith, l) in
    let size : length inner ≡ n = length-take n (drop a xs) ∙ omega (arith, length-drop a xs, l) in
    let first : length u ≡ k = length-take k inner ∙ omega (arith, size, em) in
    let second : length v ≡ m = length-drop k inner ∙ omega (arith, size, em) in
    let split : xs ≡ p ++ (u ++ (v ++ r)) =
    sym (take-append-drop a xs) ∙ ap (λ t. p ++ t) (sym (take-append-drop n (drop a xs)) ∙ ap (λ t. inner ++ t) (drop-drop n a xs) ∙ ap (λ t. t ++ r) (sym (take-append-drop k inner)) ∙ append_assoc u v r) in
    let once : region_reversed xs a k ≡ (p ++ reverse u) ++ (v ++ r) =
    ap (λ t. region_reversed t a k) split ∙ at_region p u (v ++ r) a k front first ∙ sym (append_assoc p (reverse u) (v ++ r)) in
    let twice : region_reversed (region_reversed xs a k) b m ≡ p ++ ((reverse u ++ reverse v) ++ r) =
    ap (λ t. region_reversed t b m) once
    ∙ at_region (p ++ reverse u) v r b m (length-append p (reverse u) ∙ omega (arith, front, first, length-reverse u, eb)) second
    ∙ append_assoc p (reverse u) (reverse v ++ r) ∙ ap (λ t. p ++ t) (sym (append_assoc (reverse u) (reverse v) r)) in
    ap (λ t. region_reversed t a n) twice
    ∙ at_region p (reverse u ++ reverse v) r a n front (length-append (reverse u) (reverse v) ∙ omega (arith, length-reverse u, length-reverse v, first, second, em))
    ∙ ap (λ t. p ++ (t ++ r)) (reverse-append (reverse u) (reverse v) ∙ ap₂ (λ s t. s ++ t) (reverse-reverse v) (reverse-reverse u))
