-- Pairs and their texts: a part that has a `=` is one pair, a part without is none, and a plain param is read back.
use Rattle.std.proofs.Common.{◌≡◌, ℕ, suc, ◌+◌, ◌<◌, ◌==◌, Bool, true, false, not, cond, ◌||◌, ◌&&◌, List, [], ◌∷◌, ◌++◌, map, length, get_or, take, drop, refl, ap, sym, subst, ◌∙◌, arith, add-one, eq-eqb, eqb-true, true≢false, length-take, length-append}
use Rattle.std.proofs.lemmas.Bool.{false_from_ne_true}
use Rattle.std.proofs.lemmas.Grind.{common_steps}
use Rattle.std.proofs.lemmas.List.{get_or-take, get_or_append_left, get_or_default}
use Rattle.std.proofs.lemmas.List.Elements.{All-append, All-cons, All-head, All-tail}
use Rattle.std.proofs.lemmas.List.Folds.{list_any-append}
use Rattle.std.proofs.lemmas.List.Splits.{slice_split_at, slice_split_none}
use Rattle.std.proofs.lemmas.List.Sums.{fails_before_first, passes_at_first, split_at_first, position_or_len_is}
use Rattle.std.proofs.Math.Seq.{get_or-append_seam}
use Rattle.std.specs.List.{All, AllZip, Contains, after_first, before_first, list_all, list_any, position_or_len, slice_split}
use Rattle.termwiz_cell.proofs.ParamLists.{params_parts-some}
use Rattle.termwiz_cell.specs.LinkPairs.{are_pairs, has_equals, pair_of}
use Rattle.termwiz_cell.specs.LinkText.{IsPair, IsPlainParam, SpellsPairs, pair_text, params_parts, params_text}

-- a byte that a list lacks is at no place of it
fails-from_lacks : (xs : List ℕ) (c : ℕ) → ¬ Contains xs c → All (λ b. (b == c) ≡ false) xs
fails-from_lacks xs c lacks = λ k d h. false_from_ne_true (get_or xs k d == c) (λ e. lacks (k, h, get_or_default xs k c d h ∙ eqb-true (get_or xs k d) c e))

-- where an element passes, the first that does is in the list
first_at : (b : Bool) (n m : ℕ) (rest : Bool) → (b || rest) ≡ true → (rest ≡ true → n < m) → cond (not b) (1 + n) 0 < suc m
first_at true n m rest has below = omega arith
first_at false n m rest has below = let l : n < m = below has in omega arith

first-lt-length : (p : ℕ → Bool) (xs : List ℕ) → list_any p xs ≡ true → position_or_len p xs < length xs
first-lt-length p [] has = cc
first-lt-length p (x ∷ xs) has = first_at (p x) (position_or_len p xs) (length xs) (list_any p xs) has (first-lt-length p xs)

-- what stands before the first byte c lacks it
lacks-before_first : (c : ℕ) (xs : List ℕ) → ¬ Contains (before_first (λ b. b == c) xs) c
lacks-before_first c xs = λ h.
    let n : ℕ = position_or_len (λ b. b == c) xs in
    let below : h.0 < n = omega (arith, h.1, length-take n xs) in
    true≢false (sym (eq-eqb (get_or xs h.0 c) c (sym (get_or-take n xs h.0 c below) ∙ h.2)) ∙ fails_before_first (λ b. b == c) xs h.0 c below)

-- a part with a `=` is cut at its first
pub pair-from_equals : (part : List ℕ) → has_equals part ≡ true → IsPair part (pair_of part)
pair-from_equals part has =
    let inside = first-lt-length (λ b. b == 61) part has in
    record {
      joined = split_at_first (λ b. b == 61) part 0 inside ∙ ap (λ b. before_first (λ b. b == 61) part ++ b ∷ after_first (λ b. b == 61) part) (eqb-true _ 61 (passes_at_first (λ b. b == 61) part 0 inside));
      first = lacks-before_first 61 part;
    }

-- a pair's text has a `=`
or-true : (b : Bool) → (b || true) ≡ true
or-true true = refl
or-true false = refl

pub equals-from_pair : (part : List ℕ) (pair : List ℕ × List ℕ) → IsPair part pair → has_equals part ≡ true
equals-from_pair part pair is = ap has_equals is.joined ∙ list_any-append (λ b. b == 61) pair.0 (61 ∷ pair.1) ∙ or-true (has_equals pair.0)

-- cutting a pair's text gives the pair
first-in_text : (pair : List ℕ × List ℕ) → ¬ Contains pair.0 61 → position_or_len (λ b. b == 61) (pair_text pair) ≡ length pair.0
first-in_text pair lacks =
    position_or_len_is (λ b. b == 61) (pair_text pair) (length pair.0) 0 (omega (arith, length-append pair.0 (61 ∷ pair.1)))
    (λ k h. ap (λ b. b == 61) (get_or_append_left pair.0 (61 ∷ pair.1) 0 k h) ∙ fails-from_lacks pair.0 61 lacks k 0 h)
    (λ _. ap (λ b. b == 61) (get_or-append_seam pair.0 61 pair.1 0))

take-seam : (xs : List ℕ) (y : ℕ) (ys : List ℕ) → take (length xs) (xs ++ y ∷ ys) ≡ xs
take-seam xs y ys = grind (arith, common_steps)

drop-past : (xs : List ℕ) (y : ℕ) (ys : List ℕ) → drop (suc (length xs)) (xs ++ y ∷ ys) ≡ ys
drop-past [] y ys = refl
drop-past (x ∷ xs) y ys = drop-past xs y ys

pub pair_of-text : (pair : List ℕ × List ℕ) → ¬ Contains pair.0 61 → pair_of (pair_text pair) ≡ pair
pair_of-text pair lacks =
    ap (λ n. (take n (pair_text pair), drop (n + 1) (pair_text pair))) (first-in_text pair lacks)
    ∙ (λ i. (take-seam pair.0 61 pair.1 i, (ap (λ n. drop n (pair_text pair)) (add-one (length pair.0)) ∙ drop-past pair.0 61 pair.1) i))

-- the parts of a text, each a pair
both-true : (a b : Bool) → (a && b) ≡ true → (a ≡ true) × (b ≡ true)
both-true true b both = (refl, both)
both-true false b both = cc

all-cut : (parts : List (List ℕ)) → list_all has_equals parts ≡ true → AllZip IsPair parts (map pair_of parts)
all-cut [] all = tt
all-cut (part ∷ parts) all =
    let both = both-true (has_equals part) (list_all has_equals parts) all in
    (pair-from_equals part both.0, all-cut parts both.1)

pub pairs-from_test : (text : List ℕ) → are_pairs text ≡ true → SpellsPairs text (map pair_of (params_parts text))
pairs-from_test text all = all-cut (params_parts text) all

test-from_zip : (parts : List (List ℕ)) (pairs : List (List ℕ × List ℕ)) → AllZip IsPair parts pairs → list_all has_equals parts ≡ true
test-from_zip [] pairs all = refl
test-from_zip (part ∷ parts) [] all = absurd all
test-from_zip (part ∷ parts) (pair ∷ pairs) all = ap (λ b. b && list_all has_equals parts) (equals-from_pair part pair all.0) ∙ test-from_zip parts pairs all.1

pub test-from_pairs : (text : List ℕ) (pairs : List (List ℕ × List ℕ)) → SpellsPairs text pairs → are_pairs text ≡ true
test-from_pairs text pairs spelled = test-from_zip (params_parts text) pairs spelled

-- a text spells only one list of pairs
cut-from_zip : (parts : List (List ℕ)) (pairs : List (List ℕ × List ℕ)) → AllZip IsPair parts pairs → pairs ≡ map pair_of parts
cut-from_zip [] [] all = refl
cut-from_zip [] (pair ∷ pairs) all = absurd all
cut-from_zip (part ∷ parts) [] all = absurd all
cut-from_zip (part ∷ parts) (pair ∷ pairs) all =
    λ i. (sym (pair_of-text pair all.0.first) ∙ ap pair_of (sym all.0.joined)) i ∷ cut-from_zip parts pairs all.1 i

pub pairs-only : (text : List ℕ) (pairs : List (List ℕ × List ℕ)) → SpellsPairs text pairs → pairs ≡ map pair_of (params_parts text)
pairs-only text pairs spelled = cut-from_zip (params_parts text) pairs spelled

-- the parts of a printed text are the texts of its pairs
no-colon : (pair : List ℕ × List ℕ) → IsPlainParam pair → All (λ b. (b == 58) ≡ false) (pair_text pair)
no-colon pair plain =
    All-append (λ b. (b == 58) ≡ false) pair.0 (61 ∷ pair.1) (fails-from_lacks pair.0 58 plain.key_no_colon)
    (All-cons (λ b. (b == 58) ≡ false) 61 pair.1 refl (fails-from_lacks pair.1 58 plain.value_no_colon))

split-text : (pair : List ℕ × List ℕ) (pairs : List (List ℕ × List ℕ)) → All IsPlainParam (pair ∷ pairs) → slice_split (λ b. b == 58) (params_text (pair ∷ pairs)) ≡ map pair_text (pair ∷ pairs)
split-text pair [] plain = slice_split_none (λ b. b == 58) (pair_text pair) (no-colon pair (All-head IsPlainParam pair [] plain))
split-text pair (next ∷ pairs) plain =
    slice_split_at (λ b. b == 58) (pair_text pair) 58 (params_text (next ∷ pairs)) (no-colon pair (All-head IsPlainParam pair (next ∷ pairs) plain)) refl
    ∙ ap (λ parts. pair_text pair ∷ parts) (split-text next pairs (All-tail IsPlainParam pair (next ∷ pairs) plain))

suc-some : (n : ℕ) → false ≡ (suc n == 0)
suc-some n = sym (false_from_ne_true (suc n == 0) (λ e. absurd (omega (arith, eqb-true (suc n) 0 e))))

some-text : (key value : List ℕ) (pairs : List (List ℕ × List ℕ)) → false ≡ (length (params_text ((key, value) ∷ pairs)) == 0)
some-text [] value [] = suc-some _
some-text [] value (pair ∷ pairs) = suc-some _
some-text (b ∷ key) value [] = suc-some _
some-text (b ∷ key) value (pair ∷ pairs) = suc-some _

-- only no params print as the empty text
pub none-from_text : (pairs : List (List ℕ × List ℕ)) → params_text pairs ≡ [] → pairs ≡ []
none-from_text [] none = refl
none-from_text (pair ∷ pairs) none = absurd (true≢false (sym (some-text pair.0 pair.1 pairs ∙ ap (λ text. length text == 0) none)))

pub params_parts-text : (pairs : List (List ℕ × List ℕ)) → All IsPlainParam pairs → params_parts (params_text pairs) ≡ map pair_text pairs
params_parts-text [] plain = refl
params_parts-text (pair ∷ pairs) plain = params_parts-some (params_text (pair ∷ pairs)) (some-text pair.0 pair.1 pairs) ∙ split-text pair pairs plain

zip-texts : (pairs : List (List ℕ × List ℕ)) → All IsPlainParam pairs → AllZip IsPair (map pair_text pairs) pairs
zip-texts [] plain = tt
zip-texts (pair ∷ pairs) plain = (
  record { joined = refl; first = (All-head IsPlainParam pair pairs plain).no_equals },
  zip-texts pairs (All-tail IsPlainParam pair pairs plain),
)

pub spells-text : (pairs : List (List ℕ × List ℕ)) → All IsPlainParam pairs → SpellsPairs (params_text pairs) pairs
spells-text pairs plain = subst (λ parts. AllZip IsPair parts pairs) (sym (params_parts-text pairs plain)) (zip-texts pairs plain)
