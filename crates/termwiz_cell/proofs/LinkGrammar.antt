-- What a params text and a uri spell: the params that the pairs make, and no other link.
use Rattle.std.proofs.Common.{◌≡◌, ℕ, Bool, true, false, true≢false, cond, List, [], ◌∷◌, ◌++◌, Some, map, reverse, bytes_eq, refl, ap, sym, subst, ◌∙◌, append_assoc, append-nil}
use mathlib.Core.List.{reverse-cons}
use Rattle.std.proofs.lemmas.Cmp.{nat_list_cmp_total}
use Rattle.std.proofs.lemmas.Map.Lookups.{exact_bytes}
use Rattle.std.proofs.lemmas.Map.Text.{is_eq-slice_cmp}
use Rattle.std.specs.Cmp.Lexicographic.{slice_cmp}
use Rattle.std.specs.List.{fold}
use Rattle.std.specs.List.Sorted.{IsStrictlySortedBy}
use Rattle.std.specs.Map.{lookup}
use Rattle.std.specs.Ordering.{eq_by_cmp, nat_cmp}
use Rattle.termwiz_cell.proofs.PairTexts.{pairs-from_test, pairs-only, spells-text, test-from_pairs}
use Rattle.termwiz_cell.proofs.ParamOrder.{entries-same, fold-sorted, lookup-insert_entry, sorted-insert_entry}
use Rattle.termwiz_cell.specs.Link.{Link}
use Rattle.termwiz_cell.specs.LinkPairs.{are_pairs, pair_of, params_from, params_of, with_pair}
use Rattle.termwiz_cell.specs.LinkParse.{HasPairs, SpellsOnly}
use Rattle.termwiz_cell.specs.LinkText.{AreInOrder, IsReadable, MakesParams, SpellsLink, SpellsPairs, params_parts, params_text}

-- a look-up by bytes is the look-up by their order
by_order : (key : List ℕ) (params : List (List ℕ × List ℕ)) → lookup (eq_by_cmp (slice_cmp nat_cmp) key) params ≡ lookup (bytes_eq key) params
by_order key params = ap (λ (test : List ℕ → Bool). lookup test params) (λ i other. is_eq-slice_cmp key other i)

-- a pair that is put is found as if it stood in front
lookup-with_pair : (key : List ℕ) (params : List (List ℕ × List ℕ)) (pair : List ℕ × List ℕ) → lookup (bytes_eq key) (with_pair params pair) ≡ lookup (bytes_eq key) (pair ∷ params)
lookup-with_pair key params pair =
    sym (by_order key (with_pair params pair))
    ∙ lookup-insert_entry nat_list_cmp_total pair.0 pair.1 key params
    ∙ by_order key (pair ∷ params)

lookup-behind : {K X : Type 0} (test : K → Bool) (front xs ys : List (K × X)) → lookup test xs ≡ lookup test ys → lookup test (front ++ xs) ≡ lookup test (front ++ ys)
lookup-behind test [] xs ys same = same
lookup-behind test (e ∷ front) xs ys same = ap (λ found. cond (test e.0) (Some e.1) found) (lookup-behind test front xs ys same)

-- each key has the value of its last pair
lookup-fold : (key : List ℕ) (start pairs : List (List ℕ × List ℕ)) → lookup (bytes_eq key) (fold with_pair start pairs) ≡ lookup (bytes_eq key) (reverse pairs ++ start)
lookup-fold key start [] = refl
lookup-fold key start (pair ∷ pairs) =
    lookup-fold key (with_pair start pair) pairs
    ∙ lookup-behind (bytes_eq key) (reverse pairs) (with_pair start pair) (pair ∷ start) (lookup-with_pair key start pair)
    ∙ ap (lookup (bytes_eq key)) (sym (ap (λ front. front ++ start) (reverse-cons pair pairs) ∙ append_assoc (reverse pairs) (pair ∷ []) start))

sorted-fold : (start pairs : List (List ℕ × List ℕ)) → AreInOrder start → AreInOrder (fold with_pair start pairs)
sorted-fold start [] ordered = ordered
sorted-fold start (pair ∷ pairs) ordered = sorted-fold (with_pair start pair) pairs (sorted-insert_entry nat_list_cmp_total pair.0 pair.1 start ordered)

-- the pairs make the params that putting them one after another gives
pub makes-params_from : (pairs : List (List ℕ × List ℕ)) → MakesParams pairs (params_from pairs)
unfolding IsStrictlySortedBy
makes-params_from pairs = record {
  ordered = sorted-fold [] pairs tt;
  last = λ key. lookup-fold key [] pairs ∙ ap (lookup (bytes_eq key)) (append-nil (reverse pairs));
}

-- and no others
pub made-only : (pairs a b : List (List ℕ × List ℕ)) → MakesParams pairs a → MakesParams pairs b → a ≡ b
made-only pairs a b of_a of_b =
    entries-same nat_list_cmp_total exact_bytes a b of_a.ordered of_b.ordered
    (λ key. by_order key a ∙ of_a.last key ∙ sym (of_b.last key) ∙ sym (by_order key b))

-- params in order are made of themselves
pub makes-itself : (params : List (List ℕ × List ℕ)) → AreInOrder params → MakesParams params params
makes-itself params ordered = subst (MakesParams params) (fold-sorted nat_list_cmp_total [] params ordered) (makes-params_from params)

-- the link that a text's own pairs make is spelled, and no other
pub spells-link : (params uri : List ℕ) (link : Link) → SpellsPairs params (map pair_of (params_parts params)) → link ≡ record { uri = uri; params = params_of params; implicit = false } → SpellsLink params uri link
spells-link params uri link spelled is = subst (SpellsLink params uri) (sym is) (record {
  pairs = map pair_of (params_parts params);
  spelled = spelled;
  made = makes-params_from (map pair_of (params_parts params));
  target = refl;
  explicit = refl;
})

pub link-only : (params uri : List ℕ) (a b : Link) → SpellsLink params uri a → SpellsLink params uri b → a ≡ b
link-only params uri a b of_a of_b =
    let pairs : of_a.pairs ≡ of_b.pairs = pairs-only params of_a.pairs of_a.spelled ∙ sym (pairs-only params of_b.pairs of_b.spelled) in
    let made : MakesParams of_b.pairs a.params = subst (λ ps. MakesParams ps a.params) pairs of_a.made in
    λ i. record {
      uri = (of_a.target ∙ sym of_b.target) i;
      params = made-only of_b.pairs a.params b.params made of_b.made i;
      implicit = (of_a.explicit ∙ sym of_b.explicit) i;
    }

-- a readable link is what its printed params and its uri spell
pub spells-printed : (link : Link) → IsReadable link → SpellsLink (params_text link.params) link.uri link
spells-printed link readable = record {
  pairs = link.params;
  spelled = spells-text link.params readable.plain;
  made = makes-itself link.params readable.ordered;
  target = refl;
  explicit = readable.explicit;
}

-- whether a params text spells pairs, by the test of its parts
pub has_pairs : (params text : List ℕ) → text ≡ params → true ≡ are_pairs text → HasPairs params
has_pairs params text same test = (map pair_of (params_parts params), pairs-from_test params (ap are_pairs (sym same) ∙ sym test))

pub has_no_pairs : (params text : List ℕ) → text ≡ params → false ≡ are_pairs text → ¬ (HasPairs params)
has_no_pairs params text same test = λ has. true≢false (sym (test-from_pairs params has.0 has.1) ∙ ap are_pairs (sym same) ∙ sym test)

-- what the code puts together is the one link that is spelled
pub spells-only : (params text uri : List ℕ) (link : Link) → text ≡ params → true ≡ are_pairs text → link ≡ record { uri = uri; params = params_of text; implicit = false } → SpellsOnly params uri link
spells-only params text uri link same test is =
    let spelled : SpellsLink params uri link = spells-link params uri link (pairs-from_test params (ap are_pairs (sym same) ∙ sym test)) (is ∙ ap (λ t. record { uri = uri; params = params_of t; implicit = false }) same) in
    record { spelled = spelled; only = λ other of_other. link-only params uri other link of_other spelled }
