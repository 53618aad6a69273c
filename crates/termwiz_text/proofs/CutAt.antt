-- After a boundary a text is cut apart from what stands before, whatever follows.
use Rattle.std.proofs.Common.{◌≡◌, ◌≢◌, ℕ, ◌<◌, Bool, true, IsTrue, List, [], ◌∷◌, ◌++◌, map, length, take, drop, refl, sym, ap, ap₂, subst, ◌∙◌, arith, append_assoc, length-append, length-take, length-drop, take-append-drop, Some, ◌↔◌}
use Rattle.std.proofs.lemmas.List.{append_cancel_left, map-append, drop-append-le}
use Rattle.std.proofs.lemmas.List.Elements.{All-pop}
use Rattle.std.proofs.lemmas.Str.{chars-append, encodes-chars, encodes_same, IsUtf8-append, IsUtf8-take, IsUtf8-drop, IsCharBoundary-start, IsCharBoundary-at_seam, IsCharBoundary-from_drop}
use Rattle.std.proofs.Math.Seq.{take-append_seam, drop-append_seam}
use Rattle.std.specs.List.{All, concat}
use Rattle.std.specs.Prelude.{encode_utf8_all}
use Rattle.std.specs.Str.{chars, IsUtf8, IsCharBoundary}
use Rattle.unicode_segmentation.specs.Grapheme.{graphemes}
use Rattle.unicode_segmentation.specs.Segments.{cut, segments}
use Rattle.termwiz_text.specs.CutAt.{IsCutAt}
use Rattle.termwiz_text.proofs.Boundaries.{breaks, breaks-next}
use Rattle.termwiz_text.proofs.First.{graphemes-nil}
use Rattle.termwiz_text.proofs.Pieces.{IsFront, first_piece, onto, onto_append, cut_seam, concat_cut, rest_fresh, graphemes_alone}

-- where the pieces of a front of the characters end, there is a boundary
pub cut_ends : (before cs ds : List ℕ) (ps qs : List (List ℕ)) → cut breaks before (cs ++ ds) [] ≡ ps ++ qs → concat ps ≡ cs → 0 ≢ length cs → breaks (onto cs before) ds ≡ true
cut_ends before cs ds [] qs h e some = absurd (some (ap length e))
cut_ends before cs ds (p ∷ ps) qs h e some =
    let front : IsFront before (cs ++ ds) p (ps ++ qs) = first_piece before (cs ++ ds) p (ps ++ qs) h in
    let tail : List ℕ = concat ps in
    let split : p ++ (tail ++ ds) ≡ p ++ front.rest = sym (append_assoc p tail ds) ∙ ap (λ t. t ++ ds) e ∙ front.whole in
    let rest : tail ++ ds ≡ front.rest = append_cancel_left p (tail ++ ds) front.rest split in
    let later : cut breaks (onto p before) (tail ++ ds) [] ≡ ps ++ qs = ap (λ t. cut breaks (onto p before) t []) rest ∙ sym front.others in
    ap (λ t. breaks (onto t before) ds) (sym e) ∙ ap (λ t. breaks t ds) (onto_append p tail before)
    ∙ last (onto p before) tail (cut_ends (onto p before) tail ds ps qs later refl) (ap (breaks (onto p before)) rest ∙ front.ends)
  where
    last : (at tail : List ℕ) → (0 ≢ length tail → breaks (onto tail at) ds ≡ true) → breaks at (tail ++ ds) ≡ true → breaks (onto tail at) ds ≡ true
    last at [] more ends = ends
    last at (c ∷ tail) more ends = more (λ e. absurd cc)

encoded_same : (ps qs : List (List ℕ)) → map encode_utf8_all ps ≡ map encode_utf8_all qs → ps ≡ qs
encoded_same [] [] e = refl
encoded_same [] (q ∷ qs) e = absurd cc
encoded_same (p ∷ ps) [] e = absurd cc
encoded_same (p ∷ ps) (q ∷ qs) e =
    let head : encode_utf8_all p ≡ encode_utf8_all q = cc in
    let rest : map encode_utf8_all ps ≡ map encode_utf8_all qs = cc in
    ap₂ ◌∷◌ (encodes_same p q head) (encoded_same ps qs rest)

some_chars : (s : List ℕ) → IsUtf8 s → 0 < length s → 0 ≢ length (chars s)
some_chars s u some = none (chars s) (encodes-chars s u)
  where
    none : (cs : List ℕ) → encode_utf8_all cs ≡ s → 0 ≢ length cs
    none [] e = λ _. omega (arith, ap length e)
    none (c ∷ cs) e = λ k. absurd cc

more_behind : (before ds es : List ℕ) → 0 ≢ length ds → breaks before ds ≡ true → breaks before (ds ++ es) ≡ true
more_behind before [] es some h = absurd (some refl)
more_behind before (d ∷ ds) es some h = breaks-next before d (ds ++ es) ∙ sym (breaks-next before d ds) ∙ h

-- a boundary stays one, whatever follows
seam_stays : (front tail more : List ℕ) → IsUtf8 front → IsUtf8 tail → 0 < length front → 0 < length tail → graphemes true (front ++ tail) ≡ graphemes true front ++ graphemes true tail
    → graphemes true (front ++ (tail ++ more)) ≡ graphemes true front ++ graphemes true (tail ++ more)
unfolding segments
seam_stays front tail more u v some some' h =
    let cs : List ℕ = chars front in
    let ds : List ℕ = chars tail in
    let es : List ℕ = chars more in
    let first : List (List ℕ) = cut breaks [] cs [] in
    let pieces : cut breaks [] (cs ++ ds) [] ≡ first ++ cut breaks [] ds [] =
    encoded_same (cut breaks [] (cs ++ ds) []) (first ++ cut breaks [] ds [])
    (ap (λ t. map encode_utf8_all (cut breaks [] t [])) (sym (chars-append front tail u)) ∙ h ∙ sym (map-append encode_utf8_all first (cut breaks [] ds []))) in
    let begun = some_chars front u some in
    let ends : breaks (onto cs []) (ds ++ es) ≡ true = more_behind (onto cs []) ds es (some_chars tail v some') (cut_ends [] cs ds first (cut breaks [] ds []) pieces (concat_cut [] cs) begun) in
    let behind : chars (tail ++ more) ≡ ds ++ es = chars-append tail more v in
    ap (λ t. map encode_utf8_all (cut breaks [] t [])) (chars-append front (tail ++ more) u ∙ ap (λ t. cs ++ t) behind)
    ∙ ap (map encode_utf8_all) (cut_seam [] cs (ds ++ es) begun ends ∙ ap (λ ps. first ++ ps) (rest_fresh (onto cs []) (ds ++ es) ends))
    ∙ map-append encode_utf8_all first (cut breaks [] (ds ++ es) [])
    ∙ ap (λ t. map encode_utf8_all first ++ map encode_utf8_all (cut breaks [] t [])) (sym behind)

seam_or_start : (front tail more : List ℕ) → IsUtf8 front → IsUtf8 tail → (0 < length front → 0 < length tail) → graphemes true (front ++ tail) ≡ graphemes true front ++ graphemes true tail
    → graphemes true (front ++ (tail ++ more)) ≡ graphemes true front ++ graphemes true (tail ++ more)
seam_or_start [] tail more u v some h = sym (ap (λ ps. ps ++ graphemes true (tail ++ more)) graphemes-nil)
seam_or_start (c ∷ front) tail more u v some h = seam_stays (c ∷ front) tail more u v (omega arith) (some (omega arith)) h

module _ (text more : List ℕ) (at : ℕ) (u : IsUtf8 text) (c : IsCutAt text at) where
  whole_again : take at text ++ drop at text ≡ text
  whole_again = take-append-drop at text

  pub drop_joined : drop at (text ++ more) ≡ drop at text ++ more
  drop_joined = drop-append-le at text more c.boundary.0

  pub boundary_stays : IsUtf8 more → IsCharBoundary (text ++ more) at
  boundary_stays v =
      IsCharBoundary-from_drop (text ++ more) at (omega (arith, length-append text more, c.boundary.0)) (subst IsUtf8 (sym drop_joined) (IsUtf8-append (drop at text) more (IsUtf8-drop text at u c.boundary) v))

  -- so only what stands after it says whether a text joins
  pub joins_behind : (graphemes true (drop at text ++ more) ≡ graphemes true (drop at text) ++ more ∷ []) ↔ (graphemes true (text ++ more) ≡ graphemes true text ++ more ∷ [])
  joins_behind =
      let front : List ℕ = take at text in
      let tail : List ℕ = drop at text in
      let some : 0 < length front → 0 < length tail = λ l. omega (arith, length-take at text, length-drop at text, c.within, c.boundary.0) in
      let all : graphemes true (text ++ more) ≡ graphemes true front ++ graphemes true (tail ++ more) =
      ap (graphemes true) (ap (λ t. t ++ more) (sym whole_again) ∙ append_assoc front tail more)
      ∙ seam_or_start front tail more (IsUtf8-take text at u c.boundary) (IsUtf8-drop text at u c.boundary) some (ap (graphemes true) whole_again ∙ c.apart) in
      let joined : graphemes true text ++ more ∷ [] ≡ graphemes true front ++ (graphemes true tail ++ more ∷ []) = ap (λ ps. ps ++ more ∷ []) c.apart ∙ append_assoc (graphemes true front) (graphemes true tail) (more ∷ []) in (
        (λ k. all ∙ ap (λ ps. graphemes true front ++ ps) k ∙ sym joined),
        (λ k. append_cancel_left (graphemes true front) (graphemes true (tail ++ more)) (graphemes true tail ++ more ∷ []) (sym all ∙ k ∙ joined)),
      )

  -- what the last grapheme after it says holds of the whole
  pub joins_of : (whole tail : List ℕ) (joined : Bool) → whole ≡ text ++ more → tail ≡ drop at whole → ((front : List ℕ) → tail ≡ front ++ more → IsTrue joined ↔ (graphemes true tail ≡ graphemes true front ++ more ∷ []))
      → IsTrue joined ↔ (graphemes true (text ++ more) ≡ graphemes true text ++ more ∷ [])
  joins_of whole tail joined pushed back says =
      let tail_is : tail ≡ drop at text ++ more = back ∙ ap (drop at) pushed ∙ drop_joined in
      let local = says (drop at text) tail_is in
      let same = ap (graphemes true) tail_is in
      ((λ j. joins_behind.0 (sym same ∙ local.0 j)), (λ k. local.1 (same ∙ joins_behind.1 k)))

pub cut_at_start : (text : List ℕ) → IsUtf8 text → IsCutAt text 0
cut_at_start text u = record {
  within = λ l. absurd (omega arith);
  boundary = IsCharBoundary-start text u;
  apart = sym (ap (λ ps. ps ++ graphemes true text) graphemes-nil);
}

last_alone : (gs : List (List ℕ)) (g : List ℕ) → All (λ p. graphemes true p ≡ p ∷ []) (gs ++ g ∷ []) → graphemes true g ≡ g ∷ []
last_alone gs g h = (All-pop (λ p. graphemes true p ≡ p ∷ []) (gs ++ g ∷ []) gs (Some g) refl h).1

-- a text that was joined stands after such a place
pub cut_at_seam : (text more : List ℕ) → IsUtf8 text → IsUtf8 more → graphemes true (text ++ more) ≡ graphemes true text ++ more ∷ [] → IsCutAt (text ++ more) (length text)
cut_at_seam text more u v h =
    let one : graphemes true more ≡ more ∷ [] = last_alone (graphemes true text) more (graphemes_alone (text ++ more) (IsUtf8-append text more u v) (graphemes true text ++ more ∷ []) h) in
    let some : 0 < length more = nonempty more one in
    record {
      within = λ _. omega (arith, length-append text more);
      boundary = IsCharBoundary-at_seam (text ++ more) text more refl v;
      apart = h ∙ ap₂ (λ a b. graphemes true a ++ b) (sym (take-append_seam text more)) (sym one ∙ ap (graphemes true) (sym (drop-append_seam text more)));
    }
  where
    nonempty : (g : List ℕ) → graphemes true g ≡ g ∷ [] → 0 < length g
    nonempty [] k = let e : [] ≡ [] ∷ [] = sym graphemes-nil ∙ k in absurd cc
    nonempty (c ∷ g) k = omega arith
