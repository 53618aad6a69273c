-- A text after another one: where no grapheme runs over the seam.
use Rattle.std.proofs.Common.{◌≡◌, ◌≢◌, ℕ, suc, ◌-◌, true, false, List, [], ◌∷◌, ◌++◌, map, length, Some, None, refl, sym, ap, ap₂, subst, ◌∙◌, arith}
use Rattle.std.specs.Prelude.{slice_get, ◌↔◌, encode_utf8_all}
use Rattle.std.proofs.lemmas.List.{map-append}
use Rattle.std.proofs.lemmas.Str.{chars-append, chars-nil}
use Rattle.std.specs.Str.{chars, IsUtf8}
use Rattle.unicode_segmentation.specs.Grapheme.{graphemes}
use Rattle.unicode_segmentation.specs.Segments.{cut, segments}
use Rattle.unicode_segmentation.proofs.TextLemmas.{IsUtf8-before}
use Rattle.termwiz_text.specs.Plain.{is_one_plain, is_plain, is_plain_last}
use Rattle.termwiz_text.proofs.Boundaries.{breaks}
use Rattle.termwiz_text.proofs.Pieces.{onto, cut_one, cut_seam, graphemes_front}
use Rattle.termwiz_text.proofs.Plain.{plain_breaks, plain_unmarked, chars_plain, utf8_one, encode_one}

last_same : (ps qs : List (List ℕ)) (p q : List ℕ) → ps ++ p ∷ [] ≡ qs ++ q ∷ [] → p ≡ q
last_same [] [] p q e = cc
last_same [] (y ∷ []) p q e = absurd cc
last_same [] (y ∷ (z ∷ qs)) p q e = absurd cc
last_same (x ∷ []) [] p q e = absurd cc
last_same (x ∷ (z ∷ ps)) [] p q e = absurd cc
last_same (x ∷ ps) (y ∷ qs) p q e = let rest : ps ++ p ∷ [] ≡ qs ++ q ∷ [] = cc in last_same ps qs p q rest

-- the last grapheme of the whole decides
pub seam_at_last : (whole front text last : List ℕ) (left : List (List ℕ)) → IsUtf8 whole → IsUtf8 text → whole ≡ front ++ text → graphemes true whole ≡ left ++ last ∷ []
    → (last ≡ text) ↔ (graphemes true whole ≡ graphemes true front ++ text ∷ [])
seam_at_last whole front text last left u v split e = (
  (λ same.
      let cuts : graphemes true (front ++ text) ≡ left ++ text ∷ [] = ap (graphemes true) (sym split) ∙ e ∙ ap (λ t. left ++ t ∷ []) same in
      let front_is : graphemes true front ≡ left = graphemes_front front text left (IsUtf8-before whole front text u v split) v cuts in
      e ∙ ap₂ (λ ps t. ps ++ t ∷ []) (sym front_is) same),
  (λ joined. last_same left (graphemes true front) last text (sym e ∙ joined)),
)

pub seam_of_none : (whole front text : List ℕ) → graphemes true whole ≡ [] → (graphemes true whole ≡ graphemes true front ++ text ∷ []) → ⊥
seam_of_none whole front text e h = some (graphemes true front) (sym e ∙ h)
  where
    some : (ps : List (List ℕ)) → [] ≡ ps ++ text ∷ [] → ⊥
    some [] k = cc
    some (p ∷ ps) k = cc

-- a printable character of ASCII after one
onto_push : (cs : List ℕ) (p : ℕ) (before : List ℕ) → onto (cs ++ p ∷ []) before ≡ p ∷ onto cs before
onto_push [] p before = refl
onto_push (c ∷ cs) p before = onto_push cs p (c ∷ before)

push_some : (cs : List ℕ) (p : ℕ) → 0 ≢ length (cs ++ p ∷ [])
push_some [] p = λ e. absurd cc
push_some (c ∷ cs) p = λ e. absurd cc

last_split : (b : List ℕ) (p : ℕ) → slice_get b (length b - 1) ≡ Some p → (front : List ℕ) × (b ≡ front ++ p ∷ [])
last_split [] p e = absurd cc
last_split (x ∷ []) p e = let same : x ≡ p = cc in ([], ap (λ t. t ∷ []) same)
last_split (x ∷ (y ∷ b)) p e =
    let less : length (x ∷ (y ∷ b)) - 1 ≡ suc (length (y ∷ b) - 1) = omega arith in
    let rest = last_split (y ∷ b) p (ap (slice_get (x ∷ (y ∷ b))) (sym less) ∙ e) in
    (x ∷ rest.0, ap (λ t. x ∷ t) rest.1)

pub seam_plain : (b text : List ℕ) (p q : ℕ) → IsUtf8 b → slice_get b (length b - 1) ≡ Some p → text ≡ q ∷ [] → is_plain p ≡ true → is_plain q ≡ true → graphemes true (b ++ text) ≡ graphemes true b ++ text ∷ []
unfolding segments
seam_plain b text p q u last one hp hq =
    let parts = last_split b p last in
    let front = parts.0 in
    let early : IsUtf8 front = IsUtf8-before b front (p ∷ []) u (utf8_one p hp) parts.1 in
    let chars_one : chars (p ∷ []) ≡ p ∷ [] = chars_plain p [] (utf8_one p hp) hp ∙ ap (λ t. p ∷ t) chars-nil in
    let chars_two : chars (q ∷ []) ≡ q ∷ [] = chars_plain q [] (utf8_one q hq) hq ∙ ap (λ t. q ∷ t) chars-nil in
    let b_is : chars b ≡ chars front ++ p ∷ [] = ap chars parts.1 ∙ chars-append front (p ∷ []) early ∙ ap (λ t. chars front ++ t) chars_one in
    let onto_is : onto (chars b) [] ≡ p ∷ onto (chars front) [] = ap (λ t. onto t []) b_is ∙ onto_push (chars front) p [] in
    let some : 0 ≢ length (chars b) = subst (λ (t : List ℕ). 0 ≢ length t) (sym b_is) (push_some (chars front) p) in
    let ends : breaks (onto (chars b) []) (q ∷ []) ≡ true = ap (λ t. breaks t (q ∷ [])) onto_is ∙ plain_breaks p (onto (chars front) []) q [] hp (plain_unmarked q hq) in
    let whole : chars (b ++ text) ≡ chars b ++ q ∷ [] = ap (λ t. chars (b ++ t)) one ∙ chars-append b (q ∷ []) u ∙ ap (λ t. chars b ++ t) chars_two in
    ap (λ cs. map encode_utf8_all (cut breaks [] cs [])) whole
    ∙ ap (map encode_utf8_all) (cut_seam [] (chars b) (q ∷ []) some ends ∙ ap (λ ps. cut breaks [] (chars b) [] ++ ps) (cut_one (onto (chars b) []) q))
    ∙ map-append encode_utf8_all (cut breaks [] (chars b) []) ((q ∷ []) ∷ [])
    ∙ ap (λ t. map encode_utf8_all (cut breaks [] (chars b) []) ++ t ∷ []) (encode_one q hq ∙ sym one)

-- a text that ends in printable ASCII
pub one_plain_last : (front more : List ℕ) → is_one_plain more ≡ true → is_plain_last (front ++ more) ≡ true
unfolding is_plain_last
one_plain_last front [] h = absurd cc
one_plain_last front (q ∷ (r ∷ more)) h = absurd cc
one_plain_last [] (q ∷ []) h = h
one_plain_last (x ∷ []) (q ∷ []) h = h
one_plain_last (x ∷ (y ∷ b)) (q ∷ []) h = one_plain_last (y ∷ b) (q ∷ []) h

pub none_plain_last : is_plain_last [] ≡ false
unfolding is_plain_last
none_plain_last = refl

last_plain : (b : List ℕ) → is_plain_last b ≡ true → (p : ℕ) × ((slice_get b (length b - 1) ≡ Some p) × (is_plain p ≡ true))
unfolding is_plain_last
last_plain [] h = absurd cc
last_plain (p ∷ []) h = (p, (refl, h))
last_plain (x ∷ (y ∷ b)) h =
    let rest = last_plain (y ∷ b) h in
    let less : length (x ∷ (y ∷ b)) - 1 ≡ suc (length (y ∷ b) - 1) = omega arith in
    (rest.0, (ap (slice_get (x ∷ (y ∷ b))) less ∙ rest.1.0, rest.1.1))

-- its last byte decides
pub plain_last_is : (b : List ℕ) (p : ℕ) → slice_get b (length b - 1) ≡ Some p → is_plain_last b ≡ is_plain p
unfolding is_plain_last
plain_last_is [] p e = absurd cc
plain_last_is (x ∷ []) p e = let same : x ≡ p = cc in ap is_plain same
plain_last_is (x ∷ (y ∷ b)) p e =
    let less : length (x ∷ (y ∷ b)) - 1 ≡ suc (length (y ∷ b) - 1) = omega arith in
    plain_last_is (y ∷ b) p (ap (slice_get (x ∷ (y ∷ b))) (sym less) ∙ e)

pub plain_last_none : (b : List ℕ) → slice_get b (length b - 1) ≡ None → is_plain_last b ≡ false
unfolding is_plain_last
plain_last_none [] e = refl
plain_last_none (x ∷ []) e = absurd cc
plain_last_none (x ∷ (y ∷ b)) e =
    let less : length (x ∷ (y ∷ b)) - 1 ≡ suc (length (y ∷ b) - 1) = omega arith in
    plain_last_none (y ∷ b) (ap (slice_get (x ∷ (y ∷ b))) (sym less) ∙ e)

pub seam_behind : (b : List ℕ) (q : ℕ) → IsUtf8 b → is_plain_last b ≡ true → is_plain q ≡ true → graphemes true (b ++ q ∷ []) ≡ graphemes true b ++ (q ∷ []) ∷ []
seam_behind b q u last plain =
    let found = last_plain b last in
    seam_plain b (q ∷ []) found.0 q u found.1.0 refl found.1.1 plain
