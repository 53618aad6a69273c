-- The graphemes of a text one after another: each is one by itself, and what follows it is cut as a text of its own.
use Rattle.std.proofs.Common.{◌≡◌, ◌≢◌, ℕ, Bool, true, false, cond, inl, inr, List, [], ◌∷◌, ◌++◌, map, length, refl, sym, ap, ap₂, subst, ◌∙◌, append-nil, append_assoc}
use Rattle.std.proofs.lemmas.Bool.{cases_Bool, cond-true, cond-false, true≢false}
use Rattle.std.proofs.lemmas.List.{append_cancel_left, append_cancel_right}
use Rattle.std.proofs.lemmas.List.Folds.{concat-append}
use Rattle.std.proofs.lemmas.Str.{chars-append, chars_past_char, chars_from_encodes, encodes-chars, encodes-append, encodes_same, IsUtf8-past_char}
use Rattle.std.specs.List.{All, concat}
use Rattle.std.proofs.lemmas.List.Elements.{All-nil, All-cons}
use Rattle.std.specs.Prelude.{encode_utf8, encode_utf8_all}
use Rattle.std.specs.Str.{chars, IsUtf8}
use Rattle.unicode_segmentation.specs.Grapheme.{graphemes, is_grapheme_break}
use Rattle.unicode_segmentation.specs.Segments.{cut, prepend, segments}
use Rattle.unicode_segmentation.proofs.SegmentsLemmas.{concat-segments}
use Rattle.unicode_segmentation.proofs.TextLemmas.{IsUtf8-before, IsUtf8-after}
use Rattle.termwiz_text.proofs.Boundaries.{breaks, breaks-next, breaks-end, cut-fresh}

-- a piece before the pieces after it, apart from the first or joined to it
attach : Bool → List ℕ → List (List ℕ) → List (List ℕ)
attach b part pieces = cond b (part ∷ pieces) (prepend part pieces)

-- the characters of cs in reverse, and then `before`
abbrev pub onto : List ℕ → List ℕ → List ℕ
onto [] before = before
onto (c ∷ cs) before = onto cs (c ∷ before)

pub onto_append : (cs ds before : List ℕ) → onto (cs ++ ds) before ≡ onto ds (onto cs before)
onto_append [] ds before = refl
onto_append (c ∷ cs) ds before = onto_append cs ds (c ∷ before)

cut_nonempty : (before : List ℕ) (c : ℕ) (cs after : List ℕ) → (p : List ℕ) × (ps : List (List ℕ)) × (cut breaks before (c ∷ cs) after ≡ p ∷ ps)
unfolding cut
cut_nonempty before c cs after = some (breaks (c ∷ before) (cs ++ after)) (cut breaks (c ∷ before) cs after)
  where
    some : (b : Bool) (rest : List (List ℕ)) → (p : List ℕ) × (ps : List (List ℕ)) × (cond b ((c ∷ []) ∷ rest) (prepend (c ∷ []) rest) ≡ p ∷ ps)
    some true rest = (c ∷ [], rest, refl)
    some false [] = (c ∷ [], [], refl)
    some false (p ∷ ps) = (c ∷ p, ps, refl)

-- the first piece p of the characters cs, and the others
pub record IsFront (before cs p : List ℕ) (ps : List (List ℕ)) : Type 0 where
  pub rest : List ℕ
  pub whole : cs ≡ p ++ rest
  pub others : ps ≡ cut breaks (onto p before) rest []
  pub ends : breaks (onto p before) rest ≡ true
  pub alone : cut breaks before p [] ≡ p ∷ []

pub cut_one : (before : List ℕ) (c : ℕ) → cut breaks before (c ∷ []) [] ≡ (c ∷ []) ∷ []
unfolding cut
cut_one before c = ap (λ b. cond b ((c ∷ []) ∷ []) (prepend (c ∷ []) [])) (breaks-end c before)

cut_more : (before : List ℕ) (c : ℕ) (q : List ℕ) → breaks (c ∷ before) q ≡ false → cut breaks (c ∷ before) q [] ≡ q ∷ [] → cut breaks before (c ∷ q) [] ≡ (c ∷ q) ∷ []
unfolding cut
cut_more before c q n e =
    ap₂ (λ b (ps : List (List ℕ)). cond b ((c ∷ []) ∷ ps) (prepend (c ∷ []) ps)) (ap (breaks (c ∷ before)) (append-nil q) ∙ n) e

same_next : (before : List ℕ) (q cs rest : List ℕ) → cut breaks before q [] ≡ q ∷ [] → cs ≡ q ++ rest → breaks before q ≡ breaks before cs
unfolding cut
same_next before [] cs rest alone e = cc
same_next before (d ∷ q) cs rest alone e = breaks-next before d q ∙ sym (breaks-next before d (q ++ rest)) ∙ sym (ap (breaks before) e)

longer : (before : List ℕ) (c : ℕ) (cs p : List ℕ) (ps : List (List ℕ)) → breaks (c ∷ before) (cs ++ []) ≡ false → prepend (c ∷ []) (cut breaks (c ∷ before) cs []) ≡ p ∷ ps
    → ((q : List ℕ) (qs : List (List ℕ)) → cut breaks (c ∷ before) cs [] ≡ q ∷ qs → IsFront (c ∷ before) cs q qs) → IsFront before (c ∷ cs) p ps
unfolding cut
longer before c [] p ps n h go = absurd (true≢false (sym (breaks-end c before) ∙ n))
longer before c (d ∷ cs) p ps n h go =
    let some = cut_nonempty (c ∷ before) d cs [] in
    let q = some.0 in
    let qs = some.1 in
    let front : IsFront (c ∷ before) (d ∷ cs) q qs = go q qs some.2 in
    let e : (c ∷ q) ∷ qs ≡ p ∷ ps = sym (ap (prepend (c ∷ [])) some.2) ∙ h in
    let a : c ∷ q ≡ p = cc in
    let b : qs ≡ ps = cc in
    let next : breaks (c ∷ before) q ≡ false = same_next (c ∷ before) q (d ∷ cs) front.rest front.alone front.whole ∙ ap (breaks (c ∷ before)) (sym (append-nil (d ∷ cs))) ∙ n in
    subst (λ (x : List ℕ). IsFront before (c ∷ (d ∷ cs)) x ps) a (subst (IsFront before (c ∷ (d ∷ cs)) (c ∷ q)) b (record {
      rest = front.rest;
      whole = ap (λ t. c ∷ t) front.whole;
      others = front.others;
      ends = front.ends;
      alone = cut_more before c q next front.alone;
    }))

pub first_piece : (before cs p : List ℕ) (ps : List (List ℕ)) → cut breaks before cs [] ≡ p ∷ ps → IsFront before cs p ps
unfolding cut
first_piece before [] p ps h = absurd cc
first_piece before (c ∷ cs) p ps h = elim (cases_Bool (breaks (c ∷ before) (cs ++ []))) [
  | inl t ↦
      let e : (c ∷ []) ∷ cut breaks (c ∷ before) cs [] ≡ p ∷ ps = sym (cond-true (breaks (c ∷ before) (cs ++ [])) ((c ∷ []) ∷ cut breaks (c ∷ before) cs []) (prepend (c ∷ []) (cut breaks (c ∷ before) cs [])) t) ∙ h in
      let a : c ∷ [] ≡ p = cc in
      let b : cut breaks (c ∷ before) cs [] ≡ ps = cc in
      subst (λ (x : List ℕ). IsFront before (c ∷ cs) x ps) a (subst (IsFront before (c ∷ cs) (c ∷ [])) b (record {
        rest = cs;
        whole = refl;
        others = refl;
        ends = ap (breaks (c ∷ before)) (sym (append-nil cs)) ∙ t;
        alone = cut_one before c;
      }))
  | inr n ↦ longer before c cs p ps n (sym (cond-false (breaks (c ∷ before) (cs ++ [])) ((c ∷ []) ∷ cut breaks (c ∷ before) cs []) (prepend (c ∷ []) (cut breaks (c ∷ before) cs [])) n) ∙ h) (first_piece (c ∷ before) cs)
]

pub IsUtf8-past : (cs rest : List ℕ) → IsUtf8 (encode_utf8_all cs ++ rest) → IsUtf8 rest
IsUtf8-past [] rest u = u
IsUtf8-past (c ∷ cs) rest u = IsUtf8-past cs rest (IsUtf8-past_char _ _ c u (append_assoc (encode_utf8 c) (encode_utf8_all cs) rest))

-- after a boundary the rest is cut as a text of its own
pub rest_fresh : (before rest : List ℕ) → breaks before rest ≡ true → cut breaks before rest [] ≡ cut breaks [] rest []
unfolding cut
rest_fresh before [] h = refl
rest_fresh before (f ∷ cs) h = cut-fresh f before (record { breaks = sym (breaks-next before f cs) ∙ h }) cs

graphemes_encoded : (cs : List ℕ) → IsUtf8 (encode_utf8_all cs) → graphemes true (encode_utf8_all cs) ≡ map encode_utf8_all (cut breaks [] cs [])
unfolding segments
graphemes_encoded cs u = ap (λ t. map encode_utf8_all (cut breaks [] t [])) (sym (chars_from_encodes cs (encode_utf8_all cs) u refl))

pub record IsFirst (g : List ℕ) (gs : List (List ℕ)) : Type 0 where
  -- the first grapheme is one by itself
  pub alone : graphemes true g ≡ g ∷ []
  -- and the others are those of what follows it
  pub others : graphemes true (concat gs) ≡ gs

-- an encoded front of a text is a text
front_text : (p rest : List ℕ) (s : List ℕ) → IsUtf8 s → s ≡ encode_utf8_all p ++ encode_utf8_all rest → IsUtf8 (encode_utf8_all p)
front_text p rest s u split = IsUtf8-before s (encode_utf8_all p) (encode_utf8_all rest) u (IsUtf8-past p (encode_utf8_all rest) (subst IsUtf8 split u)) split

first_text : (s g : List ℕ) (gs : List (List ℕ)) → IsUtf8 s → graphemes true s ≡ g ∷ gs → IsUtf8 g
unfolding segments
first_text s g gs u h = some (cut breaks [] (chars s) []) refl h
  where
    some : (pieces : List (List ℕ)) → cut breaks [] (chars s) [] ≡ pieces → map encode_utf8_all pieces ≡ g ∷ gs → IsUtf8 g
    some [] e h = absurd cc
    some (p ∷ ps) e h =
        let front : IsFront [] (chars s) p ps = first_piece [] (chars s) p ps e in
        let a : encode_utf8_all p ≡ g = cc in
        subst IsUtf8 a (front_text p front.rest s u (sym (encodes-chars s u) ∙ ap encode_utf8_all front.whole ∙ encodes-append p front.rest))

front_first : (s g : List ℕ) (gs : List (List ℕ)) (u : IsUtf8 s) (p : List ℕ) (ps : List (List ℕ)) → cut breaks [] (chars s) [] ≡ p ∷ ps → encode_utf8_all p ≡ g → map encode_utf8_all ps ≡ gs → IsFirst g gs
front_first s g gs u p ps h a b =
    let front : IsFront [] (chars s) p ps = first_piece [] (chars s) p ps h in
    let r : List ℕ = encode_utf8_all front.rest in
    let split : s ≡ encode_utf8_all p ++ r = sym (encodes-chars s u) ∙ ap encode_utf8_all front.whole ∙ encodes-append p front.rest in
    let later : IsUtf8 r = IsUtf8-past p r (subst IsUtf8 split u) in
    let early : IsUtf8 (encode_utf8_all p) = IsUtf8-before s (encode_utf8_all p) r u later split in
    let cuts : graphemes true r ≡ gs = graphemes_encoded front.rest later ∙ ap (map encode_utf8_all) (sym (rest_fresh (onto p []) front.rest front.ends) ∙ sym front.others) ∙ b in
    let whole : concat gs ≡ r = ap concat (sym cuts) ∙ concat-segments (is_grapheme_break true) r later in
    record {
      alone = subst (λ (x : List ℕ). graphemes true x ≡ x ∷ []) a (graphemes_encoded p early ∙ ap (map encode_utf8_all) front.alone);
      others = ap (graphemes true) whole ∙ cuts;
    }

pub graphemes_first : (s g : List ℕ) (gs : List (List ℕ)) → IsUtf8 s → graphemes true s ≡ g ∷ gs → IsFirst g gs
unfolding segments
graphemes_first s g gs u h = some (cut breaks [] (chars s) []) refl h
  where
    some : (pieces : List (List ℕ)) → cut breaks [] (chars s) [] ≡ pieces → map encode_utf8_all pieces ≡ g ∷ gs → IsFirst g gs
    some [] e h = absurd cc
    some (p ∷ ps) e h = let a : encode_utf8_all p ≡ g = cc in let b : map encode_utf8_all ps ≡ gs = cc in front_first s g gs u p ps e a b

-- so each grapheme of a text is one by itself
pub graphemes_alone : (s : List ℕ) → IsUtf8 s → (gs : List (List ℕ)) → graphemes true s ≡ gs → All (λ g. graphemes true g ≡ g ∷ []) gs
graphemes_alone s u [] h = All-nil (λ g. graphemes true g ≡ g ∷ [])
graphemes_alone s u (g ∷ gs) h =
    let first : IsFirst g gs = graphemes_first s g gs u h in
    let whole : s ≡ g ++ concat gs = sym (concat-segments (is_grapheme_break true) s u) ∙ ap concat h in
    let front : IsUtf8 g = first_text s g gs u h in
    All-cons (λ g. graphemes true g ≡ g ∷ []) g gs first.alone (graphemes_alone (concat gs) (IsUtf8-after s g (concat gs) u front whole) gs first.others)

-- a character with a boundary after it is the first grapheme
pub graphemes_past_char : (s rest : List ℕ) (c : ℕ) → IsUtf8 s → s ≡ encode_utf8 c ++ rest → breaks (c ∷ []) (chars rest) ≡ true → graphemes true s ≡ encode_utf8 c ∷ graphemes true rest
unfolding segments cut
graphemes_past_char s rest c u split ends =
    let one : List ℕ = c ∷ [] in
    ap (λ cs. map encode_utf8_all (cut breaks [] cs [])) (chars_past_char s rest c u split)
    ∙ ap₂ (λ b (ps : List (List ℕ)). map encode_utf8_all (cond b (one ∷ ps) (prepend one ps))) (ap (breaks one) (append-nil (chars rest)) ∙ ends) (rest_fresh one (chars rest) ends)
    ∙ ap (λ g. g ∷ map encode_utf8_all (cut breaks [] (chars rest) [])) (append-nil (encode_utf8 c))

-- ---- a text after another one

-- a piece that ends at a boundary, with more after it
pub cut_seam : (before p cs : List ℕ) → 0 ≢ length p → breaks (onto p before) cs ≡ true → cut breaks before (p ++ cs) [] ≡ cut breaks before p [] ++ cut breaks (onto p before) cs []
unfolding cut
cut_seam before [] cs some h = absurd (some refl)
cut_seam before (c ∷ []) cs some h =
    ap (λ b. cond b ((c ∷ []) ∷ cut breaks (c ∷ before) cs []) (prepend (c ∷ []) (cut breaks (c ∷ before) cs []))) (ap (breaks (c ∷ before)) (append-nil cs) ∙ h)
    ∙ sym (ap (λ ps. ps ++ cut breaks (c ∷ before) cs []) (cut_one before c))
cut_seam before (c ∷ (d ∷ p)) cs some h =
    let rest = cut breaks (onto p (d ∷ (c ∷ before))) cs [] in
    let front = cut_nonempty (c ∷ before) d p [] in
    ap₂ (λ b (ps : List (List ℕ)). cond b ((c ∷ []) ∷ ps) (prepend (c ∷ []) ps))
    (breaks-next (c ∷ before) d ((p ++ cs) ++ []) ∙ sym (breaks-next (c ∷ before) d (p ++ [])))
    (cut_seam (c ∷ before) (d ∷ p) cs (λ e. absurd cc) h ∙ ap (λ ps. ps ++ rest) front.2)
    ∙ joined (breaks (c ∷ before) (d ∷ (p ++ []))) front.0 front.1 rest
    ∙ sym (ap (λ (ps : List (List ℕ)). cond (breaks (c ∷ before) (d ∷ (p ++ []))) ((c ∷ []) ∷ ps) (prepend (c ∷ []) ps) ++ rest) front.2)
  where
    joined : (b : Bool) (q : List ℕ) (qs rest : List (List ℕ)) → cond b ((c ∷ []) ∷ ((q ∷ qs) ++ rest)) (prepend (c ∷ []) ((q ∷ qs) ++ rest)) ≡ cond b ((c ∷ []) ∷ (q ∷ qs)) (prepend (c ∷ []) (q ∷ qs)) ++ rest
    joined true q qs rest = refl
    joined false q qs rest = refl

concat_attach : (b : Bool) (c : ℕ) (ps : List (List ℕ)) → concat (cond b ((c ∷ []) ∷ ps) (prepend (c ∷ []) ps)) ≡ c ∷ concat ps
concat_attach true c ps = refl
concat_attach false c [] = refl
concat_attach false c (p ∷ ps) = refl

pub concat_cut : (before cs : List ℕ) → concat (cut breaks before cs []) ≡ cs
unfolding cut
concat_cut before [] = refl
concat_cut before (c ∷ cs) = concat_attach (breaks (c ∷ before) (cs ++ [])) c _ ∙ ap (λ t. c ∷ t) (concat_cut (c ∷ before) cs)

nonempty_piece : (before p : List ℕ) → cut breaks before p [] ≡ p ∷ [] → 0 ≢ length p
unfolding cut
nonempty_piece before [] h e = absurd cc
nonempty_piece before (c ∷ p) h e = absurd cc

same_break : (before cs ds : List ℕ) → breaks before (cs ++ ds) ≡ true → 0 ≢ length before → breaks before cs ≡ true
same_break [] cs ds h some = absurd (some refl)
same_break (l ∷ before) [] ds h some = breaks-end l before
same_break (l ∷ before) (c ∷ cs) ds h some = breaks-next (l ∷ before) c cs ∙ sym (breaks-next (l ∷ before) c (cs ++ ds)) ∙ h

onto_some : (p before : List ℕ) → 0 ≢ length p → 0 ≢ length (onto p before)
onto_some [] before h = absurd (h refl)
onto_some (c ∷ []) before h = λ e. absurd cc
onto_some (c ∷ (d ∷ p)) before h = onto_some (d ∷ p) (c ∷ before) (λ e. absurd cc)

-- the pieces that make up a front of the characters are the front's
cut_front : (before cs ds : List ℕ) (ps qs : List (List ℕ)) → cut breaks before (cs ++ ds) [] ≡ ps ++ qs → concat ps ≡ cs → cut breaks before cs [] ≡ ps
unfolding cut
cut_front before cs ds [] qs h e = sym (ap (λ t. cut breaks before t []) e)
cut_front before cs ds (p ∷ ps) qs h e =
    let front : IsFront before (cs ++ ds) p (ps ++ qs) = first_piece before (cs ++ ds) p (ps ++ qs) h in
    let tail : List ℕ = concat ps in
    let split : p ++ (tail ++ ds) ≡ p ++ front.rest = sym (append_assoc p tail ds) ∙ ap (λ t. t ++ ds) e ∙ front.whole in
    let rest : tail ++ ds ≡ front.rest = append_cancel_left p (tail ++ ds) front.rest split in
    let some = nonempty_piece before p front.alone in
    let ends : breaks (onto p before) tail ≡ true = same_break (onto p before) tail ds (ap (breaks (onto p before)) rest ∙ front.ends) (onto_some p before some) in
    let later : cut breaks (onto p before) tail [] ≡ ps = cut_front (onto p before) tail ds ps qs (ap (λ t. cut breaks (onto p before) t []) rest ∙ sym front.others) refl in
    sym (ap (λ t. cut breaks before t []) e) ∙ cut_seam before p tail some ends ∙ ap₂ ◌++◌ front.alone later

-- a list of encoded pieces that ends in y
map_push : (pieces : List (List ℕ)) (qs : List (List ℕ)) (y : List ℕ) → map encode_utf8_all pieces ≡ qs ++ y ∷ [] → (ps : List (List ℕ)) × (p : List ℕ) × (pieces ≡ ps ++ p ∷ []) × (map encode_utf8_all ps ≡ qs) × (encode_utf8_all p ≡ y)
map_push [] [] y h = absurd cc
map_push [] (q ∷ qs) y h = absurd cc
map_push (x ∷ []) [] y h = ([], x, refl, refl, cc)
map_push (x ∷ (z ∷ zs)) [] y h = absurd cc
map_push (x ∷ xs) (q ∷ qs) y h =
    let a : encode_utf8_all x ≡ q = cc in
    let rest : map encode_utf8_all xs ≡ qs ++ y ∷ [] = cc in
    let more = map_push xs qs y rest in
    (x ∷ more.0, more.1, ap (λ t. x ∷ t) more.2, ap₂ ◌∷◌ a more.3, more.4)

-- where the last grapheme of two texts together is the second one, the others are the first one's
pub graphemes_front : (b t : List ℕ) (qs : List (List ℕ)) → IsUtf8 b → IsUtf8 t → graphemes true (b ++ t) ≡ qs ++ t ∷ [] → graphemes true b ≡ qs
unfolding segments
graphemes_front b t qs u v h =
    let split : chars (b ++ t) ≡ chars b ++ chars t = chars-append b t u in
    let parts = map_push (cut breaks [] (chars b ++ chars t) []) qs t (ap (λ cs. map encode_utf8_all (cut breaks [] cs [])) (sym split) ∙ h) in
    let ps : List (List ℕ) = parts.0 in
    let last : parts.1 ≡ chars t = encodes_same parts.1 (chars t) (parts.4 ∙ sym (encodes-chars t v)) in
    let whole : concat ps ++ chars t ≡ chars b ++ chars t =
    ap (λ z. concat ps ++ z) (sym last ∙ sym (append-nil parts.1)) ∙ sym (concat-append ps (parts.1 ∷ [])) ∙ sym (ap concat parts.2) ∙ concat_cut [] (chars b ++ chars t) in
    let front : concat ps ≡ chars b = append_cancel_right (concat ps) (chars b) (chars t) whole in
    ap (map encode_utf8_all) (cut_front [] (chars b) (chars t) ps (parts.1 ∷ []) parts.2 front) ∙ parts.3
