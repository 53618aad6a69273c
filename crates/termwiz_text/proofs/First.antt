-- The first grapheme of a text.
use Rattle.std.proofs.Common.{◌≡◌, ℕ, ◌<◌, true, false, cond, ◌&&◌, ◌==◌, inl, inr, List, [], ◌∷◌, ◌++◌, map, length, take, drop, length-append, eqb-true, sym, ap, ap₂, subst, ◌∙◌, arith}
use Rattle.std.proofs.lemmas.Bool.{cases_Bool, true≢false, and_parts}
use Rattle.std.proofs.lemmas.Str.{chars-nil, encode_ascii, encodes-chars, IsUtf8-past_char, IsCharBoundary-at_seam, IsCharBoundary-after_ascii}
use Rattle.std.proofs.Math.Seq.{take-append_seam, drop-append_seam}
use Rattle.std.specs.Prelude.{encode_utf8, encode_utf8_all}
use Rattle.std.specs.List.{concat}
use Rattle.std.specs.Str.{chars, IsUtf8, IsCharBoundary}
use Rattle.unicode_segmentation.specs.Grapheme.{graphemes, is_grapheme_break}
use Rattle.unicode_segmentation.specs.Segments.{cut, prepend, segments}
use Rattle.unicode_segmentation.proofs.SegmentsLemmas.{concat-segments}
use Rattle.termwiz_text.specs.First as first
use Rattle.termwiz_text.specs.Letter.{is_simple, begins_simple, begins_line_end}
use Rattle.termwiz_text.proofs.Ascii.{chars_ascii, IsUtf8-past_ascii}
use Rattle.termwiz_text.proofs.Boundaries.{breaks, breaks-end}
use Rattle.termwiz_text.proofs.Pieces.{graphemes_first, graphemes_past_char, rest_fresh, IsFirst}
use Rattle.termwiz_text.proofs.Simple.{simple_breaks, line_end_joins, line_end_breaks}

pub graphemes-nil : graphemes true [] ≡ []
unfolding segments cut
graphemes-nil = ap (λ cs. map encode_utf8_all (cut breaks [] cs [])) chars-nil

pub first_piece_of : (text one rest : List ℕ) (gs : List (List ℕ)) → IsUtf8 text → graphemes true text ≡ one ∷ gs → rest ≡ concat gs → first.IsFirst text one rest
first_piece_of text one rest gs u h e =
    let f : IsFirst one gs = graphemes_first text one gs u h in
    let others : graphemes true rest ≡ gs = ap (graphemes true) e ∙ f.others in
    let whole : one ++ rest ≡ text = ap (λ t. one ++ t) e ∙ sym (ap concat h) ∙ concat-segments (is_grapheme_break true) text u in
    let some : 0 < length one = nonempty one f.alone in
    record { graphemes_are = h ∙ ap (λ gs. one ∷ gs) (sym others); alone = f.alone; shrinks = omega (arith, length-append one rest, ap length whole) }
  where
    nonempty : (g : List ℕ) → graphemes true g ≡ g ∷ [] → 0 < length g
    nonempty [] k = let e : [] ≡ [] ∷ [] = sym graphemes-nil ∙ k in absurd cc
    nonempty (c ∷ g) k = omega arith

-- a piece with the rest of a text after it
first_before : (text one rest : List ℕ) → IsUtf8 text → IsUtf8 rest → graphemes true text ≡ one ∷ graphemes true rest → first.IsFirst text one rest
first_before text one rest u v h = first_piece_of text one rest (graphemes true rest) u h (sym (concat-segments (is_grapheme_break true) rest v))

-- ---- a CR and an LF are one

graphemes_line_end : (b : List ℕ) → IsUtf8 (13 ∷ (10 ∷ b)) → graphemes true (13 ∷ (10 ∷ b)) ≡ (13 ∷ (10 ∷ [])) ∷ graphemes true b
unfolding segments cut
graphemes_line_end b u =
    let later = IsUtf8-past_ascii 13 (10 ∷ b) u (omega arith) in
    let cs : List ℕ = chars b in
    let all : chars (13 ∷ (10 ∷ b)) ≡ 13 ∷ (10 ∷ cs) = chars_ascii 13 (10 ∷ b) u (omega arith) ∙ ap (λ t. 13 ∷ t) (chars_ascii 10 b later (omega arith)) in
    ap (λ t. map encode_utf8_all (cut breaks [] t [])) all
    ∙ ap₂ (λ x (ps : List (List ℕ)). map encode_utf8_all (cond x ((13 ∷ []) ∷ ps) (prepend (13 ∷ []) ps))) (line_end_joins [] (cs ++ []))
    (ap₂ (λ x (ps : List (List ℕ)). cond x ((10 ∷ []) ∷ ps) (prepend (10 ∷ []) ps)) (line_end_breaks (13 ∷ []) (cs ++ [])) (rest_fresh (10 ∷ (13 ∷ [])) cs (line_end_breaks (13 ∷ []) cs)))
    ∙ ap₂ (λ x y. (x ++ (y ++ [])) ∷ map encode_utf8_all (cut breaks [] cs [])) (encode_ascii 13 (omega arith)) (encode_ascii 10 (omega arith))

pub first_line_end : (text one rest : List ℕ) → IsUtf8 text → begins_line_end text ≡ true → one ≡ take 2 text → rest ≡ drop 2 text → first.IsFirst text one rest
first_line_end [] one rest u h a b = absurd cc
first_line_end (c ∷ []) one rest u h a b = absurd cc
first_line_end (c ∷ (d ∷ text)) one rest u h a b =
    let parts = and_parts (c == 13) (d == 10) h in
    let is_cr : c ≡ 13 = eqb-true c 13 parts.0 in
    let is_lf : d ≡ 10 = eqb-true d 10 parts.1 in
    let same : c ∷ (d ∷ text) ≡ 13 ∷ (10 ∷ text) = ap₂ (λ x y. x ∷ (y ∷ text)) is_cr is_lf in
    let v : IsUtf8 (13 ∷ (10 ∷ text)) = subst IsUtf8 same u in
    let later : IsUtf8 text = IsUtf8-past_ascii 10 text (IsUtf8-past_ascii 13 (10 ∷ text) v (omega arith)) (omega arith) in
    let front : one ≡ 13 ∷ (10 ∷ []) = a ∙ ap₂ (λ x y. x ∷ (y ∷ [])) is_cr is_lf in
    rw (front, b) (first_before (c ∷ (d ∷ text)) (13 ∷ (10 ∷ [])) text u later (ap (graphemes true) same ∙ graphemes_line_end text v))

line_end_is : (text : List ℕ) → begins_line_end text ≡ true → 13 ∷ (10 ∷ []) ≡ take 2 text
line_end_is [] h = absurd cc
line_end_is (c ∷ []) h = absurd cc
line_end_is (c ∷ (d ∷ text)) h =
    let parts = and_parts (c == 13) (d == 10) h in
    sym (ap₂ (λ x y. x ∷ (y ∷ [])) (eqb-true c 13 parts.0) (eqb-true d 10 parts.1))

pub line_end_before : (text rest : List ℕ) → IsUtf8 text → begins_line_end text ≡ true → rest ≡ drop 2 text → first.IsFirst text (13 ∷ (10 ∷ [])) rest
line_end_before text rest u h b = first_line_end text (13 ∷ (10 ∷ [])) rest u h (line_end_is text h) b

pub boundary_after_line_end : (text : List ℕ) → IsUtf8 text → begins_line_end text ≡ true → IsCharBoundary text 2
boundary_after_line_end [] u h = absurd cc
boundary_after_line_end (c ∷ []) u h = absurd cc
boundary_after_line_end (c ∷ (d ∷ text)) u h =
    let is_lf : d ≡ 10 = eqb-true d 10 (and_parts (c == 13) (d == 10) h).1 in
    IsCharBoundary-after_ascii (c ∷ (d ∷ text)) 1 u (omega arith) (omega arith)

-- ---- a character with a simple one after it

not_line_end : (text rest cs : List ℕ) (c q : ℕ) → text ≡ encode_utf8 c ++ rest → rest ≡ encode_utf8 q ++ cs → begins_line_end text ≡ false → (c == 13 && q == 10) ≡ false
not_line_end text rest cs c q split later apart = elim (cases_Bool (c == 13 && q == 10)) [
  | inr f ↦ f
  | inl t ↦
      let parts = and_parts (c == 13) (q == 10) t in
      let front : encode_utf8 c ≡ 13 ∷ [] = ap encode_utf8 (eqb-true c 13 parts.0) ∙ encode_ascii 13 (omega arith) in
      let next : encode_utf8 q ≡ 10 ∷ [] = ap encode_utf8 (eqb-true q 10 parts.1) ∙ encode_ascii 10 (omega arith) in
      let whole : text ≡ 13 ∷ (10 ∷ cs) = split ∙ ap₂ ◌++◌ front (later ∙ ap (λ t. t ++ cs) next) in
      absurd (true≢false (sym (ap begins_line_end whole) ∙ apart))
]

simple_ends : (text rest cs : List ℕ) (c : ℕ) → text ≡ encode_utf8 c ++ rest → begins_line_end text ≡ false → is_simple c ≡ true → rest ≡ encode_utf8_all cs → begins_simple cs ≡ true → breaks (c ∷ []) cs ≡ true
simple_ends text rest [] c split apart h e k = breaks-end c []
simple_ends text rest (q ∷ cs) c split apart h e k = simple_breaks c [] q cs h k (not_line_end text rest (encode_utf8_all cs) c q split e apart)

first_char : (text one rest : List ℕ) (c : ℕ) → IsUtf8 text → begins_line_end text ≡ false → text ≡ encode_utf8 c ++ rest → one ≡ encode_utf8 c → is_simple c ≡ true → begins_simple (chars rest) ≡ true → first.IsFirst text one rest
first_char text one rest c u apart split front h k =
    let later : IsUtf8 rest = IsUtf8-past_char text rest c u split in
    let ends : breaks (c ∷ []) (chars rest) ≡ true = simple_ends text rest (chars rest) c split apart h (sym (encodes-chars rest later)) k in
    first_before text one rest u later (graphemes_past_char text rest c u split ends ∙ ap (λ g. g ∷ graphemes true rest) (sym front))

-- the front of a text is its first character
pub record IsCharFront (text : List ℕ) (c n : ℕ) : Type 0 where
  pub rest : List ℕ
  pub split : text ≡ encode_utf8 c ++ rest
  pub len : n ≡ length (encode_utf8 c)

pub boundary_after_char : (text : List ℕ) (c n : ℕ) → IsUtf8 text → IsCharFront text c n → IsCharBoundary text n
boundary_after_char text c n u front =
    subst (IsCharBoundary text) (sym front.len) (IsCharBoundary-at_seam text (encode_utf8 c) front.rest front.split (IsUtf8-past_char text front.rest c u front.split))

pub first_simple : (text one rest : List ℕ) (c n : ℕ) → IsUtf8 text → begins_line_end text ≡ false → IsCharFront text c n → one ≡ take n text → rest ≡ drop n text → is_simple c ≡ true → begins_simple (chars rest) ≡ true → first.IsFirst text one rest
first_simple text one rest c n u apart front a b h k =
    let one_is : one ≡ encode_utf8 c = a ∙ ap₂ take front.len front.split ∙ take-append_seam (encode_utf8 c) front.rest in
    let rest_is : rest ≡ front.rest = b ∙ ap₂ drop front.len front.split ∙ drop-append_seam (encode_utf8 c) front.rest in
    first_char text one rest c u apart (front.split ∙ ap (λ t. encode_utf8 c ++ t) (sym rest_is)) one_is h k
