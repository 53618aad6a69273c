-- The line feeds of texts. A clean grapheme has none: a line feed, alone or after a CR, is shown as
-- a space.
use Rattle.std.proofs.Common.{◌≡◌, ◌⊎◌, ℕ, ◌+◌, ◌≤◌, ◌<◌, Bool, true, false, cond, not, ◌||◌, ◌==◌, nat_le, inl, inr, zero, suc, List, [], ◌∷◌, ◌++◌, length, get_or, map, unwrap_or, refl, sym, ap, ap₂, subst, ◌∙◌, append-nil, arith}
use Rattle.std.proofs.lemmas.Bool.{and_parts, cases_Bool, eqb-true, leb-true, ne_eqb, true≢false}
use Rattle.std.proofs.lemmas.Str.{NoCharPasses-byte, encode_ascii}
use Rattle.std.specs.Int.{is_in_range}
use Rattle.std.specs.List.{concat, list_all}
use Rattle.std.specs.Prelude.{encode_utf8_all}
use Rattle.std.specs.Str.{NoCharPasses, NonePass, chars}
use Rattle.ucd_breaks.specs.GraphemeClusterBreak.{grapheme_cluster_break}
use Rattle.ucd_breaks.specs.declared.GraphemeClusterBreak.{GraphemeClusterBreak}
use Rattle.ucd_breaks.specs.declared.GraphemeClusterBreak.TheVariants.{Control, Cr, Extend, L, Lf, Lv, Lvt, Other, Prepend, RegionalIndicator, SpacingMark, T, V, Zwj}
use Rattle.ucd_breaks.proofs.GraphemeClusterBreakLemmas.{grapheme_cluster_break_stepped}
use Rattle.ucd_table.proofs.Computing.{tables}
use Rattle.ucd_table.proofs.Facts.{Stepped-everywhere}
use Rattle.ucd_table.proofs.Stepped.{Stepped, of_ranges, zip_stepped}
use Rattle.ucd_table.proofs.StepsLemmas.{rises_from}
use Rattle.ucd_table.specs.Rows.{Range, in_ranges}
use Rattle.unicode_segmentation.specs.Grapheme.{break_by_pair, graphemes, is_grapheme_break, joins_conjunct, joins_emoji, joins_flag}
use Rattle.unicode_segmentation.specs.Segments.{cut, prepend, segments}
use Rattle.termwiz_cell.specs.CellValue.{clean}
use Rattle.termwiz_text.specs.Plain.{IsPlainRun, is_plain}
use Rattle.termwiz_text.proofs.Boundaries.{breaks}
use Rattle.termwiz_text.proofs.Pieces.{concat_cut}
use Rattle.termwiz_text.proofs.Simple.{line_end_breaks, simple_is}
use Rattle.termwiz_wire.specs.Work.{line_feeds}

-- ---- the only character that may stand before a line feed in a grapheme

abbrev is_cr : GraphemeClusterBreak → Bool
is_cr Cr = true
is_cr _ = false

abbrev cr_range : List Range
cr_range = (13, 13) ∷ []

unfoldable cr_stepped : Stepped (in_ranges cr_range)
unfolding rises_from
cr_stepped = of_ranges cr_range refl

cr_passes : (c : ℕ) → (in_ranges cr_range c || not (is_cr (grapheme_cluster_break c))) ≡ true
unfolding tables grapheme_cluster_break_stepped cr_stepped
cr_passes = Stepped-everywhere (λ c. in_ranges cr_range c || not (is_cr (grapheme_cluster_break c))) (zip_stepped (λ inside g. inside || not (is_cr g)) (in_ranges cr_range) grapheme_cluster_break cr_stepped grapheme_cluster_break_stepped) refl

in_cr_range : (c : ℕ) → in_ranges cr_range c ≡ true → c ≡ 13
unfolding in_ranges
in_cr_range c is =
    let parts = and_parts (nat_le 13 c) (nat_le c 13) (sym (or_none (is_in_range 13 13 c)) ∙ is) in
    let low : 13 ≤ c = leb-true 13 c parts.0 in
    let high : c ≤ 13 = leb-true c 13 parts.1 in
    omega arith
  where
    or_none : (b : Bool) → (b || false) ≡ b
    or_none true = refl
    or_none false = refl

cr_is : (c : ℕ) → is_cr (grapheme_cluster_break c) ≡ true → c ≡ 13
cr_is c is = in_cr_range c (either (in_ranges cr_range c) (is_cr (grapheme_cluster_break c)) (cr_passes c) is)
  where
    either : (a b : Bool) → (a || not b) ≡ true → b ≡ true → a ≡ true
    either true b e h = refl
    either false true e h = absurd cc
    either false false e h = absurd cc

abbrev by_pair : Bool → GraphemeClusterBreak → GraphemeClusterBreak → Bool
by_pair rest a b = unwrap_or (break_by_pair true a b) rest

-- before a line feed there is a boundary, but after a CR
pair_feed : (a : GraphemeClusterBreak) (rest : Bool) → by_pair rest a Lf ≡ false → is_cr a ≡ true
pair_feed Cr rest e = refl
pair_feed a rest e = cc

-- before a CR there is always one
pair_return : (a : GraphemeClusterBreak) (rest : Bool) → by_pair rest a Cr ≡ true
pair_return Control rest = refl
pair_return Cr rest = refl
pair_return Lf rest = refl
pair_return Extend rest = refl
pair_return L rest = refl
pair_return Lv rest = refl
pair_return Lvt rest = refl
pair_return Prepend rest = refl
pair_return RegionalIndicator rest = refl
pair_return SpacingMark rest = refl
pair_return T rest = refl
pair_return V rest = refl
pair_return Other rest = refl
pair_return Zwj rest = refl

abbrev further : ℕ → List ℕ → ℕ → Bool
further p before q = not (joins_conjunct (p ∷ before) q || joins_emoji (p ∷ before) q || joins_flag (p ∷ before) q)

feed_value : grapheme_cluster_break 10 ≡ Lf
feed_value = (simple_is 10 refl).value

return_value : grapheme_cluster_break 13 ≡ Cr
return_value = (simple_is 13 refl).value

feed_behind : (p : ℕ) (before after : List ℕ) → breaks (p ∷ before) (10 ∷ after) ≡ false → p ≡ 13
unfolding is_grapheme_break
feed_behind p before after e = cr_is p (pair_feed (grapheme_cluster_break p) (further p before 10) (sym (ap (by_pair (further p before 10) (grapheme_cluster_break p)) feed_value) ∙ e))

return_breaks : (p : ℕ) (before after : List ℕ) → breaks (p ∷ before) (13 ∷ after) ≡ true
unfolding is_grapheme_break
return_breaks p before after = ap (by_pair (further p before 13) (grapheme_cluster_break p)) return_value ∙ pair_return (grapheme_cluster_break p) (further p before 13)

-- ---- the characters of one grapheme

abbrev is_feed : ℕ → Bool
is_feed c = c == 10

-- none is a line feed, or it is one, or a CR LF
abbrev HasNone : List ℕ → Type 0
HasNone cs = NonePass is_feed cs ⊎ (cs ≡ 10 ∷ []) ⊎ (cs ≡ 13 ∷ (10 ∷ []))

-- what follows the first character of a piece is a piece
rest_alone : (b : Bool) (c d : ℕ) (ds : List ℕ) (rest : List (List ℕ)) → cond b ((c ∷ []) ∷ rest) (prepend (c ∷ []) rest) ≡ (c ∷ (d ∷ ds)) ∷ [] → (b ≡ false) × (rest ≡ (d ∷ ds) ∷ [])
rest_alone true c d ds rest e = absurd cc
rest_alone false c d ds [] e = absurd cc
rest_alone false c d ds (p ∷ ps) e = (refl, cc)

other_first : (before : List ℕ) (c : ℕ) (q : List ℕ) → breaks (c ∷ before) q ≡ false → is_feed c ≡ false
other_first before c q apart = elim (cases_Bool (is_feed c)) [
  | inr isnt ↦ isnt
  | inl is ↦ absurd (true≢false (sym (line_end_breaks before q) ∙ ap (λ (k : ℕ). breaks (k ∷ before) q) (sym (eqb-true c 10 is)) ∙ apart))
]

has_none : (before : List ℕ) (c : ℕ) (cs : List ℕ) → cut breaks before (c ∷ cs) [] ≡ (c ∷ cs) ∷ [] → HasNone (c ∷ cs)
unfolding cut
has_none before c [] e = elim (cases_Bool (is_feed c)) [
  | inr isnt ↦ inl (isnt, tt)
  | inl is ↦ inr (inl (ap (λ (k : ℕ). k ∷ []) (eqb-true c 10 is)))
]
has_none before c (d ∷ ds) e =
    let parts = rest_alone (breaks (c ∷ before) ((d ∷ ds) ++ [])) c d ds (cut breaks (c ∷ before) (d ∷ ds) []) e in
    let apart : breaks (c ∷ before) (d ∷ ds) ≡ false = ap (breaks (c ∷ before)) (sym (append-nil (d ∷ ds))) ∙ parts.0 in
    elim (has_none (c ∷ before) d ds parts.1) [
      | inl none ↦ inl (other_first before c (d ∷ ds) apart, none)
      | inr (inl feed) ↦
          let is : c ≡ 13 = feed_behind c before [] (ap (breaks (c ∷ before)) (sym feed) ∙ apart) in
          inr (inr (ap₂ (λ (k : ℕ) (ks : List ℕ). k ∷ ks) is feed))
      | inr (inr both) ↦ absurd (true≢false (sym (return_breaks c before (10 ∷ [])) ∙ ap (breaks (c ∷ before)) (sym both) ∙ apart))
    ]

-- ---- a clean grapheme

one_piece : (pieces : List (List ℕ)) (text : List ℕ) → map encode_utf8_all pieces ≡ text ∷ [] → (p : List ℕ) × (pieces ≡ p ∷ []) × (encode_utf8_all p ≡ text)
one_piece [] text e = absurd cc
one_piece (p ∷ []) text e = (p, refl, cc)
one_piece (p ∷ (q ∷ ps)) text e = absurd cc

ascii_pair : encode_utf8_all (13 ∷ (10 ∷ [])) ≡ 13 ∷ (10 ∷ [])
ascii_pair = ap₂ (λ (x y : List ℕ). x ++ (y ++ [])) (encode_ascii 13 (omega arith)) (encode_ascii 10 (omega arith))

ascii_feed : encode_utf8_all (10 ∷ []) ≡ 10 ∷ []
ascii_feed = ap (λ (x : List ℕ). x ++ []) (encode_ascii 10 (omega arith))

not_feed : clean (10 ∷ []) ≡ 10 ∷ [] → ⊥
not_feed e = cc

not_pair : clean (13 ∷ (10 ∷ [])) ≡ 13 ∷ (10 ∷ []) → ⊥
not_pair e = cc

no_char : (text p : List ℕ) → encode_utf8_all p ≡ text → clean text ≡ text → cut breaks [] p [] ≡ p ∷ [] → NoCharPasses is_feed text
no_char text [] is same alone = ([], is, tt)
no_char text (c ∷ cs) is same alone = elim (has_none [] c cs alone) [
  | inl none ↦ (c ∷ cs, is, none)
  | inr (inl feed) ↦ absurd (not_feed (subst (λ (t : List ℕ). clean t ≡ t) (sym is ∙ ap encode_utf8_all feed ∙ ascii_feed) same))
  | inr (inr both) ↦ absurd (not_pair (subst (λ (t : List ℕ). clean t ≡ t) (sym is ∙ ap encode_utf8_all both ∙ ascii_pair) same))
]

none_passes : (text : List ℕ) → graphemes true text ≡ text ∷ [] → clean text ≡ text → NoCharPasses is_feed text
unfolding segments
none_passes text alone same =
    let one = one_piece (cut breaks [] (chars text) []) text alone in
    let whole : concat (cut breaks [] (chars text) []) ≡ chars text = concat_cut [] (chars text) in
    let is : one.0 ≡ chars text = sym (append-nil one.0) ∙ sym (ap concat one.1) ∙ whole in
    no_char text one.0 one.2 same (ap (λ (cs : List ℕ). cut breaks [] cs []) is ∙ one.1)

-- bytes of which none is a line feed
no_bytes : (text : List ℕ) → ((i : ℕ) → i < length text → is_feed (get_or text i 0) ≡ false) → line_feeds text ≡ 0
no_bytes [] none = refl
no_bytes (b ∷ bs) none =
    let first : is_feed b ≡ false = none zero (omega arith) in
    let rest : line_feeds bs ≡ 0 = no_bytes bs (λ i lt. none (suc i) (omega (arith, lt))) in
    ap₂ (λ (x : Bool) (n : ℕ). cond x 1 0 + n) first rest

no_byte : (text : List ℕ) → NoCharPasses is_feed text → (i : ℕ) → i < length text → is_feed (get_or text i 0) ≡ false
no_byte text none i lt = elim (cases_Bool (is_feed (get_or text i 0))) [
  | inr isnt ↦ isnt
  | inl is ↦ let byte : get_or text i 0 ≡ 10 = eqb-true (get_or text i 0) 10 is in NoCharPasses-byte is_feed text i none lt (omega (arith, byte))
]

pub clean_feeds : (text : List ℕ) → graphemes true text ≡ text ∷ [] → clean text ≡ text → line_feeds text ≡ 0
clean_feeds text alone same = no_bytes text (no_byte text (none_passes text alone same))

-- ---- texts

pub feeds-append : (a b : List ℕ) → line_feeds (a ++ b) ≡ line_feeds a + line_feeds b
feeds-append [] b = omega arith
feeds-append (x ∷ a) b =
    let rest : line_feeds (a ++ b) ≡ line_feeds a + line_feeds b = feeds-append a b in
    omega (arith, rest)

-- printable ASCII has none
plain_none : (run : List ℕ) → list_all is_plain run ≡ true → line_feeds run ≡ 0
plain_none [] plain = refl
plain_none (c ∷ cs) plain =
    let parts = and_parts (is_plain c) (list_all is_plain cs) plain in
    let low : 32 ≤ c = leb-true 32 c (and_parts (nat_le 32 c) (nat_le c 126) parts.0).0 in
    let first : is_feed c ≡ false = ne_eqb c 10 (λ same. omega arith) in
    ap₂ (λ (x : Bool) (n : ℕ). cond x 1 0 + n) first (plain_none cs parts.1)

pub behind_plain : (text : List ℕ) (limit : ℕ) (run rest : List ℕ) → IsPlainRun text limit run rest → line_feeds rest ≡ line_feeds text
behind_plain text limit run rest is =
    let whole : line_feeds (run ++ rest) ≡ line_feeds text = ap line_feeds is.whole in
    omega (arith, whole, feeds-append run rest, plain_none run is.plain)
