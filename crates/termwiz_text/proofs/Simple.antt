-- Characters that the rules on graphemes leave apart: between two of them there is a boundary, but for a CR before an LF.
use Rattle.std.proofs.Common.{◌≡◌, ℕ, ◌<◌, ◌≤◌, Bool, true, false, cond, not, ◌&&◌, ◌||◌, ◌==◌, inl, inr, List, [], ◌∷◌, map, unwrap_or, eqb-true, refl, sym, ap, ap₂, ◌∙◌, arith}
use Rattle.std.proofs.Math.Bool.{or-true}
use Rattle.std.proofs.lemmas.Bool.{and_right, or_cases, not-true, ne_eqb, ltb-true}
use Rattle.std.specs.Char.{is_ascii}
use Rattle.ucd_table.proofs.Computing.{tables}
use Rattle.ucd_table.proofs.Facts.{Stepped-below}
use Rattle.ucd_breaks.specs.GraphemeClusterBreak.{grapheme_cluster_break, grapheme_cluster_break_eq}
use Rattle.ucd_breaks.specs.declared.GraphemeClusterBreak.{GraphemeClusterBreak}
use Rattle.ucd_breaks.specs.declared.GraphemeClusterBreak.TheVariants.{Control, Cr, Lf, Other}
use Rattle.ucd_breaks.proofs.GraphemeClusterBreakLemmas.{grapheme_cluster_break_stepped, grapheme_cluster_break_number_injective}
use Rattle.ucd_derived.specs.IndicConjunctBreak.{indic_conjunct_break}
use Rattle.ucd_derived.proofs.IndicConjunctBreakLemmas.{indic_conjunct_break_stepped}
use Rattle.ucd_emoji.specs.Binary.{is_extended_pictographic}
use Rattle.unicode_segmentation.specs.Grapheme.{break_by_pair, is_consonant, is_zwj, is_regional, ends_in_linker, ends_in_pictograph, ends_in_half_flag, joins_conjunct, joins_emoji, joins_flag, is_grapheme_break}
use Rattle.termwiz_text.specs.Plain.{is_plain}
use Rattle.termwiz_text.specs.Letter.{is_letter, is_narrow, is_simple}
use Rattle.termwiz_text.proofs.Boundaries.{breaks}
use Rattle.termwiz_text.proofs.Letters.{letters_stepped, Stepped-letters, letter_from, narrow_stepped, Stepped-narrow, narrow_from}

-- ---- what the tables say of them

-- the value of a character that is a CR, an LF, a printable one or another control
abbrev pub value_by : Bool → Bool → Bool → GraphemeClusterBreak
value_by cr lf printable = cond cr Cr (cond lf Lf (cond printable Other Control))

abbrev simple_value : ℕ → GraphemeClusterBreak
simple_value c = value_by (c == 13) (c == 10) (is_plain c || is_letter c || is_narrow c)

pub record IsSimple (c : ℕ) : Type 0 where
  pub value : grapheme_cluster_break c ≡ simple_value c
  pub no_consonant : is_consonant (indic_conjunct_break c) ≡ false

ascii_value_passes : (c : ℕ) → c < 128 → grapheme_cluster_break_eq (grapheme_cluster_break c) (simple_value c) ≡ true
unfolding tables grapheme_cluster_break_stepped
ascii_value_passes = Stepped-below grapheme_cluster_break grapheme_cluster_break_stepped (λ c v. grapheme_cluster_break_eq v (simple_value c)) 128 refl

ascii_no_consonant : (c : ℕ) → c < 128 → not (is_consonant (indic_conjunct_break c)) ≡ true
unfolding tables indic_conjunct_break_stepped
ascii_no_consonant = Stepped-below indic_conjunct_break indic_conjunct_break_stepped (λ _ v. not (is_consonant v)) 128 refl

simple_ascii : (c : ℕ) → c < 128 → IsSimple c
simple_ascii c l = record {
  value = grapheme_cluster_break_number_injective _ _ (eqb-true _ _ (ascii_value_passes c l));
  no_consonant = not-true _ (ascii_no_consonant c l);
}

letter_other : (c : ℕ) → is_letter c ≡ true → grapheme_cluster_break_eq (grapheme_cluster_break c) Other ≡ true
unfolding tables grapheme_cluster_break_stepped letters_stepped
letter_other = Stepped-letters grapheme_cluster_break grapheme_cluster_break_stepped (λ g. grapheme_cluster_break_eq g Other) refl

letter_no_consonant : (c : ℕ) → is_letter c ≡ true → not (is_consonant (indic_conjunct_break c)) ≡ true
unfolding tables indic_conjunct_break_stepped letters_stepped
letter_no_consonant = Stepped-letters indic_conjunct_break indic_conjunct_break_stepped (λ v. not (is_consonant v)) refl

narrow_other : (c : ℕ) → is_narrow c ≡ true → grapheme_cluster_break_eq (grapheme_cluster_break c) Other ≡ true
unfolding tables grapheme_cluster_break_stepped narrow_stepped
narrow_other = Stepped-narrow grapheme_cluster_break grapheme_cluster_break_stepped (λ g. grapheme_cluster_break_eq g Other) refl

narrow_no_consonant : (c : ℕ) → is_narrow c ≡ true → not (is_consonant (indic_conjunct_break c)) ≡ true
unfolding tables indic_conjunct_break_stepped narrow_stepped
narrow_no_consonant = Stepped-narrow indic_conjunct_break indic_conjunct_break_stepped (λ v. not (is_consonant v)) refl

-- a character beyond ASCII of which the tables say no more
simple_other : (c : ℕ) → 0xA1 ≤ c → (is_plain c || is_letter c || is_narrow c) ≡ true → grapheme_cluster_break_eq (grapheme_cluster_break c) Other ≡ true → not (is_consonant (indic_conjunct_break c)) ≡ true → IsSimple c
simple_other c from printable other none =
    record {
      value =
          grapheme_cluster_break_number_injective _ _ (eqb-true _ _ other)
          ∙ sym (ap₂ (λ a b. value_by a b (is_plain c || is_letter c || is_narrow c)) (ne_eqb c 13 (omega arith)) (ne_eqb c 10 (omega arith)) ∙ ap (value_by false false) printable);
      no_consonant = not-true _ none;
    }

simple_letter : (c : ℕ) → is_letter c ≡ true → IsSimple c
simple_letter c h =
    let from = letter_from c h in
    simple_other c (omega arith) (ap (λ b. is_plain c || b || is_narrow c) h ∙ ap (λ b. b || is_narrow c) (or-true (is_plain c))) (letter_other c h) (letter_no_consonant c h)

simple_narrow : (c : ℕ) → is_narrow c ≡ true → IsSimple c
simple_narrow c h = simple_other c (narrow_from c h) (ap (λ b. is_plain c || is_letter c || b) h ∙ or-true (is_plain c || is_letter c)) (narrow_other c h) (narrow_no_consonant c h)

pub simple_is : (c : ℕ) → is_simple c ≡ true → IsSimple c
simple_is c h = elim (or_cases (is_ascii c || is_letter c) (is_narrow c) h) [
  | inl some ↦ elim (or_cases (is_ascii c) (is_letter c) some) [
    | inl a ↦ simple_ascii c (ltb-true c 128 a)
    | inr l ↦ simple_letter c l
  ]
  | inr n ↦ simple_narrow c n
]

-- ---- the boundary between them

abbrev by_pair : Bool → GraphemeClusterBreak → GraphemeClusterBreak → Bool
by_pair rest a b = unwrap_or (break_by_pair true a b) rest

-- only a CR before an LF is joined by the rules on pairs, and only two printable ones are left to the other rules
pair_breaks : (rest cr lf printable cr' lf' printable' : Bool) → (cr && lf') ≡ false
    → (value_by cr lf printable ≡ Other → value_by cr' lf' printable' ≡ Other → by_pair rest (value_by cr lf printable) (value_by cr' lf' printable') ≡ true)
    → by_pair rest (value_by cr lf printable) (value_by cr' lf' printable') ≡ true
pair_breaks rest true lf p true lf' p' e k = refl
pair_breaks rest true lf p false true p' e k = absurd cc
pair_breaks rest true lf p false false true e k = refl
pair_breaks rest true lf p false false false e k = refl
pair_breaks rest false true p cr' lf' p' e k = refl
pair_breaks rest false false false cr' lf' p' e k = refl
pair_breaks rest false false true true lf' p' e k = refl
pair_breaks rest false false true false true p' e k = refl
pair_breaks rest false false true false false false e k = refl
pair_breaks rest false false true false false true e k = k refl refl

others_break : (p : ℕ) (before : List ℕ) (q : ℕ) (after : List ℕ) → grapheme_cluster_break p ≡ Other → grapheme_cluster_break q ≡ Other → is_consonant (indic_conjunct_break q) ≡ false → breaks (p ∷ before) (q ∷ after) ≡ true
unfolding is_grapheme_break
others_break p before q after left right none =
    let conjunct : joins_conjunct (p ∷ before) q ≡ false = and_right (ends_in_linker (map indic_conjunct_break (p ∷ before))) _ none in
    let emoji : joins_emoji (p ∷ before) q ≡ false = ap (λ b. b && ends_in_pictograph before && is_extended_pictographic q) (ap is_zwj left) in
    let flag : joins_flag (p ∷ before) q ≡ false = and_right (ends_in_half_flag (p ∷ before)) _ (ap is_regional right) in
    ap₂ (by_pair (not (joins_conjunct (p ∷ before) q || joins_emoji (p ∷ before) q || joins_flag (p ∷ before) q))) left right
    ∙ ap not (ap₂ ◌||◌ (ap₂ ◌||◌ conjunct emoji) flag)

pub simple_breaks : (p : ℕ) (before : List ℕ) (q : ℕ) (after : List ℕ) → is_simple p ≡ true → is_simple q ≡ true → (p == 13 && q == 10) ≡ false → breaks (p ∷ before) (q ∷ after) ≡ true
unfolding is_grapheme_break
simple_breaks p before q after a b e =
    let left : IsSimple p = simple_is p a in
    let right : IsSimple q = simple_is q b in
    let rest = not (joins_conjunct (p ∷ before) q || joins_emoji (p ∷ before) q || joins_flag (p ∷ before) q) in
    let values : breaks (p ∷ before) (q ∷ after) ≡ by_pair rest (simple_value p) (simple_value q) = ap₂ (by_pair rest) left.value right.value in
    values ∙ pair_breaks rest (p == 13) (p == 10) (is_plain p || is_letter p || is_narrow p) (q == 13) (q == 10) (is_plain q || is_letter q || is_narrow q) e
    (λ l r. sym values ∙ others_break p before q after (left.value ∙ l) (right.value ∙ r) right.no_consonant)

-- so an LF has one after it whatever follows, and a CR before it none
pub line_end_joins : (before after : List ℕ) → breaks (13 ∷ before) (10 ∷ after) ≡ false
unfolding is_grapheme_break
line_end_joins before after =
    ap₂ (by_pair (not (joins_conjunct (13 ∷ before) 10 || joins_emoji (13 ∷ before) 10 || joins_flag (13 ∷ before) 10))) (simple_ascii 13 (omega arith)).value (simple_ascii 10 (omega arith)).value

pub line_end_breaks : (before after : List ℕ) → breaks (10 ∷ before) after ≡ true
unfolding is_grapheme_break
line_end_breaks before [] = refl
line_end_breaks before (q ∷ after) =
    ap (λ a. by_pair (not (joins_conjunct (10 ∷ before) q || joins_emoji (10 ∷ before) q || joins_flag (10 ∷ before) q)) a (grapheme_cluster_break q)) (simple_ascii 10 (omega arith)).value
