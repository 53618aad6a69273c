-- What stands before a boundary between graphemes does not change the cuts after it.
use Rattle.std.proofs.Common.{◌≡◌, ◌≢◌, ℕ, Bool, true, false, cond, not, ◌&&◌, ◌||◌, inl, inr, List, [], ◌∷◌, ◌++◌, map, unwrap_or, refl, sym, ap, ap₂, ◌∙◌}
use Rattle.std.proofs.lemmas.Bool.{cases_Bool, true≢false}
use Rattle.ucd_breaks.specs.GraphemeClusterBreak.{grapheme_cluster_break}
use Rattle.ucd_breaks.specs.declared.GraphemeClusterBreak.{GraphemeClusterBreak}
use Rattle.ucd_breaks.specs.declared.GraphemeClusterBreak.TheVariants.{Control, Cr, Lf, Extend, Zwj, RegionalIndicator}
use Rattle.ucd_derived.specs.IndicConjunctBreak.{indic_conjunct_break}
use Rattle.ucd_derived.specs.declared.IndicConjunctBreak.{IndicConjunctBreak}
use Rattle.ucd_derived.specs.declared.IndicConjunctBreak.TheVariants as InCb
use Rattle.ucd_emoji.specs.Binary.{is_extended_pictographic}
use Rattle.unicode_segmentation.specs.Grapheme.{break_by_pair, ends_in_linker, is_consonant, joins_conjunct, is_extend, is_zwj, is_regional, ends_in_pictograph, joins_emoji, ends_in_half_flag, is_grapheme_break}
use Rattle.unicode_segmentation.specs.Segments.{Rule, cut, prepend}
use Rattle.unicode_segmentation.proofs.GraphemeLemmas.{ends_in_linker-other}
use Rattle.termwiz_text.proofs.Tables.{is_control, clings, fits_conjunct, conjuncts_fit, pictographs_fit}

abbrev pub breaks : Rule
breaks = is_grapheme_break true

-- there is a boundary between the characters before a place, nearest first, and the next one
pub record IsCut (before : List ℕ) (next : ℕ) : Type 0 where
  pub breaks : is_grapheme_break true before (next ∷ []) ≡ true

-- of what follows a place, only the next character matters
pub breaks-next : (before : List ℕ) (next : ℕ) (after : List ℕ) → breaks before (next ∷ after) ≡ breaks before (next ∷ [])
unfolding is_grapheme_break
breaks-next [] next after = refl
breaks-next (last ∷ before) next after = refl

pub breaks-end : (last : ℕ) (before : List ℕ) → breaks (last ∷ before) [] ≡ true
unfolding is_grapheme_break
breaks-end last before = refl

-- ---- the character before a boundary, where the one after it clings

pair_clings : (a b : GraphemeClusterBreak) (r : Bool) → clings b ≡ true → unwrap_or (break_by_pair true a b) r ≡ true → is_control a ≡ true
pair_clings Control b r c h = refl
pair_clings Cr b r c h = refl
pair_clings Lf b r c h = refl
pair_clings a Extend r c h = cc
pair_clings a Zwj r c h = cc
pair_clings a b r c h = cc

control_before : (y : ℕ) (ys : List ℕ) (f : ℕ) → IsCut (y ∷ ys) f → clings (grapheme_cluster_break f) ≡ true → is_control (grapheme_cluster_break y) ≡ true
unfolding is_grapheme_break
control_before y ys f h c = pair_clings (grapheme_cluster_break y) (grapheme_cluster_break f) _ c h.breaks

control_no_cling : (g : GraphemeClusterBreak) → is_control g ≡ true → clings g ≡ false
control_no_cling Control h = refl
control_no_cling Cr h = refl
control_no_cling Lf h = refl
control_no_cling g h = cc

control_no_extend : (g : GraphemeClusterBreak) → is_control g ≡ true → is_extend g ≡ false
control_no_extend Control h = refl
control_no_extend Cr h = refl
control_no_extend Lf h = refl
control_no_extend g h = cc

extend_clings : (g : GraphemeClusterBreak) → is_extend g ≡ true → clings g ≡ true
extend_clings Extend h = refl
extend_clings g h = cc

zwj_clings : (g : GraphemeClusterBreak) → is_zwj g ≡ true → clings g ≡ true
zwj_clings Zwj h = refl
zwj_clings g h = cc

regional_is : (g : GraphemeClusterBreak) → is_regional g ≡ true → g ≡ RegionalIndicator
regional_is RegionalIndicator h = refl
regional_is g h = cc

no_linker : (y : ℕ) → is_control (grapheme_cluster_break y) ≡ true → indic_conjunct_break y ≢ InCb.Linker
no_linker y h e = true≢false (sym (sym (ap (fits_conjunct (grapheme_cluster_break y)) e) ∙ conjuncts_fit y) ∙ ap not h)

no_extend : (y : ℕ) → is_control (grapheme_cluster_break y) ≡ true → indic_conjunct_break y ≢ InCb.Extend
no_extend y h e = true≢false (sym (sym (ap (fits_conjunct (grapheme_cluster_break y)) e) ∙ conjuncts_fit y) ∙ control_no_cling (grapheme_cluster_break y) h)

not_and : (a b : Bool) → not (a && b) ≡ true → a ≡ true → b ≡ false
not_and true true h a = cc
not_and true false h a = refl
not_and false b h a = cc

no_pictograph : (y : ℕ) → is_control (grapheme_cluster_break y) ≡ true → is_extended_pictographic y ≡ false
no_pictograph y h = not_and (is_control (grapheme_cluster_break y)) (is_extended_pictographic y) (pictographs_fit y) h

-- ---- the rules that look back, after a boundary

linker_closed : (ys : List ℕ) (f : ℕ) → IsCut ys f → clings (grapheme_cluster_break f) ≡ true → ends_in_linker (map indic_conjunct_break ys) ≡ false
unfolding ends_in_linker
linker_closed [] f h c = refl
linker_closed (y ∷ ys) f h c =
    let control = control_before y ys f h c in
    ends_in_linker-other (indic_conjunct_break y) (map indic_conjunct_break ys) (no_linker y control) (no_extend y control)

pictograph_closed : (ys : List ℕ) (f : ℕ) → IsCut ys f → clings (grapheme_cluster_break f) ≡ true → ends_in_pictograph ys ≡ false
unfolding ends_in_pictograph
pictograph_closed [] f h c = refl
pictograph_closed (y ∷ ys) f h c =
    let control = control_before y ys f h c in
    ap₂ (λ p e. p || (e && ends_in_pictograph ys)) (no_pictograph y control) (control_no_extend (grapheme_cluster_break y) control)

last_false : (a c h : Bool) → not (a || c || (h && true)) ≡ true → h ≡ false
last_false a c false h = refl
last_false true c true h = cc
last_false false true true h = cc
last_false false false true h = cc

flag_closed : (ys : List ℕ) (f : ℕ) → IsCut ys f → is_regional (grapheme_cluster_break f) ≡ true → ends_in_half_flag ys ≡ false
unfolding is_grapheme_break ends_in_half_flag
flag_closed [] f h r = refl
flag_closed (y ∷ ys) f h r = elim (cases_Bool (is_regional (grapheme_cluster_break y))) [
  | inl t ↦
      last_false (joins_conjunct (y ∷ ys) f) (joins_emoji (y ∷ ys) f) (ends_in_half_flag (y ∷ ys))
      (sym (ap₂ (λ a b. unwrap_or (break_by_pair true a b) (not (joins_conjunct (y ∷ ys) f || joins_emoji (y ∷ ys) f || (ends_in_half_flag (y ∷ ys) && is_regional b))))
      (regional_is _ t) (regional_is _ r)) ∙ h.breaks)
  | inr n ↦ ap (λ b. b && not (ends_in_half_flag ys)) n
]

-- ---- what stands before the boundary does not change a later rule

linker_step : (v : IndicConjunctBreak) (us vs : List IndicConjunctBreak) → ends_in_linker us ≡ ends_in_linker vs → ends_in_linker (v ∷ us) ≡ ends_in_linker (v ∷ vs)
unfolding ends_in_linker
linker_step InCb.Linker us vs e = refl
linker_step InCb.Extend us vs e = e
linker_step v us vs e = refl

linker_first : (v : IndicConjunctBreak) (g : GraphemeClusterBreak) (vs : List IndicConjunctBreak) → fits_conjunct g v ≡ true → (clings g ≡ true → ends_in_linker vs ≡ false) → ends_in_linker (v ∷ vs) ≡ ends_in_linker (v ∷ [])
unfolding ends_in_linker
linker_first InCb.Linker g vs h k = refl
linker_first InCb.Extend g vs h k = k h
linker_first v g vs h k = refl

module _ (f : ℕ) (ys : List ℕ) (h : IsCut ys f) where
  linker-fresh : (xs : List ℕ) → ends_in_linker (map indic_conjunct_break (xs ++ f ∷ ys)) ≡ ends_in_linker (map indic_conjunct_break (xs ++ f ∷ []))
  linker-fresh [] = linker_first (indic_conjunct_break f) (grapheme_cluster_break f) (map indic_conjunct_break ys) (conjuncts_fit f) (linker_closed ys f h)
  linker-fresh (x ∷ xs) = linker_step (indic_conjunct_break x) _ _ (linker-fresh xs)

  pictograph-fresh : (xs : List ℕ) → ends_in_pictograph (xs ++ f ∷ ys) ≡ ends_in_pictograph (xs ++ f ∷ [])
  unfolding ends_in_pictograph
  pictograph-fresh [] = elim (cases_Bool (is_extend (grapheme_cluster_break f))) [
    | inl t ↦ ap (λ b. is_extended_pictographic f || (is_extend (grapheme_cluster_break f) && b)) (pictograph_closed ys f h (extend_clings _ t))
    | inr n ↦ ap (λ b. is_extended_pictographic f || (b && ends_in_pictograph ys)) n ∙ sym (ap (λ b. is_extended_pictographic f || (b && false)) n)
  ]
  pictograph-fresh (x ∷ xs) = ap (λ b. is_extended_pictographic x || (is_extend (grapheme_cluster_break x) && b)) (pictograph-fresh xs)

  emoji-fresh : (xs : List ℕ) (next : ℕ) → joins_emoji (xs ++ f ∷ ys) next ≡ joins_emoji (xs ++ f ∷ []) next
  unfolding ends_in_pictograph
  emoji-fresh [] next = elim (cases_Bool (is_zwj (grapheme_cluster_break f))) [
    | inl t ↦ ap (λ b. is_zwj (grapheme_cluster_break f) && b && is_extended_pictographic next) (pictograph_closed ys f h (zwj_clings _ t))
    | inr n ↦ ap (λ b. b && ends_in_pictograph ys && is_extended_pictographic next) n ∙ sym (ap (λ b. b && false && is_extended_pictographic next) n)
  ]
  emoji-fresh (x ∷ xs) next = ap (λ b. is_zwj (grapheme_cluster_break x) && b && is_extended_pictographic next) (pictograph-fresh xs)

  flag-fresh : (xs : List ℕ) → ends_in_half_flag (xs ++ f ∷ ys) ≡ ends_in_half_flag (xs ++ f ∷ [])
  unfolding ends_in_half_flag
  flag-fresh [] = elim (cases_Bool (is_regional (grapheme_cluster_break f))) [
    | inl t ↦ ap (λ b. is_regional (grapheme_cluster_break f) && not b) (flag_closed ys f h t)
    | inr n ↦ ap (λ b. b && not (ends_in_half_flag ys)) n ∙ sym (ap (λ b. b && true) n)
  ]
  flag-fresh (x ∷ xs) = ap (λ b. is_regional (grapheme_cluster_break x) && not b) (flag-fresh xs)

  rule_at : ℕ → ℕ → Bool → Bool → Bool → Bool
  rule_at last next l e r =
      unwrap_or (break_by_pair true (grapheme_cluster_break last) (grapheme_cluster_break next))
      (not ((l && is_consonant (indic_conjunct_break next)) || e || (r && is_regional (grapheme_cluster_break next))))

  same_rule : (last next : ℕ) (l e r l' e' r' : Bool) → l ≡ l' → e ≡ e' → r ≡ r' → rule_at last next l e r ≡ rule_at last next l' e' r'
  same_rule last next l e r l' e' r' p q s = ap (λ b. rule_at last next b e r) p ∙ ap (λ b. rule_at last next l' b r) q ∙ ap (λ b. rule_at last next l' e' b) s

  pub breaks-fresh : (xs : List ℕ) (next : ℕ) (after : List ℕ) → breaks (xs ++ f ∷ ys) (next ∷ after) ≡ breaks (xs ++ f ∷ []) (next ∷ after)
  unfolding is_grapheme_break rule_at
  breaks-fresh [] next after = same_rule f next _ _ _ _ _ _ (linker-fresh []) (emoji-fresh [] next) (flag-fresh [])
  breaks-fresh (x ∷ xs) next after = same_rule x next _ _ _ _ _ _ (linker-fresh (x ∷ xs)) (emoji-fresh (x ∷ xs) next) (flag-fresh (x ∷ xs))

  cut-later : (xs cs : List ℕ) → cut breaks (xs ++ f ∷ ys) cs [] ≡ cut breaks (xs ++ f ∷ []) cs []
  unfolding cut
  cut-later xs [] = refl
  cut-later xs (c ∷ []) = ap (λ b. cond b ((c ∷ []) ∷ []) (prepend (c ∷ []) [])) (breaks-end c (xs ++ f ∷ ys)) ∙ sym (ap (λ b. cond b ((c ∷ []) ∷ []) (prepend (c ∷ []) [])) (breaks-end c (xs ++ f ∷ [])))
  cut-later xs (c ∷ (d ∷ cs)) =
      ap₂ (λ b (ps : List (List ℕ)). cond b ((c ∷ []) ∷ ps) (prepend (c ∷ []) ps)) (breaks-fresh (c ∷ xs) d (cs ++ [])) (cut-later (c ∷ xs) (d ∷ cs))

  -- after a boundary a text is cut as if it began there
  pub cut-fresh : (cs : List ℕ) → cut breaks ys (f ∷ cs) [] ≡ cut breaks [] (f ∷ cs) []
  unfolding cut
  cut-fresh [] = ap (λ b. cond b ((f ∷ []) ∷ []) (prepend (f ∷ []) [])) (breaks-end f ys) ∙ sym (ap (λ b. cond b ((f ∷ []) ∷ []) (prepend (f ∷ []) [])) (breaks-end f []))
  cut-fresh (d ∷ cs) =
      ap₂ (λ b (ps : List (List ℕ)). cond b ((f ∷ []) ∷ ps) (prepend (f ∷ []) ps)) (breaks-fresh [] d (cs ++ [])) (cut-later [] (d ∷ cs))
