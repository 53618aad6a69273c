-- What the Unicode tables say of characters that stand after a boundary, or before one.
use Rattle.std.proofs.Common.{◌≡◌, ℕ, Bool, true, false, not, ◌&&◌, refl}
use Rattle.ucd_table.proofs.Computing.{tables}
use Rattle.ucd_table.proofs.Facts.{Stepped-everywhere}
use Rattle.ucd_table.proofs.Stepped.{zip_stepped}
use Rattle.ucd_breaks.specs.GraphemeClusterBreak.{grapheme_cluster_break}
use Rattle.ucd_breaks.specs.declared.GraphemeClusterBreak.{GraphemeClusterBreak}
use Rattle.ucd_breaks.specs.declared.GraphemeClusterBreak.TheVariants.{Control, Cr, Lf, Extend, Zwj}
use Rattle.ucd_breaks.proofs.GraphemeClusterBreakLemmas.{grapheme_cluster_break_stepped}
use Rattle.ucd_derived.specs.IndicConjunctBreak.{indic_conjunct_break}
use Rattle.ucd_derived.specs.declared.IndicConjunctBreak.{IndicConjunctBreak}
use Rattle.ucd_derived.specs.declared.IndicConjunctBreak.TheVariants as InCb
use Rattle.ucd_derived.proofs.IndicConjunctBreakLemmas.{indic_conjunct_break_stepped}
use Rattle.ucd_emoji.specs.Binary.{is_extended_pictographic}
use Rattle.ucd_emoji.proofs.BinaryLemmas.{is_extended_pictographic_stepped}

-- the value breaks on both sides
abbrev pub is_control : GraphemeClusterBreak → Bool
is_control Control = true
is_control Cr = true
is_control Lf = true
is_control _ = false

-- the value breaks only after one that breaks on both sides
abbrev pub clings : GraphemeClusterBreak → Bool
clings Extend = true
clings Zwj = true
clings _ = false

abbrev pub fits_conjunct : GraphemeClusterBreak → IndicConjunctBreak → Bool
fits_conjunct g InCb.Extend = clings g
fits_conjunct g InCb.Linker = not (is_control g)
fits_conjunct g _ = true

abbrev pub fits_pictograph : GraphemeClusterBreak → Bool → Bool
fits_pictograph g p = not (is_control g && p)

pub conjuncts_fit : (c : ℕ) → fits_conjunct (grapheme_cluster_break c) (indic_conjunct_break c) ≡ true
unfolding tables grapheme_cluster_break_stepped indic_conjunct_break_stepped
conjuncts_fit = Stepped-everywhere (λ c. fits_conjunct (grapheme_cluster_break c) (indic_conjunct_break c))
    (zip_stepped fits_conjunct grapheme_cluster_break indic_conjunct_break grapheme_cluster_break_stepped indic_conjunct_break_stepped) refl

pub pictographs_fit : (c : ℕ) → fits_pictograph (grapheme_cluster_break c) (is_extended_pictographic c) ≡ true
unfolding tables grapheme_cluster_break_stepped is_extended_pictographic_stepped
pictographs_fit = Stepped-everywhere (λ c. fits_pictograph (grapheme_cluster_break c) (is_extended_pictographic c))
    (zip_stepped fits_pictograph grapheme_cluster_break is_extended_pictographic grapheme_cluster_break_stepped is_extended_pictographic_stepped) refl
