-- How wide a text is, and how it is shown: by the extended grapheme clusters of UAX 29, the widths
-- of UAX 11, and the variation selectors U+FE0E and U+FE0F of UTS 51.
use Rattle.std.specs.Prelude.{ℕ, ◌+◌, List, Option, Some, None, true, false, min, ◌==◌, nat_lt, sum_by, [], ◌∷◌, if◌then◌else◌}
use Rattle.std.specs.Option.{option_or}
use Rattle.std.specs.Str.{chars}
use Rattle.unicode_segmentation.specs.Grapheme.{graphemes}
use Rattle.unicode_width.specs.Width.{str_width}
use Rattle.termwiz_cell.specs.declared.emoji.Presentation.{Presentation}
use Rattle.termwiz_cell.specs.declared.emoji.UnicodeVersion.{UnicodeVersion}
use Rattle.termwiz_cell.specs.declared.emoji.Presentation.TheVariants.{Text, Emoji}

-- how wide a text is by one version, of a width function of texts and versions
abbrev pub at_version : (List ℕ → Option UnicodeVersion → ℕ) → Option UnicodeVersion → List ℕ → ℕ
at_version width version text = width text version

-- the width with no version
abbrev pub unversioned : (List ℕ → Option UnicodeVersion → ℕ) → List ℕ → ℕ
unversioned width text = width text None

-- the columns of the graphemes of a text together, by a width function
abbrev pub columns_of : (List ℕ → ℕ) → List ℕ → ℕ
columns_of width text = sum_by width (graphemes true text)

-- the number of a version's kind, of four: 2 above version 9, and 1 more where characters of
-- ambiguous width are wide
abbrev pub version_index : UnicodeVersion → ℕ
version_index v = (if nat_lt 9 v.version then 2 else 0) + (if v.ambiguous_are_wide then 1 else 0)

-- the columns of a text by the Unicode tables, cut at two
unfoldable pub unicode_columns : List ℕ → ℕ
unicode_columns text = min (str_width false (chars text)) 2

-- the presentation that a character asks for
abbrev pub asked_by : ℕ → Option Presentation
asked_by c = if c == 0xFE0E then Some Text else if c == 0xFE0F then Some Emoji else None

-- the presentation that the first selector among the characters asks for
abbrev pub variation_of : List ℕ → Option Presentation
variation_of [] = None
variation_of (c ∷ cs) = option_or (asked_by c) (variation_of cs)

-- the presentation that the first selector of the text asks for
abbrev pub variation : List ℕ → Option Presentation
variation text = variation_of (chars text)
