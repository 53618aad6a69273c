-- How width values measure texts.
use Rattle.std.specs.Prelude.{ℕ, List, Option}
use Rattle.termwiz_cell.specs.Width.{unversioned}
use Rattle.termwiz_cell.specs.declared.emoji.UnicodeVersion.{UnicodeVersion}

-- by the width function of their kind, with no version: how each of them measures, and given one,
-- how that one does
abbrev pub measure : {W : Type 0} → (W → List ℕ → Option UnicodeVersion → ℕ) → W → List ℕ → ℕ
measure width_of = λ widths. unversioned (width_of widths)
