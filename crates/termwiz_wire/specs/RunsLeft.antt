-- What an iterator over runs has left.
use Rattle.std.specs.Prelude.{ℕ, List, [], Option}
use Rattle.std.specs.Option.{option_map_or}
use Rattle.termwiz_cell.specs.Measure.{measure}
use Rattle.termwiz_cell.specs.declared.emoji.UnicodeVersion.{UnicodeVersion}
use Rattle.termwiz_wire.specs.Pieces.{before, runs}
use Rattle.termwiz_wire.specs.declared.pieces.Run.{Run}
use Rattle.termwiz_wire.specs.declared.pieces.Runs.{Runs}

abbrev pub runs_left : {W : Type 0} → (W → List ℕ → Option UnicodeVersion → ℕ) → Runs W → List Run
runs_left width_of s =
    option_map_or (λ x. before x.0 (runs (measure width_of s.widths) x.1.now)) s.next []
