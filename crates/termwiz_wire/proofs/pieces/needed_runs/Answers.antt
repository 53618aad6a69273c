use Rattle.std.proofs.Common.{ℕ, List, refl}
use Rattle.std.specs.Prelude.{None}
use Rattle.termwiz_cell.specs.Measure.{measure}
use Rattle.termwiz_wire.proofs.Ascii.{ascii_needs_none}
use Rattle.termwiz_wire.proofs.pieces.needed_runs.Goals as goal

pub returns-then-is_ascii : goal.returns-then-is_ascii
returns-then-is_ascii g c =
    let f : List ℕ → ℕ = measure g.W.Widths.width_of c.args.widths.now in
    ascii_needs_none f c.args.text.now c.utf8.text c.if-is_ascii.ensures.cases (c.if-has_narrow_ascii.ensures refl) (g.met.W.Widths.space_has_one c.args.widths.now None)
