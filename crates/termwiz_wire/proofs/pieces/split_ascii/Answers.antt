use Rattle.std.proofs.Common.{ℕ, List, ◌<◌, length, rules}
use Rattle.termwiz_cell.specs.Measure.{measure}
use Rattle.termwiz_wire.proofs.Runs.{beginning_of_plain}
use Rattle.termwiz_wire.proofs.pieces.split_ascii.Goals as goal

pub returns : goal.returns
returns g c =
    let f : List ℕ → ℕ = measure g.W.Widths.width_of c.args.widths.now in
    let run : List ℕ = c.split_narrow_run.result.0.now in
    let some : 0 < length run = search rules in
    beginning_of_plain f c.args.text.now run c.split_narrow_run.result.1.now _ c.split_narrow_run.ensures some
