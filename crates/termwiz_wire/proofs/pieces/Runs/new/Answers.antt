use Rattle.std.proofs.Common.{◌≡◌, ℕ, List, [], sym}
use Rattle.std.specs.Prelude.{MatchOption, Some, None}
use Rattle.std.specs.Option.{option_map_or}
use Rattle.termwiz_cell.specs.Measure.{measure}
use Rattle.termwiz_wire.specs.Beginning.{IsBeginning}
use Rattle.termwiz_wire.specs.Pieces.{before, runs}
use Rattle.termwiz_wire.proofs.pieces.Runs.new.Goals as goal

pub returns : goal.returns
returns g c =
    let f : List ℕ → ℕ = measure g.W.Widths.width_of c.args.widths.now in
    let text : List ℕ = c.args.text.now in
    (elim c.split_run.result as (λ r. MatchOption r (runs f text ≡ []) (λ x. IsBeginning f text x.0 x.1.now) → option_map_or (λ x. before x.0 (runs f x.1.now)) r [] ≡ runs f text) [ None ↦ λ h. sym h | Some x ↦ λ h. sym h.runs_are ]) c.split_run.ensures
