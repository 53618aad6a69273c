use Rattle.std.proofs.Common.{◌≡◌, ℕ, List, ◌*◌, ◌<◌, length, subst, sym, arith, rules}
use Rattle.std.specs.Str.{chars, IsUtf8}
use Rattle.termwiz_cell.specs.Measure.{measure}
use Rattle.termwiz_text.proofs.LetterRuns.{length-letters}
use Rattle.termwiz_wire.specs.Beginning.{IsBeginning}
use Rattle.termwiz_wire.proofs.Runs.{beginning_of_letters}
use Rattle.termwiz_wire.proofs.pieces.split_letters.Goals as goal

pub returns : goal.returns
returns g c =
    let f : List ℕ → ℕ = measure g.W.Widths.width_of c.args.widths.now in
    let run : List ℕ = c.split_wide_run.result.0.now in
    let rest : List ℕ = c.split_wide_run.result.1.now in
    let u : IsUtf8 run = search rules in
    let three : length run ≡ 3 * length (chars run) = length-letters run u c.split_wide_run.ensures.letters in
    let some : 0 < length run = search rules in
    let P : ℕ → Type 0 = λ n. IsBeginning f c.args.text.now (record { count = n; characters = 1; columns = 2 }) rest in
    subst P (sym c.letter_count.ensures) (beginning_of_letters f c.args.text.now run rest _ c.split_wide_run.ensures (omega arith) (omega arith))
