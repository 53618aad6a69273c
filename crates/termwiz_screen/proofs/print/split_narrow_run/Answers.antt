use Rattle.std.proofs.Common.{◌≡◌, ◌≤◌, ℕ, List, [], ◌∷◌, take, subst, sym, ◌∙◌, arith}
use Rattle.std.proofs.lemmas.List.{take_all}
use Rattle.termwiz_cell.specs.Measure.{measure}
use Rattle.termwiz_screen.specs.Runs.{AreNarrow}
use Rattle.termwiz_screen.proofs.Runs.{all-shorter}
use Rattle.termwiz_screen.proofs.print.split_narrow_run.Goals as goal

pub returns-then-narrow-run : goal.returns-then-narrow-run
returns-then-narrow-run g c =
    let f : List ℕ → ℕ = measure g.W.Widths.width_of c.args.widths.now in
    let first = c.split_plain_run.ensures in
    let again = c.split_plain_run-then-narrow-run.ensures in
    record {
      whole = again.whole;
      plain = again.plain;
      narrow = all-shorter (λ b. f (b ∷ []) ≤ 1) c.narrow_len-narrow.result c.split_plain_run.result.0.now c.split_plain_run.result.1.now c.split_plain_run-then-narrow-run.result.0.now c.split_plain_run-then-narrow-run.result.1.now (first.whole ∙ sym again.whole) again.within c.narrow_len-narrow.ensures.within c.narrow_len-narrow.ensures.narrow;
      within = omega (arith, again.within, first.within);
      graphemes_are = again.graphemes_are;
    }

pub returns : goal.returns
returns g c =
    let f : List ℕ → ℕ = measure g.W.Widths.width_of c.args.widths.now in
    let run : List ℕ = c.split_plain_run.result.0.now in
    let first = c.split_plain_run.ensures in
    let all : take c.narrow_len-narrow.result run ≡ run = take_all c.narrow_len-narrow.result run (omega arith) in
    record {
      whole = first.whole;
      plain = first.plain;
      narrow = subst (AreNarrow f) all c.narrow_len-narrow.ensures.narrow;
      within = first.within;
      graphemes_are = first.graphemes_are;
    }
