use Rattle.std.proofs.Common.{◌≡◌, ◌<◌, ◌++◌, ℕ, List, take, subst, sym, ap, ◌∙◌, arith, rules}
use Rattle.std.proofs.lemmas.List.{take_all}
use Rattle.std.proofs.lemmas.Str.{chars-append}
use Rattle.std.specs.Prelude.{encode_utf8}
use Rattle.std.specs.Str.{chars, IsUtf8}
use Rattle.termwiz_cell.specs.Measure.{measure}
use Rattle.termwiz_screen.specs.Runs.{AreWide}
use Rattle.termwiz_screen.proofs.Runs.{all-shorter}
use Rattle.termwiz_screen.proofs.print.split_wide_run.Goals as goal

pub returns-then-wide-letter_count : goal.returns-then-wide-letter_count
returns-then-wide-letter_count g c =
    let f : List ℕ → ℕ = measure g.W.Widths.width_of c.args.widths.now in
    let run : List ℕ = c.split_letter_run.result.0.now in
    let rest : List ℕ = c.split_letter_run.result.1.now in
    let short : List ℕ = c.split_letter_run-then-wide-letter_count.result.0.now in
    let more : List ℕ = c.split_letter_run-then-wide-letter_count.result.1.now in
    let first = c.split_letter_run.ensures in
    let again = c.split_letter_run-then-wide-letter_count.ensures in
    let one : IsUtf8 run = search rules in
    let other : IsUtf8 short = search rules in
    let same : chars run ++ chars rest ≡ chars short ++ chars more = sym (chars-append run rest one) ∙ ap chars (first.whole ∙ sym again.whole) ∙ chars-append short more other in
    record {
      whole = again.whole;
      letters = again.letters;
      wide = all-shorter (λ l. 1 < f (encode_utf8 l)) c.wide_len-wide.result (chars run) (chars rest) (chars short) (chars more) same again.within c.wide_len-wide.ensures.within c.wide_len-wide.ensures.wide;
      within = omega (arith, again.within, first.within);
      graphemes_are = again.graphemes_are;
    }

pub returns : goal.returns
returns g c =
    let f : List ℕ → ℕ = measure g.W.Widths.width_of c.args.widths.now in
    let letters : List ℕ = chars c.split_letter_run.result.0.now in
    let first = c.split_letter_run.ensures in
    let all : take c.wide_len-wide.result letters ≡ letters = take_all c.wide_len-wide.result letters (omega arith) in
    record {
      whole = first.whole;
      letters = first.letters;
      wide = subst (AreWide f) all c.wide_len-wide.ensures.wide;
      within = omega (arith, first.within);
      graphemes_are = first.graphemes_are;
    }
