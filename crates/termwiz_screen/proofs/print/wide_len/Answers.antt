use Rattle.std.proofs.Common.{ℕ, ◌<◌, List, get_or, arith}
use Rattle.std.proofs.lemmas.List.Elements.{All-more}
use Rattle.std.specs.Prelude.{encode_utf8}
use Rattle.std.specs.Str.{chars}
use Rattle.termwiz_cell.specs.Measure.{measure}
use Rattle.termwiz_screen.proofs.print.wide_len.Goals as goal

pub loop-k-preserved : goal.loop-k-preserved
loop-k-preserved g c =
    let letters : List ℕ = chars c.args.run.now in
    let f : List ℕ → ℕ = measure g.W.Widths.width_of c.args.widths.now in
    let here : 1 < f (encode_utf8 (get_or letters c.loop-k.k 0)) = rw (← c.letter_at.ensures, ← c.width.ensures) (omega arith) in
    All-more (λ l. 1 < f (encode_utf8 l)) letters c.loop-k.k 0 (omega arith) c.loop-k.invariant here
