use Rattle.std.proofs.Common.{◌≡◌, ◌∷◌, ℕ, List, refl}
use Rattle.termwiz_text.specs.Left.{graphemes_to_come}
use Rattle.termwiz_cell.specs.CellValue.{measured}
use Rattle.termwiz_cell.specs.Measure.{measure}
use Rattle.termwiz_storage.specs.VisibleCell.{at_column}
use Rattle.termwiz_line.proofs.Overlays.{overlaying-none, overlaying-more, IsLaid-none, IsLaid-more, IsLaid-all, graphemes-some}
use Rattle.termwiz_line.proofs.line.line.Line.overlay_text_with_attribute.Goals as goal

pub loop-grapheme-init : goal.loop-grapheme-init
loop-grapheme-init g c = rw (c.into_iter-grapheme-iterator.ensures.into_iter_gives, c.new-grapheme-items.ensures.left) (record {
  places = overlaying-none c.args.self.now _ c.args.seqno;
  form = IsLaid-none c.args.self.now c.args.start _ _ refl;
})

pub loop-grapheme-preserved : goal.loop-grapheme-preserved
loop-grapheme-preserved g c =
    let f : List ℕ → ℕ = measure g.W.Widths.width_of c.args.widths.now in
    let here : graphemes_to_come c.loop-grapheme.grapheme-iterator ≡ c.in-Some.grapheme.now ∷ graphemes_to_come c.next.new.self = c.in-Some.ensures.steps in
    record {
      places = rw (c.in_ok-end.ensures, c.in_ok-cell.ensures)
          (overlaying-more (at_column c.loop-grapheme.column (measured f c.in-Some.grapheme.now c.args.attr.now)) (rw here at c.loop-grapheme.invariant.places) (rw c.in_ok-cell.ensures at c.in_ok-set_cell.ensures.ok));
      form = IsLaid-more _ c.in_ok-end.ensures c.loop-grapheme.invariant.form c.in_ok-set_cell.ensures.ok c.in_ok-set_cell.ensures.appended c.in_ok-set_cell.ensures.made;
    }

pub returns-clause-made : goal.returns-clause-made
returns-clause-made g c = λ some away. IsLaid-all c.in-None.ensures.steps.0 (graphemes-some c.args.text.now c.utf8.text some) c.loop-grapheme.invariant.form away
