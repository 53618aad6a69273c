use Rattle.std.proofs.Common.{map, true}
use Rattle.unicode_segmentation.specs.Grapheme.{graphemes}
use Rattle.termwiz_text.specs.Left.{graphemes_to_come}
use Rattle.termwiz_cell.specs.CellValue.{measured}
use Rattle.termwiz_cell.specs.Measure.{measure}
use Rattle.termwiz_line.specs.Texts.{cells_of_text, at_columns}
use Rattle.termwiz_line.proofs.Overlays.{IsLaid, IsOverlaying}
use Rattle.termwiz_line.proofs.line.line.Line.overlay_text_with_attribute.Given as goal

abbrev pub invariant-loop-grapheme : goal.invariant-loop-grapheme
invariant-loop-grapheme g l =
    let f = measure g.W.Widths.width_of l.widths in
    record {
      places : IsOverlaying l.fn.self (at_columns l.start (cells_of_text f l.attr l.text)) (at_columns l.column (map (λ t. measured f t l.attr) (graphemes_to_come l.grapheme-iterator))) l.seqno l.self;
      form : IsLaid l.fn.self l.start l.column (graphemes true l.text) (graphemes_to_come l.grapheme-iterator) l.self;
    }
