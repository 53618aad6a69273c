use Rattle.std.proofs.Common.{◌≡◌, ◌+◌, ◌*◌, ◌≤◌, length, sum_by}
use Rattle.termwiz_text.specs.Left.{graphemes_to_come}
use Rattle.termwiz_cell.specs.Width.{at_version, columns_of}
use Rattle.termwiz_cell.proofs.emoji.unicode_column_width.Given as goal

abbrev pub invariant-loop-grapheme : goal.invariant-loop-grapheme
invariant-loop-grapheme g l =
    let width = at_version (g.W.Widths.width_of l.widths) l.version in
    record {
      all : l.columns + sum_by width (graphemes_to_come l.grapheme-iterator) ≡ columns_of width l.text;
      fits : l.columns + 2 * length (graphemes_to_come l.grapheme-iterator) ≤ 2 * length l.text;
    }
