use Rattle.std.proofs.Common.{◌≡◌, ◌≤◌, pos, ◌+ℤ◌, ◌≤ℤ◌, true, length, fold}
use Rattle.std.specs.Str.{IsUtf8}
use Rattle.unicode_segmentation.specs.Grapheme.{graphemes}
use Rattle.termwiz_cell.specs.Measure.{measure}
use Rattle.termwiz_cell.specs.Sequence.{grapheme_place, text_place}
use Rattle.termwiz_cell.proofs.change.sequence.after_text.Given as goal

-- what is left leads where the whole text leads, with a row more at most for each byte
abbrev pub invariant-graphemes : goal.invariant-graphemes
invariant-graphemes g l =
    let f = measure g.W.Widths.width_of l.widths in
    record {
      is_text : IsUtf8 l.rest;
      place : fold (grapheme_place f l.columns) l.at (graphemes true l.rest) ≡ text_place f l.columns (l.x, l.y) l.text;
      column : l.at.0 ≤ l.columns;
      row : (l.at.1 +ℤ pos (length l.rest)) ≤ℤ (l.y +ℤ pos (length l.text));
    }

abbrev pub decreases-graphemes : goal.decreases-graphemes
decreases-graphemes g l = length l.rest
