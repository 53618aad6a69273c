use Rattle.std.proofs.Common.{sym, ◌∙◌}
use Rattle.unicode_segmentation.specs.Iter.{graphemes_left}
use Rattle.termwiz_text.proofs.First.{first_piece_of}
use Rattle.termwiz_text.proofs.split_first_grapheme.Goals as goal

pub returns : goal.returns
returns c =
    first_piece_of c.args.text.now c.in_ok-first.first.now c.as_str.result.now (graphemes_left c.next.new.self) c.utf8.text (sym c.graphemes-pieces.ensures.left ∙ c.in_ok-first.ensures.steps) c.as_str.ensures
