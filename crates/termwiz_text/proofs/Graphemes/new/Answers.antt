use Rattle.std.proofs.Common.{true}
use Rattle.unicode_segmentation.specs.Grapheme.{is_grapheme_break}
use Rattle.unicode_segmentation.proofs.SegmentsLemmas.{length-segments}
use Rattle.termwiz_text.proofs.Graphemes.new.Goals as goal

pub returns-clause-len : goal.returns-clause-len
returns-clause-len c = length-segments (is_grapheme_break true) c.args.text.now c.utf8.text
