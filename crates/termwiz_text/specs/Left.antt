-- What an iterator over graphemes has left.
use Rattle.std.specs.Prelude.{ℕ, true, List}
use Rattle.unicode_segmentation.specs.Grapheme.{graphemes}
use Rattle.termwiz_text.specs.declared.Graphemes.{Graphemes}

abbrev pub graphemes_to_come : Graphemes → List (List ℕ)
graphemes_to_come s = graphemes true s.rest.now
