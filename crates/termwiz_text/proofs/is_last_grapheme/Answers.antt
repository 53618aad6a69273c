use Rattle.std.proofs.Common.{List, ℕ, sym, ◌∙◌}
use Rattle.std.specs.Cmp.Lexicographic.{bytes_decides}
use Rattle.unicode_segmentation.specs.Iter.{graphemes_left}
use Rattle.termwiz_text.proofs.Seam.{seam_at_last}
use Rattle.termwiz_text.proofs.is_last_grapheme.Goals as goal

pub returns-in-Some : goal.returns-in-Some
returns-in-Some c =
    λ front split.
    let last : List ℕ = c.in-Some.last.now in
    let text : List ℕ = c.args.text.now in
    let decides = bytes_decides last text in
    let seam = seam_at_last c.args.whole.now front text last (graphemes_left c.next_back.new.self) c.utf8.whole c.utf8.text split (sym c.graphemes.ensures.left ∙ c.in-Some.ensures.steps) in
    ((λ h. seam.0 (decides.0 (sym c.eq.ensures ∙ h))), (λ joined. c.eq.ensures ∙ decides.1 (seam.1 joined)))
