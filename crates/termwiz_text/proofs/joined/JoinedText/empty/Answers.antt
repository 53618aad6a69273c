use Rattle.std.proofs.Common.{[]}
use Rattle.std.proofs.lemmas.Str.{IsUtf8-nil}
use Rattle.termwiz_text.proofs.CutAt.{cut_at_start}
use Rattle.termwiz_text.proofs.joined.JoinedText.empty.Goals as goal

pub invariant_of-result : goal.invariant_of-result
invariant_of-result c = (rw c.new.ensures.bytes (cut_at_start [] IsUtf8-nil), λ e. absurd cc)
