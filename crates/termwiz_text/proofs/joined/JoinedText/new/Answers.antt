use Rattle.std.proofs.Common.{◌≡◌, true, [], sym, ◌∙◌}
use Rattle.termwiz_text.specs.Plain.{is_one_plain, is_plain_last}
use Rattle.termwiz_text.proofs.CutAt.{cut_at_start}
use Rattle.termwiz_text.proofs.Seam.{one_plain_last}
use Rattle.termwiz_text.proofs.joined.JoinedText.new.Goals as goal

pub invariant_of-result : goal.invariant_of-result
invariant_of-result c =
    let plain : is_one_plain c.args.first.now ≡ true → is_plain_last c.args.first.now ≡ true = one_plain_last [] c.args.first.now in
    rw c.in_ok-text.ensures.ok (cut_at_start c.args.first.now c.utf8.first, λ e. plain (sym c.is_one_plain.ensures ∙ e))
