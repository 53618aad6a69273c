use Rattle.std.proofs.Common.{◌≡◌, List, ℕ, ◌++◌, length, cond, ap, sym, ◌∙◌, subst}
use Rattle.std.specs.Prelude.{string_bytes}
use Rattle.std.specs.Str.{IsUtf8}
use Rattle.termwiz_text.proofs.CutAt.{cut_at_seam}
use Rattle.termwiz_text.proofs.Seam.{one_plain_last}
use Rattle.termwiz_text.proofs.joined.JoinedText.join_other.Goals as goal

pub invariant_of-self-then-joined : goal.invariant_of-self-then-joined
invariant_of-self-then-joined c =
    let old : List ℕ = string_bytes c.self.inside.text in
    let more : List ℕ = c.args.more.now in
    let utf8 : IsUtf8 old = subst IsUtf8 c.as_str-seam.ensures.value c.as_str-seam.utf8 in
    let joined = c.in_ok-joined.ensures in
    let text : string_bytes c.join_by_cut.new.text ≡ old ++ more = joined.text ∙ ap (λ b. cond b (old ++ more) old) c.if-joined.true in
    let seam : length c.as_str-seam.result.now ≡ length old = ap length c.as_str-seam.ensures.value in
    rw (text, seam) (cut_at_seam old more utf8 c.utf8.more (joined.joins.0 c.if-joined.true), λ e. one_plain_last old more (sym c.is_one_plain-self-inside.ensures ∙ e))
