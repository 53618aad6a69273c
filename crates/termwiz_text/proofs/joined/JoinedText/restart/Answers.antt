use Rattle.std.proofs.Common.{◌≡◌, true, [], ◌++◌, ap, sym, ◌∙◌}
use Rattle.std.proofs.lemmas.Str.{IsUtf8-nil}
use Rattle.std.specs.Prelude.{string_bytes}
use Rattle.termwiz_text.specs.Plain.{is_one_plain, is_plain_last}
use Rattle.termwiz_text.proofs.CutAt.{cut_at_start}
use Rattle.termwiz_text.proofs.Seam.{one_plain_last}
use Rattle.termwiz_text.proofs.joined.JoinedText.restart.Goals as goal

pub invariant_of-self : goal.invariant_of-self
invariant_of-self c =
    let bytes : string_bytes c.append.new.text ≡ [] = c.in_err-append.ensures.err ∙ c.clear.ensures.bytes in
    rw bytes (cut_at_start [] IsUtf8-nil, λ e. absurd cc)

pub invariant_of-self-2 : goal.invariant_of-self-2
invariant_of-self-2 c =
    let bytes : string_bytes c.append.new.text ≡ c.args.first.now = c.in_ok-append.ensures.ok ∙ ap (λ t. t ++ c.args.first.now) c.clear.ensures.bytes in
    let plain : is_one_plain c.args.first.now ≡ true → is_plain_last c.args.first.now ≡ true = one_plain_last [] c.args.first.now in
    rw bytes (cut_at_start c.args.first.now c.utf8.first, λ e. plain (sym c.is_one_plain-self-inside.ensures ∙ e))
