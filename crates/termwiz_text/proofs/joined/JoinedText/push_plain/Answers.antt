use Rattle.std.proofs.Common.{◌≡◌, ◌<◌, ◌%◌, List, [], ◌∷◌, ℕ, ◌++◌, true, length, ap, arith, sym, ◌∙◌, subst}
use Rattle.std.specs.Prelude.{string_bytes}
use Rattle.std.specs.Str.{IsUtf8}
use Rattle.termwiz_text.specs.Plain.{is_plain_last}
use Rattle.termwiz_text.proofs.Plain.{utf8_one, plain_ascii}
use Rattle.termwiz_text.proofs.CutAt.{cut_at_seam}
use Rattle.termwiz_text.proofs.Seam.{one_plain_last, seam_behind}
use Rattle.termwiz_text.proofs.joined.JoinedText.push_plain.Goals as goal

pub returns-in_err-push-clause-joins : goal.returns-in_err-push-clause-joins
returns-in_err-push-clause-joins c =
    let same : c.args.self.now ≡ string_bytes c.self.inside.text = sym c.self.view_is in
    let utf8 : IsUtf8 c.args.self.now = subst IsUtf8 (c.as_str-seam.ensures.value ∙ sym same) c.as_str-seam.utf8 in
    seam_behind c.args.self.now c.args.byte utf8 c.requires.behind c.requires.plain

pub invariant_of-self-2 : goal.invariant_of-self-2
invariant_of-self-2 c =
    let old : List ℕ = string_bytes c.self.inside.text in
    let same : c.args.self.now ≡ old = sym c.self.view_is in
    let more : List ℕ = c.args.byte ∷ [] in
    let utf8 : IsUtf8 old = subst IsUtf8 c.as_str-seam.ensures.value c.as_str-seam.utf8 in
    let last : is_plain_last old ≡ true = sym (ap is_plain_last same) ∙ c.requires.behind in
    let byte : c.args.byte % 128 ≡ c.args.byte = omega (arith, plain_ascii c.args.byte c.requires.plain) in
    let ascii : c.args.byte % 128 < 128 = omega arith in
    let text : string_bytes c.push.new.self ≡ old ++ more = c.in_ok-push.ensures.bytes ∙ ap (λ (t : List ℕ). old ++ t) (c.in_ok-push.ensures.ascii ascii ∙ ap (λ b. b ∷ []) byte) in
    let seam : length c.as_str-seam.result.now ≡ length old = ap length c.as_str-seam.ensures.value in
    rw (text, seam) (cut_at_seam old more utf8 (utf8_one c.args.byte c.requires.plain) (seam_behind old c.args.byte utf8 last c.requires.plain), λ _. one_plain_last old more c.requires.plain)

pub returns-clause-joins : goal.returns-clause-joins
returns-clause-joins c =
    let same : c.args.self.now ≡ string_bytes c.self.inside.text = sym c.self.view_is in
    let utf8 : IsUtf8 c.args.self.now = subst IsUtf8 (c.as_str-seam.ensures.value ∙ sym same) c.as_str-seam.utf8 in
    seam_behind c.args.self.now c.args.byte utf8 c.requires.behind c.requires.plain

pub returns-clause-ends : goal.returns-clause-ends
returns-clause-ends c =
    let old : List ℕ = string_bytes c.self.inside.text in
    let more : List ℕ = c.args.byte ∷ [] in
    let byte : c.args.byte % 128 ≡ c.args.byte = omega (arith, plain_ascii c.args.byte c.requires.plain) in
    let ascii : c.args.byte % 128 < 128 = omega arith in
    let text : string_bytes c.push.new.self ≡ old ++ more = c.in_ok-push.ensures.bytes ∙ ap (λ (t : List ℕ). old ++ t) (c.in_ok-push.ensures.ascii ascii ∙ ap (λ b. b ∷ []) byte) in
    ap is_plain_last text ∙ one_plain_last old more c.requires.plain
