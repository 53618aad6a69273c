use Rattle.std.proofs.Common.{◌≡◌, ◌-◌, length, Some, None, sym, ap, ◌∙◌}
use Rattle.std.specs.Prelude.{slice_get}
use Rattle.termwiz_text.specs.Plain.{is_plain_last}
use Rattle.termwiz_text.proofs.Seam.{plain_last_is, plain_last_none}
use Rattle.termwiz_text.proofs.joined.JoinedText.ends_plain.Goals as goal

pub returns-in-Some : goal.returns-in-Some
returns-in-Some c =
    let bytes : c.as_bytes.result.now ≡ c.args.self.now = c.as_bytes.ensures.value ∙ c.as_str.ensures.value ∙ c.self.view_is in
    let last : slice_get c.as_bytes.result.now (length c.as_bytes.result.now - 1) ≡ Some c.in-Some.last.now = sym c.in-Some.ensures.value in
    c.is_plain.ensures ∙ sym (plain_last_is c.as_bytes.result.now c.in-Some.last.now last) ∙ ap is_plain_last bytes

pub returns-in-None : goal.returns-in-None
returns-in-None c =
    let bytes : c.as_bytes.result.now ≡ c.args.self.now = c.as_bytes.ensures.value ∙ c.as_str.ensures.value ∙ c.self.view_is in
    let last : slice_get c.as_bytes.result.now (length c.as_bytes.result.now - 1) ≡ None = sym c.in-None.ensures.value in
    sym (plain_last_none c.as_bytes.result.now last) ∙ ap is_plain_last bytes
