use Rattle.std.proofs.Common.{◌≡◌, ◌∙◌, ℕ, None, Some, ap, sym, rules, tests}
use Rattle.std.specs.List.{last_or}
use Rattle.std.proofs.lemmas.Option.{same_Some}
use Rattle.termwiz_storage.specs.CellTexts.{texts_of}
use Rattle.termwiz_storage.specs.Stored.{visible}
use Rattle.termwiz_storage.proofs.LastCell.{slice_get-last}
use Rattle.termwiz_storage.proofs.line.clusterline.ClusteredLine.ends_with_space.Goals as goal

pub returns-in-Some : goal.returns-in-Some
returns-in-Some c =
    let byte : ℕ = c.in-Some.byte.now in
    let text : c.as_bytes.result.now ≡ texts_of (visible c.args.self.now) = c.as_bytes.ensures.value ∙ c.text.ensures in
    let last : Some byte ≡ last_or None (texts_of (visible c.args.self.now)) = c.in-Some.ensures.value ∙ slice_get-last c.as_bytes.result.now ∙ ap (last_or None) text in
    (λ t. let e : byte ≡ 32 = search (rules, tests) in sym last ∙ ap Some e, λ t. let e : byte ≡ 32 = same_Some byte 32 (last ∙ t) in search (rules, tests))
