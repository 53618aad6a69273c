use Rattle.std.proofs.Common.{◌∙◌, ℕ, List, length, ap, sym, rules}
use Rattle.std.specs.Prelude.{◌==◌}
use Rattle.std.specs.Str.{IsUtf8}
use Rattle.termwiz_surface.proofs.Measuring.{empty_text, nothing_follows, one_grapheme}
use Rattle.termwiz_surface.proofs.surface.measuring.is_grapheme.Goals as goal

pub returns-in-Some : goal.returns-in-Some
returns-in-Some c =
    let text : List ℕ = c.args.text.now in
    let rest : List ℕ = c.in-Some.rest.now in
    let first = rw c.in-Some.rest-is at c.in-Some.ensures in
    let is_text : IsUtf8 rest = search rules in (
      λ empty. one_grapheme text _ rest c.utf8.text first (empty_text rest (sym c.is_empty.ensures ∙ empty)),
      λ one. c.is_empty.ensures ∙ ap (λ (t : List ℕ). length t == 0) (nothing_follows text _ rest is_text first one),
    )
