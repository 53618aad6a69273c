use Rattle.std.proofs.Common.{◌≡◌, ℕ, length, map, Some, subst, ap, ◌∙◌, arith, inr}
use Rattle.std.specs.Prelude.{string_bytes}
use Rattle.std.proofs.lemmas.List.{length-map}
use Rattle.cbor.specs.declared.error.ReadError.TheVariants.{Limit}
use Rattle.termwiz_cell.specs.ChangeValue.{ChangeValue, change_value}
use Rattle.termwiz_cell.specs.ChangeValue as changed
use Rattle.termwiz_wire.specs.Answers.{error_of}
use Rattle.termwiz_wire.specs.Resuming.{IsWith}
use Rattle.termwiz_wire.proofs.decode.begun.with_whole.Goals as goal

pub returns-in_ok-with_change-in-Some : goal.returns-in_ok-with_change-in-Some
returns-in_ok-with_change-in-Some c = (
  c.in-Some.ensures.some.0,
  subst (λ (n : ℕ). IsWith c.args.begun (changed.Text (string_bytes c.args.text)) n c.args.taken c.in_ok-with_change-in-Some.field-0) c.in-Some.ensures.some.1
      (subst (λ (v : ChangeValue). IsWith c.args.begun v c.in-Some.spent c.args.taken c.in_ok-with_change-in-Some.field-0) c.in_ok-owned-in-Some.ensures c.in_ok-with_change-in-Some.ensures),
)

pub returns-in-None : goal.returns-in-None
returns-in-None c =
    let count : c.len.result ≡ length (map change_value c.args.begun.changes.items) = omega (arith, c.len.ensures, length-map c.args.begun.changes.items change_value) in
    inr (c.spent_with.ensures.none c.in-None.is, c.located.ensures ∙ ap (λ (k : ℕ). error_of Limit c.args.places.change (Some k)) count)
