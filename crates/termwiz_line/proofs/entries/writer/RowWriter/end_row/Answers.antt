use Rattle.std.proofs.Common.{not, ap, sym, ◌∙◌, ltb-true}
use Rattle.std.specs.Prelude.{nat_lt}
use Rattle.std.proofs.lemmas.Bool.{and_parts}
use Rattle.std.proofs.lemmas.Result.{on_ok_weaker}
use Rattle.termwiz_cell.specs.Attributes.{has_only_background}
use Rattle.termwiz_cell.specs.ChangeValue.{is_text}
use Rattle.termwiz_line.specs.Entries.{with_tail}
use Rattle.termwiz_line.specs.LastChange.{last_is}
use Rattle.termwiz_line.specs.Writing.{Writing}
use Rattle.termwiz_line.proofs.WrittenRows.{row_printed, not_left_out, row_left_out}
use Rattle.termwiz_line.proofs.entries.writer.RowWriter.end_row.Goals as goal

pub returns-then-not-leaves_out-clause-row : goal.returns-then-not-leaves_out-clause-row
returns-then-not-leaves_out-clause-row c =
    let w = c.args.self.now in
    on_ok_weaker c.print_spaces.result
    (λ h from cells apart z. row_printed from cells w apart z c.print_spaces.new.self.printed (not_left_out from cells w apart z (sym c.leaves_out.ensures ∙ c.if-not-leaves_out.true)) h)
    c.print_spaces.ensures.printed

pub returns-clause-row : goal.returns-clause-row
returns-clause-row c =
    let w = c.args.self.now in
    let held = and_parts (nat_lt 0 w.spaces) (has_only_background w.space_attrs) (sym c.leaves_out.ensures ∙ c.if-not-leaves_out.false) in
    λ from cells apart z. row_left_out from cells w apart z _ (ltb-true 0 w.spaces held.0) held.1
    (λ kept e. c.in_ok-self-inside.ensures kept (e ∙ ap (λ (v : Writing). not (last_is is_text v.printed.entries)) (sym c.self.view_is))
    ∙ ap (λ (v : Writing). with_tail v.printed kept v.space_attrs) c.self.view_is)
