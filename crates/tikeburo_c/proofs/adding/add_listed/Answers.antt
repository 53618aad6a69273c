use Rattle.std.proofs.Common.{◌+◌, ◌-◌, inr, length, map, rules}
use Rattle.std.specs.Prelude.{Ok, Err}
use Rattle.termwiz_cell.specs.ChangeValue.{change_value}
use Rattle.termwiz_screen.specs.Log.{next_number}
use Rattle.termwiz_share.specs.Source.{trimmed_surface}
use Rattle.termwiz_surface.specs.Unlogged.{lent_value}
use Rattle.tikeburo_c.specs.Outcomes.{Outcome}
use Rattle.tikeburo_c.specs.Scrolling.{AddsListedRows}
use Rattle.tikeburo_c.proofs.ListsAdded.{adds_rows}
use Rattle.tikeburo_c.proofs.NoneAdded.{none_listed}
use Rattle.tikeburo_c.proofs.Decoded.{failed_by}
use Rattle.tikeburo_c.proofs.adding.add_listed.Goals as goal

pub returns-in_err-changes-clause-lines : goal.returns-in_err-changes-clause-lines
returns-in_err-changes-clause-lines g c = λ on.
    let fs = c.args.list.now in
    let texts = c.args.texts.now in
    let s = c.args.surface.now.surface in
    let old = g.L.LineSink.lines_of c.args.lines.now in
    let failure = c.in_err-changes.field-0.0 in
    failed_by (λ (r : Outcome). AddsListedRows fs texts s old r old) c.from_residual.result failure c.from_residual.ensures.1 (none_listed fs texts s old failure c.in_err-changes.ensures.missing)

pub returns-in_err-changes-2-clause-lines : goal.returns-in_err-changes-2-clause-lines
returns-in_err-changes-2-clause-lines g c = λ on.
    let fs = c.args.list.now in
    let texts = c.args.texts.now in
    let s = c.args.surface.now.surface in
    let old = g.L.LineSink.lines_of c.args.lines.now in
    let failure = c.in_err-changes-2.field-0.0 in
    failed_by (λ (r : Outcome). AddsListedRows fs texts s old r old) c.from_residual-in_err-changes-2.result failure c.from_residual-in_err-changes-2.ensures.1 (none_listed fs texts s old failure c.in_err-changes-2.ensures.missing)

pub returns-in_err-add-clause-adds : goal.returns-in_err-add-clause-adds
returns-in_err-add-clause-adds g c =
    let e = c.in_err-add.ensures in
    let number = next_number (trimmed_surface c.args.surface.now.surface).log - 1 + length (map change_value c.in_ok-changes.changes.items) in
    rw (c.if-is_logged.true, c.in_ok-changes.ensures.found) (inr (number, Err c.in_err-add.field-0.0, search rules, e.adds, e.preserves))

pub returns-then-is_logged-clause-adds : goal.returns-then-is_logged-clause-adds
returns-then-is_logged-clause-adds g c =
    let e = c.in_ok-add.ensures in
    rw (c.if-is_logged.true, c.in_ok-changes.ensures.found) (inr (_, Ok c.in_ok-add.field-0, search rules, e.adds, e.preserves))

pub returns-in_err-add-2-clause-adds : goal.returns-in_err-add-2-clause-adds
returns-in_err-add-2-clause-adds g c =
    let e = c.in_err-add-2.ensures in
    let number = next_number (trimmed_surface c.args.surface.now.surface).log - 1 + length (map lent_value c.deref.result.now) in
    rw (c.if-is_logged.false, c.in_ok-changes-2.ensures.found, ← c.deref.ensures.value) (inr (number, Err c.in_err-add-2.field-0.0, search rules, e.adds, e.preserves))

pub returns-in_err-add-2-clause-lines : goal.returns-in_err-add-2-clause-lines
returns-in_err-add-2-clause-lines g c = λ on.
    rw (c.in_ok-changes-2.ensures.found, ← c.deref.ensures.value) (adds_rows _ _ _ _ (Err c.in_err-add-2.field-0.0) _ (search rules) (c.in_err-add-2.ensures.scrolled on))

pub returns-clause-adds : goal.returns-clause-adds
returns-clause-adds g c =
    let e = c.in_ok-add-2.ensures in
    rw (c.if-is_logged.false, c.in_ok-changes-2.ensures.found, ← c.deref.ensures.value) (inr (_, Ok c.in_ok-add-2.field-0, search rules, e.adds, e.preserves))
