use Rattle.std.proofs.Common.{◌+◌, ◌-◌, rules}
use Rattle.std.specs.Prelude.{Ok, Err, vec_len}
use Rattle.termwiz_screen.specs.Log.{next_number}
use Rattle.termwiz_share.specs.Source.{trimmed_surface}
use Rattle.tikeburo_c.proofs.changes.add_changes.Goals as goal

pub returns-in_err-add_changes : goal.returns-in_err-add_changes
returns-in_err-add_changes c =
    let e = c.in_err-add_changes.ensures in
    let number = next_number (trimmed_surface c.args.surface.now.surface).log - 1 + vec_len c.args.changes in
    (number, Err c.in_err-add_changes.field-0.0, search rules, e.adds, e.preserves)

pub returns : goal.returns
returns c =
    let e = c.in_ok-add_changes.ensures in
    (_, Ok c.in_ok-add_changes.field-0, search rules, e.adds, e.preserves)
