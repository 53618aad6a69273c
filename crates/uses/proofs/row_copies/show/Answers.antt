use Rattle.std.proofs.Common.{◌+◌, ◌-◌, map, sym, subst}
use Rattle.std.specs.Prelude.{vec_len}
use Rattle.termwiz_surface.specs.{cells_of, change_value, measure, next_number}
use Rattle.uses.specs.RowCopies.{AreCopiesAt}
use Rattle.uses.proofs.RowCopies.{copies-at}
use Rattle.uses.proofs.row_copies.show.Goals as goal

pub returns-in_err-add_changes-clause-kept : goal.returns-in_err-add_changes-clause-kept
returns-in_err-add_changes-clause-kept g c =
    let old = c.args.surface.now in
    copies-at (measure g.W.Widths.width_of old.widths) old c.add_changes.new.self (map change_value c.args.changes.items) (next_number old.log - 1 + vec_len c.args.changes) c.add_changes.result c.args.copies.now c.requires c.dimensions-form.ensures.sound.full c.add_changes.ensures.adds c.add_changes.ensures.preserves.rows

pub refresh_rows-requires : goal.refresh_rows-requires
refresh_rows-requires g c =
    let old = c.args.surface.now in
    subst (λ n. AreCopiesAt n c.add_changes.new.self (cells_of c.args.copies.now)) (sym c.current_seqno-since.ensures.value)
    (copies-at (measure g.W.Widths.width_of old.widths) old c.add_changes.new.self (map change_value c.args.changes.items) (next_number old.log - 1 + vec_len c.args.changes) c.add_changes.result c.args.copies.now c.requires c.dimensions-form.ensures.sound.full c.add_changes.ensures.adds c.add_changes.ensures.preserves.rows)
