use Rattle.std.proofs.Common.{◌∙◌, ap}
use Rattle.termwiz_surface.specs.{measure, print_all, screen_of}
use Rattle.uses.proofs.RowsOfForm.{rows_of_form, rows_as_large}
use Rattle.uses.proofs.damage.damage_between.Goals as goal

pub returns-clause-painted : goal.returns-clause-painted
returns-clause-painted g c =
    let s = screen_of c.args.last.now in
    let t = screen_of c.args.next.now in
    let own = rows_of_form (measure g.W.Widths.width_of c.args.last.now.widths) s c.dimensions-last_form.ensures.printable in
    let others = rows_as_large (measure g.W.Widths.width_of c.args.next.now.widths) s t c.requires.same_width c.requires.same_height c.dimensions-next_form.ensures.printable in
    ap (print_all s.rows) (c.in_ok-changes.ensures.prints c.requires.same_width c.requires.same_height c.requires.alike)
    ∙ (c.need_laws.ensures.rows s.width s.height s.rows t.rows own others).0

pub returns-clause-nothing : goal.returns-clause-nothing
returns-clause-nothing g c same =
    let s = screen_of c.args.last.now in
    let t = screen_of c.args.next.now in
    let own = rows_of_form (measure g.W.Widths.width_of c.args.last.now.widths) s c.dimensions-last_form.ensures.printable in
    let others = rows_as_large (measure g.W.Widths.width_of c.args.next.now.widths) s t c.requires.same_width c.requires.same_height c.dimensions-next_form.ensures.printable in
    c.in_ok-changes.ensures.prints c.requires.same_width c.requires.same_height c.requires.alike
    ∙ (c.need_laws.ensures.rows s.width s.height s.rows t.rows own others).1 same
