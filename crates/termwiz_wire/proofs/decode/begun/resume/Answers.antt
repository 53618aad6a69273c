use Rattle.std.proofs.lemmas.Result.{err_from_is_err_and}
use Rattle.termwiz_cell.specs.Measure.{measure}
use Rattle.termwiz_wire.proofs.decode.begun.resume.Goals as goal

pub resume_changes-requires : goal.resume_changes-requires
resume_changes-requires g c =
    let both = c.in_ok-begun.ensures (measure g.W.Widths.width_of c.args.widths.now) c.requires in
    record { leads = both.0; whole = both.1 }

pub returns-in_err-begun-clause-exact : goal.returns-in_err-begun-clause-exact
returns-in_err-begun-clause-exact g c =
    let p = err_from_is_err_and c.from_residual.result c.from_residual.ensures.1 in
    rw (p.1, p.2) (c.in_err-begun.ensures (measure g.W.Widths.width_of c.args.widths.now) c.requires)

pub with_next-requires : goal.with_next-requires
with_next-requires g c = record { size = (c.requires.width.1, c.requires.height.1); few = c.requires.borne; taken = c.requires.taken; next = c.requires.next }
