use Rattle.std.proofs.Common.{◌≡◌, ◌+◌, Some, ap, sym, ◌∙◌, subst}
use Rattle.termwiz_screen.specs.Diff.{End, PrintedOut}
use Rattle.termwiz_screen.specs.Ends.{end_value, ended_at}
use Rattle.termwiz_screen.specs.Walked.{IsPrintedTo}
use Rattle.termwiz_screen.proofs.Repaints.PlainRuns.{one_end}
use Rattle.termwiz_screen.proofs.diff.writer.DiffWriter.print_run.Goals as goal

pub returns-clause-printed : goal.returns-clause-printed
returns-clause-printed c = λ e x q n d h column place end z.
    let entries = c.self.inside.entries in
    let last : End = record { x = c.in-Some.last.x; y = c.in-Some.last.y; pen = c.in-Some.last.pen.now } in
    let view : record { entries = entries; end = Some last } ≡ c.args.self.now =
    ap (λ o. record { entries = entries; end = end_value o }) (sym c.in-Some.is) ∙ c.self.view_is in
    let same : last ≡ e = one_end c.args.self.now last e (ap (λ (w : PrintedOut). w.end) (sym view)) h in
    let at : last.x ≡ c.args.column = ap (λ (l : End). l.x) same ∙ column in
    let pen : c.in-Some-unboxed_copy.pen ≡ last.pen = c.in-Some-unboxed_copy.ensures.same in
    let before : c.args.self.now ≡ ended_at entries c.args.column e.y c.in-Some-unboxed_copy.pen = sym view ∙ (λ i. ended_at entries (at i) (same i).y (sym pen i)) in
    let printed = IsPrintedTo c.args.own.now x c.args.cells.now q n e.y d in
    subst (λ w. printed w (c.args.from + c.in_ok-count.count)) (λ i. ended_at c.push_run.new.entries (c.args.column + c.in_ok-count.count) (sym same i).y (pen i))
    (c.in_ok-count.ensures.printed x q n e.y d place end (subst (λ w. printed w c.args.from) before z))
