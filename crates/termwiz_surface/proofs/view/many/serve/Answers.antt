use Rattle.std.proofs.Common.{◌<◌, length, arith, subst}
use Rattle.std.proofs.lemmas.Result.{MatchResult-weaker}
use Rattle.termwiz_cell.specs.Measure.{measure}
use Rattle.termwiz_surface.specs.ManySteps.{AnswersTo}
use Rattle.termwiz_surface.proofs.ManyRuns.{serves-act, serves-answer, serves-deliver, serves-resize}
use Rattle.termwiz_surface.proofs.view.many.serve.Goals as goal

pub returns-in-Some : goal.returns-in-Some
returns-in-Some g c held r =
    let told = c.in-Some.ensures in
    rw c.in-On.is
    (serves-act (measure g.W.Widths.width_of) c.args.surface.now c.act.new.surface c.args.viewers.now.items c.args.answers.now.items held c.in-On.event c.in-Some.outcome told.widths told.preserves.names told.step r)

pub returns-else-v-len : goal.returns-else-v-len
returns-else-v-len g c =
    let s = c.args.surface.now in
    let viewers = c.args.viewers.now.items in
    let answers = c.args.answers.now.items in
    let inside : c.in-AnswerFor.v < length viewers = omega (arith, c.if-v-len.false, c.len.ensures, c.args.viewers.now.ok.0) in
    MatchResult-weaker c.answer.result c.answer.ensures
    (λ outcome told held r. rw c.in-AnswerFor.is
    (serves-answer (measure g.W.Widths.width_of) s viewers answers c.answer.new.answers.items held c.in-AnswerFor.v c.index.result.now outcome inside c.index.ensures
    (subst (λ n. AnswersTo (measure g.W.Widths.width_of) s n answers outcome c.answer.new.answers.items) c.last.ensures told) r))
    (λ _ _. tt)

pub returns-else-k-len : goal.returns-else-k-len
returns-else-k-len g c =
    let at = c.in-Deliver in
    let viewers = c.args.viewers.now.items in
    let answers = c.args.answers.now.items in
    let has_viewer : at.v < length viewers = omega (arith, c.if-v-len-2.false, c.len-in-Deliver.ensures, c.args.viewers.now.ok.0) in
    let has_answer : at.k < length answers = omega (arith, c.if-k-len.false, c.len-else-v-len-2.ensures, c.args.answers.now.ok.0) in
    MatchResult-weaker c.deliver.result c.deliver.ensures
    (λ outcome told held r. rw at.is
    (serves-deliver (measure g.W.Widths.width_of) c.args.surface.now viewers answers held at.v at.k c.index_mut.result.now c.deliver.new.viewer c.index-in-Deliver.result.now has_viewer c.index_mut.ensures.value has_answer
    c.index-in-Deliver.ensures r outcome told))
    (λ _ _. tt)

pub returns-else-v-len-3 : goal.returns-else-v-len-3
returns-else-v-len-3 g c held r =
    let at = c.in-ResizeViewer in
    let viewers = c.args.viewers.now.items in
    let has_viewer : at.v < length viewers = omega (arith, c.if-v-len-3.false, c.len-in-ResizeViewer.ensures, c.args.viewers.now.ok.0) in
    rw at.is
    (serves-resize (measure g.W.Widths.width_of) c.args.surface.now viewers c.args.answers.now.items held at.v at.width at.height c.index_mut-in-ResizeViewer.result.now c.resize.new.viewer has_viewer
    c.index_mut-in-ResizeViewer.ensures.value r c.resize.result c.resize.ensures)
