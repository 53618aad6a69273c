use Rattle.std.proofs.Common.{◌≡◌, ◌⊎◌, ap, subst, inl, inr, rules}
use Rattle.std.specs.Io.KnownBytes.{Appends}
use Rattle.std.proofs.lemmas.Result.{IfOk-at_ok}
use Rattle.sessions.specs.Answering.{AnswersAsAsked, AnswersFirst, AnswersFirstAsAsked, WritesAnswers}
use Rattle.sessions.specs.Status.{exit_status}
use Rattle.sessions.specs.Writing.{AppendsSome}
use Rattle.sessions.specs.declared.ending.SessionError.{SessionError}
use Rattle.sessions.proofs.Answered.{Known, is_read}
use Rattle.sessions.proofs.Fresh.{fresh, on_err, on_ok}
use Rattle.sessions.proofs.send.answer.Goals as goal

pub returns-clause-answered : goal.returns-clause-answered
returns-clause-answered g c =
    let o = c.in_ok-options.options in
    let lines = c.in_ok-lines.lines in
    let old = g.O.Write.contents c.args.out.now in
    let new = g.O.Write.contents c.answer_lines.new.out in
    let input = g.R.Read.remaining c.args.input.now in
    let read = is_read _ c.new.result c.map_err.result lines c.map_err.ensures.cases c.map_err.ensures.variant c.in_ok-lines.was in
    let inner = ap (λ r. g.R.Read.remaining r.now) (IfOk-at_ok _ read c.new.ensures.inner) in
    let all = fresh (λ r. g.R.Read.remaining r.now) lines input inner (IfOk-at_ok _ read c.new.ensures.empty) (IfOk-at_ok _ read c.new.ensures.capacity) in
    let P : Known → Type 0 = λ known. WritesAnswers o.source o.width o.height known old new in
    on_ok c.answer_lines.result _ (AnswersAsAsked c.args.words.now input old new)
    (λ writes. record { source = o.source; width = o.width; height = o.height; sizes = search rules; writes = subst P all writes }) c.answer_lines.ensures.answered

pub returns-clause-begun : goal.returns-clause-begun
returns-clause-begun g c =
    let o = c.in_ok-options.options in
    let lines = c.in_ok-lines.lines in
    let old = g.O.Write.contents c.args.out.now in
    let new = g.O.Write.contents c.answer_lines.new.out in
    let input = g.R.Read.remaining c.args.input.now in
    let read = is_read _ c.new.result c.map_err.result lines c.map_err.ensures.cases c.map_err.ensures.variant c.in_ok-lines.was in
    let inner = ap (λ r. g.R.Read.remaining r.now) (IfOk-at_ok _ read c.new.ensures.inner) in
    let all = fresh (λ r. g.R.Read.remaining r.now) lines input inner (IfOk-at_ok _ read c.new.ensures.empty) (IfOk-at_ok _ read c.new.ensures.capacity) in
    let P : Known → Type 0 = λ known. AnswersFirst o.source o.width o.height known (AppendsSome old new) in
    inr (record { source = o.source; width = o.width; height = o.height; sizes = search rules; writes = subst P all c.answer_lines.ensures.begun })

pub returns-clause-stopped : goal.returns-clause-stopped
returns-clause-stopped g c =
    let o = c.in_ok-options.options in
    let lines = c.in_ok-lines.lines in
    let old = g.O.Write.contents c.args.out.now in
    let new = g.O.Write.contents c.answer_lines.new.out in
    let input = g.R.Read.remaining c.args.input.now in
    let read = is_read _ c.new.result c.map_err.result lines c.map_err.ensures.cases c.map_err.ensures.variant c.in_ok-lines.was in
    let inner = ap (λ r. g.R.Read.remaining r.now) (IfOk-at_ok _ read c.new.ensures.inner) in
    let all = fresh (λ r. g.R.Read.remaining r.now) lines input inner (IfOk-at_ok _ read c.new.ensures.empty) (IfOk-at_ok _ read c.new.ensures.capacity) in
    let P : Known → Type 0 = λ known. AnswersFirst o.source o.width o.height known (Appends old new) in
    let Q : Type 0 = (c.answer_lines.new.out ≡ c.args.out.now) ⊎ AnswersFirstAsAsked c.args.words.now input (Appends old new) in
    on_err c.answer_lines.result _ (λ (error : SessionError). exit_status error ≡ 2 → Q)
    (λ error stopped two. inr (record { source = o.source; width = o.width; height = o.height; sizes = search rules; writes = subst P all (stopped two) })) c.answer_lines.ensures.stopped
