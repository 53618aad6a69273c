use Rattle.std.proofs.Common.{◌≡◌, List, String, sym, subst, inl, inr}
use Rattle.std.specs.declared.alloc.Global.{Global}
use Rattle.std.specs.Io.KnownBytes.{Appends}
use Rattle.std.specs.Prelude.{◌⊎◌}
use Rattle.sessions.specs.Answering.{AnswersAsAsked, AnswersFirstAsAsked}
use Rattle.sessions.specs.Writing.{AppendsSome}
use Rattle.sessions.specs.Words.{AreSendWords}
use Rattle.sessions.proofs.send.send_session.Goals as goal

pub returns-in-Some-clause-done : goal.returns-in-Some-clause-done
returns-in-Some-clause-done g c = λ zero.
    let (first, behind) = c.in-Some.ensures in
    let P : List (String Global) → Type 0 = λ words. AreSendWords words in
    inr (first, subst P behind (c.answer_session.ensures.done zero))

pub returns-in-Some-clause-refused : goal.returns-in-Some-clause-refused
returns-in-Some-clause-refused g c = λ two. inl c.in-Some.ensures.0

pub returns-in-Some-clause-sent : goal.returns-in-Some-clause-sent
returns-in-Some-clause-sent g c = λ zero. inl c.in-Some.ensures.0

pub returns-in-Some-clause-answered : goal.returns-in-Some-clause-answered
returns-in-Some-clause-answered g c = λ zero first.
    let P : List (String Global) → Type 0 = λ words. AnswersAsAsked words (g.R.Read.remaining c.args.input.now) (g.O.Write.contents c.args.out.now) (g.O.Write.contents c.answer_session.new.out) in
    subst P c.in-Some.ensures.1 (c.answer_session.ensures.answered zero)

pub returns-in-None-clause-answered : goal.returns-in-None-clause-answered
returns-in-None-clause-answered g c = λ zero first. absurd (c.in-None.ensures first)

pub returns-in-Some-clause-begun : goal.returns-in-Some-clause-begun
returns-in-Some-clause-begun g c = inl c.in-Some.ensures.0

pub returns-in-Some-clause-answering : goal.returns-in-Some-clause-answering
returns-in-Some-clause-answering g c = λ first.
    let P : List (String Global) → Type 0 = λ words. (c.answer_session.new.out ≡ c.args.out.now) ⊎ AnswersFirstAsAsked words (g.R.Read.remaining c.args.input.now) (AppendsSome (g.O.Write.contents c.args.out.now) (g.O.Write.contents c.answer_session.new.out)) in
    subst P c.in-Some.ensures.1 c.answer_session.ensures.begun

pub returns-in-Some-clause-stopped : goal.returns-in-Some-clause-stopped
returns-in-Some-clause-stopped g c = λ two first.
    let P : List (String Global) → Type 0 = λ words. (c.answer_session.new.out ≡ c.args.out.now) ⊎ AnswersFirstAsAsked words (g.R.Read.remaining c.args.input.now) (Appends (g.O.Write.contents c.args.out.now) (g.O.Write.contents c.answer_session.new.out)) in
    subst P c.in-Some.ensures.1 (c.answer_session.ensures.stopped two)

pub returns-in-None-clause-answering : goal.returns-in-None-clause-answering
returns-in-None-clause-answering g c = λ first. absurd (c.in-None.ensures first)

pub returns-in-None-clause-stopped : goal.returns-in-None-clause-stopped
returns-in-None-clause-stopped g c = λ two first. absurd (c.in-None.ensures first)
