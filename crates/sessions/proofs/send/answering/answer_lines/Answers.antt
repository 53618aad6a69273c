use Rattle.std.proofs.Common.{◌≡◌, ◌⊎◌, ℕ, List, [], inl, inr, sym, ap, subst, refl, ◌∙◌, rules}
use Rattle.std.specs.Prelude.{Option, Ok, Err}
use Rattle.std.specs.Io.Iter.{split_byte, split_known_bytes}
use Rattle.std.specs.Io.KnownBytes.{Appends}
use Rattle.sessions.specs.Answering.{SendsLine}
use Rattle.sessions.proofs.Answered.{HasCome, IsSoFar, Known, has_come, is_read, none_first, so_far_begun, so_far_cut, so_far_ended, so_far_first, so_far_on, so_far_whole}
use Rattle.sessions.specs.Writing.{AppendsSome}
use Rattle.sessions.proofs.Fresh.{any_err}
use Rattle.sessions.proofs.Writing.{some_none}
use Rattle.sessions.proofs.send.answering.answer_lines.Goals as goal

pub loop-piece-init : goal.loop-piece-init
loop-piece-init g c =
    let input = g.B.Read.remaining c.args.input in
    let out = g.O.Write.contents c.args.out.now in
    let o = c.args.options in
    let given = c.into_iter-piece-iterator.ensures.into_iter_gives in
    let bytes = ap (λ s. split_known_bytes g.B.Read.remaining s) given ∙ c.split-piece-items.ensures.bytes in
    let P : Known → Type 0 = λ known. IsSoFar o.source o.width o.height input out known c.in_ok-source.source 0 out in
    record {
      newline = ap (λ s. split_byte s) given ∙ c.split-piece-items.ensures.byte;
      so_far = subst P (sym bytes) (so_far_first o.source o.width o.height input out c.in_ok-source.source 0 c.in_ok-source.ensures.blank refl);
    }

pub loop-piece-preserved : goal.loop-piece-preserved
loop-piece-preserved g c =
    let at = c.loop-piece in
    let o = c.args.options in
    let input = g.B.Read.remaining c.args.input in
    let out = g.O.Write.contents at.out in
    let newer = g.O.Write.contents c.answer_line.new.out in
    let rest = split_known_bytes g.B.Read.remaining at.piece-iterator in
    let left = split_known_bytes g.B.Read.remaining c.next.new.self in
    let steps = c.in-Some.ensures.steps in
    let line = c.in_ok-line.line in
    let read : c.in-Some.piece ≡ Ok line = is_read _ c.in-Some.piece c.map_err.result line c.map_err.ensures.cases c.map_err.ensures.variant c.in_ok-line.was in
    let come : HasCome line.items rest left = has_come (split_byte at.piece-iterator) c.in-Some.piece line rest left at.invariant.newline read steps.2 in
    let sends = subst (λ (l : List ℕ). SendsLine l at.source at.last c.answer_line.new.source c.answer_line.new.last (Appends out newer)) c.as_slice.ensures.value c.in_ok-answer_line.ensures.answered in
    record {
      newline = steps.1 ∙ at.invariant.newline;
      so_far = so_far_on o.source o.width o.height input (g.O.Write.contents c.args.out.now) rest left line.items at.source c.answer_line.new.source at.last c.answer_line.new.last out newer at.invariant.so_far come sends;
    }

pub returns-clause-answered : goal.returns-clause-answered
returns-clause-answered g c =
    let at = c.loop-piece in
    let o = c.args.options in
    so_far_ended o.source o.width o.height (g.B.Read.remaining c.args.input) (g.O.Write.contents c.args.out.now) (split_known_bytes g.B.Read.remaining at.piece-iterator) at.source at.last (g.O.Write.contents at.out) at.invariant.so_far c.in-None.ensures.steps.2

pub returns-clause-begun : goal.returns-clause-begun
returns-clause-begun g c =
    let at = c.loop-piece in
    let o = c.args.options in
    so_far_begun o.source o.width o.height (g.B.Read.remaining c.args.input) (g.O.Write.contents c.args.out.now) (split_known_bytes g.B.Read.remaining at.piece-iterator) at.source at.last (g.O.Write.contents at.out) at.invariant.so_far

pub returns-in_err-source-clause-begun : goal.returns-in_err-source-clause-begun
returns-in_err-source-clause-begun g c =
    let o = c.args.options in
    let out = g.O.Write.contents c.args.out.now in
    none_first o.source o.width o.height (g.B.Read.remaining c.args.input) (AppendsSome out out) (some_none out [])

pub returns-in_err-line-clause-begun : goal.returns-in_err-line-clause-begun
returns-in_err-line-clause-begun g c =
    let at = c.loop-piece in
    let o = c.args.options in
    so_far_begun o.source o.width o.height (g.B.Read.remaining c.args.input) (g.O.Write.contents c.args.out.now) (split_known_bytes g.B.Read.remaining at.piece-iterator) at.source at.last (g.O.Write.contents at.out) at.invariant.so_far

pub returns-in_err-line-clause-stopped : goal.returns-in_err-line-clause-stopped
returns-in_err-line-clause-stopped g c =
    let at = c.loop-piece in
    let o = c.args.options in
    any_err c.from_residual-in_err-line.result _ (λ error two. so_far_whole o.source o.width o.height (g.B.Read.remaining c.args.input) (g.O.Write.contents c.args.out.now) (split_known_bytes g.B.Read.remaining at.piece-iterator) at.source at.last (g.O.Write.contents at.out) at.invariant.so_far)

pub returns-in_err-answer_line-clause-begun : goal.returns-in_err-answer_line-clause-begun
returns-in_err-answer_line-clause-begun g c =
    let at = c.loop-piece in
    let o = c.args.options in
    let input = g.B.Read.remaining c.args.input in
    let first = g.O.Write.contents c.args.out.now in
    let out = g.O.Write.contents at.out in
    let newer = g.O.Write.contents c.answer_line.new.out in
    let rest = split_known_bytes g.B.Read.remaining at.piece-iterator in
    let left = split_known_bytes g.B.Read.remaining c.next.new.self in
    let steps = c.in-Some.ensures.steps in
    let line = c.in_ok-line.line in
    let read : c.in-Some.piece ≡ Ok line = is_read _ c.in-Some.piece c.map_err.result line c.map_err.ensures.cases c.map_err.ensures.variant c.in_ok-line.was in
    let come : HasCome line.items rest left = has_come (split_byte at.piece-iterator) c.in-Some.piece line rest left at.invariant.newline read steps.2 in
    elim c.answer_line.ensures.begun [
      | inl same ↦ rw same (so_far_begun o.source o.width o.height input first rest at.source at.last out at.invariant.so_far)
      | inr sends ↦ so_far_cut o.source o.width o.height input first rest left line.items at.source c.answer_line.new.source at.last c.answer_line.new.last out newer at.invariant.so_far come
          (subst (λ (l : List ℕ). SendsLine l at.source at.last c.answer_line.new.source c.answer_line.new.last (AppendsSome out newer)) c.as_slice.ensures.value sends)
    ]

pub returns-in_err-answer_line-clause-stopped : goal.returns-in_err-answer_line-clause-stopped
returns-in_err-answer_line-clause-stopped g c =
    let at = c.loop-piece in
    let o = c.args.options in
    let e = c.in_err-answer_line.field-0.0 in
    let is : c.from_residual-in_err-answer_line.result ≡ Err e = search rules in
    rw is (λ two. rw (c.in_err-answer_line.ensures.stopped two) (so_far_whole o.source o.width o.height (g.B.Read.remaining c.args.input) (g.O.Write.contents c.args.out.now) (split_known_bytes g.B.Read.remaining at.piece-iterator) at.source at.last (g.O.Write.contents at.out) at.invariant.so_far))
