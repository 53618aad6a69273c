use Rattle.std.proofs.Common.{sym, ◌∙◌, List, ℕ, subst}
use Rattle.std.proofs.lemmas.Bool.{leb-true}
use Rattle.std.specs.Prelude.{IfOk}
use Rattle.termwiz_cell.specs.Measure.{measure}
use Rattle.termwiz_share.specs.Source.{PutsDelta, SourceValue, source_of}
use Rattle.termwiz_share.proofs.Answering.{puts_delta}
use Rattle.termwiz_share.proofs.responses.put_delta.Goals as goal

pub returns : goal.returns
returns g c =
    let f = measure g.W.Widths.width_of in
    let s : SourceValue _ = source_of c.args.number c.args.surface.now in
    subst (λ (b : List ℕ). IfOk c.encode_answer_within.result (λ put. PutsDelta f s c.args.from c.args.most b put c.encode_answer_within.new.out.items)) c.requires.empty
    (puts_delta f s c.args.from c.args.most c.args.out.now.items _ c.in-Some.ensures.some.0 c.encode_answer_within.result c.in-Some.delta c.in-Some.ensures.some.1
    (leb-true _ _ (sym c.is_borne.ensures ∙ c.if-not-is_borne.false)) (rw c.widths.ensures at c.encode_answer_within.ensures.written) (rw c.widths.ensures at c.encode_answer_within.ensures.form))
