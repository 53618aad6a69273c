use Rattle.std.proofs.Common.{◌≡◌, [], ◌∷◌, Result, ap, inl, inr, refl, subst, ◌∙◌}
use Rattle.std.specs.Prelude.{IfErr}
use Rattle.termwiz_cell.specs.Measure.{measure}
use Rattle.termwiz_share.specs.{SourceValue}
use Rattle.termwiz_share.specs.declared.error.ClientError.TheVariants as errors
use Rattle.termwiz_surface.specs.{FullScreen, KeepsNames, change_value, full_of}
use Rattle.uses.specs.Making.{MayRefuse, full_after}
use Rattle.uses.specs.Serving.{Stands}
use Rattle.uses.specs.Streams.{FailsToAnswer}
use Rattle.uses.specs.declared.serving.ShareError.TheVariants.{Refused, Unserved}
use Rattle.uses.proofs.MadeFully.{refuses_trimmed}
use Rattle.uses.proofs.Returned.{returned}
use Rattle.uses.proofs.two_sources.answer_twice.Goals as goal

pub returns-in_err-early-clause-fails : goal.returns-in_err-early-clause-fails
returns-in_err-early-clause-fails g c =
    returned (λ (r : Result _ _). IfErr r (λ error. FailsToAnswer (measure g.W.Widths.width_of) c.args.source.now (change_value c.args.change) error c.response.new.source)) (Unserved errors.Memory) c.from_residual.result c.from_residual.ensures.1
    (refl, inl c.response.ensures.same)

pub returns-in_err-make-clause-fails : goal.returns-in_err-make-clause-fails
returns-in_err-make-clause-fails g c =
    let old = c.args.source.now in
    let cs = change_value c.args.change ∷ [] in
    let new = c.make.new.source in
    let e = c.in_err-make.field-0.0 in
    returned (λ (r : Result _ _). IfErr r (λ error. FailsToAnswer (measure g.W.Widths.width_of) old (change_value c.args.change) error new)) (Refused e) c.from_residual-in_err-make.result c.from_residual-in_err-make.ensures.1 (
      refuses_trimmed old.surface cs e (subst (λ (s : SourceValue _). MayRefuse s.surface cs e) c.in_ok-early.ensures.trims c.in_err-make.ensures.refuses),
      subst (λ (p : FullScreen). Stands e p (full_of new.surface)) c.in_ok-early.ensures.same c.in_err-make.ensures.stands,
    )

pub returns-in_err-late-clause-fails : goal.returns-in_err-late-clause-fails
returns-in_err-late-clause-fails g c =
    let f = measure g.W.Widths.width_of in
    let made = c.in_ok-make.ensures.shows ∙ ap (λ (s : SourceValue _). full_after f s.surface (change_value c.args.change ∷ [])) c.in_ok-early.ensures.trims in
    returned (λ (r : Result _ _). IfErr r (λ error. FailsToAnswer f c.args.source.now (change_value c.args.change) error c.response-2.new.source)) (Unserved errors.Memory) c.from_residual-in_err-late.result c.from_residual-in_err-late.ensures.1
    (refl, inr (c.response-2.ensures.same ∙ made))

pub returns-in_err-make-clause-serves : goal.returns-in_err-make-clause-serves
returns-in_err-make-clause-serves g c = λ client serves. c.make.ensures.preserves.clients client (c.in_ok-early.ensures.preserves.clients client serves)

pub returns-in_err-late-clause-serves : goal.returns-in_err-late-clause-serves
returns-in_err-late-clause-serves g c = λ client serves. c.response-2.ensures.preserves.clients client (c.in_ok-make.ensures.preserves.clients client (c.in_ok-early.ensures.preserves.clients client serves))

pub returns-clause-serves : goal.returns-clause-serves
returns-clause-serves g c = λ client serves. c.in_ok-late.ensures.preserves.clients client (c.in_ok-make.ensures.preserves.clients client (c.in_ok-early.ensures.preserves.clients client serves))

pub returns-clause-answers : goal.returns-clause-answers
returns-clause-answers g c =
    let f = measure g.W.Widths.width_of in
    let old = c.args.source.now in
    let then = c.response.new.source in
    let changed = c.make.new.source in
    let new = c.response-2.new.source in
    let widths = c.in_ok-early.ensures.widths in
    let changed_widths : changed.surface.widths ≡ old.surface.widths = c.in_ok-make.ensures.widths ∙ widths in
    record {
      then = then;
      first = c.in_ok-early.ensures.response;
      asked = _;
      second = c.in_ok-late.ensures.response;
      number = c.in_ok-early.ensures.preserves.number;
      same = c.in_ok-late.ensures.preserves.number ∙ c.in_ok-make.ensures.preserves.number ∙ c.in_ok-early.ensures.preserves.number;
      widths = widths;
      later_widths = c.in_ok-late.ensures.widths ∙ changed_widths;
      names = c.in_ok-early.ensures.preserves.surface.names;
      changed = changed.surface;
      changed_widths = changed_widths;
      later_names = subst (λ w. KeepsNames (f w) then.surface changed.surface) widths c.in_ok-make.ensures.preserves.surface.names;
      last_names = subst (λ w. KeepsNames (f w) changed.surface new.surface) changed_widths c.in_ok-late.ensures.preserves.surface.names;
      made = c.in_ok-late.ensures.same ∙ c.in_ok-make.ensures.shows ∙ ap (λ (s : SourceValue _). full_after f s.surface (change_value c.args.change ∷ [])) c.in_ok-early.ensures.trims;
    }
