use Rattle.std.proofs.Common.{◌≡◌, ap, refl, sym, ◌∙◌, List, ℕ, ◌++◌, subst}
use Rattle.termwiz_cell.specs.Measure.{measure}
use Rattle.termwiz_surface.specs.Surface.{SurfaceValue}
use Rattle.termwiz_surface.proofs.Preserving.{preserves-same}
use Rattle.termwiz_share.specs.Serving.{PreservesServing}
use Rattle.termwiz_share.specs.Source.{SourceValue, number_asked, source_of}
use Rattle.termwiz_share.proofs.Answering.{alone_of, keeps_responses, named_by, response_is, response_of, stay}
use Rattle.termwiz_share.proofs.Served.{serves_on}
use Rattle.termwiz_share.proofs.source.Source.respond.Goals as goal

pub returns-in_err-is_delta-clause-begins : goal.returns-in_err-is_delta-clause-begins
returns-in_err-is_delta-clause-begins g c = stay c.from_residual.result c.args.out.now.items c.args.out.now.items refl

pub returns-in_err-extend_from_slice-clause-begins : goal.returns-in_err-extend_from_slice-clause-begins
returns-in_err-extend_from_slice-clause-begins g c = stay c.from_residual-in_err-extend_from_slice.result c.args.out.now.items c.extend_from_slice.new.self.items c.in_err-extend_from_slice.ensures.items

pub returns-in_err-is_delta-clause-preserves : goal.returns-in_err-is_delta-clause-preserves
returns-in_err-is_delta-clause-preserves g c =
    let s = c.self.inside.surface in
    subst (λ (v : SourceValue _). PreservesServing (measure g.W.Widths.width_of) v (source_of c.self.inside.number s)) c.self.view_is
    (serves_on (measure g.W.Widths.width_of) c.self.inside.number s s (preserves-same (measure g.W.Widths.width_of) s))

pub returns-in_err-extend_from_slice-clause-preserves : goal.returns-in_err-extend_from_slice-clause-preserves
returns-in_err-extend_from_slice-clause-preserves g c =
    let s = c.self.inside.surface in
    subst (λ (v : SourceValue _). PreservesServing (measure g.W.Widths.width_of) v (source_of c.self.inside.number s)) c.self.view_is
    (serves_on (measure g.W.Widths.width_of) c.self.inside.number s s (preserves-same (measure g.W.Widths.width_of) s))

pub invariant_of-self-2 : goal.invariant_of-self-2
invariant_of-self-2 g c =
    let s : SourceValue _ = record { surface = c.self.inside.surface; number = c.self.inside.number } in (
      ap (λ (v : SurfaceValue _). v.full) c.forget_unneeded.ensures.forgets ∙ c.self.invariant.0,
      c.self.invariant.1,
      keeps_responses (measure g.W.Widths.width_of) s c.forget_unneeded.new.self c.prepare.new.self c.forget_unneeded.ensures.forgets c.forget_unneeded.ensures.answers c.prepare.ensures.has,
    )

pub returns-clause-ok : goal.returns-clause-ok
returns-clause-ok g c =
    let f = measure g.W.Widths.width_of in
    let s : SourceValue _ = record { surface = c.self.inside.surface; number = c.self.inside.number } in
    let named : c.number_asked-from.result ≡ number_asked s.number c.args.ask = subst (λ (v : SourceValue _). c.number_asked-from.result ≡ number_asked v.number c.args.ask) (sym c.self.view_is) c.number_asked-from.ensures in
    let p = c.in_ok-is_delta.ensures.answers in
    response_of f s c.forget_unneeded.new.self c.args.ask c.number_asked-from.result p.given c.forget_unneeded.ensures.forgets c.forget_unneeded.ensures.answers (named_by s.number c.args.ask c.number_asked-from.result named) p.answers c.args.out.now.items c.extend_from_slice.new.self.items
    (c.in_ok-extend_from_slice.ensures.items ∙ ap (λ (b : List ℕ). c.args.out.now.items ++ b) (c.bytes.ensures ∙ p.put)) p.form

pub returns-clause-given : goal.returns-clause-given
returns-clause-given g c =
    let f = measure g.W.Widths.width_of in
    let s : SourceValue _ = record { surface = c.self.inside.surface; number = c.self.inside.number } in
    let named : c.number_asked-from.result ≡ number_asked s.number c.args.ask = subst (λ (v : SourceValue _). c.number_asked-from.result ≡ number_asked v.number c.args.ask) (sym c.self.view_is) c.number_asked-from.ensures in
    let p = c.in_ok-is_delta.ensures.answers in
    response_is f s c.forget_unneeded.new.self c.args.ask c.number_asked-from.result p.given c.forget_unneeded.ensures.forgets c.forget_unneeded.ensures.answers (sym named) p.answers c.args.out.now.items c.extend_from_slice.new.self.items
    (c.in_ok-extend_from_slice.ensures.items ∙ ap (λ (b : List ℕ). c.args.out.now.items ++ b) (c.bytes.ensures ∙ p.put))

pub returns-clause-alone : goal.returns-clause-alone
returns-clause-alone g c = λ empty. alone_of (measure g.W.Widths.width_of) _ c.args.ask _ _ (returns-clause-ok g c) empty

pub returns-clause-preserves : goal.returns-clause-preserves
returns-clause-preserves g c =
    let s = c.self.inside.surface in
    subst (λ (v : SourceValue _). PreservesServing (measure g.W.Widths.width_of) v (source_of c.self.inside.number c.forget_unneeded.new.self)) c.self.view_is
    (serves_on (measure g.W.Widths.width_of) c.self.inside.number s c.forget_unneeded.new.self c.forget_unneeded.ensures.preserves)
