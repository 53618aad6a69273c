use Rattle.std.proofs.Common.{◌≡◌, ap, refl, sym, ◌∙◌, List, ℕ, [], subst}
use Rattle.termwiz_cell.specs.Measure.{measure}
use Rattle.termwiz_surface.proofs.Preserving.{preserves-same}
use Rattle.termwiz_surface.specs.Surface.{SurfaceValue}
use Rattle.termwiz_share.specs.Serving.{PreservesServing}
use Rattle.termwiz_share.specs.Source.{IsResponse, SourceValue, WritesFront, bytes_of, number_asked, response_bytes, source_of}
use Rattle.termwiz_share.proofs.Answering.{alone_of, keeps_responses, named_by, response_is, response_of}
use Rattle.termwiz_share.proofs.Served.{serves_on}
use Rattle.termwiz_share.proofs.source.Source.respond_to.Goals as goal

pub returns-in_err-is_delta-clause-preserves : goal.returns-in_err-is_delta-clause-preserves
returns-in_err-is_delta-clause-preserves g c =
    let s = c.self.inside.surface in
    subst (λ (v : SourceValue _). PreservesServing (measure g.W.Widths.width_of) v (source_of c.self.inside.number s)) c.self.view_is
    (serves_on (measure g.W.Widths.width_of) c.self.inside.number s s (preserves-same (measure g.W.Widths.width_of) s))

pub invariant_of-self-2 : goal.invariant_of-self-2
invariant_of-self-2 g c =
    let s : SourceValue _ = record { surface = c.self.inside.surface; number = c.self.inside.number } in (
      ap (λ (v : SurfaceValue _). v.full) c.forget_unneeded.ensures.forgets ∙ c.self.invariant.0,
      c.self.invariant.1,
      keeps_responses (measure g.W.Widths.width_of) s c.forget_unneeded.new.self c.prepare.new.self c.forget_unneeded.ensures.forgets c.forget_unneeded.ensures.answers c.prepare.ensures.has,
    )

pub returns-clause-response : goal.returns-clause-response
returns-clause-response g c =
    let f = measure g.W.Widths.width_of in
    let s : SourceValue _ = record { surface = c.self.inside.surface; number = c.self.inside.number } in
    let named : c.number_asked-from.result ≡ number_asked s.number c.args.ask = subst (λ (v : SourceValue _). c.number_asked-from.result ≡ number_asked v.number c.args.ask) (sym c.self.view_is) c.number_asked-from.ensures in
    let t : SourceValue _ = record { surface = c.forget_unneeded.new.self; number = c.self.inside.number } in
    let p = c.in_ok-is_delta.ensures.answers in
    let bytes : List ℕ = bytes_of f s p.given in
    let is : bytes ≡ response_bytes f t c.args.ask = response_is f s c.forget_unneeded.new.self c.args.ask c.number_asked-from.result p.given c.forget_unneeded.ensures.forgets c.forget_unneeded.ensures.answers (sym named) p.answers [] bytes refl in
    subst (λ (b : List ℕ). IsResponse f t c.args.ask b) is
    (alone_of f t c.args.ask [] bytes (response_of f s c.forget_unneeded.new.self c.args.ask c.number_asked-from.result p.given c.forget_unneeded.ensures.forgets c.forget_unneeded.ensures.answers (named_by s.number c.args.ask c.number_asked-from.result named) p.answers [] bytes refl p.form) refl)

pub returns-clause-written : goal.returns-clause-written
returns-clause-written g c =
    let f = measure g.W.Widths.width_of in
    let s : SourceValue _ = record { surface = c.self.inside.surface; number = c.self.inside.number } in
    let named : c.number_asked-from.result ≡ number_asked s.number c.args.ask = subst (λ (v : SourceValue _). c.number_asked-from.result ≡ number_asked v.number c.args.ask) (sym c.self.view_is) c.number_asked-from.ensures in
    let t : SourceValue _ = record { surface = c.forget_unneeded.new.self; number = c.self.inside.number } in
    let p = c.in_ok-is_delta.ensures.answers in
    let is : c.bytes.result.now ≡ response_bytes f t c.args.ask = response_is f s c.forget_unneeded.new.self c.args.ask c.number_asked-from.result p.given c.forget_unneeded.ensures.forgets c.forget_unneeded.ensures.answers (sym named) p.answers [] c.bytes.result.now (c.bytes.ensures ∙ p.put) in
    subst (λ (b : List ℕ). WritesFront b c.args.room.now c.write_front-len.result c.write_front-len.new.room) is c.write_front-len.ensures

pub returns-clause-preserves : goal.returns-clause-preserves
returns-clause-preserves g c =
    let s = c.self.inside.surface in
    subst (λ (v : SourceValue _). PreservesServing (measure g.W.Widths.width_of) v (source_of c.self.inside.number c.forget_unneeded.new.self)) c.self.view_is
    (serves_on (measure g.W.Widths.width_of) c.self.inside.number s c.forget_unneeded.new.self c.forget_unneeded.ensures.preserves)
