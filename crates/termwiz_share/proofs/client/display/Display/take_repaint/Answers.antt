use Rattle.std.proofs.Common.{◌+◌, arith, get_or, replicate, ◌≡◌, List, ℕ, ap, map, refl, sym, ◌∙◌}
use Rattle.termwiz_cell.specs.Measure.{measure}
use Rattle.termwiz_surface.specs.Surface.{SurfaceValue, full_of}
use Rattle.termwiz_screen.specs.FullScreen.{FullScreen}
use Rattle.termwiz_screen.specs.Picture.{full_screens, played}
use Rattle.termwiz_surface.specs.Unlogged.{lent_value}
use Rattle.termwiz_wire.specs.Lent.{lent_answer}
use Rattle.std.proofs.lemmas.List.{get_or-replicate}
use Rattle.termwiz_surface.proofs.RowNumbers.{numbers-replaced}
use Rattle.termwiz_share.specs.Client.{blank_screen}
use Rattle.termwiz_share.proofs.Taking.{made_of, repaint_taken}
use Rattle.termwiz_share.proofs.client.display.Display.take_repaint.Goals as goal

pub returns-clause-takes : goal.returns-clause-takes
returns-clause-takes g c =
    let width_of = g.W.Widths.width_of in
    let m : List ℕ → ℕ = measure width_of c.self.inside.surface.widths in
    let a = (lent_answer c.args.answer).answer in
    let made = made_of (measure width_of c.in_ok-surface.surface.widths) c.in_ok-surface.surface c.add.new.self _ a.changes _ c.add.result (sym c.is_err.ensures.value ∙ c.if-is_err.false) (ap (map lent_value) c.deref.ensures.value) c.add.ensures.adds in
    let same : c.in_ok-surface.surface.widths ≡ c.self.inside.surface.widths = ap (λ (s : SurfaceValue _). s.widths) c.in_ok-surface.ensures ∙ c.widths-widths.ensures in
    let blank : full_of c.in_ok-surface.surface ≡ blank_screen c.args.answer.width c.args.answer.height = rw c.in_ok-surface.ensures refl in
    let is : full_of c.add.new.self ≡ played full_screens m (blank_screen c.args.answer.width c.args.answer.height) a.changes =
    made.0 ∙ ap (λ w. played full_screens (measure width_of w) (full_of c.in_ok-surface.surface) a.changes) same ∙ ap (λ (p : FullScreen). played full_screens m p a.changes) blank in
    let both = repaint_taken m _ c.args.answer.source a (full_of c.add.new.self) c.requires.repaint is in
    rw (← c.self.view_is) (both.0, both.1, both.2, made.1 ∙ same)

pub returns-clause-numbered : goal.returns-clause-numbered
returns-clause-numbered g c =
    let old : SurfaceValue _ = c.self.inside.surface in
    let fresh : SurfaceValue _ = c.in_ok-surface.surface in
    rw (← c.self.view_is) (numbers-replaced old fresh c.add.new.self
    (rw c.in_ok-surface.ensures (omega (arith, c.current_seqno-number.ensures)))
    (rw c.in_ok-surface.ensures (λ j l. let at : get_or (replicate c.args.answer.height (c.current_seqno-number.result + 1)) j 0 ≡ c.current_seqno-number.result + 1 = get_or-replicate _ j _ 0 l in omega (arith, at, c.current_seqno-number.ensures)))
    c.add.ensures.preserves.rows)
