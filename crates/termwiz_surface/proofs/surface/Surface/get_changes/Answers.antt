use Rattle.std.proofs.Common.{◌≡◌, ◌-◌, true, map, ◌≤◌, false, length, refl, sym, ap, ◌∙◌, subst}
use Rattle.std.proofs.lemmas.Bool.{true≢false}
use Rattle.std.specs.Prelude.{None}
use Rattle.termwiz_cell.specs.ChangeValue.{change_value}
use Rattle.termwiz_cell.specs.Measure.{measure}
use Rattle.termwiz_screen.specs.Log.{due, is_known, delta_limit}
use Rattle.termwiz_screen.specs.Step.{replay, regions_fit}
use Rattle.termwiz_surface.specs.Surface.{SurfaceValue, IsSound, screen_of, kept_of}
use Rattle.termwiz_screen.specs.FullScreen.{full_replay}
use Rattle.termwiz_screen.specs.Repaint.{repaint_in}
use Rattle.termwiz_screen.specs.Stream.{most_entries}
use Rattle.termwiz_screen.proofs.LogRegions.{regions-drop}
use Rattle.termwiz_screen.proofs.Logs.{known-least}
use Rattle.termwiz_surface.proofs.SoundRepaint.{sound_repaint, sound_full_repaint, sound_short, repaint_in-fits}
use Rattle.termwiz_surface.proofs.surface.Surface.get_changes.Given as given
use Rattle.termwiz_surface.proofs.surface.Surface.get_changes.Goals as goal

module _ (g : given.Over) (c : goal.In_ok-repaint-in-None g) where
  pub unknown : is_known (delta_limit c.args.self.now.width c.args.self.now.height) c.args.self.now.log c.args.seq ≡ false
  unknown =
      subst (λ (v : SurfaceValue _). is_known (delta_limit v.width v.height) v.log c.args.seq ≡ false) c.self.view_is
      (sym (known-least c.self.inside.log c.args.seq (delta_limit c.self.inside.width c.self.inside.height) c.self.invariant.0.number_fits)
      ∙ sym (ap (λ most. is_known most c.self.inside.log c.args.seq) c.delta_limit.ensures) ∙ c.in-None.ensures.none refl)

pub returns-in_ok-repaint-in-None-clause-due : goal.returns-in_ok-repaint-in-None-clause-due
returns-in_ok-repaint-in-None-clause-due g c = λ known. absurd (true≢false (sym known ∙ unknown g c))

module _ (g : given.Over) (c : goal.In_ok-repaint-in-None g) where
  pub sound : IsSound (measure g.W.Widths.width_of c.args.self.now.widths) c.args.self.now
  sound = subst (λ (v : SurfaceValue _). IsSound (measure g.W.Widths.width_of v.widths) v) c.self.view_is c.self.invariant.0

pub returns-in_ok-repaint-in-None-clause-repaint : goal.returns-in_ok-repaint-in-None-clause-repaint
returns-in_ok-repaint-in-None-clause-repaint g c =
    let width = measure g.W.Widths.width_of c.args.self.now.widths in
    let v = c.args.self.now in
    λ known s size. ap (replay width s) c.in_ok-repaint-in-None.ensures ∙ sound_repaint width v (sound g c) (g.met.W.Widths.space_has_one v.widths None) v.full s size

pub returns-in_ok-repaint-in-None-clause-entries : goal.returns-in_ok-repaint-in-None-clause-entries
returns-in_ok-repaint-in-None-clause-entries g c = λ known. c.in_ok-repaint-in-None.ensures

pub returns-in_ok-repaint-in-None-clause-stream : goal.returns-in_ok-repaint-in-None-clause-stream
returns-in_ok-repaint-in-None-clause-stream g c = record {
  known = λ known. absurd (true≢false (sym known ∙ unknown g c));
  repaint = returns-in_ok-repaint-in-None-clause-repaint g c;
}

pub returns-in_ok-repaint-in-None-clause-full : goal.returns-in_ok-repaint-in-None-clause-full
returns-in_ok-repaint-in-None-clause-full g c =
    let width = measure g.W.Widths.width_of c.args.self.now.widths in
    let v = c.args.self.now in
    λ full. record {
      known = λ known. absurd (true≢false (sym known ∙ unknown g c));
      repaint = λ not_known t size.
          ap (full_replay width t) (c.in_ok-repaint-in-None.ensures ∙ ap (λ b. repaint_in b (screen_of v) (kept_of v)) full)
          ∙ sound_full_repaint width v (sound g c) (g.met.W.Widths.space_has_one v.widths None) t size;
    }

pub returns-in_ok-repaint-in-None-clause-short : goal.returns-in_ok-repaint-in-None-clause-short
returns-in_ok-repaint-in-None-clause-short g c =
    let v = c.args.self.now in
    λ known. subst (λ changes. length changes ≤ most_entries v.full v.width v.height) (sym c.in_ok-repaint-in-None.ensures) (sound_short (measure g.W.Widths.width_of v.widths) v (sound g c) v.full)

pub returns-in_ok-repaint-in-None-clause-regions : goal.returns-in_ok-repaint-in-None-clause-regions
returns-in_ok-repaint-in-None-clause-regions g c =
    let v = c.args.self.now in
    ap (regions_fit v.height) c.in_ok-repaint-in-None.ensures ∙ repaint_in-fits v.height v.full (screen_of v) (kept_of v)

pub returns-in-Some-clause-regions : goal.returns-in-Some-clause-regions
returns-in-Some-clause-regions g c =
    let s = c.self.inside in
    subst (λ (v : SurfaceValue _). regions_fit v.height (map change_value c.in-Some.due.now) ≡ true) c.self.view_is
    (ap (regions_fit s.height) c.in-Some.ensures.some.1 ∙ regions-drop s.height (c.args.seq - s.log.first) s.log.changes c.self.invariant.0.regions)

module _ (g : given.Over) (c : goal.In-Some g) where
  is_so : is_known (delta_limit c.args.self.now.width c.args.self.now.height) c.args.self.now.log c.args.seq ≡ true
  is_so =
      subst (λ (v : SurfaceValue _). is_known (delta_limit v.width v.height) v.log c.args.seq ≡ true) c.self.view_is
      (sym (known-least c.self.inside.log c.args.seq (delta_limit c.self.inside.width c.self.inside.height) c.self.invariant.0.number_fits)
      ∙ sym (ap (λ most. is_known most c.self.inside.log c.args.seq) c.delta_limit.ensures) ∙ c.in-Some.ensures.some.0)

  lent : map change_value c.in-Some.due.now ≡ due c.args.self.now.log c.args.seq
  lent = c.in-Some.ensures.some.1 ∙ ap (λ (v : SurfaceValue _). due v.log c.args.seq) c.self.view_is

pub returns-in-Some-clause-entries : goal.returns-in-Some-clause-entries
returns-in-Some-clause-entries g c = λ unknown. absurd (true≢false (sym (is_so g c) ∙ unknown))

pub returns-in-Some-clause-stream : goal.returns-in-Some-clause-stream
returns-in-Some-clause-stream g c = record {
  known = λ known. lent g c;
  repaint = λ unknown. absurd (true≢false (sym (is_so g c) ∙ unknown));
}

pub returns-in-Some-clause-full : goal.returns-in-Some-clause-full
returns-in-Some-clause-full g c = λ full. record {
  known = λ known. lent g c;
  repaint = λ unknown. absurd (true≢false (sym (is_so g c) ∙ unknown));
}
