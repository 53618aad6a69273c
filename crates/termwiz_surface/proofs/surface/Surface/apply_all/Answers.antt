use Rattle.std.proofs.Common.{◌+◌, ◌<◌, ℕ, List, ◌∷◌, drop, length, refl, subst, arith}
use Rattle.std.specs.Prelude.{IsTrue}
use Rattle.termwiz_cell.specs.ChangeValue.{ChangeValue}
use Rattle.termwiz_cell.specs.Measure.{measure}
use Rattle.termwiz_line.specs.LineValue.{LineValue}
use Rattle.termwiz_line.proofs.Fills.{on_err}
use Rattle.termwiz_screen.specs.Step.{step, step_kept}
use Rattle.termwiz_surface.specs.ChangeLists.{change_list, listed_value}
use Rattle.termwiz_surface.specs.ScrolledOff.{BeginsRows, ScrollsOff, left_step}
use Rattle.termwiz_surface.specs.Surface.{SurfaceValue, Becomes, screen_of, kept_of}
use Rattle.termwiz_surface.proofs.ScrolledOff.{AppliesPart, drop-next, part-begins, part-more, part-none}
use Rattle.termwiz_surface.specs.Touching.{touches}
use Rattle.termwiz_surface.proofs.surface.Surface.apply_all.Goals as goal

pub loop-i-init : goal.loop-i-init
loop-i-init g c = record {
  part = part-none g.L.LineSink.KEEPS (measure g.W.Widths.width_of c.args.self.now.widths) c.args.self.now (change_list c.args.list.now) (g.L.LineSink.lines_of c.args.lines.now) c.requires;
  none = λ e. refl;
  spare = omega arith;
}

pub returns-in_err-apply-in_default-clause-kept : goal.returns-in_err-apply-in_default-clause-kept
returns-in_err-apply-in_default-clause-kept g c =
    let f : List ℕ → ℕ = measure g.W.Widths.width_of c.args.self.now.widths in
    let all : List ChangeValue = change_list c.args.list.now in
    let i : ℕ = c.loop-i.i in
    let s : SurfaceValue _ = c.loop-i.self in
    let change : ChangeValue = listed_value c.at.result in
    let left : List ChangeValue = drop (i + 1) all in
    let u : List LineValue = (g.L.LineSink.lines_of c.args.lines.now) in
    let v : List LineValue = (g.L.LineSink.lines_of c.loop-i.lines) in
    let inside : i < length all = omega (arith, c.len-i-end.ensures) in
    let next = drop-next all i (listed_value c.at.result) inside c.at.ensures in
    let before : AppliesPart g.L.LineSink.KEEPS f c.args.self.now all (change ∷ left) u s v = subst (λ (cs : List ChangeValue). AppliesPart g.L.LineSink.KEEPS f c.args.self.now all cs u s v) next c.loop-i.invariant.part in
    let begins = subst (λ (w : _). IsTrue g.L.LineSink.KEEPS → BeginsRows s.width (left_step (measure g.W.Widths.width_of w) (screen_of s) (kept_of s) change) v (g.L.LineSink.lines_of c.apply-in-loop-i.new.lines)) before.frame.widths c.in_err-apply-in_default.ensures.kept in
    on_err _ (part-begins g.L.LineSink.KEEPS f c.args.self.now all u change left s v before (g.L.LineSink.lines_of c.apply-in-loop-i.new.lines) begins)

pub loop-i-preserved : goal.loop-i-preserved
loop-i-preserved g c =
    let f : List ℕ → ℕ = measure g.W.Widths.width_of c.args.self.now.widths in
    let all : List ChangeValue = change_list c.args.list.now in
    let i : ℕ = c.loop-i.i in
    let s : SurfaceValue _ = c.loop-i.self in
    let change : ChangeValue = listed_value c.at.result in
    let left : List ChangeValue = drop (i + 1) all in
    let u : List LineValue = (g.L.LineSink.lines_of c.args.lines.now) in
    let v : List LineValue = (g.L.LineSink.lines_of c.loop-i.lines) in
    let inside : i < length all = omega (arith, c.len-i-end.ensures) in
    let next = drop-next all i (listed_value c.at.result) inside c.at.ensures in
    let before : AppliesPart g.L.LineSink.KEEPS f c.args.self.now all (change ∷ left) u s v = subst (λ (cs : List ChangeValue). AppliesPart g.L.LineSink.KEEPS f c.args.self.now all cs u s v) next c.loop-i.invariant.part in
    let becomes = subst (λ (w : _). Becomes s (step (measure g.W.Widths.width_of w) (screen_of s) change) (step_kept (measure g.W.Widths.width_of w) (screen_of s) (kept_of s) change) (touches (measure g.W.Widths.width_of w) (screen_of s) change) c.apply-in-loop-i.new.self) before.frame.widths c.in_ok-apply-in_default.ensures.ok in
    let off = subst (λ (w : _). IsTrue g.L.LineSink.KEEPS → ScrollsOff s.width (left_step (measure g.W.Widths.width_of w) (screen_of s) (kept_of s) change) v (g.L.LineSink.lines_of c.apply-in-loop-i.new.lines)) before.frame.widths c.in_ok-apply-in_default.ensures.scrolls in
    record {
      part = part-more g.L.LineSink.KEEPS f c.args.self.now all u change left s v before c.apply-in-loop-i.new.self (g.L.LineSink.lines_of c.apply-in-loop-i.new.lines) becomes off;
      none = λ e. absurd (omega arith);
      spare = omega (arith, c.loop-i.invariant.spare, c.apply-in-loop-i.ensures.spare);
    }
