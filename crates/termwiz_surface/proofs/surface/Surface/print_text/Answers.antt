use Rattle.std.proofs.Common.{◌≡◌, ◌∙◌, ℕ, suc, true, List, [], ◌∷◌, length, fold, refl, ap, sym, subst, arith, rules}
use Rattle.std.specs.Prelude.{◌==◌}
use Rattle.std.proofs.lemmas.Bool.{eqb-true}
use Rattle.unicode_segmentation.specs.Grapheme.{graphemes}
use Rattle.termwiz_cell.specs.Measure.{measure}
use Rattle.termwiz_screen.specs.Print.{print_one, kept_after}
use Rattle.termwiz_surface.specs.Printing.{PrintsFirst}
use Rattle.termwiz_surface.specs.ScrolledOff.{KeepsTop, left_behind_first, left_by}
use Rattle.termwiz_surface.specs.Surface.{SurfaceValue, screen_of, kept_of}
use Rattle.termwiz_surface.specs.Touching.{touched_by}
use Rattle.termwiz_cell.proofs.Graphemes.{graphemes-nothing}
use Rattle.termwiz_surface.proofs.Printing.{screen-left, kept-left, touched-left}
use Rattle.termwiz_surface.proofs.RowNumbers.{some-all, some-more, some-none}
use Rattle.termwiz_surface.proofs.ScrolledOff.{begins-eq, begins-then, leaves-all, leaves-then, off-leaves, on-err, top-begins, top-leaves, top-prints, top-widths}
use Rattle.termwiz_surface.proofs.surface.Surface.print_text.Goals as goal

pub pieces-init : goal.pieces-init
pieces-init g c =
    let f : List ℕ → ℕ = measure g.W.Widths.width_of c.args.self.now.widths in
    record {
      is_text = c.utf8.text;
      frame = record { widths = refl; width = refl; height = refl; full = refl; log = refl };
      mark = refl;
      rows = some-none (touched_by f (screen_of c.args.self.now) (graphemes true c.args.text.now)) c.args.self.now;
      screen = search rules;
      kept = search rules;
      leaves = λ on. leaves-all c.args.self.now.width (left_by f (screen_of c.args.self.now) (kept_of c.args.self.now) (graphemes true c.args.text.now)) (g.L.LineSink.lines_of c.args.lines.now);
      spare = omega arith;
    }

pub pieces-preserved : goal.pieces-preserved
pieces-preserved g c =
    let before = c.pieces.invariant in
    let f : List ℕ → ℕ = measure g.W.Widths.width_of c.args.self.now.widths in
    let s : SurfaceValue _ = c.pieces.self in
    let m : SurfaceValue _ = c.keep_top.new.self in
    let t : SurfaceValue _ = c.print_first.new.self in
    let u = g.L.LineSink.lines_of c.pieces.lines in
    let v = g.L.LineSink.lines_of c.keep_top.new.lines in
    let text : List ℕ = c.pieces.rest.now in
    let rest : List ℕ = c.in_ok-rest.rest.now in
    let top : KeepsTop f g.L.LineSink.KEEPS (graphemes true text) s u m v = subst (λ (w : _). KeepsTop (measure g.W.Widths.width_of w) g.L.LineSink.KEEPS (graphemes true text) s u m v) before.frame.widths c.in_ok-keep_top.ensures.ok in
    let widths : m.widths ≡ c.args.self.now.widths = top-widths f g.L.LineSink.KEEPS s m text u v top ∙ before.frame.widths in
    let some : PrintsFirst f s text rest t = top-prints f g.L.LineSink.KEEPS s m text u v top t rest before.is_text (subst (λ (w : _). PrintsFirst (measure g.W.Widths.width_of w) m text rest t) widths c.in_ok-rest.ensures.ok) in
    let behind : left_behind_first f (screen_of m) (kept_of m) (graphemes true text) ≡ left_by f (screen_of t) (kept_of t) (graphemes true rest) =
    subst (λ (w : _). left_behind_first (measure g.W.Widths.width_of w) (screen_of m) (kept_of m) (graphemes true text) ≡ left_by (measure g.W.Widths.width_of w) (screen_of t) (kept_of t) (graphemes true rest)) widths c.in_ok-rest.ensures.scrolls in
    record {
      is_text = some.is_text;
      frame = record {
        widths = some.prints.widths ∙ before.frame.widths;
        width = some.prints.width ∙ before.frame.width;
        height = some.prints.height ∙ before.frame.height;
        full = some.prints.full ∙ before.frame.full;
        log = some.prints.log ∙ before.frame.log;
      };
      mark = some.prints.mark ∙ before.mark;
      rows = some-more _ _ (touched_by (measure g.W.Widths.width_of c.args.self.now.widths) (screen_of c.pieces.self) some.printed) _ c.args.self.now c.pieces.self t before.frame.height before.mark
          (touched-left _ s t text rest some) before.rows some.prints.rows;
      screen = screen-left _ s t text rest some ∙ before.screen;
      kept = kept-left _ s t text rest some ∙ before.kept;
      leaves = λ on. leaves-then c.args.self.now.width _ _ _ _ _ _ (before.leaves on) (rw (← before.frame.width) (top-leaves f g.L.LineSink.KEEPS s m text u v top (screen_of t) (kept_of t) (graphemes true rest) behind on));
      spare = omega (arith, before.spare, c.keep_top.ensures.spare);
    }

none_left : (t : List ℕ) → true ≡ (length t == 0) → t ≡ []
none_left [] e = refl
none_left (b ∷ t) e = let no : suc (length t) ≡ 0 = eqb-true _ _ (sym e) in absurd (omega arith)

pub returns-clause-ok : goal.returns-clause-ok
returns-clause-ok g c =
    let f : List ℕ → ℕ = measure g.W.Widths.width_of c.args.self.now.widths in
    let before = c.pieces.invariant in
    let empty : c.pieces.rest.now ≡ [] = none_left c.pieces.rest.now c.pieces-test.ensures in
    let nothing : graphemes true c.pieces.rest.now ≡ [] = ap (graphemes true) empty ∙ graphemes-nothing in
    record {
      widths = before.frame.widths;
      width = before.frame.width;
      height = before.frame.height;
      full = before.frame.full;
      log = before.frame.log;
      mark = before.mark;
      rows = some-all _ _ c.args.self.now c.pieces.self (λ j. ap (λ (gs : List (List ℕ)). touched_by f (screen_of c.pieces.self) gs j) nothing) before.rows;
      screen_is = sym (ap (fold (print_one f) (screen_of c.pieces.self)) nothing) ∙ before.screen;
      kept_is = sym (ap (kept_after f (screen_of c.pieces.self) (kept_of c.pieces.self)) nothing) ∙ before.kept;
    }

pub returns-clause-scrolls : goal.returns-clause-scrolls
returns-clause-scrolls g c =
    let f : List ℕ → ℕ = measure g.W.Widths.width_of c.args.self.now.widths in
    let empty : c.pieces.rest.now ≡ [] = none_left c.pieces.rest.now c.pieces-test.ensures in
    λ on. off-leaves c.args.self.now.width _ _ _ _ (ap (left_by f (screen_of c.pieces.self) (kept_of c.pieces.self)) (ap (graphemes true) empty ∙ graphemes-nothing)) (c.pieces.invariant.leaves on)

pub returns-in_err-keep_top-clause-kept : goal.returns-in_err-keep_top-clause-kept
returns-in_err-keep_top-clause-kept g c =
    let before = c.pieces.invariant in
    let none = begins-eq c.args.self.now.width _ (g.L.LineSink.lines_of c.pieces.lines) (g.L.LineSink.lines_of c.keep_top.new.lines) c.in_err-keep_top.ensures.kept in
    on-err _ _ (λ on. begins-then c.args.self.now.width _ _ _ _ _ (before.leaves on) none)

pub returns-in_err-rest-clause-kept : goal.returns-in_err-rest-clause-kept
returns-in_err-rest-clause-kept g c =
    let before = c.pieces.invariant in
    let f : List ℕ → ℕ = measure g.W.Widths.width_of c.args.self.now.widths in
    let s : SurfaceValue _ = c.pieces.self in
    let m : SurfaceValue _ = c.keep_top.new.self in
    let u = g.L.LineSink.lines_of c.pieces.lines in
    let v = g.L.LineSink.lines_of c.keep_top.new.lines in
    let text : List ℕ = c.pieces.rest.now in
    let top : KeepsTop f g.L.LineSink.KEEPS (graphemes true text) s u m v = subst (λ (w : _). KeepsTop (measure g.W.Widths.width_of w) g.L.LineSink.KEEPS (graphemes true text) s u m v) before.frame.widths c.in_ok-keep_top.ensures.ok in
    on-err _ _ (λ on. begins-then c.args.self.now.width _ _ _ _ _ (before.leaves on) (rw (← before.frame.width) (top-begins f g.L.LineSink.KEEPS s m text u v top on)))
