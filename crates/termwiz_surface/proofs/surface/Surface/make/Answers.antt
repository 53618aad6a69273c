use Rattle.std.proofs.Common.{◌≡◌, ℕ, List, [], ◌+◌, ◌≤◌, true, length, sym, ap, subst, ◌∙◌, arith}
use Rattle.std.specs.Prelude.{IsTrue}
use Rattle.termwiz_cell.specs.ChangeValue.{ChangeValue}
use Rattle.termwiz_cell.specs.Measure.{measure}
use Rattle.termwiz_screen.specs.Log.{LogValue, next_number}
use Rattle.termwiz_screen.specs.Step.{regions_fit, replay, replay_kept}
use Rattle.termwiz_surface.specs.Adding.{with_log}
use Rattle.termwiz_surface.specs.ChangeLists.{MakesList, change_list, log_after}
use Rattle.termwiz_surface.specs.RowNumbers.{NumbersRows}
use Rattle.termwiz_surface.specs.ScrolledOff.{BeginsRows, ScrollsOff, rows_scrolled_off}
use Rattle.termwiz_surface.specs.Surface.{SurfaceValue, Becomes, kept_of, screen_of}
use Rattle.termwiz_surface.specs.Touching.{touched}
use Rattle.termwiz_surface.proofs.ChangeLists.{after-number, makes-list, sound-after}
use Rattle.termwiz_surface.proofs.RowNumbers.{numbers-none}
use Rattle.termwiz_surface.proofs.ScrolledOff.{begins-leaves, on-err}
use Rattle.termwiz_surface.proofs.surface.Surface.make.Goals as goal

pub invariant_of-self-2 : goal.invariant_of-self-2
invariant_of-self-2 g c =
    let s = c.self-2.inside in
    let changes : List ChangeValue = change_list c.args.list in
    let made = c.in_ok-apply_all.ensures.ok in
    let height : s.height ≡ c.args.self.now.height = ap (λ (v : SurfaceValue _). v.height) c.self-2.view_is ∙ made.height ∙ ap (λ (v : SurfaceValue _). v.height) c.self.view_is in
    let number : next_number s.log ≡ next_number c.args.self.now.log =
    ap (λ (v : SurfaceValue _). next_number v.log) c.self-2.view_is ∙ ap next_number made.log ∙ ap (λ (v : SurfaceValue _). next_number v.log) c.self.view_is in
    let fits : regions_fit s.height changes ≡ true = ap (λ (h : ℕ). regions_fit h changes) height ∙ c.requires.fits in (
      sound-after _ _ c.self-2.invariant.0 c.args.list c.log_in.new.log c.in_ok-log_in.ensures.ok fits (omega (arith, number, c.requires.numbers)),
      c.self-2.invariant.1,
      c.self-2.invariant.2,
    )

pub returns-clause-ok : goal.returns-clause-ok
returns-clause-ok g c =
    let old : SurfaceValue _ = c.args.self.now in
    let f : List ℕ → ℕ = measure g.W.Widths.width_of old.widths in
    let new : SurfaceValue _ = c.apply_all.new.self in
    let changes : List ChangeValue = change_list c.args.list in
    let mark : ℕ = c.next_number.result + c.len.result in
    let number : mark ≡ next_number old.log + length changes = omega (arith, c.next_number.ensures, c.len.ensures, ap (λ (s : SurfaceValue _). next_number s.log) c.self.view_is) in
    let becomes : Becomes (record old { mark = mark }) (replay f (screen_of old) changes) (replay_kept f (screen_of old) (kept_of old) changes) (touched f (screen_of old) changes) new =
    subst (λ (s : SurfaceValue _). let f = measure g.W.Widths.width_of s.widths in
    Becomes (record s { mark = mark }) (replay f (screen_of s) changes) (replay_kept f (screen_of s) (kept_of s) changes) (touched f (screen_of s) changes) new) c.self.view_is c.in_ok-apply_all.ensures.ok in
    let logged : c.log_in.new.log ≡ log_after old.log c.args.list = c.in_ok-log_in.ensures.ok ∙ ap (λ (s : SurfaceValue _). log_after s.log c.args.list) c.self-2.view_is ∙ ap (λ (l : LogValue). log_after l c.args.list) becomes.log in
    subst (λ (m : SurfaceValue _). MakesList f old c.args.list (with_log m c.log_in.new.log)) (sym c.self-2.view_is) (makes-list f old new c.args.list mark c.log_in.new.log number logged becomes)

pub returns-clause-none : goal.returns-clause-none
returns-clause-none g c = λ none.
    let old : SurfaceValue _ = c.args.self.now in
    let new : SurfaceValue _ = c.apply_all.new.self in
    let mark : ℕ = c.next_number.result + c.len.result in
    let same : new ≡ record old { mark = mark } =
    c.in_ok-apply_all.ensures.none none ∙ ap (λ (s : SurfaceValue _). record s { mark = mark }) c.self.view_is in
    let grows : next_number old.log ≤ next_number c.log_in.new.log =
    omega (arith, ap next_number c.in_ok-log_in.ensures.ok, after-number c.self-2.inside.log c.args.list, ap (λ (s : SurfaceValue _). next_number s.log) (c.self-2.view_is ∙ same), ap (λ (s : SurfaceValue _). next_number s.log) c.self.view_is) in
    subst (λ (m : SurfaceValue _). NumbersRows old (with_log m c.log_in.new.log)) (sym c.self-2.view_is) (numbers-none old new mark old.log c.log_in.new.log same grows)

pub returns-in_err-apply_all-clause-kept : goal.returns-in_err-apply_all-clause-kept
returns-in_err-apply_all-clause-kept g c =
    let f = λ (s : SurfaceValue _). measure g.W.Widths.width_of s.widths in
    on-err _ _ (subst (λ (s : SurfaceValue _). IsTrue g.L.LineSink.KEEPS → BeginsRows s.width (rows_scrolled_off (f s) (screen_of s) (kept_of s) (change_list c.args.list)) (g.L.LineSink.lines_of c.args.lines.now) (g.L.LineSink.lines_of c.apply_all.new.lines)) c.self.view_is c.in_err-apply_all.ensures.kept)

pub returns-in_err-log_in-clause-kept : goal.returns-in_err-log_in-clause-kept
returns-in_err-log_in-clause-kept g c =
    let f = λ (s : SurfaceValue _). measure g.W.Widths.width_of s.widths in
    let scrolls = subst (λ (s : SurfaceValue _). IsTrue g.L.LineSink.KEEPS → ScrollsOff s.width (rows_scrolled_off (f s) (screen_of s) (kept_of s) (change_list c.args.list)) (g.L.LineSink.lines_of c.args.lines.now) (g.L.LineSink.lines_of c.apply_all.new.lines)) c.self.view_is c.in_ok-apply_all.ensures.scrolls in
    on-err _ _ (λ on. begins-leaves c.args.self.now.width _ [] (g.L.LineSink.lines_of c.args.lines.now) (g.L.LineSink.lines_of c.apply_all.new.lines) (scrolls on))

pub returns-clause-scrolls : goal.returns-clause-scrolls
returns-clause-scrolls g c =
    let f = λ (s : SurfaceValue _). measure g.W.Widths.width_of s.widths in
    subst (λ (s : SurfaceValue _). IsTrue g.L.LineSink.KEEPS → ScrollsOff s.width (rows_scrolled_off (f s) (screen_of s) (kept_of s) (change_list c.args.list)) (g.L.LineSink.lines_of c.args.lines.now) (g.L.LineSink.lines_of c.apply_all.new.lines)) c.self.view_is c.in_ok-apply_all.ensures.scrolls
