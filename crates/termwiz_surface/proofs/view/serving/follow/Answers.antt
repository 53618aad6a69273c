use Rattle.std.proofs.Common.{map, sym, ap, ◌∙◌}
use Rattle.std.specs.Prelude.{Ok, Err}
use Rattle.termwiz_cell.specs.ChangeValue.{change_value}
use Rattle.termwiz_cell.specs.Measure.{measure}
use Rattle.termwiz_screen.specs.Stream.{stream_of}
use Rattle.termwiz_surface.specs.Surface.{screen_of, full_of}
use Rattle.termwiz_surface.proofs.FollowedRuns.{Views-followed, Views-followed_full}
use Rattle.termwiz_surface.proofs.Viewing.{FollowsTo-accepted, Follows-accepted}
use Rattle.termwiz_surface.proofs.view.serving.follow.Goals as goal

pub returns-in_ok-screen-in-Ok-make-clause-views : goal.returns-in_ok-screen-in-Ok-make-clause-views
returns-in_ok-screen-in-Ok-make-clause-views g c =
    let got = c.in-Ok.ensures.fetched in
    Views-followed (measure g.W.Widths.width_of) c.args.surface.now c.args.viewer.now c.requires c.fetch.new.self c.make.new.self c.in-Ok.number (stream_of c.in-Ok.changes) got.0 got.1 c.in-Ok.ensures.sized got.2
    c.in-Ok-make.number c.in-Ok-make.ensures.accepts (sym c.is_full.ensures ∙ c.if-is_full.false) c.in_ok-copies-in-Ok.copies c.in_ok-screen-in-Ok-make.screen (c.in_ok-copies-in-Ok.ensures ∙ ap (map change_value) c.as_slice.ensures.value) (c.in_ok-screen-in-Ok-make.ensures.shown ∙ ap screen_of c.surface-in-Ok-make.ensures)
    (record { numbers = c.in_ok-screen-in-Ok-make.ensures.numbers; flags = c.in_ok-screen-in-Ok-make.ensures.flags })

pub returns-in_ok-screen-in-Ok-make-clause-follows : goal.returns-in_ok-screen-in-Ok-make-clause-follows
returns-in_ok-screen-in-Ok-make-clause-follows g c =
    let got = c.in-Ok.ensures.fetched in
    Follows-accepted (measure g.W.Widths.width_of) c.args.surface.now c.args.viewer.now c.fetch.new.self c.make.new.self c.in-Ok.number (stream_of c.in-Ok.changes) got.0 got.1 c.in-Ok.ensures.sized got.2 c.requires (Ok c.in-Ok-make.number) c.in-Ok-make.ensures.accepts

pub returns-then-is_full-clause-views : goal.returns-then-is_full-clause-views
returns-then-is_full-clause-views g c =
    let got = c.in-Ok.ensures.fetched in
    Views-followed_full (measure g.W.Widths.width_of) c.args.surface.now c.args.viewer.now c.requires c.fetch.new.self c.make.new.self c.in-Ok.number (stream_of c.in-Ok.changes) got.0 got.1 c.in-Ok.ensures.sized got.2
    c.in-Ok-make.number c.in-Ok-make.ensures.accepts (sym c.is_full.ensures ∙ c.if-is_full.true) c.in_ok-copies-in-Ok.copies c.in_ok-shown-in-Ok-make.shown (c.in_ok-copies-in-Ok.ensures ∙ ap (map change_value) c.as_slice.ensures.value) (c.in_ok-shown-in-Ok-make.ensures.shown ∙ ap full_of c.surface.ensures)
    (record { numbers = c.in_ok-shown-in-Ok-make.ensures.numbers; flags = c.in_ok-shown-in-Ok-make.ensures.flags })

pub returns-then-is_full-clause-follows : goal.returns-then-is_full-clause-follows
returns-then-is_full-clause-follows g c =
    let got = c.in-Ok.ensures.fetched in
    Follows-accepted (measure g.W.Widths.width_of) c.args.surface.now c.args.viewer.now c.fetch.new.self c.make.new.self c.in-Ok.number (stream_of c.in-Ok.changes) got.0 got.1 c.in-Ok.ensures.sized got.2 c.requires (Ok c.in-Ok-make.number) c.in-Ok-make.ensures.accepts

pub returns-in-Err-make-clause-views : goal.returns-in-Err-make-clause-views
returns-in-Err-make-clause-views g c =
    let f = λ (widths : _). measure g.W.Widths.width_of widths in
    let got = c.in-Ok.ensures.fetched in
    FollowsTo-accepted f c.args.surface.now c.args.viewer.now c.fetch.new.self c.make.new.self c.in-Ok.number (stream_of c.in-Ok.changes) got.0 got.1 c.in-Ok.ensures.sized got.2 (Err c.in-Err-make.error) c.in-Err-make.ensures.accepts

pub returns-in-Err-make-clause-follows : goal.returns-in-Err-make-clause-follows
returns-in-Err-make-clause-follows g c =
    let got = c.in-Ok.ensures.fetched in
    Follows-accepted (measure g.W.Widths.width_of) c.args.surface.now c.args.viewer.now c.fetch.new.self c.make.new.self c.in-Ok.number (stream_of c.in-Ok.changes) got.0 got.1 c.in-Ok.ensures.sized got.2 c.requires (Err c.in-Err-make.error) c.in-Err-make.ensures.accepts
