use Rattle.std.proofs.Common.{sym, subst}
use Rattle.termwiz_surface.specs.{HaveRegion, Screen, cut_to, screen_of, whole_at}
use Rattle.uses.proofs.window.show_widget.Goals as goal

pub returns-clause-widget : goal.returns-clause-widget
returns-clause-widget g c same none =
    let a = screen_of c.args.window.now in
    let b = screen_of c.args.widget.now in
    let follows = c.draw_from_screen.ensures.preserves.viewers c.args.viewer.now c.requires in
    subst (λ (t : Screen). HaveRegion a.width t.rows a.rows b.rows (cut_to c.args.window.now c.args.widget.now (whole_at c.args.widget.now c.args.x c.args.y))) (sym (c.in_ok-follow.ensures.caught_up follows).0) (c.in_ok-draw_from_screen.ensures.region same none)

pub returns-clause-follows : goal.returns-clause-follows
returns-clause-follows g c = c.follow.ensures.follows (c.draw_from_screen.ensures.preserves.viewers c.args.viewer.now c.requires)

pub returns-in_err-follow-clause-follows : goal.returns-in_err-follow-clause-follows
returns-in_err-follow-clause-follows g c = c.in_err-follow.ensures.follows (c.in_ok-draw_from_screen.ensures.preserves.viewers c.args.viewer.now c.requires)
