use Rattle.std.proofs.Common.{◌≡◌, List, get_or, map, sym, ap, ◌∙◌, rules, subst}
use Rattle.std.specs.Prelude.{Ok}
use Rattle.termwiz_surface.specs.{ChangeValue, DoubleWidthLine, FullScreen, Kept, SingleWidthLine, change_value, kept_of, measure, replay, replay_kept, screen_of}
use Rattle.uses.specs.Following.{FollowsOnce}
use Rattle.uses.specs.Making.{MakesOrFails}
use Rattle.uses.proofs.HeadingRow.{row_is_wide}
use Rattle.uses.proofs.remote.show_heading.Goals as goal

pub returns-clause-shown : goal.returns-clause-shown
returns-clause-shown g c =
    c.in_ok-follow.ensures.fully_caught_up (c.in_ok-add_changes.ensures.preserves.viewers c.args.remote.now c.requires.follows) (c.in_ok-add_changes.ensures.adds.3.full ∙ c.requires.full)

pub returns-clause-title : goal.returns-clause-title
returns-clause-title g c =
    let width = measure g.W.Widths.width_of c.args.session.now.widths in
    let old = c.args.session.now in
    ap (λ (f : FullScreen). f.title) (returns-clause-shown g c)
    ∙ ap (λ (k : Kept). k.title) c.in_ok-add_changes.ensures.adds.3.kept_is
    ∙ ap (λ changes. (replay_kept width (screen_of old) (kept_of old) changes).title) c.in_ok-changes.ensures

pub returns-clause-wide : goal.returns-clause-wide
returns-clause-wide g c =
    let width = measure g.W.Widths.width_of c.args.session.now.widths in
    let old = c.args.session.now in
    let made = c.in_ok-add_changes.ensures.adds.3 in
    let screen = made.screen_is ∙ ap (replay width (screen_of old)) c.in_ok-changes.ensures in
    let kept = made.kept_is ∙ ap (replay_kept width (screen_of old) (kept_of old)) c.in_ok-changes.ensures in
    let session = c.add_changes.new.self in
    let f = measure g.W.Widths.width_of session.widths in
    subst (λ (f : FullScreen). get_or f.lines f.screen.y SingleWidthLine ≡ DoubleWidthLine) (sym (returns-clause-shown g c))
    (row_is_wide width old session c.args.heading.now f c.dimensions-size.ensures.sound screen kept)

pub returns-clause-follows : goal.returns-clause-follows
returns-clause-follows g c = c.follow.ensures.follows (c.in_ok-add_changes.ensures.preserves.viewers c.args.remote.now c.requires.follows)

pub returns-clause-either : goal.returns-clause-either
returns-clause-either g c =
    let changes : List ChangeValue = map change_value c.in_ok-changes.changes.items in
    let added : MakesOrFails (measure g.W.Widths.width_of c.args.session.now.widths) c.args.session.now changes (Ok tt) c.add_changes.new.self = search rules in
    let followed : FollowsOnce (measure g.W.Widths.width_of) c.add_changes.new.self c.args.remote.now (Ok tt) c.follow.new.self = search rules in
    (subst (λ (cs : List ChangeValue). MakesOrFails (measure g.W.Widths.width_of c.args.session.now.widths) c.args.session.now cs (Ok tt) c.add_changes.new.self) c.in_ok-changes.ensures added, followed)
