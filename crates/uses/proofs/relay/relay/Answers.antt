use Rattle.std.proofs.Common.{sym, ap, subst, ◌∙◌}
use Rattle.termwiz_surface.specs.{Follows, SurfaceValue, full_of, measure, screen_of}
use Rattle.uses.proofs.Followed.{followed_kind}
use Rattle.uses.proofs.relay.relay.Goals as goal

-- after the near viewer's failure the far one follows it still
pub returns-in_err-follow-clause-far : goal.returns-in_err-follow-clause-far
returns-in_err-follow-clause-far g c = c.follow.ensures.preserves.viewers c.args.far.now c.requires.far

pub returns-in_err-follow-2-clause-far : goal.returns-in_err-follow-2-clause-far
returns-in_err-follow-2-clause-far g c =
    let f = measure g.W.Widths.width_of in
    let followed = c.follow.ensures.preserves.viewers c.args.far.now c.requires.far in
    subst (Follows f c.follow-2.new.self) c.surface.ensures (c.follow-2.ensures.follows (subst (Follows f c.args.far.now) (sym c.surface.ensures) followed))

pub returns-clause-far : goal.returns-clause-far
returns-clause-far g c =
    let f = measure g.W.Widths.width_of in
    let followed = c.follow.ensures.preserves.viewers c.args.far.now c.requires.far in
    subst (Follows f c.follow-2.new.self) c.surface.ensures (c.follow-2.ensures.follows (subst (Follows f c.args.far.now) (sym c.surface.ensures) followed))

pub returns-clause-shown : goal.returns-clause-shown
returns-clause-shown g c =
    let f = measure g.W.Widths.width_of in
    let followed = c.follow.ensures.preserves.viewers c.args.far.now c.requires.far in
    (c.in_ok-follow-2.ensures.caught_up (subst (Follows f c.args.far.now) (sym c.surface.ensures) followed)).0
    ∙ ap screen_of c.surface.ensures
    ∙ (c.in_ok-follow.ensures.caught_up c.requires.near).0

pub returns-in_err-follow-2-clause-kind : goal.returns-in_err-follow-2-clause-kind
returns-in_err-follow-2-clause-kind g c = followed_kind (measure g.W.Widths.width_of) c.args.surface.now c.args.near.now c.follow.new.self c.in_ok-follow.ensures.steps.2

pub returns-clause-kind : goal.returns-clause-kind
returns-clause-kind g c = followed_kind (measure g.W.Widths.width_of) c.args.surface.now c.args.near.now c.follow.new.self c.in_ok-follow.ensures.steps.2

pub returns-clause-shown_fully : goal.returns-clause-shown_fully
returns-clause-shown_fully g c full near_full =
    let f = measure g.W.Widths.width_of in
    let followed = c.follow.ensures.preserves.viewers c.args.far.now c.requires.far in
    let kind = followed_kind f c.args.surface.now c.args.near.now c.follow.new.self c.in_ok-follow.ensures.steps.2 in
    c.in_ok-follow-2.ensures.fully_caught_up (subst (Follows f c.args.far.now) (sym c.surface.ensures) followed) (ap (λ (s : SurfaceValue _). s.full) c.surface.ensures ∙ kind ∙ near_full)
    ∙ ap full_of c.surface.ensures
    ∙ c.in_ok-follow.ensures.fully_caught_up c.requires.near full
