use Rattle.termwiz_surface.specs.{full_screens, measure, screens}
use Rattle.uses.proofs.Served.{IsServed-followed, served_follows}
use Rattle.uses.proofs.sharing.reconnect_fully.Goals as goal

pub returns-clause-served : goal.returns-clause-served
returns-clause-served g c =
    let f = measure g.W.Widths.width_of in
    let s = c.args.surface.now in
    let v = c.args.viewer.now in
    let follows = served_follows f v s c.history_laws.ensures.led c.full_history_laws.ensures.led c.requires.served c.requires.served_fully in
    IsServed-followed f screens v c.follow.new.self s c.follow.result c.history_laws.ensures.number c.requires.served (c.follow.ensures.follows follows) (c.follow.ensures.caught_up follows) (c.follow.ensures.fully_caught_up follows c.requires.is_full) c.follow.ensures.failed

pub returns-clause-served_fully : goal.returns-clause-served_fully
returns-clause-served_fully g c =
    let f = measure g.W.Widths.width_of in
    let s = c.args.surface.now in
    let v = c.args.viewer.now in
    let follows = served_follows f v s c.history_laws.ensures.led c.full_history_laws.ensures.led c.requires.served c.requires.served_fully in
    IsServed-followed f full_screens v c.follow.new.self s c.follow.result c.full_history_laws.ensures.number c.requires.served_fully (c.follow.ensures.follows follows) (c.follow.ensures.caught_up follows) (c.follow.ensures.fully_caught_up follows c.requires.is_full) c.follow.ensures.failed
