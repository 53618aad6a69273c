use Rattle.std.proofs.Common.{ap, ◌∙◌}
use Rattle.termwiz_surface.specs.Surface.{screen_of}
use Rattle.termwiz_surface.proofs.view.many.deliver.Goals as goal

pub returns-in_ok-screen-in-Ok : goal.returns-in_ok-screen-in-Ok
returns-in_ok-screen-in-Ok g c =
    let accepted = c.in-Ok.ensures in
    let screen = c.in_ok-screen-in-Ok.ensures in
    record {
      takes = (accepted.takes, screen.shown ∙ ap screen_of c.surface.ensures, accepted.shows, record { numbers = screen.numbers; flags = screen.flags });
      names = accepted.names;
    }
