use Rattle.termwiz_surface.proofs.Accepting.{names-same, shows_screen, shows_full_screen}
use Rattle.termwiz_surface.proofs.view.viewer.Viewer.accept_owned.Goals as goal

pub returns-clause-shows : goal.returns-clause-shows
returns-clause-shows g c =
    shows_screen _ c.args.self.now c.args.answer c.take_owned.new.self.surface c.in_ok-decline.ensures.sized c.in_ok-decline.ensures.declines c.in_ok-take_owned.ensures.ok.1

pub returns-clause-shows_fully : goal.returns-clause-shows_fully
returns-clause-shows_fully g c =
    shows_full_screen _ c.args.self.now c.args.answer c.take_owned.new.self.surface c.in_ok-decline.ensures.sized c.in_ok-decline.ensures.declines c.in_ok-take_owned.ensures.ok.1

pub returns-clause-names : goal.returns-clause-names
returns-clause-names g c past s carries names =
    names-same past _ c.args.answer.number s _ c.in_ok-take_owned.ensures.ok.0 (returns-clause-shows g c past s carries names) carries.named

pub returns-clause-names_fully : goal.returns-clause-names_fully
returns-clause-names_fully g c past f carries names =
    names-same past _ c.args.answer.number f _ c.in_ok-take_owned.ensures.ok.0 (returns-clause-shows_fully g c past f carries names) carries.named
