use Rattle.std.proofs.Common.{◌≡◌, ◌-◌, ap, ◌∙◌, arith}
use Rattle.termwiz_screen.specs.Log.{next_number, delta_limit, flushed}
use Rattle.termwiz_surface.specs.Adding.{with_log}
use Rattle.termwiz_surface.specs.Surface.{SurfaceValue}
use Rattle.termwiz_surface.specs.Asking.{forgotten}
use Rattle.termwiz_surface.proofs.Forgetting.{forgotten_alike, forgotten_few}
use Rattle.termwiz_surface.proofs.surface.Surface.forget_unneeded.Given as given
use Rattle.termwiz_surface.proofs.surface.Surface.forget_unneeded.Goals as goal

module _ (g : given.Over) (c : goal.After-flush_changes_older_than g) where
  number : next_number c.self.inside.log ≡ next_number c.args.self.now.log
  number = ap (λ (s : SurfaceValue _). next_number s.log) c.self.view_is

  limit : delta_limit c.self.inside.width c.self.inside.height ≡ delta_limit c.args.self.now.width c.args.self.now.height
  limit = ap (λ (s : SurfaceValue _). delta_limit s.width s.height) c.self.view_is

  first : c.saturating_sub-first.result ≡ next_number c.args.self.now.log - delta_limit c.args.self.now.width c.args.self.now.height
  first = omega (arith, number, limit)

  trims : c.flush_changes_older_than.new.self ≡ with_log c.args.self.now (forgotten (delta_limit c.args.self.now.width c.args.self.now.height) c.args.self.now.log)
  trims = c.flush_changes_older_than.ensures.flushes ∙ ap (λ n. with_log c.args.self.now (flushed c.args.self.now.log n)) first

pub returns-clause-forgets : goal.returns-clause-forgets
returns-clause-forgets g c = trims g c

pub returns-clause-answers : goal.returns-clause-answers
returns-clause-answers g c = λ n. rw (trims g c) (forgotten_alike (delta_limit c.args.self.now.width c.args.self.now.height) c.args.self.now.log n)

pub returns-clause-few : goal.returns-clause-few
returns-clause-few g c = rw (trims g c) (forgotten_few (delta_limit c.args.self.now.width c.args.self.now.height) c.args.self.now.log)
