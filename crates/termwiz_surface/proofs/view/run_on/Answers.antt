use Rattle.std.proofs.lemmas.Result.{MatchResult-weaker}
use Rattle.termwiz_surface.proofs.view.run_on.Goals as goal

pub returns : goal.returns
returns g c =
    MatchResult-weaker c.serve_all.result (rw (c.in_ok-viewer.ensures.blank, c.in_ok-surface.ensures) at c.serve_all.ensures)
    (λ outcomes run. (c.serve_all.new.surface, c.serve_all.new.viewer, run))
    (λ _ _. tt)
