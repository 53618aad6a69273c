use Rattle.termwiz_surface.specs.Asking.{knows, own_repaint}
use Rattle.termwiz_screen.specs.Log.{due}
use Rattle.tikeburo_c.proofs.Since.{by_known}
use Rattle.tikeburo_c.proofs.getting.changes_since.Goals as goal

pub returns-clause-changes : goal.returns-clause-changes
returns-clause-changes c =
    let s = c.args.surface.now in
    by_known (knows s c.args.since) (due s.log c.args.since) (own_repaint s) c.get_changes.result c.get_changes.ensures.due c.get_changes.ensures.entries
