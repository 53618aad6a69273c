use Rattle.std.proofs.Common.{ap, ◌∙◌}
use Rattle.termwiz_wire.specs.Work.{line_feeds}
use Rattle.termwiz_wire.proofs.LineFeeds.{behind_plain}
use Rattle.termwiz_wire.proofs.work.line_feeds.Goals as goal

pub returns : goal.returns
returns c = c.count_line_feeds.ensures ∙ ap line_feeds c.as_bytes.ensures.value ∙ behind_plain c.args.text.now 18446744073709551615 c.split_plain_run.result.0.now c.split_plain_run.result.1.now c.split_plain_run.ensures
