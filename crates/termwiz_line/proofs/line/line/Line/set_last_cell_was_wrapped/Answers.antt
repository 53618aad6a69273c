use Rattle.std.proofs.Common.{◌∙◌, ap}
use Rattle.termwiz_storage.specs.Stored.{visible}
use Rattle.termwiz_storage.specs.Storage.{cells_in}
use Rattle.termwiz_line.specs.Wrapped.{last_is_wrapped}
use Rattle.termwiz_line.proofs.LastMarked.{last_is-set}
use Rattle.termwiz_line.proofs.line.line.Line.set_last_cell_was_wrapped.Goals as goal

pub returns-clause-marked : goal.returns-clause-marked
returns-clause-marked c = ap (λ cells. last_is_wrapped (visible cells)) c.in_ok-set_last_wrapped.ensures.ok ∙ last_is-set c.args.wrapped (cells_in c.self.inside.storage)
