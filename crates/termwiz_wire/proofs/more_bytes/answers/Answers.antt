use Rattle.termwiz_wire.proofs.MoreBytes.{answers_begin}
use Rattle.termwiz_wire.proofs.PastLimits.{laws}
use Rattle.termwiz_wire.proofs.more_bytes.answers.Goals as goal

pub returns-clause-laws : goal.returns-clause-laws
returns-clause-laws c = laws

pub returns-clause-truncated : goal.returns-clause-truncated
returns-clause-truncated c = answers_begin
