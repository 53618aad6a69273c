use Rattle.std.proofs.Common.{refl}
use Rattle.tikeburo_c.proofs.widths.ChosenWidths.by.Goals as goal

pub returns-then-is_table : goal.returns-then-is_table
returns-then-is_table c = (_, refl)
