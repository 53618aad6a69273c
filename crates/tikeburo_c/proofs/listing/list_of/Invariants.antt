use Rattle.std.proofs.Common.{map, take}
use Rattle.termwiz_cell.specs.ChangeValue.{change_value}
use Rattle.tikeburo_c.proofs.ReadBack.{IsWritten}
use Rattle.tikeburo_c.proofs.listing.list_of.Given as goal

-- the changes so far are written
abbrev pub invariant-loop-change : goal.invariant-loop-change
invariant-loop-change l = IsWritten (map change_value (take l.change-index l.changes)) l.list.items l.texts.items
