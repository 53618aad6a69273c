use Rattle.std.proofs.Common.{◌≡◌, drop, map}
use Rattle.termwiz_cell.specs.ChangeValue.{change_value}
use Rattle.tikeburo_c.specs.Lists.{listed_in}
use Rattle.tikeburo_c.proofs.Listed.{go_on}
use Rattle.tikeburo_c.proofs.lists.listed_in.Given as goal

-- what is left decides what the whole list is
abbrev pub invariant-loop-fields : goal.invariant-loop-fields
invariant-loop-fields l = go_on (map change_value l.changes.items) (listed_in (drop l.fields-index l.list) l.rest) ≡ listed_in l.list l.fn.texts
