use Rattle.std.proofs.Common.{◌≡◌, drop, map}
use Rattle.termwiz_surface.specs.Unlogged.{lent_value}
use Rattle.tikeburo_c.specs.Lists.{listed_in}
use Rattle.tikeburo_c.proofs.Listed.{go_on}
use Rattle.tikeburo_c.proofs.unlogged.listed_lent_in.Given as goal

-- what is left decides what the whole list is
abbrev pub invariant-loop-fields : goal.invariant-loop-fields
invariant-loop-fields l = go_on (map lent_value l.changes.items) (listed_in (drop l.fields-index l.list) l.rest) ≡ listed_in l.list l.fn.texts
