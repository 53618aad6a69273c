use Rattle.std.proofs.Common.{◌≡◌, drop}
use Rattle.tikeburo_c.specs.WidthRanges.{is_table, rises_from}
use Rattle.tikeburo_c.proofs.measuring.is_table.Given as goal

abbrev pub invariant-loop-range : goal.invariant-loop-range
invariant-loop-range l = rises_from l.from (drop l.range-index l.ranges) ≡ is_table l.ranges
