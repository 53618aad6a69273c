use Rattle.std.proofs.Common.{◌≡◌, map}
use Rattle.std.specs.List.{range_with_len}
use Rattle.tikeburo_c.specs.ChangedRows.{changed_byte}
use Rattle.tikeburo_c.proofs.changed_rows.changed_rows.Given as goal

-- the bytes of the rows so far are there
abbrev pub invariant-loop-row : goal.invariant-loop-row
invariant-loop-row l = l.rows.items ≡ map (changed_byte l.since l.surface) (range_with_len 0 l.row)
