use Rattle.std.proofs.Common.{◌≡◌, ◌+◌, ◌≤◌, chars, IsUtf8, min, sum_by}
use Rattle.std.specs.Str.Iter.{chars_rest}
use Rattle.tikeburo_c.specs.WidthRanges.{char_columns}
use Rattle.tikeburo_c.proofs.tables.WidthTable.added.Given as goal

abbrev pub invariant-loop-c : goal.invariant-loop-c
invariant-loop-c l =
    IsUtf8 (chars_rest l.c-iterator) × (l.columns ≤ 2)
    × (min (l.columns + sum_by (char_columns l.self.ranges.now) (chars (chars_rest l.c-iterator))) 2 ≡ min (sum_by (char_columns l.self.ranges.now) (chars l.fn.text)) 2)
