use Rattle.std.proofs.Common.{◌≡◌, ◌-◌}
use Rattle.std.specs.Prelude.{vec_len}
use Rattle.termwiz_surface.specs.RowNumbers.{AreMarked}
use Rattle.termwiz_surface.specs.Surface.{numbers_over}
use Rattle.termwiz_surface.proofs.surface.numbers.RowNumbers.mark_rows.Given as goal

-- the rows before this one are marked
abbrev pub invariant-loop-row : goal.invariant-loop-row
invariant-loop-row l = record {
  marked : AreMarked l.first (l.row - l.first) l.number (numbers_over l.fn.self.all l.fn.self.own.items) (numbers_over l.self.all l.self.own.items);
  len : vec_len l.self.own ≡ vec_len l.fn.self.own;
}
