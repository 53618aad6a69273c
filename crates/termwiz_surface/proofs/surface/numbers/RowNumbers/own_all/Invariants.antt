use Rattle.std.proofs.Common.{◌≡◌}
use Rattle.std.specs.Prelude.{vec_capacity, vec_len}
use Rattle.termwiz_surface.proofs.RowNumbers.{OwnsNumbers}
use Rattle.termwiz_surface.proofs.surface.numbers.RowNumbers.own_all.Given as goal

abbrev pub invariant-loop-row : goal.invariant-loop-row
invariant-loop-row l = record {
  owns : OwnsNumbers l.fn.self.all l.fn.self.own.items l.row l.self.own.items;
  all : l.self.all ≡ l.fn.self.all;
  len : vec_len l.self.own ≡ vec_len l.fn.self.own;
  capacity : vec_capacity l.self.own ≡ vec_capacity l.fn.self.own;
}
