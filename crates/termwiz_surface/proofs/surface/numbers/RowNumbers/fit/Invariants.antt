use Rattle.std.proofs.Common.{◌≡◌, ◌<◌, ◌≤◌, ℕ, min, get_or}
use Rattle.std.specs.Prelude.{vec_capacity, vec_len}
use Rattle.termwiz_surface.proofs.surface.numbers.RowNumbers.fit.Given as goal

-- the rows so far have their old own numbers, or 0, and there is room for the others
abbrev pub invariant-loop-row : goal.invariant-loop-row
invariant-loop-row l = record {
  own : (j : ℕ) → j < l._row → get_or l.self.own.items j 0 ≡ get_or l.fn.self.own.items j 0;
  from : min l.height (vec_len l.fn.self.own) ≤ l._row;
  all : l.self.all ≡ l.fn.self.all;
  len : vec_len l.self.own ≡ l._row;
  room : l.height ≤ vec_capacity l.self.own;
}
