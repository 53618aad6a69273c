use Rattle.std.proofs.Common.{◌≡◌, ◌+◌, ◌≤◌, length, vec_len}
use Rattle.termwiz_screen.specs.Resized.{HaveGrown}
use Rattle.termwiz_screen.proofs.rows.resizing.grow_rows.Given as goal

abbrev pub invariant-loop-row : goal.invariant-loop-row
invariant-loop-row l = record {
  grown : HaveGrown l.width l.fn.rows l.undos.items l.rows;
  count : vec_len l.undos + l._row ≡ vec_len l.initial.undos;
  within : vec_len l.undos ≤ length l.fn.rows;
}
