use Rattle.std.proofs.Common.{◌≡◌, ◌≤◌, length, vec_capacity, vec_len}
use Rattle.termwiz_screen.specs.Resized.{HaveGrown}
use Rattle.termwiz_screen.proofs.rows.resizing.grow_some.Given as goal

abbrev pub invariant-loop-i : goal.invariant-loop-i
invariant-loop-i l = record {
  grown : HaveGrown l.width l.fn.rows l.undos.items l.rows;
  count : vec_len l.undos ≡ l.i;
  room : length l.fn.rows ≤ vec_capacity l.undos;
}
