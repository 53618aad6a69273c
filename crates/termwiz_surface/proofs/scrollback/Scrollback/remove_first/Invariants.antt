use Rattle.std.proofs.Common.{◌≡◌, ◌+◌, ◌≤◌, drop}
use Rattle.termwiz_surface.specs.Scrollback.{spare_lines}
use Rattle.termwiz_surface.proofs.scrollback.Scrollback.remove_first.Given as goal

-- the lines so far are removed, and no more of them are spared
abbrev pub invariant-loop-line : goal.invariant-loop-line
invariant-loop-line l = record {
  lines : l.self.lines.items ≡ drop l._line l.fn.self.lines.items;
  spared : spare_lines l.self ≤ spare_lines l.fn.self + l._line;
  few : spare_lines l.self ≤ l.left;
}
