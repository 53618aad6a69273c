use Rattle.std.proofs.Common.{◌-◌, ◌≤◌}
use Rattle.termwiz_line.specs.Filled.{Fills}
use Rattle.termwiz_line.proofs.Fills.{HasForm}
use Rattle.termwiz_line.proofs.line.line.Line.set_cells.Given as goal

abbrev pub invariant-loop-i : goal.invariant-loop-i
invariant-loop-i l = record {
  fills : Fills l.fn.self (l.i - l.from) l.from l.cell l.seqno l.self;
  within : l.i - l.from ≤ l.to - l.from;
  form : HasForm l.fn.self (l.i - l.from) l.from l.cell l.self;
}
