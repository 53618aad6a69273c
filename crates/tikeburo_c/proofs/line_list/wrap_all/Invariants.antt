use Rattle.std.proofs.Common.{take}
use Rattle.tikeburo_c.specs.LineLists.{AreWrapped}
use Rattle.tikeburo_c.proofs.line_list.wrap_all.Given as goal

-- the lines so far are wrapped
abbrev pub invariant-loop-i : goal.invariant-loop-i
invariant-loop-i l = AreWrapped l.width (take l.i l.lines.items) l.wrapped.items
