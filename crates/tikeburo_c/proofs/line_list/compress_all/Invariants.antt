use Rattle.std.proofs.Common.{◌≡◌, map}
use Rattle.termwiz_line.specs.LineEq.{line_contents}
use Rattle.tikeburo_c.specs.LineLists.{AreCompressed}
use Rattle.tikeburo_c.proofs.line_list.compress_all.Given as goal

-- the lines so far are compressed, and show what they did
abbrev pub invariant-loop-i : goal.invariant-loop-i
invariant-loop-i l = AreCompressed l.first l.i l.fn.lines.items l.lines.items × (map line_contents l.lines.items ≡ map line_contents l.fn.lines.items)
