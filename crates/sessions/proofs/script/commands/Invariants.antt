use Rattle.std.proofs.Common.{ℕ, List, ◌++◌, length}
use Rattle.std.specs.List.{All}
use denote.Text.{Utf8}
use denote.Shadow.{shadow}
use Rattle.sessions.specs.Lines.{Say}
use Rattle.sessions.proofs.script.commands.Given as goal

-- the commands so far name sizes that a surface may have, and with those of the lines that are left they are the script's
abbrev pub invariant-loop-line : goal.invariant-loop-line
invariant-loop-line g l = record {
  text : shadow (Utf8 l.rest);
  sizes : All g.C.Command.is_in_range l.commands.items;
  said : (more : List g.row.C.Denot) → Say g.C.Command.says l.rest more → Say g.C.Command.says l.script (l.commands.items ++ more);
}

abbrev pub decreases-loop-line : goal.decreases-loop-line
decreases-loop-line g l = length l.rest
