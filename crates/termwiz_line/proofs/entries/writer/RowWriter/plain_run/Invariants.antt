use Rattle.std.proofs.Common.{◌≡◌, ◌≤◌, List, length}
use Rattle.termwiz_storage.specs.VisibleCell.{VisibleCell}
use Rattle.termwiz_line.specs.Entries.{Penned}
use Rattle.termwiz_line.specs.Writing.{IsInText, IsUnderWay}
use Rattle.termwiz_line.proofs.entries.writer.RowWriter.plain_run.Given as goal

-- the cells that aren't left are written, and the text grows
abbrev pub invariant-loop-byte : goal.invariant-loop-byte
invariant-loop-byte l = record {
  written : (from : Penned) (all : List VisibleCell) → IsUnderWay from all l.fn.left l.fn.self → IsUnderWay from all l.left l.self;
  text : IsInText l.self;
  pen : l.pen ≡ l.self.printed.pen;
  shorter : length l.left ≤ length l.fn.left;
}

abbrev pub decreases-loop-byte : goal.decreases-loop-byte
decreases-loop-byte l = length l.left
