use Rattle.std.proofs.Common.{◌≡◌, ◌+◌, ◌≤◌, drop}
use Rattle.termwiz_wire.specs.Work.{line_feeds}
use Rattle.termwiz_wire.proofs.work.count_line_feeds.Given as goal

abbrev pub invariant-loop-byte : goal.invariant-loop-byte
invariant-loop-byte l = record {
  so_far : l.count + line_feeds (drop l.byte-index l.bytes) ≡ line_feeds l.bytes;
  few : l.count ≤ l.byte-index;
}
