use Rattle.std.proofs.Common.{◌≡◌, ◌*◌, true, take}
use Rattle.std.specs.List.{list_all}
use Rattle.termwiz_text.specs.Plain.{is_plain}
use Rattle.termwiz_text.proofs.count_plain_blocks.Given as goal

abbrev pub invariant-loop-k : goal.invariant-loop-k
invariant-loop-k l = list_all is_plain (take (16 * l.k) l.bytes) ≡ true
