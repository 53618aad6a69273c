use Rattle.std.proofs.Common.{◌≡◌, take}
use Rattle.std.specs.List.{list_all}
use Rattle.termwiz_text.specs.Plain.{is_plain}
use Rattle.termwiz_text.proofs.are_plain.Given as goal

abbrev pub invariant-loop-k : goal.invariant-loop-k
invariant-loop-k l = l.all ≡ list_all is_plain (take l.k l.bytes)
