use Rattle.std.proofs.Common.{◌≡◌, string_bytes}
use Rattle.std.specs.List.{flat_map}
use Rattle.uses.proofs.shaper.shaped_text.Given as goal

-- the text has those of the clusters so far
abbrev pub invariant-loop-cluster : goal.invariant-loop-cluster
invariant-loop-cluster g l = string_bytes l.text ≡ flat_map (λ k. k.text) l.yielded
