use Rattle.std.proofs.Common.{◌≡◌, map}
use Rattle.termwiz_cell.specs.Link.{param_bytes}
use Rattle.termwiz_cell.specs.LinkPairs.{pair_of, params_from}
use Rattle.termwiz_cell.proofs.hyperlink.params.read_params.Given as goal

-- the params so far are those that the parts so far make
abbrev pub invariant-loop-part : goal.invariant-loop-part
invariant-loop-part l = map param_bytes l.params.entries ≡ params_from (map pair_of (map (λ x. x.now) l.yielded))
