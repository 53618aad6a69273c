use Rattle.std.proofs.Common.{◌∙◌, sym}
use Rattle.std.specs.Cmp.Derive.Mapped.{pointwise-map}
use Rattle.termwiz_cell.specs.Link.{param_eq, param_bytes}
use Rattle.termwiz_cell.proofs.hyperlink.params.has_same_params.Goals as goal

pub returns : goal.returns
returns c = c.eq.ensures ∙ sym (pointwise-map param_bytes param_eq c.args.a.now.entries c.args.b.now.entries)
