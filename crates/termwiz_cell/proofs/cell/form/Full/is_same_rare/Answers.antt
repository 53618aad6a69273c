use Rattle.std.proofs.lemmas.Bool.Decides.{Decides-at}
use Rattle.termwiz_cell.specs.AttributesLayout.{full_rare}
use Rattle.termwiz_cell.proofs.Boxes.{rare_eq-Decides}
use Rattle.termwiz_cell.proofs.cell.form.Full.is_same_rare.Goals as goal

pub returns : goal.returns
returns c = Decides-at c.has_same_parts.result _ c.has_same_parts.ensures (rare_eq-Decides (full_rare c.args.self.now) (full_rare c.args.other.now))
