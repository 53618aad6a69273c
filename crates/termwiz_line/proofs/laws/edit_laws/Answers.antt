use Rattle.std.proofs.Common.{◌∙◌, length, refl, ap}
use Rattle.termwiz_storage.specs.Stored.{visible}
use Rattle.termwiz_storage.proofs.Edits.{columns-all, visible-with_halves}
use Rattle.termwiz_line.proofs.laws.edit_laws.Goals as goal

pub returns : goal.returns
returns c = record { again = visible-with_halves; all = λ cs. ap visible (columns-all (length cs) cs refl) ∙ visible-with_halves cs }
