use Rattle.std.proofs.Common.{inl, inr, ap, sym, ◌∙◌}
use Rattle.std.specs.Prelude.{max}
use Rattle.termwiz_screen.specs.Log.{next_number}
use Rattle.termwiz_surface.specs.Surface.{number_at}
use Rattle.termwiz_surface.proofs.RowNumbers.{numbers-same, numbers-then, numbers-touched}
use Rattle.termwiz_surface.proofs.Unlogged.{unlogged-touched}
use Rattle.termwiz_surface.proofs.laws.row_number_laws.Goals as goal

pub returns-clause-same : goal.returns-clause-same
returns-clause-same g c = numbers-same

pub returns-clause-then : goal.returns-clause-then
returns-clause-then g c = numbers-then

pub returns-clause-made : goal.returns-clause-made
returns-clause-made g c = numbers-touched

pub returns-clause-unlogged : goal.returns-clause-unlogged
returns-clause-unlogged g c = unlogged-touched

pub returns-clause-resized : goal.returns-clause-resized
returns-clause-resized g c = λ s t w h j r l. elim (r.rows.each j l) [
  | inl is ↦ rw is.0 (is.1 ∙ ap (λ n. max n (number_at s j)) (sym (ap next_number r.log)))
  | inr stays ↦ rw stays.0 stays.1.2
]
