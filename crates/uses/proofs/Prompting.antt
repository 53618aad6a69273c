-- Adding changes to a sequence keeps its columns.
use Rattle.std.proofs.Common.{◌≡◌, ℕ, ℤ, List, [], ◌∷◌, Err, refl, ap, ◌∙◌}
use Rattle.termwiz_cell.specs.Sequence.{AddsOne, MovesTo, StopsAt}
use Rattle.termwiz_cell.specs.declared.change.sequence.SequenceError.{SequenceError}
use Rattle.termwiz_cell.specs.declared.change.sequence.SequenceError.TheVariants.{Memory, Range}
use Rattle.termwiz_surface.specs.{ChangeValue, SequenceValue, added, all_added}

module _ {W : Type 0} (m : List ℕ → ℕ) where
  pub added_columns : (s : SequenceValue W) (cs : List ChangeValue) → (all_added m s cs).columns ≡ s.columns
  added_columns s [] = refl
  added_columns s (c ∷ cs) = added_columns (added m s c) cs

  refused_columns : (s : SequenceValue W) (c : ChangeValue) (e : SequenceError) (new : SequenceValue W) → AddsOne m s c (Err e) new → new.columns ≡ s.columns
  refused_columns s c Range new a = ap (λ (t : SequenceValue W). t.columns) a.2
  refused_columns s c Memory new a = ap (λ (t : SequenceValue W). t.columns) a.1

  pub stopped_columns : (old : SequenceValue W) (cs : List ChangeValue) (e : SequenceError) (new : SequenceValue W) → StopsAt m old cs e new → new.columns ≡ old.columns
  stopped_columns old cs e new s = refused_columns (all_added m old s.before) s.refused e new s.refuses ∙ added_columns old s.before

  pub moved_columns : (s : SequenceValue W) (to : ℕ × ℤ) (e : SequenceError) (new : SequenceValue W) → MovesTo m s to (Err e) new → new.columns ≡ s.columns
  moved_columns s to Range new a = ap (λ (t : SequenceValue W). t.columns) a.1
  moved_columns s to Memory new a = ap (λ (t : SequenceValue W). t.columns) a.1
