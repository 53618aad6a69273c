-- What happens to a surface keeps its viewers following, those that show screens and those that
-- show full ones.
use Rattle.std.specs.Prelude.{◌≡◌, ℕ, List}
use Rattle.termwiz_cell.specs.ChangeValue.{ChangeValue}
use Rattle.termwiz_surface.specs.Following.{LeadsTo}
use Rattle.termwiz_screen.specs.Log.{LogValue, next_number, appended, flushed, restarted}
use Rattle.termwiz_screen.specs.Picture.{Pictures, played}
use Rattle.termwiz_screen.specs.Stream.{Brings}

module _ {P : Type 0} (pictures : Pictures P) where
  -- a viewer with the surface's own picture and number is led there by nothing
  abbrev pub LeadsWhereItIs : Type 0
  LeadsWhereItIs =
      (measure : List ℕ → ℕ) (v p : P) (n : ℕ) (log : LogValue) → v ≡ p → n ≡ next_number log →
      LeadsTo pictures measure v n p log

  -- changes that are made and logged lead on
  abbrev pub ChangesLeadOn : Type 0
  ChangesLeadOn =
      (measure : List ℕ → ℕ) (v p q : P) (n : ℕ) (log : LogValue) (changes : List ChangeValue) →
      (pictures.screen q).width ≡ (pictures.screen p).width →
      (pictures.screen q).height ≡ (pictures.screen p).height →
      q ≡ played pictures measure p changes → LeadsTo pictures measure v n p log →
      LeadsTo pictures measure v n q (appended log changes)

  -- what a viewer is answered leads it to the picture, where it is led
  abbrev pub StreamsLeadOn : Type 0
  StreamsLeadOn =
      (measure : List ℕ → ℕ) (v p : P) (n : ℕ) (log : LogValue) (changes : List ChangeValue) →
      pictures.IsSized (pictures.screen p).width (pictures.screen p).height v →
      LeadsTo pictures measure v n p log →
      Brings pictures measure p log n changes → played pictures measure v changes ≡ p

  -- a viewer that is led needs nothing that is flushed
  abbrev pub FlushesKeepLeading : Type 0
  FlushesKeepLeading =
      (measure : List ℕ → ℕ) (v p : P) (n k : ℕ) (log : LogValue) →
      LeadsTo pictures measure v n p log → LeadsTo pictures measure v n p (flushed log k)

  -- after want of memory, and in another size, no number above 0 is known
  abbrev pub RestartsKeepLeading : Type 0
  RestartsKeepLeading =
      (measure : List ℕ → ℕ) (v p q : P) (n : ℕ) (log : LogValue) →
      LeadsTo pictures measure v n p log → LeadsTo pictures measure v n q (restarted log)
