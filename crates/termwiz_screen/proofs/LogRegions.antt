-- The scrolls in a log have regions that lie on the surface: with more changes, and after a flush.
use Rattle.std.proofs.Common.{◌≡◌, ℕ, zero, suc, ◌-◌, Bool, true, false, List, [], ◌∷◌, ◌++◌, drop, refl, ◌∙◌}
use Rattle.std.specs.Prelude.{if◌then◌else◌}
use Rattle.std.proofs.lemmas.Bool.{and_parts}
use Rattle.std.proofs.lemmas.List.Folds.{list_all-append}
use Rattle.termwiz_cell.specs.ChangeValue.{ChangeValue}
use Rattle.termwiz_screen.specs.Log.{LogValue, reaches, due, flushed}
use Rattle.termwiz_screen.specs.Step.{region_fits, regions_fit}

pub regions-append : (h : ℕ) (cs ds : List ChangeValue) → regions_fit h cs ≡ true → regions_fit h ds ≡ true → regions_fit h (cs ++ ds) ≡ true
regions-append h cs ds p q = list_all-append (region_fits h) cs ds ∙ rw (p, q) refl

pub regions-drop : (h k : ℕ) (cs : List ChangeValue) → regions_fit h cs ≡ true → regions_fit h (drop k cs) ≡ true
regions-drop h zero cs p = p
regions-drop h (suc k) [] p = refl
regions-drop h (suc k) (c ∷ cs) p = regions-drop h k cs (and_parts (region_fits h c) (regions_fit h cs) p).1

pub regions-flushed : (h n : ℕ) (l : LogValue) → regions_fit h l.changes ≡ true → regions_fit h (flushed l n).changes ≡ true
regions-flushed h n l p = at (reaches l n)
  where
    at : (b : Bool) → regions_fit h (if b then due l n else l.changes) ≡ true
    at true = regions-drop h (n - l.first) l.changes p
    at false = p
