-- A list of changes leaves the kind of the surface.
use Rattle.std.proofs.Common.{◌≡◌, ℕ, List, ap, ◌∙◌}
use Rattle.std.specs.Prelude.{Result, Ok, Err}
use Rattle.termwiz_cell.specs.ChangeValue.{ChangeValue}
use Rattle.termwiz_surface.specs.Adding.{Adds}
use Rattle.termwiz_surface.specs.ChangeLists.{AddsList, change_list}
use Rattle.termwiz_surface.specs.Surface.{SurfaceValue}
use Rattle.termwiz_surface.specs.Unlogged.{AddsUnlogged, MakesUnlogged}
use Rattle.termwiz_surface.specs.declared.surface.SurfaceError.{SurfaceError}
use Rattle.termwiz_surface.specs.declared.surface.SurfaceError.TheVariants.{ScrollRegion, Numbers, Memory}
use Rattle.termwiz_surface.specs.declared.surface.lists.ChangeList.{ChangeList}
use Rattle.termwiz_surface.specs.declared.surface.lists.ChangeList.TheVariants.{One, Owned, Lent, Unlogged}

module _ {W : Type 0} (f : List ℕ → ℕ) (s t : SurfaceValue W) where
  full-added : (cs : List ChangeValue) (n : ℕ) (result : Result ℕ SurfaceError) → Adds f s cs n result t → t.full ≡ s.full
  full-added cs n (Ok k) (regions, numbers, number, made) = made.full
  full-added cs n (Err ScrollRegion) a = ap (λ (v : SurfaceValue W). v.full) a.1
  full-added cs n (Err Numbers) a = ap (λ (v : SurfaceValue W). v.full) a.2
  full-added cs n (Err Memory) a = a.3.full

  full-made : (cs : List ChangeValue) → MakesUnlogged f s cs t → t.full ≡ s.full
  full-made cs m = ap (λ (v : SurfaceValue W). v.full) m.2 ∙ m.1.full

  full-unlogged : (cs : List ChangeValue) (n : ℕ) (result : Result ℕ SurfaceError) → AddsUnlogged f s cs n result t → t.full ≡ s.full
  full-unlogged cs n (Ok k) (regions, numbers, number, made) = full-made cs made
  full-unlogged cs n (Err e) a = full-added cs n (Err e) a

  pub full-list : (list : ChangeList) (n : ℕ) (result : Result ℕ SurfaceError) → AddsList f s list n result t → t.full ≡ s.full
  full-list (One c) n result a = full-added (change_list (One c)) n result a
  full-list (Owned cs) n result a = full-added (change_list (Owned cs)) n result a
  full-list (Lent cs) n result a = full-added (change_list (Lent cs)) n result a
  full-list (Unlogged cs) n result a = full-unlogged (change_list (Unlogged cs)) n result a
