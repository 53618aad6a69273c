-- Regions of scrolls on a number of rows, where that is known.
use Rattle.std.proofs.Common.{◌≡◌, ℕ, true, List, [], ◌∷◌, Option, Some, None, refl}
use Rattle.std.specs.List.{AllByRecursion, list_all}
use Rattle.termwiz_cell.specs.ChangeValue.{ChangeValue}
use Rattle.termwiz_cell.specs.ChangeValue as changed
use Rattle.termwiz_screen.specs.Step.{region_fits, regions_fit}
use Rattle.termwiz_wire.specs.Decoding.{is_on}
use Rattle.termwiz_wire.proofs.Steps.{both}

abbrev pub FitsRows : Option ℕ → ChangeValue → Type 0
FitsRows rows (changed.ScrollRegionUp first size count) = is_on rows first size ≡ true
FitsRows rows (changed.ScrollRegionDown first size count) = is_on rows first size ≡ true
FitsRows rows _ = Unit {0}

pub fits_any : (c : ChangeValue) → FitsRows None c
fits_any (changed.Attribute c) = tt
fits_any (changed.AllAttributes a) = tt
fits_any (changed.Text t) = tt
fits_any (changed.ClearScreen c) = tt
fits_any (changed.ClearToEndOfLine c) = tt
fits_any (changed.ClearToEndOfScreen c) = tt
fits_any (changed.CursorPosition x y) = tt
fits_any (changed.CursorColor c) = tt
fits_any (changed.CursorShape s) = tt
fits_any (changed.CursorVisibility v) = tt
fits_any (changed.ScrollRegionUp first size count) = refl
fits_any (changed.ScrollRegionDown first size count) = refl
fits_any (changed.Title t) = tt
fits_any (changed.LineAttribute l) = tt

fits_of : (h : ℕ) (c : ChangeValue) → region_fits h c ≡ true → FitsRows (Some h) c
fits_of h (changed.Attribute c) on = tt
fits_of h (changed.AllAttributes a) on = tt
fits_of h (changed.Text t) on = tt
fits_of h (changed.ClearScreen c) on = tt
fits_of h (changed.ClearToEndOfLine c) on = tt
fits_of h (changed.ClearToEndOfScreen c) on = tt
fits_of h (changed.CursorPosition x y) on = tt
fits_of h (changed.CursorColor c) on = tt
fits_of h (changed.CursorShape s) on = tt
fits_of h (changed.CursorVisibility v) on = tt
fits_of h (changed.ScrollRegionUp first size count) on = on
fits_of h (changed.ScrollRegionDown first size count) on = on
fits_of h (changed.Title t) on = tt
fits_of h (changed.LineAttribute l) on = tt

pub region_of : (h : ℕ) (c : ChangeValue) → FitsRows (Some h) c → region_fits h c ≡ true
region_of h (changed.Attribute c) on = refl
region_of h (changed.AllAttributes a) on = refl
region_of h (changed.Text t) on = refl
region_of h (changed.ClearScreen c) on = refl
region_of h (changed.ClearToEndOfLine c) on = refl
region_of h (changed.ClearToEndOfScreen c) on = refl
region_of h (changed.CursorPosition x y) on = refl
region_of h (changed.CursorColor c) on = refl
region_of h (changed.CursorShape s) on = refl
region_of h (changed.CursorVisibility v) on = refl
region_of h (changed.ScrollRegionUp first size count) on = on
region_of h (changed.ScrollRegionDown first size count) on = on
region_of h (changed.Title t) on = refl
region_of h (changed.LineAttribute l) on = refl

-- changes whose regions fit
pub each_fits : (h : ℕ) (cs : List ChangeValue) → regions_fit h cs ≡ true → AllByRecursion (FitsRows (Some h)) cs
each_fits h [] fit = tt
each_fits h (c ∷ cs) fit =
    let parts = both (region_fits h c) (list_all (region_fits h) cs) fit in
    (fits_of h c parts.0, each_fits h cs parts.1)

pub each_any : (cs : List ChangeValue) → AllByRecursion (FitsRows None) cs
each_any [] = tt
each_any (c ∷ cs) = (fits_any c, each_any cs)

pub regions_of : (h : ℕ) (cs : List ChangeValue) → AllByRecursion (FitsRows (Some h)) cs → regions_fit h cs ≡ true
regions_of h [] are = refl
regions_of h (c ∷ cs) are = rw (region_of h c are.0) (regions_of h cs are.1)
