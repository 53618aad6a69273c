-- Lists of changes that are added to a surface, logged or not.
use Rattle.std.specs.Prelude.{ℕ, Bool, true, false, List, [], ◌∷◌, map, length, Result}
use Rattle.termwiz_cell.specs.ChangeValue as change
use Rattle.termwiz_cell.specs.ChangeValue.{ChangeValue, change_value}
use Rattle.termwiz_screen.specs.Log.{LogValue, appended, passed}
use Rattle.termwiz_surface.specs.Adding.{Adds, Makes}
use Rattle.termwiz_surface.specs.Surface.{SurfaceValue}
use Rattle.termwiz_surface.specs.Unlogged.{AddsUnlogged, MakesUnlogged, lent_value}
use Rattle.termwiz_surface.specs.declared.surface.SurfaceError.{SurfaceError}
use Rattle.termwiz_surface.specs.declared.surface.lists.ChangeList.{ChangeList}
use Rattle.termwiz_surface.specs.declared.surface.lists.ChangeList.TheVariants.{One, Owned, Lent, Unlogged}
use Rattle.termwiz_surface.specs.declared.surface.lists.ListedChange.{ListedChange}
use Rattle.termwiz_surface.specs.declared.surface.lists.ListedChange.TheVariants.{Text, Title, Whole}

-- the changes of a list
abbrev pub change_list : ChangeList → List ChangeValue
change_list (One change) = change_value change ∷ []
change_list (Owned changes) = map change_value changes.items
change_list (Lent changes) = map change_value changes.now
change_list (Unlogged changes) = map lent_value changes.0.now

-- whether a surface logs the changes of a list
abbrev pub is_logged : ChangeList → Bool
is_logged (One change) = true
is_logged (Owned changes) = true
is_logged (Lent changes) = true
is_logged (Unlogged changes) = false

-- the change that one of a list is
abbrev pub listed_value : ListedChange → ChangeValue
listed_value (Text text) = change.Text text.now
listed_value (Title title) = change.Title title.now
listed_value (Whole change) = change_value change.now

-- the log after the changes of a list, which are logged or counted
abbrev pub log_after : LogValue → ChangeList → LogValue
log_after log (Unlogged changes) = passed log (length (map lent_value changes.0.now))
log_after log (One change) = appended log (change_value change ∷ [])
log_after log (Owned changes) = appended log (map change_value changes.items)
log_after log (Lent changes) = appended log (map change_value changes.now)

module _ {W : Type 0} where
  -- the changes of a list are made, and logged where they are to be
  abbrev pub MakesList :
      (List ℕ → ℕ) → SurfaceValue W → ChangeList → SurfaceValue W → Type 0
  MakesList measure old (Unlogged changes) new =
      MakesUnlogged measure old (map lent_value changes.0.now) new
  MakesList measure old (One change) new = Makes measure old (change_value change ∷ []) new
  MakesList measure old (Owned changes) new =
      Makes measure old (map change_value changes.items) new
  MakesList measure old (Lent changes) new = Makes measure old (map change_value changes.now) new

  -- they are made, and this number returned, or they are refused
  abbrev pub AddsList :
      (List ℕ → ℕ) → SurfaceValue W → ChangeList → ℕ → Result ℕ SurfaceError →
      SurfaceValue W → Type 0
  AddsList measure old (Unlogged changes) number result new =
      AddsUnlogged measure old (map lent_value changes.0.now) number result new
  AddsList measure old (One change) number result new =
      Adds measure old (change_value change ∷ []) number result new
  AddsList measure old (Owned changes) number result new =
      Adds measure old (map change_value changes.items) number result new
  AddsList measure old (Lent changes) number result new =
      Adds measure old (map change_value changes.now) number result new
