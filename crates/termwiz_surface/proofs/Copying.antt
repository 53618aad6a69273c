-- What adding the list of a diff makes of a surface, with the cursor and the pen set back after it
-- or not.
use Rattle.std.proofs.Common.{◌≡◌, ℕ, ◌+◌, ◌-◌, true, List, length, map, sym, ◌∙◌, subst}
use Rattle.std.specs.Prelude.{Result, Ok, Err, OnOk, Vec, vec_len}
use Rattle.std.specs.declared.alloc.Global.{Global}
use Rattle.std.proofs.lemmas.Bool.{true≢false}
use Rattle.std.proofs.lemmas.List.{length-map}
use Rattle.termwiz_cell.specs.ChangeValue.{ChangeValue, change_value}
use Rattle.termwiz_cell.specs.declared.change.Change.{Change}
use Rattle.termwiz_surface.specs.Adding.{Adds}
use Rattle.termwiz_screen.specs.Diff.{all_diff_entries, restoring}
use Rattle.termwiz_screen.specs.Log.{next_number}
use Rattle.termwiz_screen.specs.Screen.{Screen}
use Rattle.termwiz_screen.specs.Step.{replay, regions_fit}
use Rattle.termwiz_surface.specs.Surface.{SurfaceValue, IsSound, screen_of}
use Rattle.termwiz_surface.specs.declared.surface.SurfaceError.{SurfaceError}
use Rattle.termwiz_surface.specs.declared.surface.SurfaceError.TheVariants.{ScrollRegion}
use Rattle.termwiz_screen.proofs.Diffs.Restoring.{drawing_restores, drawings_fit, restoring_fits}

module _ {W : Type 0} (f : List ℕ → ℕ) (old new : SurfaceValue W) where
  -- the number that is returned counts the values of the changes
  pub Adds-values : (l : Vec Change Global) (changes : List ChangeValue) (result : Result ℕ SurfaceError) → map change_value l.items ≡ changes →
      Adds f old (map change_value l.items) (next_number old.log - 1 + vec_len l) result new → Adds f old changes (next_number old.log - 1 + length changes) result new
  Adds-values l changes result is a =
      subst (λ cs. Adds f old cs (next_number old.log - 1 + length cs) result new) is
      (subst (λ n. Adds f old (map change_value l.items) (next_number old.log - 1 + n) result new) (l.ok.0 ∙ sym (length-map l.items change_value)) a)

  -- a list that sets the cursor and the pen back as a method sees them, and is counted by its values
  pub Adds-restored : (self : SurfaceValue W) (l : List ChangeValue) (changes : List ChangeValue) (result : Result ℕ SurfaceError) → self ≡ old → l ≡ restoring self.x self.y self.pen changes →
      Adds f old l (next_number old.log - 1 + length l) result new →
      let restored = restoring old.x old.y old.pen changes in Adds f old restored (next_number old.log - 1 + length restored) result new
  Adds-restored self l changes result is items a =
      subst (λ cs. Adds f old cs (next_number old.log - 1 + length cs) result new)
      (subst (λ (v : SurfaceValue W). l ≡ restoring v.x v.y v.pen changes) is items) a

  -- a list that sets the cursor and the pen back as a method sees them
  pub Adds-restoring : (self : SurfaceValue W) (l : Vec Change Global) (changes : List ChangeValue) (result : Result ℕ SurfaceError) → self ≡ old → map change_value l.items ≡ restoring self.x self.y self.pen changes →
      Adds f old (map change_value l.items) (next_number old.log - 1 + vec_len l) result new →
      let restored = restoring old.x old.y old.pen changes in Adds f old restored (next_number old.log - 1 + length restored) result new
  Adds-restoring self l changes result is items = Adds-values l (restoring old.x old.y old.pen changes) result (subst (λ (v : SurfaceValue W). map change_value l.items ≡ restoring v.x v.y v.pen changes) is items)

  module _ (result : Result ℕ SurfaceError) (number : ℕ) (changes : List ChangeValue) where
    -- changes that scroll nothing are not refused for a scroll
    no_scroll : regions_fit old.height changes ≡ true → Adds f old changes number result new → result ≡ Err ScrollRegion → ⊥
    no_scroll fit a is = true≢false (sym fit ∙ (rw is at a).0)

    -- what the replay shows is shown then
    pub added_screen : Adds f old changes number result new → (P : Screen → Type 0) → P (replay f (screen_of old) changes) → OnOk result (P (screen_of new))
    added_screen a P p = at result a
      where
        at : (r : Result ℕ SurfaceError) → Adds f old changes number r new → OnOk r (P (screen_of new))
        at (Ok n) b = subst P (sym b.3.screen_is) p
        at (Err e) b = tt

  module _ (result : Result ℕ SurfaceError) (number : ℕ) (changes : List ChangeValue) (drawing : all_diff_entries changes ≡ true) where
    pub copied_no_scroll : Adds f old changes number result new → result ≡ Err ScrollRegion → ⊥
    copied_no_scroll = no_scroll result number changes (drawings_fit old.height changes drawing)

    pub drawn_no_scroll : Adds f old (restoring old.x old.y old.pen changes) number result new → result ≡ Err ScrollRegion → ⊥
    drawn_no_scroll = no_scroll result number (restoring old.x old.y old.pen changes) (restoring_fits old.height old.x old.y old.pen changes drawing)

    -- a drawing leaves all but the rows, which are those that its diff gives
    pub drawn_screen : IsSound f old → Adds f old (restoring old.x old.y old.pen changes) number result new → (P : Screen → Type 0) →
        P (record (screen_of old) { rows = (replay f (screen_of old) changes).rows }) → OnOk result (P (screen_of new))
    drawn_screen sound a P p = added_screen result number (restoring old.x old.y old.pen changes) a P (subst P (sym (drawing_restores f (screen_of old) changes drawing sound.column sound.row)) p)
