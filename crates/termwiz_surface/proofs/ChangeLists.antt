-- Lists of changes that are logged or not: what adding one makes of a surface, and what it preserves.
use Rattle.std.proofs.Common.{◌≡◌, ℕ, ◌+◌, ◌<◌, ◌^◌, true, false, List, [], ◌∷◌, length, length-append, map, refl, sym, ap, subst, ◌∙◌, arith}
use Rattle.std.specs.Prelude.{Result, Ok}
use Rattle.std.proofs.lemmas.Bool.{true≢false}
use Rattle.termwiz_cell.specs.ChangeValue.{ChangeValue, change_value}
use Rattle.termwiz_screen.specs.Log.{LogValue, next_number, passed}
use Rattle.termwiz_screen.specs.Step.{regions_fit, replay, replay_kept}
use Rattle.termwiz_screen.proofs.LogRegions.{regions-append}
use Rattle.termwiz_surface.specs.Adding.{with_log}
use Rattle.termwiz_surface.specs.Asking.{knows}
use Rattle.termwiz_surface.specs.ChangeLists.{AddsList, MakesList, change_list, is_logged, log_after}
use Rattle.termwiz_surface.specs.Preserving.{Preserves}
use Rattle.termwiz_surface.specs.RowNumbers.{NumbersRows}
use Rattle.termwiz_surface.specs.Surface.{SurfaceValue, Becomes, IsSound, kept_of, screen_of}
use Rattle.termwiz_surface.specs.Touching.{touched}
use Rattle.termwiz_surface.specs.Unlogged.{MakesUnlogged, lent_value}
use Rattle.termwiz_surface.specs.declared.surface.SurfaceError.{SurfaceError}
use Rattle.termwiz_surface.specs.declared.surface.lists.ChangeList.{ChangeList}
use Rattle.termwiz_surface.specs.declared.surface.lists.ChangeList.TheVariants.{One, Owned, Lent, Unlogged}
use Rattle.termwiz_surface.proofs.Drawn.{any_log}
use Rattle.termwiz_surface.proofs.Preserving.{preserves-made, preserves-unlogged}
use Rattle.termwiz_surface.proofs.RowNumbers.{makes-logged}
use Rattle.termwiz_surface.proofs.Unlogged.{makes-unlogged, unlogged-log, unlogged-unknown}

-- the log after a list has the number that follows its changes
pub after-number : (log : LogValue) (list : ChangeList) → next_number (log_after log list) ≡ next_number log + length (change_list list)
after-number log (One c) = omega (arith, length-append log.changes (change_value c ∷ []))
after-number log (Owned cs) = omega (arith, length-append log.changes (map change_value cs.items))
after-number log (Lent cs) = omega (arith, length-append log.changes (map change_value cs.now))
after-number log (Unlogged cs) = omega arith

module _ {W : Type 0} (f : List ℕ → ℕ) (s : SurfaceValue W) (form : IsSound f s) where
  regions-after : (list : ChangeList) → regions_fit s.height (change_list list) ≡ true → regions_fit s.height (log_after s.log list).changes ≡ true
  regions-after (One c) fits = regions-append s.height s.log.changes (change_value c ∷ []) form.regions fits
  regions-after (Owned cs) fits = regions-append s.height s.log.changes (map change_value cs.items) form.regions fits
  regions-after (Lent cs) fits = regions-append s.height s.log.changes (map change_value cs.now) form.regions fits
  regions-after (Unlogged cs) fits = refl

  -- a list is logged or counted
  pub sound-after : (list : ChangeList) (log : LogValue) → log ≡ log_after s.log list → regions_fit s.height (change_list list) ≡ true → next_number s.log + length (change_list list) < 2 ^ 64 → IsSound f (with_log s log)
  sound-after list log is fits numbers =
      subst (λ (l : LogValue). IsSound f (with_log s l)) (sym is) (any_log f s (log_after s.log list) form (omega (arith, numbers, after-number s.log list)) (regions-after list fits))

-- the changes of a list are made, and then logged or counted
pub makes-list : {W : Type 0} (f : List ℕ → ℕ) (s m : SurfaceValue W) (list : ChangeList) (mark : ℕ) (log : LogValue) → mark ≡ next_number s.log + length (change_list list) → log ≡ log_after s.log list
    → Becomes (record s { mark = mark }) (replay f (screen_of s) (change_list list)) (replay_kept f (screen_of s) (kept_of s) (change_list list)) (touched f (screen_of s) (change_list list)) m → MakesList f s list (with_log m log)
makes-list f s m (One c) mark log e is b = makes-logged f s m (change_value c ∷ []) mark log e is b
makes-list f s m (Owned cs) mark log e is b = makes-logged f s m (map change_value cs.items) mark log e is b
makes-list f s m (Lent cs) mark log e is b = makes-logged f s m (map change_value cs.now) mark log e is b
makes-list f s m (Unlogged cs) mark log e is b =
    let changes : List ChangeValue = map lent_value cs.0.now in
    let same : passed m.log (length changes) ≡ log = ap (λ (l : LogValue). passed l (length changes)) b.log ∙ sym is in
    subst (λ (l : LogValue). MakesUnlogged f s changes (with_log m l)) same (makes-unlogged f s m changes mark e b)

module _ {W : Type 0} (f : List ℕ → ℕ) (s t : SurfaceValue W) where
  pub adds-made : (list : ChangeList) (n m : ℕ) → regions_fit s.height (change_list list) ≡ true → next_number s.log + length (change_list list) < 2 ^ 64 → m ≡ n → MakesList f s list t → AddsList f s list n (Ok m) t
  adds-made (One c) n m regions numbers e made = (regions, numbers, e, made)
  adds-made (Owned cs) n m regions numbers e made = (regions, numbers, e, made)
  adds-made (Lent cs) n m regions numbers e made = (regions, numbers, e, made)
  adds-made (Unlogged cs) n m regions numbers e made = (regions, numbers, e, made)

  -- a list that isn't logged leaves an empty log
  pub list-log : (list : ChangeList) → MakesList f s list t → is_logged list ≡ false → t.log ≡ passed s.log (length (change_list list))
  list-log (One c) made e = absurd (true≢false e)
  list-log (Owned cs) made e = absurd (true≢false e)
  list-log (Lent cs) made e = absurd (true≢false e)
  list-log (Unlogged cs) made e = unlogged-log f s t _ made

  pub list-unknown : (list : ChangeList) → MakesList f s list t → is_logged list ≡ false → (n : ℕ) → (n ≡ next_number t.log → ⊥) → knows t n ≡ false
  list-unknown (One c) made e = absurd (true≢false e)
  list-unknown (Owned cs) made e = absurd (true≢false e)
  list-unknown (Lent cs) made e = absurd (true≢false e)
  list-unknown (Unlogged cs) made e = unlogged-unknown f s t _ made

-- no error came
abbrev made_all : Result (Unit {0}) SurfaceError
made_all = Ok tt

pub preserves-list : {W : Type 0} (f : W → List ℕ → ℕ) (s t : SurfaceValue W) (list : ChangeList) → (length (change_list list) ≡ 0 → NumbersRows s t) → MakesList (f s.widths) s list t → Preserves f s t
preserves-list f s t (One c) none made = preserves-made f s t _ made_all refl none made
preserves-list f s t (Owned cs) none made = preserves-made f s t _ made_all refl none made
preserves-list f s t (Lent cs) none made = preserves-made f s t _ made_all refl none made
preserves-list f s t (Unlogged cs) none made = preserves-unlogged f s t _ none made
