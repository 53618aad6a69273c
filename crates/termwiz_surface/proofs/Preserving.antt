-- What calls preserve that change a surface.
use Rattle.std.proofs.Common.{◌≡◌, ℕ, ◌<◌, ◌≤◌, true, false, List, length, refl, sym, ap, subst, ◌∙◌}
use Rattle.std.specs.Prelude.{Result, Ok, Err, OnErr, OnOk}
use Rattle.std.specs.Result.{is_err}
use Rattle.std.proofs.lemmas.Bool.{true≢false}
use Rattle.termwiz_cell.specs.ChangeValue.{ChangeValue}
use Rattle.termwiz_screen.specs.Log.{flushed, next_number, restarted}
use Rattle.termwiz_surface.specs.Adding.{Makes, with_log}
use Rattle.termwiz_surface.specs.Following.{KeepsViewers, ViewerValue}
use Rattle.termwiz_surface.specs.History.{KeepsNames}
use Rattle.termwiz_surface.specs.Preserving.{Preserves}
use Rattle.termwiz_surface.specs.Resizing.{HasResized}
use Rattle.termwiz_surface.specs.RowNumbers.{NumbersRows}
use Rattle.termwiz_surface.specs.Surface.{SameFrame, SurfaceValue, number_at}
use Rattle.termwiz_surface.specs.Unlogged.{MakesUnlogged}
use Rattle.termwiz_surface.proofs.Following.{Follows-made, Follows-none, Follows-resized, Follows-restarted}
use Rattle.termwiz_surface.proofs.Remembering.{keeps_flushed, keeps_made, keeps_restarted, keeps_same, keeps_then, keeps_unmade}
use Rattle.termwiz_surface.proofs.RowNumbers.{numbers-flushed, numbers-made, numbers-resized, numbers-same, numbers-then, numbers-unmade}
use Rattle.termwiz_surface.proofs.Unlogged.{Follows-flushed, Follows-unlogged, keeps-unlogged, numbers-unlogged}

module _ {W : Type 0} (f : W → List ℕ → ℕ) where
  -- what preserves viewers preserves how texts are measured, as one without a number shows
  pub same-measure : (s t : SurfaceValue W) → KeepsViewers f s t → f s.widths ≡ f t.widths
  same-measure s t keeps =
      let v : ViewerValue W = record { surface = s; last = 0 } in
      (keeps v (Follows-none f v s refl refl)).one_measure

  pub preserves-same : (s : SurfaceValue W) → Preserves f s s
  preserves-same s = record { viewers = λ v h. h; names = keeps_same (f s.widths) s; rows = numbers-same s }

  -- one call after another
  pub preserves-then : (r s t : SurfaceValue W) → Preserves f r s → Preserves f s t → Preserves f r t
  preserves-then r s t a b = record {
    viewers = λ v h. b.viewers v (a.viewers v h);
    names = keeps_then (f r.widths) r s t a.names (subst (λ (m : List ℕ → ℕ). KeepsNames m s t) (sym (same-measure r s a.viewers)) b.names);
    rows = numbers-then r s t a.rows b.rows;
  }

  pub preserves-resized : (s t : SurfaceValue W) (w h : ℕ) → HasResized s w h t → Preserves f s t
  preserves-resized s t w h r = record {
    viewers = λ v k. Follows-resized f v s t w h k r;
    names = keeps_restarted (f s.widths) s t r.log;
    rows = numbers-resized s t w h r;
  }

  pub preserves-flushed : (s : SurfaceValue W) (k : ℕ) → Preserves f s (with_log s (flushed s.log k))
  preserves-flushed s k = record {
    viewers = λ v. Follows-flushed f v s k;
    names = keeps_flushed (f s.widths) s k;
    rows = numbers-flushed s k;
  }

  pub preserves-unlogged : (s t : SurfaceValue W) (cs : List ChangeValue) → (length cs ≡ 0 → NumbersRows s t) → MakesUnlogged (f s.widths) s cs t → Preserves f s t
  preserves-unlogged s t cs none m = record {
    viewers = λ v. Follows-unlogged f v s t cs m;
    names = keeps-unlogged (f s.widths) s t cs m;
    rows = numbers-unlogged (f s.widths) s t cs none m;
  }

  -- a call that makes changes succeeded
  pub preserves-made : {E : Type 0} (s t : SurfaceValue W) (cs : List ChangeValue) (result : Result (Unit {0}) E) → is_err result ≡ false → (length cs ≡ 0 → NumbersRows s t) → OnOk result (Makes (f s.widths) s cs t) → Preserves f s t
  preserves-made s t cs result e none made = record {
    viewers = λ v. Follows-made f v s t cs result e made;
    names = keeps_made (f s.widths) s t cs result e made;
    rows = numbers-made (f s.widths) s t cs result e none made;
  }

  -- or it failed, and then the log was emptied
  pub preserves-unmade : {E : Type 0} (s t u : SurfaceValue W) (result : Result (Unit {0}) E) → is_err result ≡ true → OnErr result (SameFrame s t) → SameFrame (with_log t (restarted t.log)) u → ((j : ℕ) → j < u.height → next_number u.log ≤ number_at u j) → Preserves f s u
  preserves-unmade s t u (Ok x) e m frame all = absurd (true≢false (sym e))
  preserves-unmade s t u (Err x) e m frame all = record {
    viewers = λ v h. Follows-restarted f v s u h (frame.widths ∙ m.widths) (frame.full ∙ m.full) (frame.log ∙ ap restarted m.log);
    names = keeps_unmade (f s.widths) s t u (Err x) e m frame.log;
    rows = numbers-unmade s t u (Err x) e m frame.log all;
  }
