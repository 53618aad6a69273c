-- What drawing a line makes of a surface.
use Rattle.std.proofs.Common.{◌≡◌, ℕ, ◌<◌, ◌≤◌, Bool, true, false, cond, ◌&&◌, eqb, List, [], ◌∷◌, ◌++◌, fold, refl, sym, subst, ◌∙◌}
use Rattle.std.proofs.lemmas.Bool.{and_from, and_parts, true≢false}
use Rattle.std.specs.Prelude.{Option, Some, None, Ok, Err, OnOk}
use Rattle.termwiz_cell.specs.Attributes.{Attributes, attributes_eq}
use Rattle.termwiz_cell.specs.CellValue.{CellValue}
use Rattle.termwiz_cell.specs.ChangeValue as change
use Rattle.termwiz_cell.specs.ChangeValue.{ChangeValue}
use Rattle.termwiz_line.specs.Entries.{add_text, join, joins}
use Rattle.termwiz_line.specs.Row.{row_of}
use Rattle.termwiz_screen.specs.Diff.{End, PrintedOut, Region, all_diff_entries, diff, is_diff_entry, move_to, need, nothing_printed, pen_to, print_out, restoring}
use Rattle.termwiz_screen.specs.Place.{cursor_at}
use Rattle.termwiz_screen.specs.Printable.{ArePrintable}
use Rattle.termwiz_screen.specs.Prints.{Print}
use Rattle.termwiz_screen.specs.Screen.{Screen}
use Rattle.termwiz_screen.specs.Step.{replay}
use Rattle.termwiz_screen.proofs.Diffs.Restoring.{drawing_restores, restoring_fits}
use Rattle.termwiz_share.specs.Source.{SourceValue}
use Rattle.termwiz_surface.specs.Diffs.{one_row, screen_after}
use Rattle.termwiz_surface.specs.Surface.{SurfaceValue, screen_of}
use Rattle.termwiz_surface.specs.declared.surface.SurfaceError.TheVariants as errors
use Rattle.tikeburo_c.specs.Changes.{AddsChanges}
use Rattle.tikeburo_c.specs.LineDrawing.{DrawsLineAs, HasLine, IsDrawing, line_diff, line_drawing}
use Rattle.tikeburo_c.specs.Outcomes.{Outcome}
use Rattle.tikeburo_c.specs.Widths.{columns_by}
use Rattle.tikeburo_c.specs.declared.failure.Failure.TheVariants.{Region as FailedRegion}
use Rattle.tikeburo_c.specs.declared.widths.ChosenWidths.{ChosenWidths}

-- a diff is moves, pens and texts, whatever it prints
draws-append : (es fs : List ChangeValue) → all_diff_entries es ≡ true → all_diff_entries fs ≡ true → all_diff_entries (es ++ fs) ≡ true
draws-append [] fs a b = b
draws-append (e ∷ es) fs a b = let p = and_parts (is_diff_entry e) (all_diff_entries es) a in and_from _ _ p.0 (draws-append es fs p.1 b)

draws_join : (e : ChangeValue) (t : List ℕ) → is_diff_entry e ≡ true → all_diff_entries (join e t) ≡ true
draws_join (change.Text u) t h = go (joins u t)
  where
    go : (b : Bool) → all_diff_entries (cond b (change.Text (u ++ t) ∷ []) (change.Text u ∷ change.Text t ∷ [])) ≡ true
    go true = refl
    go false = refl
draws_join e t h = and_from _ _ h refl

draws_text : (es : List ChangeValue) (t : List ℕ) → all_diff_entries es ≡ true → all_diff_entries (add_text es t) ≡ true
draws_text [] t h = refl
draws_text (e ∷ []) t h = draws_join e t (and_parts (is_diff_entry e) true h).0
draws_text (e ∷ (g ∷ es)) t h = let p = and_parts (is_diff_entry e) (all_diff_entries (g ∷ es)) h in and_from _ _ p.0 (draws_text (g ∷ es) t p.1)

draws_to : (d : Option End) (p : Print) → (all_diff_entries (move_to d p) ≡ true) × (all_diff_entries (pen_to d p) ≡ true)
draws_to None p = (refl, refl)
draws_to (Some q) p = (go (eqb q.x p.column && eqb q.y p.row) (cursor_at p.column p.row) refl, go (attributes_eq q.pen p.cell.attrs) (change.AllAttributes p.cell.attrs) refl)
  where
    go : (b : Bool) (e : ChangeValue) → is_diff_entry e ≡ true → all_diff_entries (cond b [] (e ∷ [])) ≡ true
    go true e h = refl
    go false e h = and_from _ _ h refl

draws_out : (ps : List Print) (d : PrintedOut) → all_diff_entries d.entries ≡ true → all_diff_entries (fold print_out d ps).entries ≡ true
draws_out [] d h = h
draws_out (p ∷ ps) d h =
    draws_out ps (print_out d p)
    (draws_text ((d.entries ++ move_to d.end p) ++ pen_to d.end p) p.cell.text
    (draws-append (d.entries ++ move_to d.end p) (pen_to d.end p) (draws-append d.entries (move_to d.end p) h (draws_to d.end p).0) (draws_to d.end p).1))

diff_draws : (a b : List (List CellValue)) (r : Region) → all_diff_entries (diff a b r) ≡ true
diff_draws a b r = draws_out (need a b r) nothing_printed refl

-- what is known of the changes that draw a line
pub is_drawing : (s : SurfaceValue ChosenWidths) (row : ℕ) (cells : List CellValue) (x y : ℕ) (pen : Attributes) (printed changes : List ChangeValue) → s.x ≤ s.width → s.y < s.height → x ≡ s.x → y ≡ s.y → pen ≡ s.pen → printed ≡ line_diff s row cells →
    (ArePrintable (columns_by s.widths) cells → HasLine s row cells (screen_after columns_by s printed).rows) → changes ≡ restoring x y pen printed → IsDrawing s row cells changes
is_drawing s row cells x y pen printed changes column row_is x_is y_is pen_is entries shows is = record {
  is = is ∙ (λ i. restoring (x_is i) (y_is i) (pen_is i) (entries i));
  shows = λ printable. subst (λ (cs : List ChangeValue). HasLine s row cells (screen_after columns_by s cs).rows) entries (shows printable);
  column = column;
  row_is = row_is;
}

module _ (row : ℕ) (cells : List CellValue) (old new : SourceValue ChosenWidths) (outcome : Outcome) (changes : List ChangeValue) (d : IsDrawing old.surface row cells changes) where
  drawing_is : all_diff_entries (line_diff old.surface row cells) ≡ true
  drawing_is = diff_draws (screen_of old.surface).rows (row_of old.surface.width cells ∷ []) (one_row (screen_of old.surface) row)

  -- what the replay shows is shown then
  drawn_screen : AddsChanges true (line_drawing old.surface row cells) old outcome new → (P : Screen → Type 0) →
      P (record (screen_of old.surface) { rows = (replay (columns_by old.surface.widths) (screen_of old.surface) (line_diff old.surface row cells)).rows }) → OnOk outcome (P (screen_of new.surface))
  drawn_screen (number, Ok n, is, adds, goes) P p = subst (λ (o : Outcome). OnOk o (P (screen_of new.surface))) (sym is) (subst P (sym (adds.3.screen_is ∙ drawing_restores (columns_by old.surface.widths) (screen_of old.surface) (line_diff old.surface row cells) drawing_is d.column d.row_is)) p)
  drawn_screen (number, Err e, is, adds, goes) P p = subst (λ (o : Outcome). OnOk o (P (screen_of new.surface))) (sym is) tt

  drawn_no_scroll : AddsChanges true (line_drawing old.surface row cells) old outcome new → outcome ≡ Err FailedRegion → ⊥
  drawn_no_scroll (number, Ok n, is, adds, goes) e = absurd cc
  drawn_no_scroll (number, Err errors.ScrollRegion, is, adds, goes) e = true≢false (sym (restoring_fits old.surface.height old.surface.x old.surface.y old.surface.pen (line_diff old.surface row cells) drawing_is) ∙ adds.0)
  drawn_no_scroll (number, Err errors.Numbers, is, adds, goes) e = absurd cc
  drawn_no_scroll (number, Err errors.Memory, is, adds, goes) e = absurd cc

  pub draws_line : ArePrintable (columns_by old.surface.widths) cells → AddsChanges true changes old outcome new → DrawsLineAs row cells old outcome new
  draws_line printable added =
      let a = subst (λ (cs : List ChangeValue). AddsChanges true cs old outcome new) d.is added in
      record {
        drawn = a;
        restores = drawn_screen a (λ (s : Screen). s ≡ record (screen_of old.surface) { rows = s.rows }) refl;
        shows = drawn_screen a (λ (s : Screen). HasLine old.surface row cells s.rows) (d.shows printable);
        no_scroll = drawn_no_scroll a;
      }
