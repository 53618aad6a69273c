-- The list that is written for some cells is a diff's.
use Rattle.std.proofs.Common.{◌≡◌, ℕ, suc, ◌+◌, ◌*◌, ◌<◌, ◌≤◌, ◌⊎◌, Bool, true, false, cond, ◌&&◌, eqb, List, [], ◌∷◌, ◌++◌, length, fold, arith, inl, inr, le_refl, refl, sym, ap, ap₂, ◌∙◌, subst}
use Rattle.std.specs.Prelude.{Option, Some, None}
use Rattle.std.proofs.lemmas.List.{length-append}
use Rattle.std.proofs.lemmas.Bool.{and_parts, and_from}
use Rattle.unicode_segmentation.specs.Grapheme.{graphemes}
use Rattle.termwiz_cell.specs.Attributes.{attributes_eq}
use Rattle.termwiz_cell.specs.CellValue.{CellValue, clean}
use Rattle.termwiz_cell.specs.ChangeValue as change
use Rattle.termwiz_cell.specs.ChangeValue.{ChangeValue, is_text}
use Rattle.termwiz_line.specs.Entries.{joins, join, add_text}
use Rattle.termwiz_line.specs.LastChange.{last_is}
use Rattle.termwiz_screen.specs.Screen.{Screen, row_at}
use Rattle.termwiz_screen.specs.Step.{replay}
use Rattle.termwiz_screen.specs.Prints.{Print, piece_prints, printed}
use Rattle.termwiz_screen.specs.Diff.{End, PrintedOut, nothing_printed, move_to, pen_to, print_out, prints_out, is_diff_entry, all_diff_entries, Region, need, band, diff}
use Rattle.termwiz_screen.specs.Place.{cursor_at}
use Rattle.termwiz_screen.specs.DiffLaws.{CanPrint, PrintsAreDiff, RegionIsDiff, DiffGivesRows, DiffGivesRegion, DiffGivesBand}
use Rattle.termwiz_screen.specs.DiffLists.{IsDiff}
use Rattle.termwiz_screen.specs.Printable.{IsPrintableRow}
use Rattle.termwiz_screen.specs.DiffRegions.{IsInside, HaveRegion}
use Rattle.termwiz_line.proofs.JoinedTexts.{ends_with_added}
use Rattle.termwiz_screen.proofs.Diffs.Screens.{band_inside, have_region, band_rows, band_outside, whole_gives, need_nothing, need_printable}
use Rattle.termwiz_screen.proofs.Repaints.EntryTexts.{no_break}
use Rattle.termwiz_screen.proofs.Diffs.Streams.{printed_before, printed_text, entries_replay, entries_print, length_out}

-- moves, pens and texts
drawing-append : (es fs : List ChangeValue) → all_diff_entries es ≡ true → all_diff_entries fs ≡ true → all_diff_entries (es ++ fs) ≡ true
drawing-append [] fs a b = b
drawing-append (e ∷ es) fs a b = let p = and_parts (is_diff_entry e) (all_diff_entries es) a in and_from _ _ p.0 (drawing-append es fs p.1 b)

drawing_join : (e : ChangeValue) (t : List ℕ) → is_diff_entry e ≡ true → all_diff_entries (join e t) ≡ true
drawing_join (change.Text u) t h = go (joins u t)
  where
    go : (b : Bool) → all_diff_entries (cond b (change.Text (u ++ t) ∷ []) (change.Text u ∷ change.Text t ∷ [])) ≡ true
    go true = refl
    go false = refl
drawing_join e t h = and_from _ _ h refl

drawing_text : (es : List ChangeValue) (t : List ℕ) → all_diff_entries es ≡ true → all_diff_entries (add_text es t) ≡ true
drawing_text [] t h = refl
drawing_text (e ∷ []) t h = drawing_join e t (and_parts (is_diff_entry e) true h).0
drawing_text (e ∷ (g ∷ es)) t h = let p = and_parts (is_diff_entry e) (all_diff_entries (g ∷ es)) h in and_from _ _ p.0 (drawing_text (g ∷ es) t p.1)

drawing_to : (d : Option End) (p : Print) → (all_diff_entries (move_to d p) ≡ true) × (all_diff_entries (pen_to d p) ≡ true)
drawing_to None p = (refl, refl)
drawing_to (Some q) p = (go (eqb q.x p.column && eqb q.y p.row) (cursor_at p.column p.row) refl, go (attributes_eq q.pen p.cell.attrs) (change.AllAttributes p.cell.attrs) refl)
  where
    go : (b : Bool) (e : ChangeValue) → is_diff_entry e ≡ true → all_diff_entries (cond b [] (e ∷ [])) ≡ true
    go true e h = refl
    go false e h = and_from _ _ h refl

drawing_out : (ps : List Print) (d : PrintedOut) → all_diff_entries d.entries ≡ true → all_diff_entries (fold print_out d ps).entries ≡ true
drawing_out [] d h = h
drawing_out (p ∷ ps) d h =
    drawing_out ps (print_out d p)
    (drawing_text ((d.entries ++ move_to d.end p) ++ pen_to d.end p) p.cell.text
    (drawing-append (d.entries ++ move_to d.end p) (pen_to d.end p) (drawing-append d.entries (move_to d.end p) h (drawing_to d.end p).0) (drawing_to d.end p).1))

-- a text at the end
last_out : (ps : List Print) (d : PrintedOut) → last_is is_text d.entries ≡ true → last_is is_text (fold print_out d ps).entries ≡ true
last_out [] d h = h
last_out (p ∷ ps) d h = last_out ps (print_out d p) (ends_with_added ((d.entries ++ move_to d.end p) ++ pen_to d.end p) p.cell.text)

ends_out : (ps : List Print) → (prints_out ps ≡ []) ⊎ (last_is is_text (prints_out ps) ≡ true)
ends_out [] = inl refl
ends_out (p ∷ ps) = let d : PrintedOut = nothing_printed in inr (last_out ps (print_out d p) (ends_with_added ((d.entries ++ move_to d.end p) ++ pen_to d.end p) p.cell.text))

-- clean single graphemes are printed one by one, whatever width they are measured to have
abbrev AreSingle : List Print → Type 0
AreSingle [] = Unit {0}
AreSingle (p ∷ ps) = (graphemes true p.cell.text ≡ p.cell.text ∷ []) × (clean p.cell.text ≡ p.cell.text) × AreSingle ps

module _ (f : List ℕ → ℕ) (s : Screen) where
  count_one : (d : PrintedOut) (p : Print) → graphemes true p.cell.text ≡ p.cell.text ∷ [] → clean p.cell.text ≡ p.cell.text → length (printed f s (print_out d p).entries) ≡ suc (length (printed f s d.entries))
  count_one d p h c =
      let t : Screen = replay f s ((d.entries ++ move_to d.end p) ++ pen_to d.end p) in
      ap length (
      printed_text f ((d.entries ++ move_to d.end p) ++ pen_to d.end p) s p.cell.text h
      ∙ ap₂ (λ x y. x ++ piece_prints t y) (printed_before f s d p) (no_break f t.pen p.cell.text c)
      )
      ∙ length-append (printed f s d.entries) _ ∙ omega arith

  count_out : (ps : List Print) (d : PrintedOut) → AreSingle ps → length (printed f s (fold print_out d ps).entries) ≡ length (printed f s d.entries) + length ps
  count_out [] d q = omega arith
  count_out (p ∷ ps) d q = omega (arith, count_out ps (print_out d p) q.2, count_one d p q.0 q.1)

printable_single : (f : List ℕ → ℕ) (w h : ℕ) (ps : List Print) → CanPrint f w h ps → AreSingle ps
printable_single f w h [] q = tt
printable_single f w h (p ∷ ps) q = (q.2.alone, q.2.is_clean, printable_single f w h ps q.3)

-- by any width function f, where the cells are measured by g
pub prints_diff : PrintsAreDiff
prints_diff f g s ps q = record {
  drawing = drawing_out ps (nothing_printed) refl;
  ends = ends_out ps;
  few = omega (arith, length_out ps (nothing_printed), count_out f s ps (nothing_printed) (printable_single g s.width s.height ps q));
  exact = λ e.
      let p = subst (λ k. CanPrint k s.width s.height ps) (sym e) q in
      record { prints = entries_print f s ps p; rows = ap (λ (t : Screen). t.rows) (entries_replay f s ps p).screen_is };
}

-- of rows that can be printed
pub rows_diff : (f g : List ℕ → ℕ) (a : Screen) (w h : ℕ) (b : List (List CellValue)) (r : Region) → IsInside r a.width a.height w h → ((j : ℕ) → j < h → IsPrintableRow g w (row_at b j)) →
    IsDiff f a (f ≡ g) (need a.rows b r) (diff a.rows b r)
rows_diff f g a w h b r z q = prints_diff f g a (need a.rows b r) (need_printable g a.width a.height w h a.rows b r z q r.height (le_refl r.height))

pub region_diff : RegionIsDiff
region_diff f g a b r z q = rows_diff f g a b.width b.height b.rows r z q

-- whole rows of them
pub band_diff : (f g : List ℕ → ℕ) (a : Screen) (b : List (List CellValue)) (y z n : ℕ) → ((k : ℕ) → k < n → y + k < a.height) → ((k : ℕ) → k < n → z + k < length b) →
    ((j : ℕ) → j < length b → IsPrintableRow g a.width (row_at b j)) → IsDiff f a (f ≡ g) (need a.rows b (band a.width y z n)) (diff a.rows b (band a.width y z n))
band_diff f g a b y z n own other q = rows_diff f g a a.width (length b) b (band a.width y z n) (band_inside a.width a.height (length b) y z n own other) q

-- no print, no change
nothing : (f : List ℕ → ℕ) (s : Screen) (l : List ChangeValue) → length l ≤ 3 * length (printed f s l) → printed f s l ≡ [] → l ≡ []
nothing f s [] h e = refl
nothing f s (x ∷ l) h e = absurd (omega (arith, ap length e))

pub gives_rows : DiffGivesRows
gives_rows f a b l ra rb d =
    ((d.exact refl).rows ∙ whole_gives a.width a.height a.rows b.rows ra rb, λ e. nothing f a l d.few ((d.exact refl).prints ∙ need_nothing a.width a.height a.rows b.rows e))

pub gives_region : DiffGivesRegion
gives_region f a b r l ra rb z c d =
    subst (λ t. HaveRegion a.width t a.rows b.rows r) (sym (d.exact refl).rows) (have_region a.rows b.rows r a.width a.height b.width b.height ra rb z c)

pub gives_band : DiffGivesBand
gives_band f a g b y z n l ra rb i d =
    let e = (d.exact refl).rows in (
      (λ k m. ap (λ t. row_at t (y + k)) e ∙ band_rows a.width a.height g a.rows b y z n ra rb i k m),
      (λ j m. ap (λ t. row_at t j) e ∙ band_outside a.width a.height g a.rows b y z n ra rb i j m),
    )
