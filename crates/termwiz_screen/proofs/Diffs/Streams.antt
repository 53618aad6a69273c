-- What the changes that are written for some cells do: they print these cells.
use Rattle.std.proofs.Common.{◌≡◌, ℕ, ◌+◌, ◌*◌, ◌<◌, ◌≤◌, ◌⊎◌, min, Bool, true, false, cond, ◌&&◌, eqb, List, [], ◌∷◌, ◌++◌, length, fold, arith, inl, inr, append-nil, append_assoc, eqb-true, ne_eqb, refl, sym, ap, ap₂, ◌∙◌, subst}
use Rattle.std.specs.Prelude.{Option, Some, None}
use Rattle.std.proofs.lemmas.List.{length-append}
use Rattle.std.proofs.lemmas.List.Sums.{fold-append}
use Rattle.std.proofs.lemmas.Bool.{cases_Bool, and_parts}
use Rattle.std.proofs.lemmas.Slice.Eq.{bytes_eq-Decides, slice_eq-Decides}
use Rattle.unicode_segmentation.specs.Grapheme.{graphemes}
use Rattle.termwiz_cell.specs.Attributes.{Attributes, attributes_eq}
use Rattle.termwiz_cell.specs.CellValue.{CellValue, columns}
use Rattle.termwiz_cell.specs.ChangeValue as change
use Rattle.termwiz_cell.specs.ChangeValue.{ChangeValue}
use Rattle.termwiz_line.specs.Entries.{joins, join, add_text}
use Rattle.termwiz_screen.specs.Screen.{Screen}
use Rattle.termwiz_screen.specs.Print.{piece_of, print_one}
use Rattle.termwiz_screen.specs.Step.{step, replay}
use Rattle.termwiz_screen.specs.Measured.{IsMeasured}
use Rattle.termwiz_screen.specs.Prints.{Print, print_on, print_all, piece_prints, text_prints, step_prints, printed}
use Rattle.termwiz_screen.specs.Diff.{End, end_of, PrintedOut, nothing_printed, move_to, pen_to, print_out, prints_out}
use Rattle.termwiz_screen.specs.Place.{cursor_at}
use Rattle.termwiz_screen.specs.DiffLaws.{CanPrint}
use Rattle.termwiz_screen.proofs.Repaints.Screen.{replay_cursor}
use Rattle.termwiz_screen.proofs.Repaints.EntryTexts.{replay_text, replay_pen, print_cell, printed_is, no_break}
use Rattle.termwiz_screen.proofs.Repaints.Length.{length_optional, length-add_text}

module _ (f : List ℕ → ℕ) where
  printed-append : (s : Screen) (es fs : List ChangeValue) → printed f s (es ++ fs) ≡ printed f s es ++ printed f (replay f s es) fs
  printed-append s [] fs = refl
  printed-append s (e ∷ es) fs = ap (λ l. step_prints f s e ++ l) (printed-append (step f s e) es fs) ∙ sym (append_assoc (step_prints f s e) (printed f (step f s e) es) _)

  text_prints-append : (s : Screen) (gs hs : List (List ℕ)) → text_prints f s (gs ++ hs) ≡ text_prints f s gs ++ text_prints f (fold (print_one f) s gs) hs
  text_prints-append s [] hs = refl
  text_prints-append s (g ∷ gs) hs = ap (λ l. piece_prints s (piece_of f s.pen g) ++ l) (text_prints-append (print_one f s g) gs hs) ∙ sym (append_assoc (piece_prints s (piece_of f s.pen g)) (text_prints f (print_one f s g) gs) _)

  -- adding a text prints its one grapheme more
  printed_join : (s : Screen) (e : ChangeValue) (t : List ℕ) → graphemes true t ≡ t ∷ [] → printed f s (join e t) ≡ step_prints f s e ++ piece_prints (step f s e) (piece_of f (step f s e).pen t)
  printed_join s (change.Text u) t h = joined (joins u t) (slice_eq-Decides bytes_eq-Decides (graphemes true (u ++ t)) (graphemes true u ++ t ∷ []) (joins u t) refl).0
    where
      joined : (b : Bool) → (b ≡ true → graphemes true (u ++ t) ≡ graphemes true u ++ t ∷ []) →
          printed f s (cond b (change.Text (u ++ t) ∷ []) (change.Text u ∷ change.Text t ∷ [])) ≡ text_prints f s (graphemes true u) ++ piece_prints (step f s (change.Text u)) (piece_of f (step f s (change.Text u)).pen t)
      joined true e = append-nil _ ∙ ap (text_prints f s) (e refl) ∙ text_prints-append s (graphemes true u) (t ∷ []) ∙ ap (λ l. text_prints f s (graphemes true u) ++ l) (append-nil _)
      joined false e = ap (λ l. text_prints f s (graphemes true u) ++ l) (append-nil _ ∙ ap (text_prints f (step f s (change.Text u))) h ∙ append-nil _)
  printed_join s e t h = ap (λ l. step_prints f s e ++ l) (append-nil _ ∙ ap (text_prints f (step f s e)) h ∙ append-nil _)

  pub printed_text : (es : List ChangeValue) (s : Screen) (t : List ℕ) → graphemes true t ≡ t ∷ [] → printed f s (add_text es t) ≡ printed f s es ++ piece_prints (replay f s es) (piece_of f (replay f s es).pen t)
  printed_text [] s t h = append-nil _ ∙ ap (text_prints f s) h ∙ append-nil _
  printed_text (e ∷ []) s t h = printed_join s e t h ∙ ap (λ l. l ++ piece_prints (step f s e) (piece_of f (step f s e).pen t)) (sym (append-nil (step_prints f s e)))
  printed_text (e ∷ (g ∷ es)) s t h =
      ap (λ l. step_prints f s e ++ l) (printed_text (g ∷ es) (step f s e) t h)
      ∙ sym (append_assoc (step_prints f s e) (printed f (step f s e) (g ∷ es)) _)

-- the move and the pen print nothing
module _ (f : List ℕ → ℕ) where
  no_prints : (d : Option End) (s t : Screen) (p : Print) → printed f s (move_to d p) ++ printed f t (pen_to d p) ≡ []
  no_prints None s t p = refl
  no_prints (Some q) s t p = go (eqb q.x p.column && eqb q.y p.row) (attributes_eq q.pen p.cell.attrs)
    where
      go : (b c : Bool) → printed f s (cond b [] (cursor_at p.column p.row ∷ [])) ++ printed f t (cond c [] (change.AllAttributes p.cell.attrs ∷ [])) ≡ []
      go true true = refl
      go true false = refl
      go false true = refl
      go false false = refl

  pub printed_before : (s : Screen) (d : PrintedOut) (p : Print) → printed f s ((d.entries ++ move_to d.end p) ++ pen_to d.end p) ≡ printed f s d.entries
  printed_before s d p =
      printed-append f s (d.entries ++ move_to d.end p) (pen_to d.end p)
      ∙ ap (λ l. l ++ printed f (replay f s (d.entries ++ move_to d.end p)) (pen_to d.end p)) (printed-append f s d.entries (move_to d.end p))
      ∙ append_assoc (printed f s d.entries) (printed f (replay f s d.entries) (move_to d.end p)) _
      ∙ ap (λ l. printed f s d.entries ++ l) (no_prints d.end (replay f s d.entries) (replay f s (d.entries ++ move_to d.end p)) p)
      ∙ append-nil (printed f s d.entries)

-- what is known of the screen after the last print
data Knows (w h : ℕ) : Option End → Screen → Type 0 where
  Anywhere : (s : Screen) → s.width ≡ w → s.height ≡ h → Knows w h None s
  After : (q : End) (s : Screen) → s.width ≡ w → s.height ≡ h → s.x ≡ min q.x w → s.y ≡ q.y → s.pen ≡ q.pen → Knows w h (Some q) s

abbrev at_print : Screen → Print → Screen
at_print s p = record s { x = p.column; y = p.row; pen = p.cell.attrs }

abbrev after_print : Screen → Print → Screen
after_print s p = record s { rows = print_on s.rows p; x = min (p.column + columns p.cell) s.width; y = p.row; pen = p.cell.attrs }

module _ (f : List ℕ → ℕ) (w h : ℕ) where
  size_of : {o : Option End} {s : Screen} → Knows w h o s → (s.width ≡ w) × (s.height ≡ h)
  size_of (Anywhere _ ew eh) = (ew, eh)
  size_of (After _ _ ew eh ex ey ep) = (ew, eh)

  replay_place : (s : Screen) (p : Print) → s.width ≡ w → s.height ≡ h → p.row < h → p.column < w → replay f s (cursor_at p.column p.row ∷ []) ≡ record s { x = p.column; y = p.row }
  replay_place s p ew eh lr lc = replay_cursor f s p.column p.row (omega (arith, ew)) (omega (arith, eh))

  -- the move and the pen take the cursor to the print's place
  replay_to : (d : Option End) (s : Screen) (p : Print) → Knows w h d s → p.row < h → p.column < w → replay f (replay f s (move_to d p)) (pen_to d p) ≡ at_print s p
  replay_to None s p (Anywhere _ ew eh) lr lc = ap (λ (t : Screen). record t { pen = p.cell.attrs }) (replay_place s p ew eh lr lc)
  replay_to (Some q) s p (After _ _ ew eh ex ey ep) lr lc = replay_pen f (replay f s (move_to (Some q) p)) q.pen p.cell.attrs (pen_stays (cases_Bool _)) ∙ ap (λ (t : Screen). record t { pen = p.cell.attrs }) (moved (cases_Bool _))
    where
      moved : ((eqb q.x p.column && eqb q.y p.row) ≡ true) ⊎ ((eqb q.x p.column && eqb q.y p.row) ≡ false) → replay f s (move_to (Some q) p) ≡ record s { x = p.column; y = p.row }
      moved (inl t) =
          let e = and_parts _ _ t in
          let cx : q.x ≡ p.column = eqb-true _ _ e.0 in
          let px : s.x ≡ p.column = omega (arith, ex) in
          let py : s.y ≡ p.row = ey ∙ eqb-true _ _ e.1 in
          rw t (λ i. record s { x = px i; y = py i })
      moved (inr t) = rw t (replay_place s p ew eh lr lc)

      pen_stays : ((eqb q.x p.column && eqb q.y p.row) ≡ true) ⊎ ((eqb q.x p.column && eqb q.y p.row) ≡ false) → (replay f s (move_to (Some q) p)).pen ≡ q.pen
      pen_stays (inl t) = rw t ep
      pen_stays (inr t) = rw t ep

  -- where the cell is printed from
  before : (s : Screen) (d : PrintedOut) (p : Print) → Knows w h d.end (replay f s d.entries) → p.row < h → p.column < w → replay f s ((d.entries ++ move_to d.end p) ++ pen_to d.end p) ≡ at_print (replay f s d.entries) p
  before s d p k lr lc =
      fold-append (step f) s (d.entries ++ move_to d.end p) (pen_to d.end p)
      ∙ ap (λ t. replay f t (pen_to d.end p)) (fold-append (step f) s d.entries (move_to d.end p))
      ∙ replay_to d.end (replay f s d.entries) p k lr lc

  replay_out : (s : Screen) (d : PrintedOut) (p : Print) → Knows w h d.end (replay f s d.entries) → p.row < h → p.column < w → IsMeasured f p.cell → replay f s (print_out d p).entries ≡ after_print (replay f s d.entries) p
  replay_out s d p k lr lc m =
      replay_text f ((d.entries ++ move_to d.end p) ++ pen_to d.end p) s p.cell.text m.alone
      ∙ ap (λ t. print_one f t p.cell.text) (before s d p k lr lc)
      ∙ print_cell f (at_print (replay f s d.entries) p) p.cell (omega (arith, (size_of k).0)) m

  printed_out : (s : Screen) (d : PrintedOut) (p : Print) → Knows w h d.end (replay f s d.entries) → p.row < h → p.column < w → IsMeasured f p.cell → printed f s (print_out d p).entries ≡ printed f s d.entries ++ p ∷ []
  printed_out s d p k lr lc m =
      printed_text f ((d.entries ++ move_to d.end p) ++ pen_to d.end p) s p.cell.text m.alone
      ∙ ap₂ (λ a b. a ++ b) (printed_before f s d p) here
    where
      one : (t : Screen) → p.column < t.width → piece_prints (at_print t p) (piece_of f p.cell.attrs p.cell.text) ≡ p ∷ []
      one t l =
          let b = no_break f p.cell.attrs p.cell.text m.is_clean in
          let n : eqb p.column t.width ≡ false = ne_eqb p.column t.width (omega arith) in
          rw (b, n) (ap (λ (c : CellValue). record { row = p.row; column = p.column; cell = c } ∷ []) (printed_is f p.cell m))

      here : piece_prints (replay f s ((d.entries ++ move_to d.end p) ++ pen_to d.end p)) (piece_of f (replay f s ((d.entries ++ move_to d.end p) ++ pen_to d.end p)).pen p.cell.text) ≡ p ∷ []
      here = ap (λ t. piece_prints t (piece_of f t.pen p.cell.text)) (before s d p k lr lc) ∙ one (replay f s d.entries) (omega (arith, (size_of k).0))

  knows_out : (s : Screen) (d : PrintedOut) (p : Print) → Knows w h d.end (replay f s d.entries) → p.row < h → p.column < w → IsMeasured f p.cell → Knows w h (Some (end_of p)) (replay f s (print_out d p).entries)
  knows_out s d p k lr lc m =
      let z = size_of k in
      subst (Knows w h (Some (end_of p))) (sym (replay_out s d p k lr lc m))
      (After (end_of p) (after_print (replay f s d.entries) p) z.0 z.1 (ap (λ n. min (p.column + columns p.cell) n) z.0) refl refl)

-- t is s with these prints, the cursor and the pen anywhere
pub record Printed (s t : Screen) (ps : List Print) : Type 0 where
  pub x : ℕ
  pub y : ℕ
  pub pen : Attributes
  pub screen_is : t ≡ record s { rows = print_all s.rows ps; x = x; y = y; pen = pen }

module _ (f : List ℕ → ℕ) (w h : ℕ) (s : Screen) where
  replay_all : (ps : List Print) (d : PrintedOut) → Knows w h d.end (replay f s d.entries) → CanPrint f w h ps → Printed (replay f s d.entries) (replay f s (fold print_out d ps).entries) ps
  replay_all [] d k q = record { x = (replay f s d.entries).x; y = (replay f s d.entries).y; pen = (replay f s d.entries).pen; screen_is = refl }
  replay_all (p ∷ ps) d k q = more (replay_all ps (print_out d p) (knows_out f w h s d p k q.0 q.1 q.2) q.3)
    where
      e : replay f s (print_out d p).entries ≡ after_print (replay f s d.entries) p
      e = replay_out f w h s d p k q.0 q.1 q.2

      more : Printed (replay f s (print_out d p).entries) (replay f s (fold print_out (print_out d p) ps).entries) ps → Printed (replay f s d.entries) (replay f s (fold print_out (print_out d p) ps).entries) (p ∷ ps)
      more r = record { x = r.x; y = r.y; pen = r.pen; screen_is = r.screen_is ∙ ap (λ (t : Screen). record t { rows = print_all t.rows ps; x = r.x; y = r.y; pen = r.pen }) e }

  printed_all : (ps : List Print) (d : PrintedOut) → Knows w h d.end (replay f s d.entries) → CanPrint f w h ps → printed f s (fold print_out d ps).entries ≡ printed f s d.entries ++ ps
  printed_all [] d k q = sym (append-nil _)
  printed_all (p ∷ ps) d k q =
      printed_all ps (print_out d p) (knows_out f w h s d p k q.0 q.1 q.2) q.3
      ∙ ap (λ l. l ++ ps) (printed_out f w h s d p k q.0 q.1 q.2)
      ∙ append_assoc (printed f s d.entries) (p ∷ []) ps

pub entries_replay : (f : List ℕ → ℕ) (s : Screen) (ps : List Print) → CanPrint f s.width s.height ps → Printed s (replay f s (prints_out ps)) ps
entries_replay f s ps q = replay_all f s.width s.height s ps (nothing_printed) (Anywhere s refl refl) q

pub entries_print : (f : List ℕ → ℕ) (s : Screen) (ps : List Print) → CanPrint f s.width s.height ps → printed f s (prints_out ps) ≡ ps
entries_print f s ps q = printed_all f s.width s.height s ps (nothing_printed) (Anywhere s refl refl) q

-- at most three changes for each print
length_to : (d : Option End) (p : Print) → length (move_to d p) + length (pen_to d p) ≤ 2
length_to None p = omega arith
length_to (Some q) p = omega (arith, length_optional (eqb q.x p.column && eqb q.y p.row) (cursor_at p.column p.row), length_optional (attributes_eq q.pen p.cell.attrs) (change.AllAttributes p.cell.attrs))

pub length_out : (ps : List Print) (d : PrintedOut) → length (fold print_out d ps).entries ≤ length d.entries + 3 * length ps
length_out [] d = omega arith
length_out (p ∷ ps) d =
    omega (
      arith,
      length_out ps (print_out d p),
      length-add_text ((d.entries ++ move_to d.end p) ++ pen_to d.end p) p.cell.text,
      length-append (d.entries ++ move_to d.end p) (pen_to d.end p),
      length-append d.entries (move_to d.end p),
      length_to d.end p,
    )
