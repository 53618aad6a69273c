-- A repaint, replayed on any screen of that size, gives the screen.
use Rattle.std.proofs.Common.{◌≡◌, ℕ, ◌-◌, ◌<◌, ◌≤◌, min, Bool, true, false, cond, ◌&&◌, eqb, leb, List, [], ◌∷◌, ◌++◌, Option, Some, None, arith, eqb-true, le-leb, refl, sym, ap, ◌∙◌, subst}
use Rattle.std.proofs.lemmas.List.Sums.{fold-append}
use Rattle.std.proofs.lemmas.Bool.{and_parts, false≢true}
use Rattle.termwiz_cell.specs.declared.change.CursorShape.{CursorShape}
use Rattle.termwiz_cell.specs.declared.change.CursorVisibility.{CursorVisibility}
use Rattle.termwiz_cell.specs.declared.change.CursorVisibility.TheVariants as cursor
use Rattle.termwiz_cell.specs.CellValue.{space}
use Rattle.termwiz_cell.specs.ChangeValue as change
use Rattle.termwiz_cell.specs.ChangeValue.{ChangeValue}
use Rattle.termwiz_line.specs.Entries.{Penned, pen_entry}
use Rattle.termwiz_screen.specs.Screen.{Screen}
use Rattle.termwiz_screen.specs.Place.{placed, cursor_at}
use Rattle.termwiz_screen.specs.Step.{step, replay}
use Rattle.termwiz_screen.specs.Repaint.{all_rows, all_moves, without_last_moves, is_nil, cursor_entry, shown_entries, title_entry, repaint_of, repaint}
use Rattle.termwiz_screen.specs.Printable.{IsPrintable, HasSize}
use Rattle.termwiz_screen.proofs.Repaints.EntryTexts.{replay_pen}
use Rattle.termwiz_screen.proofs.Repaints.Rows.{emptied, HasRows}
use Rattle.termwiz_screen.proofs.Repaints.Bottom.{all_rows_give}

-- the same but for the cursor's place
pub record SameButPlace (s t : Screen) : Type 0 where
  pub width : s.width ≡ t.width
  pub height : s.height ≡ t.height
  pub rows_are : s.rows ≡ t.rows
  pub hidden : s.visibility ≡ t.visibility
  pub pen_is : s.pen ≡ t.pen

-- moves, and so the moves at the end of a list, change the cursor's place alone
moves_move : (f : List ℕ → ℕ) (es : List ChangeValue) (s : Screen) → all_moves es ≡ true → SameButPlace (replay f s es) s
moves_move f [] s h = record { width = refl; height = refl; rows_are = refl; hidden = refl; pen_is = refl }
moves_move f (change.CursorPosition x y ∷ es) s h =
    let i = moves_move f es (placed s x y) h in
    record { width = i.width; height = i.height; rows_are = i.rows_are; hidden = i.hidden; pen_is = i.pen_is }
moves_move f (e ∷ es) s h = absurd (false≢true h)

last_moves_move : (f : List ℕ → ℕ) (es : List ChangeValue) (s : Screen) → SameButPlace (replay f s es) (replay f s (without_last_moves es))
last_moves_move f [] s = record { width = refl; height = refl; rows_are = refl; hidden = refl; pen_is = refl }
last_moves_move f (e ∷ es) s = dropped (last_moves_move f es (step f s e)) (all_moves (e ∷ es)) (moves_move f (e ∷ es) s)
  where
    dropped : SameButPlace (replay f (step f s e) es) (replay f (step f s e) (without_last_moves es)) → (b : Bool) → (b ≡ true → SameButPlace (replay f s (e ∷ es)) s) →
        SameButPlace (replay f s (e ∷ es)) (replay f s (cond b [] (e ∷ without_last_moves es)))
    dropped i true m = m refl
    dropped i false m = i

module _ (f : List ℕ → ℕ) where
  -- the cursor goes to a place inside, or one past the end of its row
  pub replay_cursor : (s : Screen) (x y : ℕ) → x ≤ s.width → y < s.height → replay f s (cursor_at x y ∷ []) ≡ record s { x = x; y = y }
  replay_cursor s x y lx ly =
      let b : leb x s.width ≡ true = le-leb x s.width lx in
      let row : min y (s.height - 1) ≡ y = omega arith in
      rw b (λ i. record s { x = x; y = row i })

  -- it is left out where nothing moved it from the first place
  cursor_is : (s : Screen) (es : List ChangeValue) (x y : ℕ) → s.x ≡ 0 → s.y ≡ 0 → x ≤ (replay f s es).width → y < (replay f s es).height →
      replay f (replay f s es) (cursor_entry es x y) ≡ record (replay f s es) { x = x; y = y }
  cursor_is s es x y ex ey lx ly = moved (is_nil es && (eqb x 0 && eqb y 0)) (λ h. here (and_parts (is_nil es) (eqb x 0 && eqb y 0) h))
    where
      at_nil : (l : List ChangeValue) → is_nil l ≡ true → replay f s l ≡ s
      at_nil [] h = refl
      at_nil (e ∷ l) h = absurd (false≢true h)

      here : (is_nil es ≡ true) × ((eqb x 0 && eqb y 0) ≡ true) → ((replay f s es).x ≡ x) × ((replay f s es).y ≡ y)
      here h =
          let q = and_parts (eqb x 0) (eqb y 0) h.1 in
          (ap (λ (v : Screen). v.x) (at_nil es h.0) ∙ ex ∙ sym (eqb-true x 0 q.0), ap (λ (v : Screen). v.y) (at_nil es h.0) ∙ ey ∙ sym (eqb-true y 0 q.1))

      moved : (b : Bool) → (b ≡ true → ((replay f s es).x ≡ x) × ((replay f s es).y ≡ y)) →
          replay f (replay f s es) (cond b [] (cursor_at x y ∷ [])) ≡ record (replay f s es) { x = x; y = y }
      moved true h = λ i. record (replay f s es) { x = (h refl).0 i; y = (h refl).1 i }
      moved false h = replay_cursor (replay f s es) x y lx ly

  -- a shape is no part of the screen
  replay_shown : (s : Screen) (v : CursorVisibility) (shape : Option CursorShape) → s.visibility ≡ cursor.Hidden → replay f s (shown_entries v shape) ≡ record s { visibility = v }
  replay_shown s cursor.Visible None h = refl
  replay_shown s cursor.Visible (Some shape) h = refl
  replay_shown s cursor.Hidden shape h = λ i. record s { visibility = h i }

  -- nor is a title
  replay_title : (s : Screen) (title : List ℕ) → replay f s (title_entry title) ≡ s
  replay_title s [] = refl
  replay_title s (b ∷ bs) = refl

  -- entries that leave the screen's rows and a pen give the screen, with its cursor and pen after
  -- them, where those before them leave a cleared screen and the last ones its visibility
  pub repaint_of_gives : (t s : Screen) (first : List ChangeValue) (d : Penned) (last : List ChangeValue) → t.x ≤ t.width → t.y < t.height → replay f (emptied s) first ≡ emptied s →
      HasRows t.width t.height t.rows d.pen (replay f (emptied s) d.entries) → ((v : Screen) → v.visibility ≡ cursor.Hidden → replay f v last ≡ record v { visibility = t.visibility }) → replay f s (repaint_of first d t last) ≡ t
  repaint_of_gives t s first d last lx ly e rows shows =
      fold-append (step f) (emptied s) front _
      ∙ fold-append (step f) u (cursor_entry front t.x t.y) _
      ∙ ap (λ v. replay f v (pen_entry d.pen t.pen ++ last)) (cursor_is (emptied s) front t.x t.y refl refl (omega (arith, g.width, b.width)) (omega (arith, g.height, b.height)))
      ∙ fold-append (step f) (record u { x = t.x; y = t.y }) (pen_entry d.pen t.pen) last
      ∙ ap (λ v. replay f v last) (replay_pen f (record u { x = t.x; y = t.y }) d.pen t.pen (sym b.pen_is ∙ g.pen_is))
      ∙ shows (record u { x = t.x; y = t.y; pen = t.pen }) (sym b.hidden ∙ g.hidden)
      ∙ λ i. record t { width = (sym b.width ∙ g.width) i; height = (sym b.height ∙ g.height) i; rows = (sym b.rows_are ∙ g.rows_are) i }
    where
      front : List ChangeValue
      front = without_last_moves (first ++ d.entries)

      u : Screen
      u = replay f (emptied s) front

      b : SameButPlace (replay f (emptied s) (first ++ d.entries)) u
      b = last_moves_move f (first ++ d.entries) (emptied s)

      g : HasRows t.width t.height t.rows d.pen (replay f (emptied s) (first ++ d.entries))
      g = subst (HasRows t.width t.height t.rows d.pen) (sym (fold-append (step f) (emptied s) first d.entries ∙ ap (λ v. replay f v d.entries) e)) rows

  pub repaint_gives : f space ≡ 1 → (t s : Screen) (title : List ℕ) (shape : Option CursorShape) → IsPrintable f t → HasSize t.width t.height s → replay f s (repaint t title shape) ≡ t
  repaint_gives one t s title shape p z =
      repaint_of_gives t s (title_entry title) (all_rows t.width t.height t.rows) (shown_entries t.visibility shape) p.column p.row (replay_title (emptied s) title)
      (all_rows_give f one t.width t.height t.rows p.full p.rows_so s z p.some_column) (λ v h. replay_shown v t.visibility shape h)
