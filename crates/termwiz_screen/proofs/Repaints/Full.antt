-- A full repaint, replayed on any full screen of that size, gives the full screen.
use Rattle.std.proofs.Common.{◌≡◌, ℕ, pos, Some, zero, suc, ◌+◌, ◌-◌, ◌<◌, ◌≤◌, min, Bool, true, false, cond, ◌&&◌, eqb, leb, List, [], ◌∷◌, ◌++◌, map, length, get_or, set, arith, ◌≢◌, inl, inr, ◌⊎◌, eq-eqb, ne_eqb, le-leb, refl, sym, ap, ◌∙◌, subst}
use Rattle.std.proofs.lemmas.List.{length-map, length-set, get_or-map, get_or-set_same, get_or-set_other, ext_get_or}
use Rattle.std.proofs.lemmas.List.Sums.{fold-append}
use Rattle.std.proofs.lemmas.Bool.{cases_eq, false≢true}
use Rattle.termwiz_cell.specs.declared.change.CursorShape.{CursorShape}
use Rattle.termwiz_cell.specs.declared.change.CursorVisibility.{CursorVisibility}
use Rattle.termwiz_cell.specs.declared.change.CursorVisibility.TheVariants as cursor
use Rattle.termwiz_cell.specs.declared.change.LineAttribute.{LineAttribute}
use Rattle.termwiz_cell.specs.declared.change.Position.TheVariants as position
use Rattle.termwiz_cell.specs.declared.change.LineAttribute.TheVariants.{SingleWidthLine}
use Rattle.termwiz_cell.specs.CellValue.{space}
use Rattle.termwiz_cell.specs.ChangeValue as change
use Rattle.termwiz_cell.specs.ChangeValue.{ChangeValue}
use Rattle.termwiz_line.specs.Entries.{Penned, pen_entry}
use Rattle.termwiz_line.specs.LineFlags.{no_flags}
use Rattle.termwiz_screen.specs.FullScreen.{FullScreen, line_attribute, full_screen, kept_in, full_replay, HasFullSize}
use Rattle.termwiz_screen.specs.Kept.{Kept, with_line_attribute}
use Rattle.termwiz_screen.specs.Screen.{Screen}
use Rattle.termwiz_screen.specs.Step.{step, replay, step_kept, replay_kept}
use Rattle.termwiz_screen.specs.Repaint.{next_line, all_rows, is_nil, all_moves, without_last_moves, cursor_entry, started_entries, lines_upto, full_entries, full_shown_entries, full_repaint}
use Rattle.termwiz_screen.specs.Place.{placed, cursor_at}
use Rattle.termwiz_screen.specs.Printable.{IsPrintable}
use Rattle.termwiz_screen.proofs.Repaints.CalmEntries.{kept-append, calm-optional, calm-pen, calm-all_rows}
use Rattle.termwiz_screen.proofs.FullScreens.{ShowAlike, alike-refl, alike-more, attribute-set, full-split}
use Rattle.termwiz_screen.proofs.Repaints.Rows.{emptied}
use Rattle.termwiz_screen.proofs.Repaints.Bottom.{all_rows_give}
use Rattle.termwiz_screen.proofs.Repaints.Screen.{replay_cursor, repaint_of_gives}

module _ (f : List ℕ → ℕ) where
  -- moves, and so the moves at the end of a list, leave what is kept
  moves-keep : (es : List ChangeValue) (s : Screen) (k : Kept) → all_moves es ≡ true → replay_kept f s k es ≡ k
  moves-keep [] s k h = refl
  moves-keep (change.CursorPosition x y ∷ es) s k h = moves-keep es (placed s x y) k h
  moves-keep (e ∷ es) s k h = absurd (false≢true h)

  last_moves-keep : (es : List ChangeValue) (s : Screen) (k : Kept) → replay_kept f s k (without_last_moves es) ≡ replay_kept f s k es
  last_moves-keep [] s k = refl
  last_moves-keep (e ∷ es) s k = dropped (last_moves-keep es (step f s e) (step_kept f s k e)) (all_moves (e ∷ es)) (λ h. moves-keep (e ∷ es) s k h)
    where
      dropped : replay_kept f s k (e ∷ without_last_moves es) ≡ replay_kept f s k (e ∷ es) → (b : Bool) → (b ≡ true → replay_kept f s k (e ∷ es) ≡ k) → replay_kept f s k (cond b [] (e ∷ without_last_moves es)) ≡ replay_kept f s k (e ∷ es)
      dropped h true m = sym (m refl)
      dropped h false m = h

  -- the attributes of the rows above row i are set, and the cursor is in the last of these rows
  pub record HasLines (lines : List LineAttribute) (i : ℕ) (s : Screen) (k : Kept) (t : Screen) (l : Kept) : Type 0 where
    pub screen_is : t ≡ record s { x = 0; y = i - 1 }
    pub title : l.title ≡ k.title
    pub shape : l.shape ≡ k.shape
    pub color : l.color ≡ k.color
    pub full : length l.flags ≡ length k.flags
    pub above : (j : ℕ) → j < i → line_attribute (get_or l.flags j no_flags) ≡ get_or lines j SingleWidthLine

  module _ (lines : List LineAttribute) (s : Screen) (k : Kept) (ex : s.x ≡ 0) (ey : s.y ≡ 0) (rows : s.height ≡ length k.flags) where
    -- one row more
    line-next : (i : ℕ) (t : Screen) (l : Kept) → i < s.height → HasLines lines i s k t l →
        HasLines lines (suc i) s k (replay f t (cond (eqb i 0) [] (next_line ∷ []) ++ change.LineAttribute (get_or lines i SingleWidthLine) ∷ []))
        (replay_kept f t l (cond (eqb i 0) [] (next_line ∷ []) ++ change.LineAttribute (get_or lines i SingleWidthLine) ∷ []))
    line-next i t l m u = at (cases_eq i 0)
      where
        a : LineAttribute
        a = get_or lines i SingleWidthLine

        -- in row i
        here : (v : Screen) → v ≡ record s { x = 0; y = i } → HasLines lines (suc i) s k v (step_kept f v l (change.LineAttribute a))
        here v e = subst (λ (v : Screen). HasLines lines (suc i) s k v (step_kept f v l (change.LineAttribute a))) (sym e) (record {
          screen_is = λ n. record s { x = 0; y = below n };
          title = u.title;
          shape = u.shape;
          color = u.color;
          full = length-set l.flags i _ ∙ u.full;
          above = λ j n. each j n (cases_eq j i);
        })
          where
            below : i ≡ suc i - 1
            below = omega arith

            each : (j : ℕ) → j < suc i → (j ≡ i) ⊎ (j ≢ i) → line_attribute (get_or (set l.flags i (with_line_attribute a (get_or l.flags i no_flags))) j no_flags) ≡ get_or lines j SingleWidthLine
            each j n (inl o) =
                ap (λ m. line_attribute (get_or (set l.flags i (with_line_attribute a (get_or l.flags i no_flags))) m no_flags)) o
                ∙ ap line_attribute (get_or-set_same l.flags i (with_line_attribute a (get_or l.flags i no_flags)) no_flags (omega (arith, u.full, rows)))
                ∙ attribute-set a (get_or l.flags i no_flags) ∙ ap (λ m. get_or lines m SingleWidthLine) (sym o)
            each j n (inr o) = ap line_attribute (get_or-set_other l.flags i j (with_line_attribute a (get_or l.flags i no_flags)) no_flags o) ∙ u.above j (omega arith)

        at : (i ≡ 0) ⊎ (i ≢ 0) → HasLines lines (suc i) s k (replay f t (cond (eqb i 0) [] (next_line ∷ []) ++ change.LineAttribute a ∷ [])) (replay_kept f t l (cond (eqb i 0) [] (next_line ∷ []) ++ change.LineAttribute a ∷ []))
        at (inl o) =
            let y : i - 1 ≡ i = omega arith in
            rw (eq-eqb i 0 o) (here t (u.screen_is ∙ λ n. record s { x = 0; y = y n }))
        at (inr o) =
            let y : min (t.y + 1) (t.height - 1) ≡ i = omega (arith, ap (λ (v : Screen). v.y) u.screen_is, ap (λ (v : Screen). v.height) u.screen_is) in
            let b : leb 0 t.width ≡ true = le-leb 0 t.width (omega arith) in
            let moved : placed t (position.Absolute 0) (position.Relative (pos 1)) ≡ record s { x = 0; y = i } = rw b (λ n. record (u.screen_is n) { x = 0; y = y n }) in
            rw (ne_eqb i 0 o) (here (placed t (position.Absolute 0) (position.Relative (pos 1))) moved)

    lines-stand : (i : ℕ) → i ≤ s.height → HasLines lines i s k (replay f s (lines_upto lines i)) (replay_kept f s k (lines_upto lines i))
    lines-stand zero l = record { screen_is = λ n. record s { x = ex n; y = ey n }; title = refl; shape = refl; color = refl; full = refl; above = λ j m. absurd (omega arith) }
    lines-stand (suc i) l =
        let more = cond (eqb i 0) [] (next_line ∷ []) ++ change.LineAttribute (get_or lines i SingleWidthLine) ∷ [] in
        subst (λ t. HasLines lines (suc i) s k t (replay_kept f s k (lines_upto lines (suc i)))) (sym (fold-append (step f) s (lines_upto lines i) more))
        (subst (HasLines lines (suc i) s k (replay f (replay f s (lines_upto lines i)) more)) (sym (kept-append f s k (lines_upto lines i) more))
        (line-next i (replay f s (lines_upto lines i)) (replay_kept f s k (lines_upto lines i)) (omega arith) (lines-stand i (omega arith))))

  -- the last entries set the shape
  last-kept : (v : Screen) (k : Kept) (visibility : CursorVisibility) (shape : CursorShape) → replay_kept f v k (full_shown_entries visibility shape) ≡ record k { shape = Some shape }
  last-kept v k cursor.Visible shape = refl
  last-kept v k cursor.Hidden shape = refl

  last-shows : (v : Screen) (visibility : CursorVisibility) (shape : CursorShape) → v.visibility ≡ cursor.Hidden → replay f v (full_shown_entries visibility shape) ≡ record v { visibility = visibility }
  last-shows v cursor.Visible shape h = refl
  last-shows v cursor.Hidden shape h = λ i. record v { visibility = h i }

  module _ (one : f space ≡ 1) (t g : FullScreen) (p : IsPrintable f t.screen) (full : length t.lines ≡ t.screen.height) (z : HasFullSize t.screen.width t.screen.height g) where
    abbrev first : List ChangeValue
    first = full_entries t.title t.color t.lines

    abbrev lines : List ChangeValue
    lines = lines_upto t.lines (length t.lines)

    abbrev d : Penned
    d = all_rows t.screen.width t.screen.height t.screen.rows

    abbrev s : Screen
    s = emptied g.screen

    -- what is kept after the first two entries, and with the title and the colour
    abbrev k : Kept
    k = replay_kept f g.screen (kept_in g) started_entries

    abbrev titled : Kept
    titled = record k { title = t.title; color = t.color }

    count : length titled.flags ≡ s.height
    count = length-map g.lines (λ a. with_line_attribute a no_flags) ∙ z.lines ∙ sym z.screen.height

    stand : HasLines t.lines (length t.lines) s titled (replay f s lines) (replay_kept f s titled lines)
    stand = lines-stand t.lines s titled refl refl (sym count) (length t.lines) (omega (arith, full, z.screen.height))

    -- the cursor is home again
    first-leaves : replay f s first ≡ s
    first-leaves =
        fold-append (step f) s lines (cursor_at 0 0 ∷ [])
        ∙ ap (λ v. replay f v (cursor_at 0 0 ∷ [])) stand.screen_is
        ∙ replay_cursor f (record s { x = 0; y = length t.lines - 1 }) 0 0 (omega arith) (omega (arith, p.row, z.screen.height))

    first-kept : replay_kept f s k first ≡ replay_kept f s titled lines
    first-kept = kept-append f s titled lines (cursor_at 0 0 ∷ [])

    attributes : map line_attribute (replay_kept f s titled lines).flags ≡ t.lines
    attributes =
        let flags = (replay_kept f s titled lines).flags in
        let same : length (map line_attribute flags) ≡ length t.lines = length-map flags line_attribute ∙ stand.full ∙ count ∙ z.screen.height ∙ sym full in
        ext_get_or SingleWidthLine (map line_attribute flags) t.lines same
        (λ j l. get_or-map line_attribute flags j no_flags SingleWidthLine (omega (arith, length-map flags line_attribute)) ∙ stand.above j (omega (arith, same)))

    abbrev front : List ChangeValue
    front = without_last_moves (first ++ d.entries)

    -- the rows' entries leave that
    front-kept : ShowAlike (replay_kept f s k front) (replay_kept f s titled lines)
    front-kept =
        subst (λ l. ShowAlike l (replay_kept f s titled lines)) (sym (last_moves-keep (first ++ d.entries) s k ∙ kept-append f s k first d.entries))
        (subst (λ l. ShowAlike (replay_kept f (replay f s first) l d.entries) (replay_kept f s titled lines)) (sym first-kept)
        (subst (λ (v : Screen). ShowAlike (replay_kept f v (replay_kept f s titled lines) d.entries) (replay_kept f s titled lines)) (sym first-leaves)
        (calm-all_rows f one t.screen.width t.screen.height t.screen.rows p.full p.rows_so g.screen z.screen p.some_column (replay_kept f s titled lines))))

    abbrev place : List ChangeValue
    place = cursor_entry front t.screen.x t.screen.y

    abbrev pen : List ChangeValue
    pen = pen_entry d.pen t.screen.pen

    abbrev last : List ChangeValue
    last = full_shown_entries t.screen.visibility t.shape

    abbrev u : Screen
    u = replay f s front

    -- the entries of the cursor and the pen leave that too
    abbrev before : Kept
    before = replay_kept f (replay f u place) (replay_kept f u (replay_kept f s k front) place) pen

    before-kept : ShowAlike before (replay_kept f s titled lines)
    before-kept =
        alike-more _ _ _ (calm-pen f (replay f u place) d.pen t.screen.pen (replay_kept f u (replay_kept f s k front) place))
        (alike-more _ _ _ (calm-optional f u (is_nil front && (eqb t.screen.x 0 && eqb t.screen.y 0)) (cursor_at t.screen.x t.screen.y) alike-refl (replay_kept f s k front)) front-kept)

    end-kept : replay_kept f g.screen (kept_in g) (full_repaint t) ≡ record before { shape = Some t.shape }
    end-kept =
        kept-append f s k front (place ++ (pen ++ last))
        ∙ kept-append f u (replay_kept f s k front) place (pen ++ last)
        ∙ kept-append f (replay f u place) (replay_kept f u (replay_kept f s k front) place) pen last
        ∙ last-kept (replay f (replay f u place) pen) before t.screen.visibility t.shape

    screen-is : replay f g.screen (full_repaint t) ≡ t.screen
    screen-is =
        repaint_of_gives f t.screen g.screen first d last p.column p.row first-leaves
        (all_rows_give f one t.screen.width t.screen.height t.screen.rows p.full p.rows_so g.screen z.screen p.some_column) (λ v h. last-shows v t.screen.visibility t.shape h)

    pub full_repaint_gives : full_replay f g (full_repaint t) ≡ t
    full_repaint_gives =
        full-split f (full_repaint t) g
        ∙ (λ i. full_screen (screen-is i) (end-kept i))
        ∙ λ i. record { screen = t.screen; title = (before-kept.title ∙ stand.title) i; shape = t.shape; color = (before-kept.color ∙ stand.color) i; lines = (before-kept.lines ∙ attributes) i }
