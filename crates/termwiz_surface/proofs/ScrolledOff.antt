-- Rows that scroll off, and the lines that then hold them.
use Rattle.std.proofs.Common.{◌≡◌, ℕ, zero, suc, ◌+◌, ◌-◌, ◌<◌, ◌≤◌, true, false, inl, inr, min, List, [], ◌∷◌, ◌++◌, length, get_or, map, drop, take, set, replicate, fold, refl, sym, ◌∙◌, ap, ap₂, subst, arith, append_assoc, append-nil, drop-set-lt, length-append, length-drop}
use Rattle.std.specs.List.{All, concat}
use Rattle.std.specs.Str.{IsUtf8}
use Rattle.std.specs.Prelude.{◌==◌, ◌||◌, nat_le, nat_lt, Bool, IsTrue, Result, Ok, Err, OnErr}
use Rattle.std.specs.Result.{is_err}
use Rattle.std.proofs.lemmas.Bool.{cases_Bool, cases_eq, true≢false, and_parts, ne_eqb, eq-eqb, le-leb, lt-leb, or_left, or_right}
use Rattle.std.proofs.lemmas.List.{map-append, length-set, get_or-set_same, get_or-set_other, get_or-append_right, get_or-drop, get_or-map, map-set, length-map, length-replicate, drop_at, drop-drop, drop-take, at_drop_more}
use Rattle.unicode_segmentation.specs.Grapheme.{graphemes}
use Rattle.unicode_segmentation.proofs.SegmentsLemmas.{concat-segments}
use Rattle.termwiz_cell.specs.Attributes.{Attributes}
use Rattle.termwiz_cell.specs.CellValue.{CellValue, blank, columns}
use Rattle.termwiz_storage.proofs.Widths.{columns_bounds}
use Rattle.termwiz_line.specs.LineFlags.{LineFlags, no_flags}
use Rattle.termwiz_line.specs.LineValue.{LineValue}
use Rattle.termwiz_line.specs.Row.{row_of}
use Rattle.termwiz_screen.specs.Kept.{Kept}
use Rattle.termwiz_screen.specs.Print.{has_below, wraps, wrapped, wrapped_kept, down, down_kept, returned, scrolled, put_at_cursor, put_kept, columns_left, printed_cell, piece_of, print_piece, print_one, one_kept, piece_kept, kept_after}
use Rattle.termwiz_screen.specs.Rows.{ArePartlyReset}
use Rattle.termwiz_screen.specs.Screen.{Screen, row_at}
use Rattle.termwiz_screen.specs.ScreenValue.{cells_of}
use Rattle.termwiz_screen.specs.declared.print.Piece.{Piece}
use Rattle.termwiz_screen.specs.declared.print.Piece.TheVariants.{CarriageReturn, LineFeed, CarriageReturnLineFeed, Cell}
use Rattle.termwiz_screen.specs.ScrollRegions.{region_up}
use Rattle.termwiz_screen.proofs.Regions.{blank_step}
use Rattle.termwiz_screen.proofs.Runs.{PrintsCell}
use Rattle.termwiz_cell.specs.ChangeValue.{ChangeValue}
use Rattle.termwiz_screen.specs.Sides.{row_flags}
use Rattle.termwiz_screen.proofs.Lines.{row-read}
use Rattle.termwiz_screen.specs.Step.{step, step_kept, replay, replay_kept, region_fits, regions_fit}
use Rattle.termwiz_surface.specs.Printing.{PrintsFirst}
use Rattle.termwiz_surface.specs.ScrolledOff.{BeginsRows, KeepsTop, LeavesRows, ScrollsOff, ShownRow, first_leaves, first_rows, left_behind_first, left_by, left_one, left_step, line_shown, moves_down, row_shown, rows_scrolled_off, top_leaves, topped}
use Rattle.termwiz_surface.specs.Surface.{SurfaceValue, IsSound, SameFrame, Becomes, screen_of, kept_of, lengths_of}
use Rattle.termwiz_line.proofs.StoredRows.{row_blank}
use Rattle.termwiz_screen.proofs.Stored.{IsLawful}
use Rattle.termwiz_surface.proofs.Drawn.{any_flags, any_numbers, IsSound-partly_reset}
use Rattle.termwiz_surface.proofs.Printing.{IsRun}
use Rattle.termwiz_surface.specs.Touching.{one_touches, piece_touches, scroll_touches, touched, touched_by, touches}
use Rattle.termwiz_surface.proofs.Touching.{below-more, scroll-over}
use Rattle.termwiz_surface.proofs.RowNumbers.{MarksSome, marks-alike, marks-then, some-more, some-none}

-- ---- lists of lines

behind-both : (u v x a b : List LineValue) → v ≡ u ++ a → x ≡ v ++ b → x ≡ u ++ (a ++ b)
behind-both u v x a b first second = second ∙ ap (λ (t : List LineValue). t ++ b) first ∙ append_assoc u a b

module _ (w : ℕ) where
  pub leaves-all : (p : List ShownRow) (v : List LineValue) → LeavesRows w p p v v
  leaves-all p v = record { lines = []; behind = sym (append-nil v); rows_are = refl }

  pub leaves-then : (p q r : List ShownRow) (u v x : List LineValue) → LeavesRows w p q u v → LeavesRows w q r v x → LeavesRows w p r u x
  leaves-then p q r u v x first second =
      let a : List ShownRow = map (line_shown w) first.lines in
      let b : List ShownRow = map (line_shown w) second.lines in
      record {
        lines = first.lines ++ second.lines;
        behind = behind-both u v x first.lines second.lines first.behind second.behind;
        rows_are = first.rows_are ∙ ap (λ (t : List ShownRow). a ++ t) second.rows_are ∙ sym (append_assoc a b r) ∙ ap (λ (t : List ShownRow). t ++ r) (sym (map-append (line_shown w) first.lines second.lines));
      }

  -- further rows may be left
  leaves-before : (p q r : List ShownRow) (u v : List LineValue) → LeavesRows w p q u v → LeavesRows w (p ++ r) (q ++ r) u v
  leaves-before p q r u v leaves = record {
    lines = leaves.lines;
    behind = leaves.behind;
    rows_are = ap (λ (t : List ShownRow). t ++ r) leaves.rows_are ∙ append_assoc (map (line_shown w) leaves.lines) q r;
  }

  pub leaves-off : (p q all : List ShownRow) (u v : List LineValue) → all ≡ p ++ q → ScrollsOff w p u v → LeavesRows w all q u v
  leaves-off p q all u v e off = subst (λ (t : List ShownRow). LeavesRows w t q u v) (sym e) (leaves-before p [] q u v off)

  pub off-none : (v : List LineValue) → ScrollsOff w [] v v
  off-none v = leaves-all [] v

  pub off-then : (p q : List ShownRow) (u v x : List LineValue) → ScrollsOff w p u v → ScrollsOff w q v x → ScrollsOff w (p ++ q) u x
  off-then p q u v x first second = leaves-then (p ++ q) q [] u v x (leaves-before p [] q u v first) second

  -- nothing is left
  pub off-leaves : (p q : List ShownRow) (u v : List LineValue) → q ≡ [] → LeavesRows w p q u v → ScrollsOff w p u v
  off-leaves p q u v e leaves = subst (λ (t : List ShownRow). LeavesRows w p t u v) e leaves

  -- ---- the first rows, where memory was refused

  pub begins-none : (p : List ShownRow) (v : List LineValue) → BeginsRows w p v v
  begins-none p v = (p, leaves-all p v)

  pub begins-eq : (p : List ShownRow) (u v : List LineValue) → v ≡ u → BeginsRows w p u v
  begins-eq p u v e = subst (BeginsRows w p u) (sym e) (begins-none p u)

  pub begins-leaves : (p q : List ShownRow) (u v : List LineValue) → LeavesRows w p q u v → BeginsRows w p u v
  begins-leaves p q u v leaves = (q, leaves)

  -- some were added, and then the first of those that were left
  pub begins-then : (p q : List ShownRow) (u v x : List LineValue) → LeavesRows w p q u v → BeginsRows w q v x → BeginsRows w p u x
  begins-then p q u v x first second = (second.0, leaves-then p q second.0 u v x first second.1)

  -- the first of these are the first of those that begin with them
  pub begins-before : (p q all : List ShownRow) (u v : List LineValue) → all ≡ p ++ q → BeginsRows w p u v → BeginsRows w all u v
  begins-before p q all u v e begins = (
    begins.0 ++ q,
    subst (λ (t : List ShownRow). LeavesRows w t (begins.0 ++ q) u v) (sym e) (leaves-before p begins.0 q u v begins.1),
  )

-- ---- which graphemes scroll

module _ (f : List ℕ → ℕ) where
  left_by-append : (s : Screen) (k : Kept) (gs hs : List (List ℕ)) → left_by f s k (gs ++ hs) ≡ left_by f s k gs ++ left_by f (fold (print_one f) s gs) (kept_after f s k gs) hs
  left_by-append s k [] hs = refl
  left_by-append s k (g ∷ gs) hs =
      let t : Screen = print_one f s g in
      let m : Kept = one_kept f s g k in
      ap (λ (r : List ShownRow). left_one f s k g ++ r) (left_by-append t m gs hs)
      ∙ sym (append_assoc (left_one f s k g) (left_by f t m gs) (left_by f (fold (print_one f) t gs) (kept_after f t m gs) hs))

  -- a cell that does not wrap
  left_one-stays : (s : Screen) (k : Kept) (g : List ℕ) (c : CellValue) → piece_of f s.pen g ≡ Cell c → wraps s ≡ false → left_one f s k g ≡ []
  left_one-stays s k g c is_text stays = elim (cases_Bool (has_below s)) [
    | inl below ↦ rw (is_text, below) refl
    | inr last ↦ rw (is_text, last, stays) refl
  ]

  -- one grapheme, and those after it
  pub behind-one : (s t : Screen) (k m : Kept) (g : List ℕ) (gs hs : List (List ℕ)) → gs ≡ g ∷ hs → t ≡ print_one f s g → m ≡ one_kept f s g k → left_behind_first f s k gs ≡ left_by f t m hs
  behind-one s t k m g gs hs e is kept = ap (left_behind_first f s k) e ∙ ap₂ (λ (z : Screen) (n : Kept). left_by f z n hs) (sym is) (sym kept)

  module _ (piece : ℕ → List ℕ) (cell : ℕ → Attributes → CellValue) (store : ℕ → List ℕ → Attributes → List CellValue → List CellValue) (taken : List ℕ → ℕ) (run : IsRun cell store taken) where
    -- characters that fit in the row scroll nothing
    run-stays : (bs : List ℕ) (s : Screen) (k : Kept) → s.x + taken bs ≤ s.width → All (λ b. PrintsCell f s.pen (piece b) (cell b s.pen)) bs → left_by f s k (map piece bs) ≡ []
    run-stays [] s k fits prints = refl
    run-stays (b ∷ bs) s k fits prints =
        let first : PrintsCell f s.pen (piece b) (cell b s.pen) = prints 0 0 (omega arith) in
        let some : 0 < columns (cell b s.pen) = (columns_bounds (cell b s.pen)).0 in
        let stays : wraps s ≡ false = ne_eqb s.x s.width (omega (arith, run.more_taken b bs s.pen)) in
        let placed : print_one f s (piece b) ≡ put_at_cursor s (printed_cell f s.pen (piece b)) = rw (first.is_text, stays) refl in
        let one : print_one f s (piece b) ≡ put_at_cursor s (cell b s.pen) = placed ∙ ap (put_at_cursor s) first.cell_is in
        let none : left_one f s k (piece b) ≡ [] = left_one-stays s k (piece b) (printed_cell f s.pen (piece b)) first.is_text stays in
        let m : Kept = one_kept f s (piece b) k in
        ap₂ (λ (u v : List ShownRow). u ++ v) none
        (ap (λ (z : Screen). left_by f z m (map piece bs)) one
        ∙ run-stays bs (put_at_cursor s (cell b s.pen)) m (omega (arith, run.more_taken b bs s.pen)) (λ j d l. prints (suc j) d (omega arith)))

    -- nor do those after the first one that is put here
    put-stays : (b : ℕ) (bs : List ℕ) (s : Screen) (k : Kept) → s.x + taken (b ∷ bs) ≤ s.width → All (λ b. PrintsCell f s.pen (piece b) (cell b s.pen)) (b ∷ bs) → left_by f (put_at_cursor s (cell b s.pen)) k (map piece bs) ≡ []
    put-stays b bs s k fits prints = run-stays bs (put_at_cursor s (cell b s.pen)) k (omega (arith, run.more_taken b bs s.pen)) (λ j d l. prints (suc j) d (omega arith))

    -- nor those after one that may wrap first
    rest-stays : (b : ℕ) (bs : List ℕ) (s : Screen) (k : Kept) → taken (b ∷ bs) ≤ columns_left s → All (λ b. PrintsCell f s.pen (piece b) (cell b s.pen)) (b ∷ bs) → left_by f (print_one f s (piece b)) k (map piece bs) ≡ []
    rest-stays b bs s k fits prints =
        let first : PrintsCell f s.pen (piece b) (cell b s.pen) = prints 0 0 (omega arith) in
        let some : 0 < columns (cell b s.pen) = (columns_bounds (cell b s.pen)).0 in
        elim (cases_Bool (wraps s)) [
          | inl w ↦
              let room : taken (b ∷ bs) ≤ s.width = rw w at fits in
              let placed : print_one f s (piece b) ≡ put_at_cursor (returned (down s)) (printed_cell f s.pen (piece b)) = rw (first.is_text, w) refl in
              ap (λ (z : Screen). left_by f z k (map piece bs)) (placed ∙ ap (put_at_cursor (returned (down s))) first.cell_is)
              ∙ put-stays b bs (returned (down s)) k (omega arith) prints
          | inr n ↦
              let room : taken (b ∷ bs) ≤ s.width - s.x = rw n at fits in
              let placed : print_one f s (piece b) ≡ put_at_cursor s (printed_cell f s.pen (piece b)) = rw (first.is_text, n) refl in
              ap (λ (z : Screen). left_by f z k (map piece bs)) (placed ∙ ap (put_at_cursor s) first.cell_is)
              ∙ put-stays b bs s k (omega (arith, run.more_taken b bs s.pen)) prints
        ]

    -- a run of them, and what follows it
    pub behind-run : (bs : List ℕ) (s t : Screen) (k m : Kept) (gs hs : List (List ℕ)) → 0 < length bs → taken bs ≤ columns_left s → All (λ b. PrintsCell f s.pen (piece b) (cell b s.pen)) bs → gs ≡ map piece bs ++ hs → t ≡ fold (print_one f) s (map piece bs) → m ≡ kept_after f s k (map piece bs) → left_behind_first f s k gs ≡ left_by f t m hs
    behind-run [] s t k m gs hs some fits prints e is kept = absurd (omega arith)
    behind-run (b ∷ bs) s t k m gs hs some fits prints e is kept =
        let n : Kept = one_kept f s (piece b) k in
        ap (left_behind_first f s k) e
        ∙ left_by-append (print_one f s (piece b)) n (map piece bs) hs
        ∙ ap (λ (u : List ShownRow). u ++ left_by f (fold (print_one f) (print_one f s (piece b)) (map piece bs)) (kept_after f (print_one f s (piece b)) n (map piece bs)) hs) (rest-stays b bs s n fits prints)
        ∙ ap₂ (λ (z : Screen) (q : Kept). left_by f z q hs) (sym is) (sym kept)

-- a grapheme that begins with no control character is a cell
cell-first : (f : List ℕ → ℕ) (pen : Attributes) (text g : List ℕ) (hs : List (List ℕ)) → 32 ≤ get_or text 0 0 → concat (g ∷ hs) ≡ text → piece_of f pen g ≡ Cell (printed_cell f pen g)
cell-first f pen text [] hs high e = refl
cell-first f pen text (b ∷ g) hs high e =
    let same : b ≡ get_or text 0 0 = ap (λ (t : List ℕ). get_or t 0 0) e in
    rw (ne_eqb b 13 (omega arith), ne_eqb b 10 (omega arith)) refl

module _ (f : List ℕ → ℕ) (s : Screen) where
  pub none-leaves : (gs : List (List ℕ)) → has_below s ≡ true → first_leaves f s gs ≡ false
  none-leaves [] below = refl
  none-leaves (g ∷ gs) below = rw below refl

  pub cell-leaves : (text : List ℕ) (gs : List (List ℕ)) → 0 < length text → 32 ≤ get_or text 0 0 → concat gs ≡ text → has_below s ≡ false → first_leaves f s gs ≡ wraps s
  cell-leaves text [] some high e last = absurd (omega (arith, ap length e))
  cell-leaves text (g ∷ gs) some high e last = rw (last, cell-first f s.pen text g gs high e) refl

  pub one-leaves : (g : List ℕ) (gs hs : List (List ℕ)) → gs ≡ g ∷ hs → has_below s ≡ false → first_leaves f s gs ≡ moves_down s (piece_of f s.pen g)
  one-leaves g gs hs e last = ap (first_leaves f s) e ∙ rw last refl

-- ---- row 0 may be any other where it scrolls off

abbrev pub blanked : Screen → Screen
blanked s = record s { rows = set s.rows 0 (replicate s.width blank) }

abbrev pub blanked_kept : Screen → Kept → Kept
blanked_kept s k = record k { lengths = set k.lengths 0 s.width; flags = set k.flags 0 no_flags }

module _ (s : Screen) where
  last_row : (p : Piece) → top_leaves s p ≡ true → has_below s ≡ false
  last_row p h = elim (cases_Bool (has_below s)) [
    | inl below ↦ absurd (true≢false (sym (rw below at h)))
    | inr last ↦ last
  ]

  wrap_is : (c : CellValue) → top_leaves s (Cell c) ≡ true → wraps s ≡ true
  wrap_is c h = let last : has_below s ≡ false = last_row (Cell c) h in rw last at h

  no_return : top_leaves s CarriageReturn ≡ true → ⊥
  no_return h = let last : has_below s ≡ false = last_row CarriageReturn h in true≢false (sym (rw last at h))

  down-blanked : has_below s ≡ false → down (blanked s) ≡ down s
  down-blanked last =
      let rows : scrolled s.width (set s.rows 0 (replicate s.width blank)) ≡ scrolled s.width s.rows = ap (λ (t : List (List CellValue)). t ++ replicate s.width blank ∷ []) (drop-set-lt 1 s.rows 0 (replicate s.width blank) (omega arith)) in
      rw last (λ i. record s { rows = rows i })

  wrapped-blanked : (c : CellValue) → top_leaves s (Cell c) ≡ true → wrapped (blanked s) ≡ wrapped s
  wrapped-blanked c h = rw (wrap_is c h) (ap returned (down-blanked (last_row (Cell c) h)))

  piece-blanked : (p : Piece) → top_leaves s p ≡ true → print_piece (blanked s) p ≡ print_piece s p
  piece-blanked CarriageReturn h = absurd (no_return h)
  piece-blanked LineFeed h = down-blanked (last_row LineFeed h)
  piece-blanked CarriageReturnLineFeed h = ap returned (down-blanked (last_row CarriageReturnLineFeed h))
  piece-blanked (Cell c) h = ap (λ (z : Screen). put_at_cursor z c) (wrapped-blanked c h)

  -- what scrolls touches every row
  top-touches : (p : Piece) (j : ℕ) → top_leaves s p ≡ true → piece_touches s p j ≡ true
  top-touches CarriageReturn j h = absurd (no_return h)
  top-touches LineFeed j h = rw (last_row LineFeed h) refl
  top-touches CarriageReturnLineFeed j h = rw (last_row CarriageReturnLineFeed h) refl
  top-touches (Cell c) j h = rw (wrap_is c h, last_row (Cell c) h) refl

  module _ (k : Kept) where
    kept-blanked : has_below s ≡ false → down_kept (blanked s) (blanked_kept s k) ≡ down_kept s k
    kept-blanked last =
        let lengths : drop 1 (set k.lengths 0 s.width) ++ s.width ∷ [] ≡ drop 1 k.lengths ++ s.width ∷ [] = ap (λ (t : List ℕ). t ++ s.width ∷ []) (drop-set-lt 1 k.lengths 0 s.width (omega arith)) in
        let flags : drop 1 (set k.flags 0 no_flags) ++ no_flags ∷ [] ≡ drop 1 k.flags ++ no_flags ∷ [] = ap (λ (t : List LineFlags). t ++ no_flags ∷ []) (drop-set-lt 1 k.flags 0 no_flags (omega arith)) in
        rw last (λ i. record k { lengths = lengths i; flags = flags i })

    wrapped_kept-blanked : (c : CellValue) → top_leaves s (Cell c) ≡ true → wrapped_kept (blanked s) (blanked_kept s k) ≡ wrapped_kept s k
    wrapped_kept-blanked c h = rw (wrap_is c h) (kept-blanked (last_row (Cell c) h))

    piece_kept-blanked : (p : Piece) → top_leaves s p ≡ true → piece_kept (blanked s) p (blanked_kept s k) ≡ piece_kept s p k
    piece_kept-blanked CarriageReturn h = absurd (no_return h)
    piece_kept-blanked LineFeed h = kept-blanked (last_row LineFeed h)
    piece_kept-blanked CarriageReturnLineFeed h = kept-blanked (last_row CarriageReturnLineFeed h)
    piece_kept-blanked (Cell c) h = ap₂ (λ (z : Screen) (m : Kept). put_kept z c m) (wrapped-blanked c h) (wrapped_kept-blanked c h)

-- nor does it matter whether row 0 was touched before
touched-blanked : (f : List ℕ → ℕ) (s : Screen) (g : List ℕ) (gs : List (List ℕ)) (j : ℕ) → top_leaves s (piece_of f s.pen g) ≡ true → touched_by f s (g ∷ gs) j ≡ (j == 0 || touched_by f (blanked s) (g ∷ gs) j)
touched-blanked f s g gs j h =
    or_left (one_touches f s g j) (touched_by f (print_one f s g) gs j) (top-touches s (piece_of f s.pen g) j h)
    ∙ sym (or_right (j == 0) (touched_by f (blanked s) (g ∷ gs) j)
    (or_left (one_touches f (blanked s) g j) (touched_by f (print_one f (blanked s) g) gs j) (top-touches (blanked s) (piece_of f s.pen g) j h)))

module _ (f : List ℕ → ℕ) (s : Screen) (k : Kept) where
  left-top : (gs : List (List ℕ)) → first_leaves f s gs ≡ true → left_by f s k gs ≡ first_rows s k 1 ++ left_behind_first f (blanked s) (blanked_kept s k) gs
  left-top [] h = absurd (true≢false (sym h))
  left-top (g ∷ gs) h =
      let one : left_one f s k g ≡ first_rows s k 1 = rw h refl in
      let p : Piece = piece_of f s.pen g in
      ap₂ (λ (u v : List ShownRow). u ++ v) one (ap₂ (λ (z : Screen) (m : Kept). left_by f z m gs) (sym (piece-blanked s p h)) (sym (piece_kept-blanked s k p h)))

  left-stays : (gs : List (List ℕ)) → first_leaves f s gs ≡ false → left_by f s k gs ≡ left_behind_first f s k gs
  left-stays [] h = refl
  left-stays (g ∷ gs) h = let one : left_one f s k g ≡ [] = rw h refl in ap (λ (u : List ShownRow). u ++ left_by f (print_one f s g) (one_kept f s g k) gs) one

  -- the top row was taken before the first grapheme
  pub leaves-top : (t : Screen) (m : Kept) (gs hs : List (List ℕ)) (u v : List LineValue) → first_leaves f s gs ≡ true → left_behind_first f (blanked s) (blanked_kept s k) gs ≡ left_by f t m hs → ScrollsOff s.width (first_rows s k 1) u v → LeavesRows s.width (left_by f s k gs) (left_by f t m hs) u v
  leaves-top t m gs hs u v h e off = leaves-off s.width (first_rows s k 1) (left_by f t m hs) (left_by f s k gs) u v (left-top gs h ∙ ap (λ (r : List ShownRow). first_rows s k 1 ++ r) e) off

  -- and then memory was refused
  pub begins-top : (gs : List (List ℕ)) (u v : List LineValue) → first_leaves f s gs ≡ true → BeginsRows s.width (first_rows s k 1) u v → BeginsRows s.width (left_by f s k gs) u v
  begins-top gs u v h begins = begins-before s.width (first_rows s k 1) (left_behind_first f (blanked s) (blanked_kept s k) gs) (left_by f s k gs) u v (left-top gs h) begins

  -- it stays
  pub leaves-none : (t : Screen) (m : Kept) (gs hs : List (List ℕ)) (v : List LineValue) → first_leaves f s gs ≡ false → left_behind_first f s k gs ≡ left_by f t m hs → LeavesRows s.width (left_by f s k gs) (left_by f t m hs) v v
  leaves-none t m gs hs v h e = leaves-off s.width [] (left_by f t m hs) (left_by f s k gs) v v (left-stays gs h ∙ e) (off-none s.width v)

-- what is printed over a blank row 0 is printed over the old one
module _ {W : Type 0} (f : List ℕ → ℕ) (old mid new : SurfaceValue W) (text rest : List ℕ) (is_text : IsUtf8 text)
    (d : Becomes old (blanked (screen_of old)) (blanked_kept (screen_of old) (kept_of old)) (λ j. j == 0) mid) (h : first_leaves f (screen_of old) (graphemes true text) ≡ true) (p : PrintsFirst f mid text rest new) where
  prints-over : (gs : List (List ℕ)) → p.printed ≡ gs → PrintsFirst f old text rest new
  prints-over [] e =
      let same : graphemes true text ≡ graphemes true rest = p.graphemes_are ∙ ap (λ (t : List (List ℕ)). t ++ graphemes true rest) e in
      let whole : text ≡ rest = sym (concat-segments _ text is_text) ∙ ap concat same ∙ concat-segments _ rest p.is_text in
      absurd (omega (arith, ap length whole, p.shrinks))
  prints-over (g ∷ gs) e =
      let begins : graphemes true text ≡ g ∷ (gs ++ graphemes true rest) = p.graphemes_are ∙ ap (λ (t : List (List ℕ)). t ++ graphemes true rest) e in
      let s : Screen = screen_of old in
      let k : Kept = kept_of old in
      let leaves : top_leaves s (piece_of f s.pen g) ≡ true = sym (ap (first_leaves f s) begins) ∙ h in
      record {
        printed = g ∷ gs;
        graphemes_are = begins;
        prints = record {
          widths = p.prints.widths ∙ d.widths;
          width = p.prints.width ∙ d.width;
          height = p.prints.height ∙ d.height;
          full = p.prints.full ∙ d.full;
          log = p.prints.log ∙ d.log;
          mark = p.prints.mark ∙ d.mark;
          rows = marks-alike _ (touched_by f s (g ∷ gs)) old new
              (λ j. touched-blanked f s g gs j leaves ∙ ap₂ (λ (z : Screen) (hs : List (List ℕ)). j == 0 || touched_by f z hs j) (sym d.screen_is) (sym e))
              (marks-then (λ j. j == 0) (touched_by f (screen_of mid) p.printed) old mid new d.height d.mark d.rows p.prints.rows);
          screen_is = p.prints.screen_is
              ∙ ap₂ (λ (z : Screen) (hs : List (List ℕ)). fold (print_one f) z hs) d.screen_is e
              ∙ ap (λ (z : Screen). fold (print_one f) z gs) (piece-blanked s (piece_of f s.pen g) leaves);
          kept_is = p.prints.kept_is
              ∙ ap (λ (hs : List (List ℕ)). kept_after f (screen_of mid) (kept_of mid) hs) e
              ∙ ap₂ (λ (z : Screen) (m : Kept). kept_after f z m (g ∷ gs)) d.screen_is d.kept_is
              ∙ ap₂ (λ (z : Screen) (m : Kept). kept_after f z m gs) (piece-blanked s (piece_of f s.pen g) leaves) (piece_kept-blanked s k (piece_of f s.pen g) leaves);
        };
        shrinks = p.shrinks;
        is_text = p.is_text;
      }

  prints-first_over : PrintsFirst f old text rest new
  prints-first_over = prints-over p.printed refl

-- row 0 was kept, if it had to be, before graphemes are printed
module _ {W : Type 0} (f : List ℕ → ℕ) (keeps : Bool) (old mid : SurfaceValue W) (text : List ℕ) (u v : List LineValue) (top : KeepsTop f keeps (graphemes true text) old u mid v) where
  pub top-widths : mid.widths ≡ old.widths
  top-widths = elim top [ inl stays ↦ ap (λ (s : SurfaceValue W). s.widths) stays.0 | inr leaves ↦ leaves.1.widths ]

  pub top-frame : (new : SurfaceValue W) → SameFrame mid new → SameFrame old new
  top-frame new frame = elim top [
    | inl stays ↦ subst (λ (s : SurfaceValue W). SameFrame s new) stays.0 frame
    | inr leaves ↦ let b = leaves.1 in
        record { widths = frame.widths ∙ b.widths; width = frame.width ∙ b.width; height = frame.height ∙ b.height; full = frame.full ∙ b.full; log = frame.log ∙ b.log }
  ]

  pub top-prints : (new : SurfaceValue W) (rest : List ℕ) → IsUtf8 text → PrintsFirst f mid text rest new → PrintsFirst f old text rest new
  top-prints new rest is_text p = elim top [
    | inl stays ↦ subst (λ (s : SurfaceValue W). PrintsFirst f s text rest new) stays.0 p
    | inr leaves ↦ prints-first_over f old mid new text rest is_text leaves.1 leaves.0 p
  ]

  pub top-leaves : (t : Screen) (m : Kept) (hs : List (List ℕ)) → left_behind_first f (screen_of mid) (kept_of mid) (graphemes true text) ≡ left_by f t m hs → IsTrue keeps → LeavesRows old.width (left_by f (screen_of old) (kept_of old) (graphemes true text)) (left_by f t m hs) u v
  top-leaves t m hs e on =
      let gs : List (List ℕ) = graphemes true text in
      let s : Screen = screen_of old in
      let k : Kept = kept_of old in
      elim top [
        | inl stays ↦
            let here : left_behind_first f s k gs ≡ left_by f t m hs = subst (λ (r : SurfaceValue W). left_behind_first f (screen_of r) (kept_of r) gs ≡ left_by f t m hs) stays.0 e in
            subst (λ (x : List LineValue). LeavesRows old.width (left_by f s k gs) (left_by f t m hs) u x) (sym (stays.1 on).1) (leaves-none f s k t m gs hs u (stays.1 on).0 here)
        | inr leaves ↦
            let over : left_behind_first f (blanked s) (blanked_kept s k) gs ≡ left_by f t m hs = sym (ap₂ (λ (z : Screen) (q : Kept). left_behind_first f z q gs) leaves.1.screen_is leaves.1.kept_is) ∙ e in
            leaves-top f s k t m gs hs u v leaves.0 over leaves.2
      ]

  pub top-begins : IsTrue keeps → BeginsRows old.width (left_by f (screen_of old) (kept_of old) (graphemes true text)) u v
  top-begins on = elim top [
    | inl stays ↦ begins-eq old.width (left_by f (screen_of old) (kept_of old) (graphemes true text)) u v (stays.1 on).1
    | inr leaves ↦ begins-top f (screen_of old) (kept_of old) (graphemes true text) u v leaves.0 (begins-leaves old.width (first_rows (screen_of old) (kept_of old) 1) [] u v leaves.2)
  ]

-- ---- a row is taken

-- one element is another
pub reset-one : {X : Type 0} (d : X) (xs : List X) (i : ℕ) → i < length xs → ArePartlyReset d xs (set xs i d)
reset-one d xs i inside = record {
  same_count = length-set xs i d;
  each = λ j z l. elim (cases_eq j i) [
    | inl e ↦ inr (ap (λ k. get_or (set xs i d) k z) e ∙ get_or-set_same xs i d z inside)
    | inr other ↦ inl (get_or-set_other xs i j d z other)
  ];
}

pub rows-set : (w : ℕ) (lines : List (List CellValue)) (i : ℕ) → map (row_of w) (set lines i (replicate w blank)) ≡ set (map (row_of w) lines) i (replicate w blank)
rows-set w lines i = map-set (row_of w) lines i (replicate w blank) ∙ ap (set (map (row_of w) lines) i) (row_blank w)

pub lengths-set : (w : ℕ) (lines : List (List CellValue)) (i : ℕ) → map length (set lines i (replicate w blank)) ≡ set (map length lines) i w
lengths-set w lines i = map-set length lines i (replicate w blank) ∙ ap (set (map length lines) i) (length-replicate w blank)

pub IsSound-taken : {W : Type 0} (f : List ℕ → ℕ) (s : SurfaceValue W) → IsLawful f → IsSound f s → (i : ℕ) → i < s.height → (numbers : List ℕ) → IsSound f (record s { lines = set s.lines i (replicate s.width blank); flags = set s.flags i no_flags; numbers = numbers })
IsSound-taken f s lawful sound i inside numbers =
    let lines : List (List CellValue) = set s.lines i (replicate s.width blank) in
    let blank_there : IsSound f (record s { lines = lines }) = IsSound-partly_reset f s lawful sound lines (reset-one (replicate s.width blank) s.lines i (omega (arith, sound.full))) in
    let sides : length (set s.flags i no_flags) ≡ length lines = length-set s.flags i no_flags ∙ sound.sides ∙ sym (length-set s.lines i (replicate s.width blank) ∙ sound.full) in
    any_numbers f (record s { lines = lines; flags = set s.flags i no_flags }) numbers s.mark (any_flags f (record s { lines = lines }) (set s.flags i no_flags) sides blank_there)

-- ---- rows are taken in turn

below-topped : {X : Type 0} (d : X) (xs : List X) (n : ℕ) → n < length (topped d n xs) → n < length xs
below-topped d xs n inside = omega (arith, inside, length-append (replicate n d) (drop n xs), length-replicate n d, length-drop n xs)

-- one more of the first elements is another
topped-more : {X : Type 0} (d : X) (xs : List X) (n : ℕ) → n < length (topped d n xs) → set (topped d n xs) n d ≡ topped d (n + 1) xs
topped-more d xs n inside = blank_step d xs (topped d n xs) 0 n n (n + 1) (omega arith) refl (below-topped d xs n inside) refl

topped-at : {X : Type 0} (d e : X) (xs : List X) (n : ℕ) → get_or (topped d n xs) n e ≡ get_or xs n e
topped-at d e xs n =
    get_or-append_right (replicate n d) (drop n xs) n n e (length-replicate n d) (omega arith)
    ∙ get_or-drop n xs (n - n) e
    ∙ ap (λ k. get_or xs k e) (omega arith)

-- a scroll of a region from row 0 on drops the first ones
pub region-topped : {X : Type 0} (d : X) (xs : List X) (n k : ℕ) → region_up d (topped d (min k n) xs) 0 n k ≡ region_up d xs 0 n k
region-topped {X = X} d xs n k =
    let m : ℕ = min k n in
    let gone : drop m (topped d m xs) ≡ drop m xs = drop_at (replicate m d) (drop m xs) m (length-replicate m d) in
    let front : n ≡ m + (n - m) = omega arith in
    let inner : (ys : List X) → drop m (take n ys) ≡ take (n - m) (drop m ys) = λ (ys : List X). ap (λ j. drop m (take j ys)) front ∙ drop-take m (n - m) ys in
    let back : 0 + n ≡ m + (n - m) = omega arith in
    let outer : (ys : List X) → drop (0 + n) ys ≡ drop (n - m) (drop m ys) = λ (ys : List X). ap (λ j. drop j ys) back ∙ sym (drop-drop (n - m) m ys) in
    ap₂ (λ u v. (u ++ replicate m d) ++ v)
    (inner (topped d m xs) ∙ ap (take (n - m)) gone ∙ sym (inner xs))
    (outer (topped d m xs) ∙ ap (drop (n - m)) gone ∙ sym (outer xs))

region-topped_at : {X : Type 0} (d : X) (xs : List X) (n k m : ℕ) → m ≡ min k n → region_up d (topped d m xs) 0 n k ≡ region_up d xs 0 n k
region-topped_at d xs n k m e = ap (λ j. region_up d (topped d j xs) 0 n k) e ∙ region-topped d xs n k

module _ {W : Type 0} (f : List ℕ → ℕ) (r s t : SurfaceValue W) (n : ℕ) (sound : IsSound f s) (inside : n < s.height)
    (a : Becomes r (record (screen_of r) { rows = topped (replicate r.width blank) n (screen_of r).rows }) (record (kept_of r) { lengths = topped r.width n (lengths_of r); flags = topped no_flags n r.flags }) (λ j. nat_lt j n) s) where
  rows_s : (screen_of s).rows ≡ topped (replicate r.width blank) n (screen_of r).rows
  rows_s = ap (λ (z : Screen). z.rows) a.screen_is

  within : n < length (topped (replicate r.width blank) n (screen_of r).rows)
  within = omega (arith, ap length rows_s, length-map s.lines (row_of s.width), sound.full, inside)

  -- one more row is taken
  pub taken-more : Becomes s (record (screen_of s) { rows = set (screen_of s).rows n (replicate s.width blank) }) (record (kept_of s) { lengths = set (lengths_of s) n s.width; flags = set s.flags n no_flags }) (λ j. j == n) t
      → Becomes r (record (screen_of r) { rows = topped (replicate r.width blank) (n + 1) (screen_of r).rows }) (record (kept_of r) { lengths = topped r.width (n + 1) (lengths_of r); flags = topped no_flags (n + 1) r.flags }) (λ j. nat_lt j (n + 1)) t
  taken-more b =
      let lengths_s : lengths_of s ≡ topped r.width n (lengths_of r) = ap (λ (k : Kept). k.lengths) a.kept_is in
      let flags_s : s.flags ≡ topped no_flags n r.flags = ap (λ (k : Kept). k.flags) a.kept_is in
      let rows = topped-more (replicate r.width blank) (screen_of r).rows n within in
      let lengths = topped-more r.width (lengths_of r) n (omega (arith, ap length lengths_s, length-map s.lines length, sound.full, inside)) in
      let flags = topped-more no_flags r.flags n (omega (arith, ap length flags_s, sound.sides, inside)) in
      record {
        widths = b.widths ∙ a.widths;
        width = b.width ∙ a.width;
        height = b.height ∙ a.height;
        full = b.full ∙ a.full;
        log = b.log ∙ a.log;
        mark = b.mark ∙ a.mark;
        rows = marks-alike _ (λ j. nat_lt j (n + 1)) r t (below-more n) (marks-then (λ j. nat_lt j n) (λ j. j == n) r s t a.height a.mark a.rows b.rows);
        screen_is = b.screen_is
            ∙ ap (λ (z : Screen). record z { rows = set z.rows n (replicate z.width blank) }) a.screen_is
            ∙ (λ i. record (screen_of r) { rows = rows i });
        kept_is = b.kept_is
            ∙ ap₂ (λ (w : ℕ) (k : Kept). record k { lengths = set k.lengths n w; flags = set k.flags n no_flags }) a.width a.kept_is
            ∙ (λ i. record (kept_of r) { lengths = lengths i; flags = flags i });
      }

  pub taken-lines : (u v x : List LineValue) → ScrollsOff r.width (first_rows (screen_of r) (kept_of r) n) u v → ScrollsOff s.width (row_shown (screen_of s) (kept_of s) n ∷ []) v x → ScrollsOff r.width (first_rows (screen_of r) (kept_of r) (n + 1)) u x
  taken-lines u v x first second =
      let cells : row_at (screen_of s).rows n ≡ row_at (screen_of r).rows n = ap (λ (ls : List (List CellValue)). row_at ls n) rows_s ∙ topped-at (replicate r.width blank) [] (screen_of r).rows n in
      let flags : get_or s.flags n no_flags ≡ get_or r.flags n no_flags = ap (λ (k : Kept). get_or k.flags n no_flags) a.kept_is ∙ topped-at no_flags no_flags r.flags n in
      let same : row_shown (screen_of s) (kept_of s) n ≡ row_shown (screen_of r) (kept_of r) n = λ i. record { cells = cells i; flags = flags i } in
      let row : ScrollsOff r.width (row_shown (screen_of r) (kept_of r) n ∷ []) v x =
      subst (λ (w : ℕ). ScrollsOff w (row_shown (screen_of r) (kept_of r) n ∷ []) v x) a.width (subst (λ (q : ShownRow). ScrollsOff s.width (q ∷ []) v x) same second) in
      let more : n + 1 ≡ suc n = omega arith in
      subst (λ (m : ℕ). ScrollsOff r.width (first_rows (screen_of r) (kept_of r) m) u x) (sym more)
      (off-then r.width (first_rows (screen_of r) (kept_of r) n) (row_shown (screen_of r) (kept_of r) n ∷ []) u v x first row)

-- the first rows begin with fewer of them
first_rows-parts : (s : Screen) (k : Kept) (n d : ℕ) → (rest : List ShownRow) × (first_rows s k (n + d) ≡ first_rows s k n ++ rest)
first_rows-parts s k n zero = ([], ap (first_rows s k) (let e : n + 0 ≡ n = omega arith in e) ∙ sym (append-nil (first_rows s k n)))
first_rows-parts s k n (suc d) =
    let before = first_rows-parts s k n d in
    let more : n + suc d ≡ suc (n + d) = omega arith in (
      before.0 ++ row_shown s k (n + d) ∷ [],
      ap (first_rows s k) more ∙ ap (λ (t : List ShownRow). t ++ row_shown s k (n + d) ∷ []) before.1 ∙ append_assoc (first_rows s k n) before.0 (row_shown s k (n + d) ∷ []),
    )

-- the row that a line shows
pub shown-read : (w : ℕ) (ls : List LineValue) (i : ℕ) (l : LineValue) → i < length ls → l ≡ get_or ls i l → record { cells = row_at (map (row_of w) (cells_of ls)) i; flags = get_or (row_flags ls) i no_flags } ≡ line_shown w l
shown-read w ls i l inside e =
    let cells = row-read w ls i l inside e in
    let flags : get_or (row_flags ls) i no_flags ≡ l.flags = get_or-map (λ (v : LineValue). v.flags) ls i l no_flags inside ∙ ap (λ (v : LineValue). v.flags) (sym e) in
    λ i. record { cells = cells i; flags = flags i }

-- some of the first rows were taken
pub begins-first : (w : ℕ) (s : Screen) (k : Kept) (n m : ℕ) (u v : List LineValue) → n ≤ m → ScrollsOff w (first_rows s k n) u v → BeginsRows w (first_rows s k m) u v
begins-first w s k n m u v l off =
    let parts = first_rows-parts s k n (m - n) in
    let all : n + (m - n) ≡ m = omega arith in
    begins-leaves w (first_rows s k m) parts.0 u v (leaves-off w (first_rows s k n) parts.0 (first_rows s k m) u v (sym (ap (first_rows s k) all) ∙ parts.1) off)

-- the rows that a scroll of a region from row 0 on drops may be taken before
module _ {W : Type 0} (r s t : SurfaceValue W) (n k m : ℕ) (e : m ≡ min k n) where
  pub up-over : Becomes r (record (screen_of r) { rows = topped (replicate r.width blank) m (screen_of r).rows }) (record (kept_of r) { lengths = topped r.width m (lengths_of r); flags = topped no_flags m r.flags }) (λ j. nat_lt j m) s
      → Becomes s (record (screen_of s) { rows = region_up (replicate s.width blank) (screen_of s).rows 0 n k }) (record (kept_of s) { lengths = region_up s.width (lengths_of s) 0 n k; flags = region_up no_flags s.flags 0 n k }) (scroll_touches 0 n k) t
      → Becomes r (record (screen_of r) { rows = region_up (replicate r.width blank) (screen_of r).rows 0 n k }) (record (kept_of r) { lengths = region_up r.width (lengths_of r) 0 n k; flags = region_up no_flags r.flags 0 n k }) (scroll_touches 0 n k) t
  up-over a b =
      let rows = region-topped_at (replicate r.width blank) (screen_of r).rows n k m e in
      let lengths = region-topped_at r.width (lengths_of r) n k m e in
      let flags = region-topped_at no_flags r.flags n k m e in
      record {
        widths = b.widths ∙ a.widths;
        width = b.width ∙ a.width;
        height = b.height ∙ a.height;
        full = b.full ∙ a.full;
        log = b.log ∙ a.log;
        mark = b.mark ∙ a.mark;
        rows = marks-alike _ (scroll_touches 0 n k) r t (λ j. scroll-over n k m j e) (marks-then (λ j. nat_lt j m) (scroll_touches 0 n k) r s t a.height a.mark a.rows b.rows);
        screen_is = b.screen_is
            ∙ ap (λ (z : Screen). record z { rows = region_up (replicate z.width blank) z.rows 0 n k }) a.screen_is
            ∙ (λ i. record (screen_of r) { rows = rows i });
        kept_is = b.kept_is
            ∙ ap₂ (λ (w : ℕ) (q : Kept). record q { lengths = region_up w q.lengths 0 n k; flags = region_up no_flags q.flags 0 n k }) a.width a.kept_is
            ∙ (λ i. record (kept_of r) { lengths = lengths i; flags = flags i });
      }

-- the column is past the last one exactly where a wrap is pending
pub wrap-test : (x w : ℕ) → x ≤ w → nat_le w x ≡ (x == w)
wrap-test x w within = elim (cases_eq x w) [
  | inl e ↦ le-leb w x (omega arith) ∙ sym (eq-eqb x w e)
  | inr other ↦ lt-leb w x (omega arith) ∙ sym (ne_eqb x w other)
]

-- ---- changes are applied in turn

-- some of the changes are applied, and these are left
pub record AppliesPart {W : Type 0} (keeps : Bool) (f : List ℕ → ℕ) (r : SurfaceValue W) (all left : List ChangeValue) (u : List LineValue) (s : SurfaceValue W) (v : List LineValue) : Type 0 where
  pub fit : regions_fit r.height left ≡ true
  pub frame : SameFrame r s
  pub mark : s.mark ≡ r.mark
  pub rows : MarksSome (touched f (screen_of r) all) (touched f (screen_of s) left) r s
  pub screen : replay f (screen_of s) left ≡ replay f (screen_of r) all
  pub kept : replay_kept f (screen_of s) (kept_of s) left ≡ replay_kept f (screen_of r) (kept_of r) all
  pub leaves : IsTrue keeps → LeavesRows r.width (rows_scrolled_off f (screen_of r) (kept_of r) all) (rows_scrolled_off f (screen_of s) (kept_of s) left) u v

module _ {W : Type 0} (keeps : Bool) (f : List ℕ → ℕ) (r : SurfaceValue W) (all : List ChangeValue) (u : List LineValue) where
  pub part-none : regions_fit r.height all ≡ true → AppliesPart keeps f r all all u r u
  part-none fit = record {
    fit = fit;
    frame = record { widths = refl; width = refl; height = refl; full = refl; log = refl };
    mark = refl;
    rows = some-none (touched f (screen_of r) all) r;
    screen = refl;
    kept = refl;
    leaves = λ on. leaves-all r.width (rows_scrolled_off f (screen_of r) (kept_of r) all) u;
  }

  module _ (c : ChangeValue) (left : List ChangeValue) (s : SurfaceValue W) (v : List LineValue) (p : AppliesPart keeps f r all (c ∷ left) u s v) where
    -- what the change scrolls off, and what those after it do
    rows_left : (t : SurfaceValue W) → Becomes s (step f (screen_of s) c) (step_kept f (screen_of s) (kept_of s) c) (touches f (screen_of s) c) t → rows_scrolled_off f (screen_of s) (kept_of s) (c ∷ left) ≡ left_step f (screen_of s) (kept_of s) c ++ rows_scrolled_off f (screen_of t) (kept_of t) left
    rows_left t b = ap₂ (λ (z : Screen) (k : Kept). left_step f (screen_of s) (kept_of s) c ++ rows_scrolled_off f z k left) (sym b.screen_is) (sym b.kept_is)

    pub part-more : (t : SurfaceValue W) (x : List LineValue) → Becomes s (step f (screen_of s) c) (step_kept f (screen_of s) (kept_of s) c) (touches f (screen_of s) c) t → (IsTrue keeps → ScrollsOff s.width (left_step f (screen_of s) (kept_of s) c) v x) → AppliesPart keeps f r all left u t x
    part-more t x b off =
        let more : IsTrue keeps → ScrollsOff r.width (left_step f (screen_of s) (kept_of s) c) v x = λ on. subst (λ (w : ℕ). ScrollsOff w (left_step f (screen_of s) (kept_of s) c) v x) p.frame.width (off on) in
        record {
          fit = (and_parts (region_fits r.height c) (regions_fit r.height left) p.fit).1;
          frame = record {
            widths = b.widths ∙ p.frame.widths;
            width = b.width ∙ p.frame.width;
            height = b.height ∙ p.frame.height;
            full = b.full ∙ p.frame.full;
            log = b.log ∙ p.frame.log;
          };
          mark = b.mark ∙ p.mark;
          rows = some-more (touched f (screen_of r) all) (touched f (screen_of s) (c ∷ left)) (touches f (screen_of s) c) (touched f (screen_of t) left) r s t p.frame.height p.mark
              (λ j. ap (λ (z : Screen). touches f (screen_of s) c j || touched f z left j) (sym b.screen_is)) p.rows b.rows;
          screen = ap (λ (z : Screen). replay f z left) b.screen_is ∙ p.screen;
          kept = ap₂ (λ (z : Screen) (k : Kept). replay_kept f z k left) b.screen_is b.kept_is ∙ p.kept;
          leaves = λ on. leaves-then r.width (rows_scrolled_off f (screen_of r) (kept_of r) all) (rows_scrolled_off f (screen_of s) (kept_of s) (c ∷ left)) (rows_scrolled_off f (screen_of t) (kept_of t) left) u v x (p.leaves on)
              (leaves-off r.width (left_step f (screen_of s) (kept_of s) c) (rows_scrolled_off f (screen_of t) (kept_of t) left) (rows_scrolled_off f (screen_of s) (kept_of s) (c ∷ left)) v x (rows_left t b) (more on));
        }

    -- memory was refused within the change
    pub part-begins : (x : List LineValue) → (IsTrue keeps → BeginsRows s.width (left_step f (screen_of s) (kept_of s) c) v x) → IsTrue keeps → BeginsRows r.width (rows_scrolled_off f (screen_of r) (kept_of r) all) u x
    part-begins x begins on =
        let own : BeginsRows r.width (left_step f (screen_of s) (kept_of s) c) v x = subst (λ (w : ℕ). BeginsRows w (left_step f (screen_of s) (kept_of s) c) v x) p.frame.width (begins on) in
        begins-then r.width (rows_scrolled_off f (screen_of r) (kept_of r) all) (rows_scrolled_off f (screen_of s) (kept_of s) (c ∷ left)) u v x (p.leaves on)
        (begins-before r.width (left_step f (screen_of s) (kept_of s) c) (rows_scrolled_off f (step f (screen_of s) c) (step_kept f (screen_of s) (kept_of s) c) left) (rows_scrolled_off f (screen_of s) (kept_of s) (c ∷ left)) v x refl own)

-- the next one of the changes that are left
pub drop-next : {X : Type 0} (xs : List X) (i : ℕ) (x : X) → i < length xs → x ≡ get_or xs i x → drop i xs ≡ x ∷ drop (i + 1) xs
drop-next {X = X} xs i x inside e = at_drop_more (λ (ys : List X). ys) xs i x inside ∙ ap (λ (y : X). y ∷ drop (i + 1) xs) (sym e)

-- this holds at an error, where lines are kept
pub on-err : {T E : Type 0} (keeps : Bool) (result : Result T E) {P : Type 0} → (IsTrue keeps → P) → OnErr result (IsTrue keeps → P)
on-err keeps (Ok x) kept = tt
on-err keeps (Err e) kept = kept

-- what holds at an error
pub when-err : {E A : Type 0} (result : Result (Unit {0}) E) → is_err result ≡ true → OnErr result A → A
when-err (Ok u) e a = absurd (true≢false (sym e))
when-err (Err x) e a = a
