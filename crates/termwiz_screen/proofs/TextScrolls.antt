-- What a text that scrolls makes of the rows and of their attributes.
use Rattle.std.proofs.Common.{◌≡◌, ℕ, zero, suc, ◌+◌, ◌-◌, ◌<◌, ◌≤◌, min, Bool, true, false, List, [], ◌∷◌, ◌++◌, length, drop, map, replicate, refl, sym, ◌∙◌, ap, ap₂, subst, fold, arith, append_assoc, length-append, length-drop}
use Rattle.std.specs.Prelude.{if◌then◌else◌}
use Rattle.std.proofs.lemmas.List.{drop-drop, length-replicate, length-set, get_or_append_left, get_or-drop, get_or-set_other, replicate-append-replicate, drop-replicate, append-nil, map-append, drop-map}
use Rattle.std.proofs.lemmas.Bool.{ltb-true}
use Rattle.unicode_segmentation.specs.Grapheme.{graphemes}
use Rattle.termwiz_cell.specs.CellValue.{CellValue, blank}
use Rattle.termwiz_cell.specs.declared.change.LineAttribute.TheVariants.{SingleWidthLine}
use Rattle.termwiz_line.specs.LineFlags.{LineFlags, no_flags}
use Rattle.termwiz_line.specs.Row.{paint}
use Rattle.termwiz_screen.specs.FullScreen.{line_attribute}
use Rattle.termwiz_screen.specs.FullLaws.{TextsScrollRows}
use Rattle.termwiz_screen.specs.Kept.{Kept}
use Rattle.termwiz_screen.specs.Print.{scrolled, has_below, down, returned, put_at_cursor, wraps, wrapped, piece_of, print_piece, print_one, down_kept, piece_kept, one_kept, kept_after}
use Rattle.termwiz_screen.specs.Screen.{Screen, row_at}
use Rattle.termwiz_screen.specs.TextScrolls.{down_scrolls, piece_scrolls, graphemes_scroll}
use Rattle.termwiz_screen.specs.declared.print.Piece.{Piece}
use Rattle.termwiz_screen.specs.declared.print.Piece.TheVariants.{CarriageReturn, LineFeed, CarriageReturnLineFeed, Cell}

-- a list without its first n elements, and as many default ones after the others
module _ {X : Type 0} (d : X) where
  abbrev pub up : ℕ → List X → List X
  up n xs = drop n xs ++ replicate (min n (length xs)) d

  length-up : (n : ℕ) (xs : List X) → length (up n xs) ≡ length xs
  length-up n xs = simp (length-append, length-drop, length-replicate) (omega arith)

  up-none : (xs : List X) → up 0 xs ≡ xs
  up-none xs = let none : min 0 (length xs) ≡ 0 = omega arith in ap (λ n. xs ++ replicate n d) none ∙ append-nil xs

  up-one : (xs : List X) → 0 < length xs → drop 1 xs ++ d ∷ [] ≡ up 1 xs
  up-one xs some = let one : 1 ≡ min 1 (length xs) = omega arith in ap (λ n. drop 1 xs ++ replicate n d) one

  drop_both : (n : ℕ) (xs ys : List X) → drop n (xs ++ ys) ≡ drop n xs ++ drop (n - length xs) ys
  drop_both zero xs ys = let none : 0 ≡ 0 - length xs = omega arith in ap (λ k. xs ++ drop k ys) none
  drop_both (suc n) [] ys = let all : suc n ≡ suc n - 0 = omega arith in ap (λ k. drop k ys) all
  drop_both (suc n) (x ∷ xs) ys = let less : n - length xs ≡ suc n - suc (length xs) = omega arith in drop_both n xs ys ∙ ap (λ k. drop n xs ++ drop k ys) less

  -- m rows up, and then n more
  up-up : (n m : ℕ) (xs : List X) → up n (up m xs) ≡ up (m + n) xs
  up-up n m xs =
      let h : ℕ = length xs in
      let left : ℕ = min m h - (n - (h - m)) in
      let together : left + min n h ≡ min (m + n) h = omega arith in
      ap₂ (λ a k. a ++ replicate (min n k) d) (drop_both n (drop m xs) (replicate (min m h) d)) (length-up m xs)
      ∙ ap₂ (λ a b. (a ++ b) ++ replicate (min n h) d) (drop-drop n m xs) (ap (λ k. drop (n - k) (replicate (min m h) d)) (length-drop m xs) ∙ drop-replicate (n - (h - m)) (min m h) d)
      ∙ append_assoc (drop (m + n) xs) (replicate left d) (replicate (min n h) d)
      ∙ ap (λ a. drop (m + n) xs ++ a) (replicate-append-replicate left (min n h) d ∙ ap (λ k. replicate k d) together)

-- what a text leaves of what is kept: n rows' attributes are gone
pub record GoesUp (n : ℕ) (a b : Kept) : Type 0 where
  pub title : b.title ≡ a.title
  pub shape : b.shape ≡ a.shape
  pub color : b.color ≡ a.color
  pub lines : map line_attribute b.flags ≡ up SingleWidthLine n (map line_attribute a.flags)

up-stays : (k : Kept) → GoesUp 0 k k
up-stays k = record { title = refl; shape = refl; color = refl; lines = sym (up-none SingleWidthLine (map line_attribute k.flags)) }

up-more : (m n : ℕ) (a b c : Kept) → GoesUp m a b → GoesUp n b c → GoesUp (m + n) a c
up-more m n a b c h k = record {
  title = k.title ∙ h.title;
  shape = k.shape ∙ h.shape;
  color = k.color ∙ h.color;
  lines = k.lines ∙ ap (up SingleWidthLine n) h.lines ∙ up-up SingleWidthLine n m (map line_attribute a.flags);
}

lines_down : (below : Bool) (xs : List LineFlags) → 0 < length (map line_attribute xs)
    → map line_attribute (if below then xs else drop 1 xs ++ no_flags ∷ []) ≡ up SingleWidthLine (if below then 0 else 1) (map line_attribute xs)
lines_down true xs some = sym (up-none SingleWidthLine (map line_attribute xs))
lines_down false xs some =
    map-append line_attribute (drop 1 xs) (no_flags ∷ []) ∙ ap (λ ls. ls ++ SingleWidthLine ∷ []) (sym (drop-map line_attribute 1 xs)) ∙ up-one SingleWidthLine (map line_attribute xs) some

kept_down : (s : Screen) (k : Kept) → 0 < length (map line_attribute k.flags) → GoesUp (down_scrolls s) k (down_kept s k)
kept_down s k some = record { title = refl; shape = refl; color = refl; lines = lines_down (has_below s) k.flags some }

kept_wrapped : (s : Screen) (k : Kept) (wrap : Bool) → 0 < length (map line_attribute k.flags) → GoesUp (if wrap then down_scrolls s else 0) k (if wrap then down_kept s k else k)
kept_wrapped s k true some = kept_down s k some
kept_wrapped s k false some = up-stays k

piece_up : (s : Screen) (p : Piece) (k : Kept) → 0 < length (map line_attribute k.flags) → GoesUp (piece_scrolls s p) k (piece_kept s p k)
piece_up s CarriageReturn k some = up-stays k
piece_up s LineFeed k some = kept_down s k some
piece_up s CarriageReturnLineFeed k some = kept_down s k some
piece_up s (Cell c) k some = let w = kept_wrapped s k (wraps s) some in record { title = w.title; shape = w.shape; color = w.color; lines = w.lines }

pub text_up : (f : List ℕ → ℕ) (gs : List (List ℕ)) (s : Screen) (k : Kept) → 0 < length (map line_attribute k.flags) → GoesUp (graphemes_scroll f s gs) k (kept_after f s k gs)
text_up f [] s k some = up-stays k
text_up f (g ∷ gs) s k some =
    let p = piece_of f s.pen g in
    let one = piece_up s p k some in
    let some_left : 0 < length (map line_attribute (piece_kept s p k).flags) = subst (λ n. 0 < n) (sym (ap length one.lines ∙ length-up SingleWidthLine (piece_scrolls s p) (map line_attribute k.flags))) some in
    up-more (piece_scrolls s p) (graphemes_scroll f (print_one f s g) gs) k (one_kept f s g k) (kept_after f (print_one f s g) (one_kept f s g k) gs) one (text_up f gs (print_one f s g) (one_kept f s g k) some_left)

-- what it leaves of the screen: the rows above the cursor's are n rows higher
record Raises (n : ℕ) (s t : Screen) : Type 0 where
  below : t.y < t.height
  full : length t.rows ≡ t.height
  lower : s.y ≤ t.y + n
  rows : (i : ℕ) → i + n < s.y → row_at t.rows i ≡ row_at s.rows (i + n)

module _ (s : Screen) (inside : s.y < s.height) (full : length s.rows ≡ s.height) where
  screen_stays : Raises 0 s s
  screen_stays = record { below = inside; full = full; lower = omega arith; rows = λ i l. ap (row_at s.rows) (omega arith) }

  screen_down : (below : Bool) → has_below s ≡ below → Raises (if below then 0 else 1) s (record s { rows = if below then s.rows else scrolled s.width s.rows; y = if below then s.y + 1 else s.y })
  screen_down true is = record { below = ltb-true (s.y + 1) s.height is; full = full; lower = omega arith; rows = λ i l. ap (row_at s.rows) (omega arith) }
  screen_down false is = record {
    below = inside;
    full = length-append (drop 1 s.rows) (replicate s.width blank ∷ []) ∙ omega (arith, length-drop 1 s.rows);
    lower = omega arith;
    rows = λ i l.
        let within : i < length (drop 1 s.rows) = omega (arith, length-drop 1 s.rows) in
        get_or_append_left (drop 1 s.rows) (replicate s.width blank ∷ []) [] i within ∙ get_or-drop 1 s.rows i [] ∙ ap (row_at s.rows) (omega arith);
  }

  screen_wrapped : (wrap : Bool) → Raises (if wrap then down_scrolls s else 0) s (if wrap then returned (down s) else s)
  screen_wrapped true = let d = screen_down (has_below s) refl in record { below = d.below; full = d.full; lower = d.lower; rows = d.rows }
  screen_wrapped false = screen_stays

  screen_put : (c : CellValue) (n : ℕ) (t : Screen) → Raises n s t → Raises n s (put_at_cursor t c)
  screen_put c n t h = record {
    below = h.below;
    full = length-set t.rows t.y (paint (row_at t.rows t.y) t.x c) ∙ h.full;
    lower = h.lower;
    rows = λ i l.
        let low : s.y ≤ t.y + n = h.lower in
        get_or-set_other t.rows t.y i (paint (row_at t.rows t.y) t.x c) [] (λ e. omega (arith, e, low, l)) ∙ h.rows i l;
  }

  screen_piece : (p : Piece) → Raises (piece_scrolls s p) s (print_piece s p)
  screen_piece CarriageReturn = let d = screen_stays in record { below = d.below; full = d.full; lower = d.lower; rows = d.rows }
  screen_piece LineFeed = screen_down (has_below s) refl
  screen_piece CarriageReturnLineFeed = let d = screen_down (has_below s) refl in record { below = d.below; full = d.full; lower = d.lower; rows = d.rows }
  screen_piece (Cell c) = screen_put c (piece_scrolls s (Cell c)) (wrapped s) (screen_wrapped (wraps s))

graphemes_raise : (f : List ℕ → ℕ) (gs : List (List ℕ)) (s : Screen) (j : ℕ) → s.y < s.height → length s.rows ≡ s.height → j + graphemes_scroll f s gs < s.y
    → row_at (fold (print_one f) s gs).rows j ≡ row_at s.rows (j + graphemes_scroll f s gs)
graphemes_raise f [] s j inside full l = ap (row_at s.rows) (omega arith)
graphemes_raise f (g ∷ gs) s j inside full l =
    let p = piece_of f s.pen g in
    let t : Screen = print_one f s g in
    let m : ℕ = piece_scrolls s p in
    let n : ℕ = graphemes_scroll f t gs in
    let one : Raises m s t = screen_piece s inside full p in
    let low : s.y ≤ t.y + m = one.lower in
    let before : j + (m + n) < s.y = l in
    graphemes_raise f gs t j one.below one.full (omega (arith, low, before)) ∙ one.rows (j + n) (omega (arith, before)) ∙ ap (row_at s.rows) (omega arith)

pub texts_scroll : TextsScrollRows
texts_scroll measure s text j = graphemes_raise measure (graphemes true text) s j
