-- Drawing changes keep a screen's size and visibility and scroll nothing, and after them cursor and pen can be set back.
use Rattle.std.proofs.Common.{◌≡◌, ℕ, ◌-◌, ◌<◌, ◌≤◌, min, Bool, true, false, nat_le, List, [], ◌∷◌, fold, arith, le-leb, refl, ◌∙◌, if◌then◌else◌}
use Rattle.std.proofs.lemmas.List.Sums.{fold-append}
use Rattle.std.proofs.lemmas.Bool.{and_parts}
use Rattle.unicode_segmentation.specs.Grapheme.{graphemes}
use Rattle.termwiz_cell.specs.Attributes.{Attributes}
use Rattle.termwiz_cell.specs.ChangeValue as change
use Rattle.termwiz_cell.specs.ChangeValue.{ChangeValue}
use Rattle.termwiz_screen.specs.Screen.{Screen}
use Rattle.termwiz_screen.specs.Print.{down, returned, wraps, wrapped, piece_of, print_piece, print_one}
use Rattle.termwiz_screen.specs.Step.{step, replay, region_fits, regions_fit}
use Rattle.termwiz_screen.specs.Diff.{is_diff_entry, all_diff_entries, restoring}
use Rattle.termwiz_screen.specs.Place.{cursor_at}
use Rattle.termwiz_screen.specs.DiffLaws.{DrawingRestores}
use Rattle.termwiz_screen.specs.declared.print.Piece.{Piece}
use Rattle.termwiz_screen.specs.declared.print.Piece.TheVariants.{CarriageReturn, LineFeed, CarriageReturnLineFeed, Cell}
use Rattle.termwiz_screen.proofs.LogRegions.{regions-append}

-- the size and the visibility
record SameShape (s t : Screen) : Type 0 where
  pub width : t.width ≡ s.width
  pub height : t.height ≡ s.height
  pub visibility : t.visibility ≡ s.visibility

same_shape : (s : Screen) → SameShape s s
same_shape s = record { width = refl; height = refl; visibility = refl }

then_shape : {s t u : Screen} → SameShape s t → SameShape t u → SameShape s u
then_shape a b = record { width = b.width ∙ a.width; height = b.height ∙ a.height; visibility = b.visibility ∙ a.visibility }

wrapped_shape : (s : Screen) → SameShape s (wrapped s)
wrapped_shape s = go (wraps s)
  where
    go : (b : Bool) → SameShape s (if b then returned (down s) else s)
    go true = record { width = refl; height = refl; visibility = refl }
    go false = same_shape s

piece_shape : (s : Screen) (p : Piece) → SameShape s (print_piece s p)
piece_shape s CarriageReturn = record { width = refl; height = refl; visibility = refl }
piece_shape s LineFeed = record { width = refl; height = refl; visibility = refl }
piece_shape s CarriageReturnLineFeed = record { width = refl; height = refl; visibility = refl }
piece_shape s (Cell c) = let w = wrapped_shape s in record { width = w.width; height = w.height; visibility = w.visibility }

module _ (f : List ℕ → ℕ) where
  text_shape : (s : Screen) (gs : List (List ℕ)) → SameShape s (fold (print_one f) s gs)
  text_shape s [] = same_shape s
  text_shape s (g ∷ gs) = then_shape (piece_shape s (piece_of f s.pen g)) (text_shape (print_one f s g) gs)

  drawing_shape : (s : Screen) (e : ChangeValue) → is_diff_entry e ≡ true → SameShape s (step f s e)
  drawing_shape s (change.CursorPosition x y) h = record { width = refl; height = refl; visibility = refl }
  drawing_shape s (change.AllAttributes a) h = record { width = refl; height = refl; visibility = refl }
  drawing_shape s (change.Text t) h = text_shape s (graphemes true t)
  drawing_shape s _ h = absurd cc

  all_shape : (s : Screen) (es : List ChangeValue) → all_diff_entries es ≡ true → SameShape s (replay f s es)
  all_shape s [] h = same_shape s
  all_shape s (e ∷ es) h = let p = and_parts (is_diff_entry e) (all_diff_entries es) h in then_shape (drawing_shape s e p.0) (all_shape (step f s e) es p.1)

  set_back : (s t : Screen) → SameShape s t → s.x ≤ s.width → s.y < s.height → replay f t (cursor_at s.x s.y ∷ change.AllAttributes s.pen ∷ []) ≡ record s { rows = t.rows }
  set_back s t z lx ly =
      let inside : nat_le s.x t.width ≡ true = le-leb s.x t.width (omega (arith, z.width)) in
      let x : (if nat_le s.x t.width then s.x else t.width - 1) ≡ s.x = rw inside in
      let y : min s.y (t.height - 1) ≡ s.y = omega (arith, z.height) in
      λ i. record { width = z.width i; height = z.height i; visibility = z.visibility i; rows = t.rows; x = x i; y = y i; pen = s.pen }

-- the cursor, pending wrap and all, and the pen are as they were
pub drawing_restores : DrawingRestores
drawing_restores f s [] h lx ly = refl
drawing_restores f s (e ∷ es) h lx ly =
    fold-append (step f) s (e ∷ es) (cursor_at s.x s.y ∷ change.AllAttributes s.pen ∷ []) ∙ set_back f s (replay f s (e ∷ es)) (all_shape f s (e ∷ es) h) lx ly

-- drawing scrolls nothing
drawing_fits : (h : ℕ) (e : ChangeValue) → is_diff_entry e ≡ true → region_fits h e ≡ true
drawing_fits h (change.CursorPosition x y) d = refl
drawing_fits h (change.AllAttributes a) d = refl
drawing_fits h (change.Text t) d = refl
drawing_fits h _ d = absurd cc

pub drawings_fit : (h : ℕ) (es : List ChangeValue) → all_diff_entries es ≡ true → regions_fit h es ≡ true
drawings_fit h [] d = refl
drawings_fit h (e ∷ es) d = let p = and_parts (is_diff_entry e) (all_diff_entries es) d in rw (drawing_fits h e p.0) (drawings_fit h es p.1)

pub restoring_fits : (h x y : ℕ) (pen : Attributes) (es : List ChangeValue) → all_diff_entries es ≡ true → regions_fit h (restoring x y pen es) ≡ true
restoring_fits h x y pen [] d = refl
restoring_fits h x y pen (e ∷ es) d = regions-append h (e ∷ es) (cursor_at x y ∷ change.AllAttributes pen ∷ []) (drawings_fit h (e ∷ es) d) refl
