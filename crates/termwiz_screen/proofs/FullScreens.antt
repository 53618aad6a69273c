-- What a change makes of a full screen is what it makes of the screen and of what is kept beside it.
use Rattle.std.proofs.Common.{◌≡◌, ℕ, Bool, true, false, List, [], ◌∷◌, ◌++◌, map, set, get_or, take, drop, replicate, length, ◌-◌, ◌<◌, refl, sym, ap, ap₂, subst, ◌∙◌}
use Rattle.std.specs.Prelude.{if◌then◌else◌}
use Rattle.std.proofs.lemmas.List.{map-append, map-set, drop-map, take-map, length-map}
use Rattle.unicode_segmentation.specs.Grapheme.{graphemes}
use Rattle.termwiz_cell.specs.ChangeValue as change
use Rattle.termwiz_cell.specs.ChangeValue.{ChangeValue}
use Rattle.termwiz_cell.specs.declared.change.LineAttribute.{LineAttribute}
use Rattle.termwiz_cell.specs.declared.change.LineAttribute.TheVariants.{DoubleHeightTopHalfLine, DoubleHeightBottomHalfLine, DoubleWidthLine, SingleWidthLine}
use Rattle.termwiz_line.specs.LineFlags.{LineFlags, no_flags}
use Rattle.termwiz_screen.specs.FullScreen.{FullScreen, line_attribute, shape_of, full_screen, kept_in, full_step, full_replay}
use Rattle.termwiz_screen.specs.Kept.{Kept, with_line_attribute}
use Rattle.termwiz_screen.specs.Print.{has_below, down_kept, wraps, wrapped_kept, piece_of, print_one, piece_kept, one_kept, kept_after}
use Rattle.termwiz_screen.specs.ScrollRegions.{region_up, region_down}
use Rattle.termwiz_screen.specs.FullLaws.{FullStepsAre}
use Rattle.termwiz_screen.specs.Resized.{resized_screen, resized_kept}
use Rattle.termwiz_screen.specs.Screen.{Screen}
use Rattle.termwiz_screen.specs.Step.{step, step_kept, replay, replay_kept}
use Rattle.termwiz_screen.specs.declared.print.Piece.{Piece}
use Rattle.termwiz_screen.specs.declared.print.Piece.TheVariants.{CarriageReturn, LineFeed, CarriageReturnLineFeed, Cell}
use Rattle.termwiz_screen.specs.TextScrolls.{rows_scrolled}
use Rattle.termwiz_screen.proofs.TextScrolls.{up, text_up}
use Rattle.termwiz_screen.proofs.Regions.{map-replicate, map-region_up, map-region_down}

-- the same but for the lengths of the stored rows and what isn't shown of their flags
pub record ShowAlike (a b : Kept) : Type 0 where
  pub title : a.title ≡ b.title
  pub shape : shape_of a.shape ≡ shape_of b.shape
  pub color : a.color ≡ b.color
  pub lines : map line_attribute a.flags ≡ map line_attribute b.flags

pub alike-refl : (k : Kept) → ShowAlike k k
alike-refl k = record { title = refl; shape = refl; color = refl; lines = refl }

pub alike-more : (a b c : Kept) → ShowAlike a b → ShowAlike b c → ShowAlike a c
alike-more a b c h k = record { title = h.title ∙ k.title; shape = h.shape ∙ k.shape; color = h.color ∙ k.color; lines = h.lines ∙ k.lines }

pub full-alike : (s t : Screen) (a b : Kept) → s ≡ t → ShowAlike a b → full_screen s a ≡ full_screen t b
full-alike s t a b e h i = record { screen = e i; title = h.title i; shape = h.shape i; color = h.color i; lines = h.lines i }

-- a row with an attribute is shown so
pub attribute-set : (a : LineAttribute) (f : LineFlags) → line_attribute (with_line_attribute a f) ≡ a
attribute-set DoubleHeightTopHalfLine f = refl
attribute-set DoubleHeightBottomHalfLine f = refl
attribute-set DoubleWidthLine f = refl
attribute-set SingleWidthLine f = refl

attributes-set : (ls : List LineAttribute) → map line_attribute (map (λ a. with_line_attribute a no_flags) ls) ≡ ls
attributes-set [] = refl
attributes-set (a ∷ ls) = ap₂ (λ x xs. x ∷ xs) (attribute-set a no_flags) (attributes-set ls)

pub full-kept_in : (f : FullScreen) → full_screen f.screen (kept_in f) ≡ f
full-kept_in f i = record { screen = f.screen; title = f.title; shape = f.shape; color = f.color; lines = attributes-set f.lines i }

kept_in-full : (s : Screen) (k : Kept) → ShowAlike (kept_in (full_screen s k)) k
kept_in-full s k = record { title = refl; shape = refl; color = refl; lines = attributes-set (map line_attribute k.flags) }

-- a scroll by one row
lines-scrolled : (b : Bool) (xs ys : List LineFlags) → map line_attribute xs ≡ map line_attribute ys
    → map line_attribute (if b then xs else drop 1 xs ++ no_flags ∷ []) ≡ map line_attribute (if b then ys else drop 1 ys ++ no_flags ∷ [])
lines-scrolled true xs ys e = e
lines-scrolled false xs ys e = scrolled xs ∙ ap (λ ls. drop 1 ls ++ SingleWidthLine ∷ []) e ∙ sym (scrolled ys)
  where
    scrolled : (zs : List LineFlags) → map line_attribute (drop 1 zs ++ no_flags ∷ []) ≡ drop 1 (map line_attribute zs) ++ SingleWidthLine ∷ []
    scrolled zs = map-append line_attribute (drop 1 zs) (no_flags ∷ []) ∙ ap (λ ls. ls ++ SingleWidthLine ∷ []) (sym (drop-map line_attribute 1 zs))

down-alike : (s : Screen) (a b : Kept) → ShowAlike a b → ShowAlike (down_kept s a) (down_kept s b)
down-alike s a b h = record { title = h.title; shape = h.shape; color = h.color; lines = lines-scrolled (has_below s) a.flags b.flags h.lines }

wrapped-alike : (s : Screen) (a b : Kept) → ShowAlike a b → ShowAlike (wrapped_kept s a) (wrapped_kept s b)
wrapped-alike s a b h = at (wraps s)
  where
    at : (w : Bool) → ShowAlike (if w then down_kept s a else a) (if w then down_kept s b else b)
    at true = down-alike s a b h
    at false = h

piece-alike : (s : Screen) (p : Piece) (a b : Kept) → ShowAlike a b → ShowAlike (piece_kept s p a) (piece_kept s p b)
piece-alike s CarriageReturn a b h = h
piece-alike s LineFeed a b h = down-alike s a b h
piece-alike s CarriageReturnLineFeed a b h = down-alike s a b h
piece-alike s (Cell c) a b h = let w = wrapped-alike s a b h in record { title = w.title; shape = w.shape; color = w.color; lines = w.lines }

module _ (f : List ℕ → ℕ) where
  graphemes-alike : (gs : List (List ℕ)) (s : Screen) (a b : Kept) → ShowAlike a b → ShowAlike (kept_after f s a gs) (kept_after f s b gs)
  graphemes-alike [] s a b h = h
  graphemes-alike (g ∷ gs) s a b h = graphemes-alike gs (print_one f s g) (one_kept f s g a) (one_kept f s g b) (piece-alike s (piece_of f s.pen g) a b h)

  -- what a change makes of what is shown beside the screen depends on that alone
  pub step-alike : (s : Screen) (a b : Kept) (c : ChangeValue) → ShowAlike a b → ShowAlike (step_kept f s a c) (step_kept f s b c)
  step-alike s a b (change.Text text) h = graphemes-alike (graphemes true text) s a b h
  step-alike s a b (change.ScrollRegionUp first size count) h = record {
    title = h.title;
    shape = h.shape;
    color = h.color;
    lines = map-region_up line_attribute no_flags a.flags first size count ∙ ap (λ ls. region_up SingleWidthLine ls first size count) h.lines ∙ sym (map-region_up line_attribute no_flags b.flags first size count);
  }
  step-alike s a b (change.ScrollRegionDown first size count) h = record {
    title = h.title;
    shape = h.shape;
    color = h.color;
    lines = map-region_down line_attribute no_flags a.flags first size count ∙ ap (λ ls. region_down SingleWidthLine ls first size count) h.lines ∙ sym (map-region_down line_attribute no_flags b.flags first size count);
  }
  step-alike s a b (change.CursorColor color) h = record { title = h.title; shape = h.shape; color = refl; lines = h.lines }
  step-alike s a b (change.CursorShape shape) h = record { title = h.title; shape = refl; color = h.color; lines = h.lines }
  step-alike s a b (change.Title title) h = record { title = refl; shape = h.shape; color = h.color; lines = h.lines }
  step-alike s a b (change.LineAttribute attribute) h = record {
    title = h.title;
    shape = h.shape;
    color = h.color;
    lines = here a ∙ ap (λ ls. set ls s.y attribute) h.lines ∙ sym (here b);
  }
    where
      here : (k : Kept) → map line_attribute (set k.flags s.y (with_line_attribute attribute (get_or k.flags s.y no_flags))) ≡ set (map line_attribute k.flags) s.y attribute
      here k = map-set line_attribute k.flags s.y _ ∙ ap (set (map line_attribute k.flags) s.y) (attribute-set attribute (get_or k.flags s.y no_flags))
  step-alike s a b c h = record { title = h.title; shape = h.shape; color = h.color; lines = h.lines }

  -- the full screen after changes depends on the full screen before them alone
  pub full-replayed : (cs : List ChangeValue) (s : Screen) (k : Kept) → full_screen (replay f s cs) (replay_kept f s k cs) ≡ full_replay f (full_screen s k) cs
  full-replayed [] s k = refl
  full-replayed (c ∷ cs) s k =
      full-replayed cs (step f s c) (step_kept f s k c)
      ∙ ap (λ g. full_replay f g cs) (sym (full-alike (step f s c) (step f s c) (step_kept f s (kept_in (full_screen s k)) c) (step_kept f s k c) refl (step-alike s (kept_in (full_screen s k)) k c (kept_in-full s k))))

  -- and its screen on the screen before them
  pub screen-replayed : (cs : List ChangeValue) (g : FullScreen) → (full_replay f g cs).screen ≡ replay f g.screen cs
  screen-replayed [] g = refl
  screen-replayed (c ∷ cs) g = screen-replayed cs (full_step f g c)

  -- a full screen's changes, with anything kept that shows it
  pub full-split : (cs : List ChangeValue) (g : FullScreen) → full_replay f g cs ≡ full_screen (replay f g.screen cs) (replay_kept f g.screen (kept_in g) cs)
  full-split cs g = ap (λ (h : FullScreen). full_replay f h cs) (sym (full-kept_in g)) ∙ sym (full-replayed cs g.screen (kept_in g))

-- what the steps are
pub full_steps : (f : List ℕ → ℕ) (g : FullScreen) → FullStepsAre f g
full_steps f g =
    let same = attributes-set g.lines in
    let old = (kept_in g).flags in
    record {
      title = λ t i. record g { title = t; lines = same i };
      shape = λ shape i. record g { shape = shape; lines = same i };
      color = λ color i. record g { color = color; lines = same i };
      line = λ a i. record g { lines = (map-set line_attribute old g.screen.y (with_line_attribute a (get_or old g.screen.y no_flags)) ∙ ap₂ (λ ls b. set ls g.screen.y b) same (attribute-set a (get_or old g.screen.y no_flags))) i };
      up = λ first size count i. record g { screen = step f g.screen (change.ScrollRegionUp first size count); lines = (map-region_up line_attribute no_flags old first size count ∙ ap (λ ls. region_up SingleWidthLine ls first size count) same) i };
      down = λ first size count i. record g { screen = step f g.screen (change.ScrollRegionDown first size count); lines = (map-region_down line_attribute no_flags old first size count ∙ ap (λ ls. region_down SingleWidthLine ls first size count) same) i };
      cleared = λ color i. record g { screen = step f g.screen (change.ClearScreen color); lines = same i };
      cleared_line = λ color i. record g { screen = step f g.screen (change.ClearToEndOfLine color); lines = same i };
      cleared_below = λ color i. record g { screen = step f g.screen (change.ClearToEndOfScreen color); lines = same i };
      text = λ text some.
          let n = rows_scrolled f g.screen text in
          let kept = text_up f (graphemes true text) g.screen (kept_in g) (subst (λ ls. 0 < length ls) (sym same) some) in
          λ i. record g {
            screen = step f g.screen (change.Text text);
            title = kept.title i;
            shape = shape_of (kept.shape i);
            color = kept.color i;
            lines = (kept.lines ∙ ap (up SingleWidthLine n) same) i;
          };
    }

pub full-resized : (s : Screen) (k : Kept) (w h : ℕ) → let f = full_screen s k in
    full_screen (resized_screen s w h) (resized_kept k w h) ≡ record f { screen = resized_screen s w h; lines = take h f.lines ++ replicate (h - length f.lines) SingleWidthLine }
full-resized s k w h i =
    let lines : map line_attribute (take h k.flags ++ replicate (h - length k.flags) no_flags) ≡ take h (map line_attribute k.flags) ++ replicate (h - length (map line_attribute k.flags)) SingleWidthLine =
    map-append line_attribute (take h k.flags) _ ∙ ap₂ (λ a b. a ++ b) (sym (take-map line_attribute h k.flags)) (map-replicate line_attribute (h - length k.flags) no_flags)
    ∙ ap (λ n. take h (map line_attribute k.flags) ++ replicate (h - n) SingleWidthLine) (sym (length-map k.flags line_attribute)) in
    record (full_screen s k) { screen = resized_screen s w h; lines = lines i }
