-- A run of ASCII or of letters that is printed at once prints its characters in turn.
use Rattle.std.proofs.Common.{◌≡◌, ℕ, suc, ◌+◌, ◌*◌, ◌<◌, ◌≤◌, true, false, min, List, [], ◌∷◌, length, get_or, map, fold, refl, sym, ◌∙◌, ap, ap₂, subst, arith}
use Rattle.std.specs.Prelude.{slice_set, encode_utf8, Bool, ◌||◌}
use Rattle.std.proofs.Math.Bool.{or-false}
use Rattle.std.specs.List.{All, list_all}
use Rattle.std.proofs.lemmas.List.Sums.{fold-append, AllPass-from_list_all}
use Rattle.std.proofs.lemmas.Bool.{ne_eqb}
use Rattle.std.proofs.lemmas.List.{set-get_or, set-set, get_or-set_same, take_all}
use Rattle.unicode_segmentation.specs.Grapheme.{graphemes}
use Rattle.termwiz_text.specs.Letter.{is_letter}
use Rattle.termwiz_text.specs.Plain.{is_plain}
use Rattle.termwiz_cell.specs.Attributes.{Attributes}
use Rattle.termwiz_cell.specs.CellValue.{CellValue, columns, plain_cell}
use Rattle.termwiz_storage.specs.Letters.{letter_cell, set_letters}
use Rattle.termwiz_storage.specs.Stored.{set_cell, set_run}
use Rattle.termwiz_storage.proofs.SetCell.{length-set_cell}
use Rattle.termwiz_storage.proofs.Widths.{columns_bounds}
use Rattle.termwiz_screen.specs.Kept.{Kept}
use Rattle.termwiz_screen.specs.Screen.{Screen, row_at}
use Rattle.termwiz_screen.specs.Print.{print_one, put_at_cursor, put_kept, printed_cell, one_kept, kept_after, wraps, wrapped, wrapped_kept}
use Rattle.termwiz_screen.specs.Runs.{AreNarrow, AreWide}
use Rattle.termwiz_surface.specs.Printing.{PrintsGraphemes, PrintsFirst}
use Rattle.termwiz_screen.specs.Rows.{painted_in}
use Rattle.termwiz_surface.specs.Surface.{SurfaceValue, IsSound, Becomes, screen_of, kept_of}
use Rattle.termwiz_screen.proofs.Stored.{IsLawful}
use Rattle.termwiz_screen.proofs.Runs.{PrintsCell, PrintsCell-plain, screen-from_wrap, kept-from_wrap, kept_after-append}
use Rattle.termwiz_screen.proofs.LetterRuns.{PrintsCell-letter}
use Rattle.termwiz_surface.proofs.Drawn.{IsSound-put, rows-put, lengths-put}
use Rattle.termwiz_surface.specs.Touching.{cursor_row, one_touches, touched_by, wrap_touches}
use Rattle.termwiz_surface.proofs.Touching.{touched_by-append, touched-from_wrap}
use Rattle.termwiz_surface.proofs.RowNumbers.{marks-alike, marks-then}

module _ {W : Type 0} where
  -- the surface with one cell printed in its row
  abbrev one_more : SurfaceValue W → CellValue → SurfaceValue W
  one_more s c = record s { lines = slice_set s.lines s.y (painted_in s.width s.x c (row_at s.lines s.y)); x = min (s.x + columns c) s.width }

  -- the form, and what is shown and stored, after graphemes were printed
  pub record IsPrinted (f : List ℕ → ℕ) (s : SurfaceValue W) (gs : List (List ℕ)) (t : SurfaceValue W) : Type 0 where
    pub sound : IsSound f t
    pub screen : screen_of t ≡ fold (print_one f) (screen_of s) gs
    pub kept : kept_of t ≡ kept_after f (screen_of s) (kept_of s) gs

-- characters are stored one after another: the cell of each, and how many columns they take
pub record IsRun (cell : ℕ → Attributes → CellValue) (store : ℕ → List ℕ → Attributes → List CellValue → List CellValue) (taken : List ℕ → ℕ) : Type 0 where
  pub none : (x : ℕ) (a : Attributes) (cs : List CellValue) → store x [] a cs ≡ cs
  pub none_taken : taken [] ≡ 0
  pub more : (x b : ℕ) (bs : List ℕ) (a : Attributes) (cs : List CellValue) → store x (b ∷ bs) a cs ≡ store (x + columns (cell b a)) bs a (set_cell x (cell b a) cs)
  pub more_taken : (b : ℕ) (bs : List ℕ) (a : Attributes) → taken (b ∷ bs) ≡ columns (cell b a) + taken bs

pub plain_run : IsRun plain_cell set_run length
plain_run = record { none = λ x a cs. refl; none_taken = refl; more = λ x b bs a cs. refl; more_taken = λ b bs a. omega arith }

pub letter_run : IsRun letter_cell set_letters (λ ls. 2 * length ls)
letter_run = record { none = λ x a cs. refl; none_taken = omega arith; more = λ x b bs a cs. refl; more_taken = λ b bs a. let two : columns (letter_cell b a) ≡ 2 = refl in omega arith }

module _ {W : Type 0} (f : List ℕ → ℕ) (lawful : IsLawful f) where
  module _ (s : SurfaceValue W) (sound : IsSound f s) where
    row_in : s.y < length s.lines
    row_in = let e : length s.lines ≡ s.height = sound.full in let p : s.y < s.height = sound.row in omega arith

    module _ (g : List ℕ) (c : CellValue) (prints : PrintsCell f s.pen g c) (fits : s.x + columns c ≤ s.width) where
      inside : s.x < s.width
      inside = let some : 0 < columns c = (columns_bounds c).0 in omega arith

      sound_more : IsSound f (one_more s c)
      sound_more = IsSound-put f s c sound inside lawful prints.measured

      stays : wraps (screen_of s) ≡ false
      stays = ne_eqb s.x s.width (let l : s.x < s.width = inside in omega arith)

      printed : print_one f (screen_of s) g ≡ put_at_cursor (screen_of s) c
      printed =
          let placed : print_one f (screen_of s) g ≡ put_at_cursor (screen_of s) (printed_cell f s.pen g) = rw (prints.is_text, stays) refl in
          placed ∙ ap (put_at_cursor (screen_of s)) prints.cell_is

      screen_more : screen_of (one_more s c) ≡ print_one f (screen_of s) g
      screen_more =
          let shown : screen_of (one_more s c) ≡ put_at_cursor (screen_of s) c = rw (rows-put f s c sound inside) refl in
          shown ∙ sym printed

      kept_more : kept_of (one_more s c) ≡ one_kept f (screen_of s) g (kept_of s)
      kept_more =
          let placed : one_kept f (screen_of s) g (kept_of s) ≡ put_kept (screen_of s) (printed_cell f s.pen g) (kept_of s) = rw (prints.is_text, stays) refl in
          (λ i. record (kept_of s) { lengths = lengths-put f s c sound inside i })
          ∙ sym (placed ∙ ap (λ (d : CellValue). put_kept (screen_of s) d (kept_of s)) prints.cell_is)

      row_more : row_at (one_more s c).lines s.y ≡ set_cell s.x c (row_at s.lines s.y)
      row_more =
          let w : length (row_at s.lines s.y) ≤ s.width = (sound.stored_so s.y sound.row).within in
          get_or-set_same s.lines s.y _ [] row_in ∙ take_all s.width _ (omega (arith, length-set_cell s.x c (row_at s.lines s.y)))

-- ---- characters that are stored at once are printed in turn

module _ {W : Type 0} (piece : ℕ → List ℕ) (cell : ℕ → Attributes → CellValue) (store : ℕ → List ℕ → Attributes → List CellValue → List CellValue) (taken : List ℕ → ℕ) (run : IsRun cell store taken) where
  abbrev pub with_run : SurfaceValue W → List ℕ → SurfaceValue W
  with_run s bs = record s { lines = slice_set s.lines s.y (store s.x bs s.pen (row_at s.lines s.y)); x = s.x + taken bs }

  with_none : (s : SurfaceValue W) → with_run s [] ≡ s
  with_none s =
      let lines : (with_run s []).lines ≡ s.lines = ap (slice_set s.lines s.y) (run.none s.x s.pen (row_at s.lines s.y)) ∙ set-get_or s.lines s.y [] in
      let column : s.x + taken [] ≡ s.x = omega (arith, run.none_taken) in
      λ i. record s { lines = lines i; x = column i }

  module _ (f : List ℕ → ℕ) (lawful : IsLawful f) where
    with_more : (s : SurfaceValue W) (sound : IsSound f s) (b : ℕ) (bs : List ℕ) (prints : PrintsCell f s.pen (piece b) (cell b s.pen)) (fits : s.x + columns (cell b s.pen) ≤ s.width) → with_run (one_more s (cell b s.pen)) bs ≡ with_run s (b ∷ bs)
    with_more s sound b bs prints fits =
        let x : min (s.x + columns (cell b s.pen)) s.width ≡ s.x + columns (cell b s.pen) = omega arith in
        let row : store (min (s.x + columns (cell b s.pen)) s.width) bs s.pen (row_at (one_more s (cell b s.pen)).lines s.y) ≡ store s.x (b ∷ bs) s.pen (row_at s.lines s.y) =
        ap₂ (λ (k : ℕ) (r : List CellValue). store k bs s.pen r) x (row_more f lawful s sound (piece b) (cell b s.pen) prints fits) ∙ sym (run.more s.x b bs s.pen (row_at s.lines s.y)) in
        let lines : (with_run (one_more s (cell b s.pen)) bs).lines ≡ (with_run s (b ∷ bs)).lines = set-set s.lines s.y _ _ ∙ ap (slice_set s.lines s.y) row in
        let column : min (s.x + columns (cell b s.pen)) s.width + taken bs ≡ s.x + taken (b ∷ bs) = omega (arith, run.more_taken b bs s.pen) in
        λ i. record s { lines = lines i; x = column i }

    pub IsPrinted-run : (bs : List ℕ) (s : SurfaceValue W) → IsSound f s → s.x + taken bs ≤ s.width → All (λ b. PrintsCell f s.pen (piece b) (cell b s.pen)) bs → IsPrinted f s (map piece bs) (with_run s bs)
    IsPrinted-run [] s sound fits prints = subst (IsPrinted f s []) (sym (with_none s)) (record { sound = sound; screen = refl; kept = refl })
    IsPrinted-run (b ∷ bs) s sound fits prints =
        let c : CellValue = cell b s.pen in
        let first : PrintsCell f s.pen (piece b) (cell b s.pen) = prints 0 0 (omega arith) in
        let one : s.x + columns (cell b s.pen) ≤ s.width = omega (arith, run.more_taken b bs s.pen) in
        let left : min (s.x + columns (cell b s.pen)) s.width + taken bs ≤ s.width = omega (arith, run.more_taken b bs s.pen) in
        let more : IsPrinted f (one_more s (cell b s.pen)) (map piece bs) (with_run (one_more s (cell b s.pen)) bs) =
        IsPrinted-run bs (one_more s (cell b s.pen)) (sound_more f lawful s sound (piece b) (cell b s.pen) first one) left (λ k d l. prints (suc k) d (omega arith)) in
        subst (IsPrinted f s (map piece (b ∷ bs))) (with_more s sound b bs first one) (record {
          sound = more.sound;
          screen = more.screen ∙ ap (λ (z : Screen). fold (print_one f) z (map piece bs)) (screen_more f lawful s sound (piece b) (cell b s.pen) first one);
          kept = more.kept ∙ ap₂ (λ (z : Screen) (k : Kept). kept_after f z k (map piece bs)) (screen_more f lawful s sound (piece b) (cell b s.pen) first one) (kept_more f lawful s sound (piece b) (cell b s.pen) first one);
        })

or-same : (b : Bool) → (b || b) ≡ b
or-same true = refl
or-same false = refl

-- characters that fit in the row touch that row alone
module _ (f : List ℕ → ℕ) (piece : ℕ → List ℕ) (cell : ℕ → Attributes → CellValue) (store : ℕ → List ℕ → Attributes → List CellValue → List CellValue) (taken : List ℕ → ℕ) (run : IsRun cell store taken) (j : ℕ) where
  module _ (b : ℕ) (bs : List ℕ) (s : Screen) (fits : s.x + taken (b ∷ bs) ≤ s.width) (prints : All (λ b. PrintsCell f s.pen (piece b) (cell b s.pen)) (b ∷ bs)) where
    first : PrintsCell f s.pen (piece b) (cell b s.pen)
    first = prints 0 0 (omega arith)

    settled : wraps s ≡ false
    settled = let some : 0 < columns (cell b s.pen) = (columns_bounds (cell b s.pen)).0 in ne_eqb s.x s.width (omega (arith, run.more_taken b bs s.pen))

    one-puts : print_one f s (piece b) ≡ put_at_cursor s (cell b s.pen)
    one-puts =
        let placed : print_one f s (piece b) ≡ put_at_cursor s (printed_cell f s.pen (piece b)) = rw (first.is_text, settled) refl in
        placed ∙ ap (put_at_cursor s) first.cell_is

    one-here : one_touches f s (piece b) j ≡ cursor_row s j
    one-here = rw (first.is_text, settled) refl

    -- the first character, and those after it
    run-first : touched_by f s (map piece (b ∷ bs)) j ≡ (cursor_row s j || touched_by f (put_at_cursor s (cell b s.pen)) (map piece bs) j)
    run-first = ap₂ (λ (u : Bool) (z : Screen). u || touched_by f z (map piece bs) j) one-here one-puts

    fits-behind : (put_at_cursor s (cell b s.pen)).x + taken bs ≤ s.width
    fits-behind = omega (arith, run.more_taken b bs s.pen)

  run-behind : (bs : List ℕ) (s : Screen) → s.x + taken bs ≤ s.width → All (λ b. PrintsCell f s.pen (piece b) (cell b s.pen)) bs → (cursor_row s j || touched_by f s (map piece bs) j) ≡ cursor_row s j
  run-behind [] s fits prints = or-false (cursor_row s j)
  run-behind (b ∷ bs) s fits prints =
      ap (λ (u : Bool). cursor_row s j || u)
      (run-first b bs s fits prints ∙ run-behind bs (put_at_cursor s (cell b s.pen)) (fits-behind b bs s fits prints) (λ k d l. prints (suc k) d (omega arith)))
      ∙ or-same (cursor_row s j)

  pub run-touches : (bs : List ℕ) (s : Screen) → 0 < length bs → s.x + taken bs ≤ s.width → All (λ b. PrintsCell f s.pen (piece b) (cell b s.pen)) bs → touched_by f s (map piece bs) j ≡ cursor_row s j
  run-touches [] s some fits prints = absurd (omega arith)
  run-touches (b ∷ bs) s some fits prints =
      run-first b bs s fits prints ∙ run-behind bs (put_at_cursor s (cell b s.pen)) (fits-behind b bs s fits prints) (λ k d l. prints (suc k) d (omega arith))

pub AllPrint-plain : (f : List ℕ → ℕ) (pen : Attributes) (bs : List ℕ) → list_all is_plain bs ≡ true → AreNarrow f bs → All (λ b. PrintsCell f pen (b ∷ []) (plain_cell b pen)) bs
AllPrint-plain f pen bs plain narrow = λ k d l. PrintsCell-plain f pen (get_or bs k d) (AllPass-from_list_all is_plain bs plain k d l) (narrow k d l)

pub AllPrint-letters : (f : List ℕ → ℕ) (pen : Attributes) (ls : List ℕ) → list_all is_letter ls ≡ true → AreWide f ls → All (λ c. PrintsCell f pen (encode_utf8 c) (letter_cell c pen)) ls
AllPrint-letters f pen ls letters wide = λ k d l. PrintsCell-letter f pen (get_or ls k d) (AllPass-from_list_all is_letter ls letters k d l) (wide k d l)

pub IsPrinted-plain : {W : Type 0} (f : List ℕ → ℕ) → IsLawful f → (bs : List ℕ) (s : SurfaceValue W) → IsSound f s → s.x + length bs ≤ s.width → list_all is_plain bs ≡ true → AreNarrow f bs
    → IsPrinted f s (map (λ c. c ∷ []) bs) (with_run (λ c. c ∷ []) plain_cell set_run length plain_run s bs)
IsPrinted-plain f lawful bs s sound fits plain narrow = IsPrinted-run (λ c. c ∷ []) plain_cell set_run length plain_run f lawful bs s sound fits (AllPrint-plain f s.pen bs plain narrow)

pub IsPrinted-letters : {W : Type 0} (f : List ℕ → ℕ) → IsLawful f → (ls : List ℕ) (s : SurfaceValue W) → IsSound f s → s.x + 2 * length ls ≤ s.width → list_all is_letter ls ≡ true → AreWide f ls
    → IsPrinted f s (map encode_utf8 ls) (with_run encode_utf8 letter_cell set_letters (λ ls. 2 * length ls) letter_run s ls)
IsPrinted-letters f lawful ls s sound fits letters wide = IsPrinted-run encode_utf8 letter_cell set_letters (λ ls. 2 * length ls) letter_run f lawful ls s sound fits (AllPrint-letters f s.pen ls letters wide)

-- one grapheme is printed
pub prints-one : {W : Type 0} (f : List ℕ → ℕ) (old new : SurfaceValue W) (g : List ℕ) → Becomes old (print_one f (screen_of old) g) (one_kept f (screen_of old) g (kept_of old)) (one_touches f (screen_of old) g) new → PrintsGraphemes f old (g ∷ []) new
prints-one f old new g b = record {
  widths = b.widths;
  width = b.width;
  height = b.height;
  full = b.full;
  log = b.log;
  screen_is = b.screen_is;
  kept_is = b.kept_is;
  mark = b.mark;
  rows = marks-alike (one_touches f (screen_of old) g) (touched_by f (screen_of old) (g ∷ [])) old new (λ j. or-false (one_touches f (screen_of old) g j)) b.rows;
}

-- a run that is printed after the wrap is printed
pub prints-after_wrap : {W : Type 0} (f : List ℕ → ℕ) (piece : ℕ → List ℕ) (cell : ℕ → CellValue) (old mid new : SurfaceValue W) (bs : List ℕ) → 0 < length bs → All (λ b. PrintsCell f old.pen (piece b) (cell b)) bs
    → Becomes old (wrapped (screen_of old)) (wrapped_kept (screen_of old) (kept_of old)) (wrap_touches (screen_of old)) mid → mid.x < mid.width → PrintsGraphemes f mid (map piece bs) new → PrintsGraphemes f old (map piece bs) new
prints-after_wrap f piece cell old mid new [] some prints d inside p = absurd (omega arith)
prints-after_wrap f piece cell old mid new (b ∷ bs) some prints d inside p =
    let is_text = (prints 0 0 (omega arith)).is_text in
    let settled : wraps (wrapped (screen_of old)) ≡ false = ap wraps (sym d.screen_is) ∙ ne_eqb mid.x mid.width (omega arith) in
    record {
      widths = p.widths ∙ d.widths;
      width = p.width ∙ d.width;
      height = p.height ∙ d.height;
      full = p.full ∙ d.full;
      log = p.log ∙ d.log;
      mark = p.mark ∙ d.mark;
      rows = marks-alike _ (touched_by f (screen_of old) (map piece (b ∷ bs))) old new
          (λ j. touched-from_wrap f (screen_of old) (kept_of old) (piece b) (map piece bs) is_text settled j ∙ ap (λ (z : Screen). wrap_touches (screen_of old) j || touched_by f z (map piece (b ∷ bs)) j) (sym d.screen_is))
          (marks-then (wrap_touches (screen_of old)) (touched_by f (screen_of mid) (map piece (b ∷ bs))) old mid new d.height d.mark d.rows p.rows);
      screen_is = p.screen_is ∙ ap (λ (z : Screen). fold (print_one f) z (map piece (b ∷ bs))) d.screen_is ∙ screen-from_wrap f (screen_of old) (kept_of old) (piece b) (map piece bs) is_text settled;
      kept_is = p.kept_is ∙ ap₂ (λ (z : Screen) (k : Kept). kept_after f z k (map piece (b ∷ bs))) d.screen_is d.kept_is ∙ kept-from_wrap f (screen_of old) (kept_of old) (piece b) (map piece bs) is_text settled;
    }

module _ {W : Type 0} (f : List ℕ → ℕ) (old new : SurfaceValue W) (text rest : List ℕ) (p : PrintsFirst f old text rest new) where
  -- printing what is left leads where printing the whole led
  pub screen-left : fold (print_one f) (screen_of new) (graphemes true rest) ≡ fold (print_one f) (screen_of old) (graphemes true text)
  screen-left =
      ap (λ (z : Screen). fold (print_one f) z (graphemes true rest)) p.prints.screen_is
      ∙ sym (ap (fold (print_one f) (screen_of old)) p.graphemes_are ∙ fold-append (print_one f) (screen_of old) p.printed (graphemes true rest))

  pub kept-left : kept_after f (screen_of new) (kept_of new) (graphemes true rest) ≡ kept_after f (screen_of old) (kept_of old) (graphemes true text)
  kept-left =
      ap₂ (λ (z : Screen) (k : Kept). kept_after f z k (graphemes true rest)) p.prints.screen_is p.prints.kept_is
      ∙ sym (ap (kept_after f (screen_of old) (kept_of old)) p.graphemes_are ∙ kept_after-append f (screen_of old) (kept_of old) p.printed (graphemes true rest))

  -- and touches what is left of the rows
  pub touched-left : (j : ℕ) → touched_by f (screen_of old) (graphemes true text) j ≡ (touched_by f (screen_of old) p.printed j || touched_by f (screen_of new) (graphemes true rest) j)
  touched-left j =
      ap (λ (gs : List (List ℕ)). touched_by f (screen_of old) gs j) p.graphemes_are
      ∙ touched_by-append f (screen_of old) p.printed (graphemes true rest) j
      ∙ ap (λ (z : Screen). touched_by f (screen_of old) p.printed j || touched_by f z (graphemes true rest) j) (sym p.prints.screen_is)
