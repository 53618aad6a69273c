-- Cells in one text: how it is cut, and what its cells are.
use Rattle.std.proofs.Common.{◌≡◌, ℕ, ◌+◌, ◌<◌, ◌≤◌, ◌^◌, List, [], ◌∷◌, ◌++◌, length, get_or, take, drop, Bool, true, false, refl, ap, sym, ◌∙◌, append_assoc, arith, if◌then◌else◌, length-append, inl, inr}
use Rattle.std.proofs.lemmas.List.{append-nil, take-append-le, drop-append-le, take-append-drop, take_all, drop_all, get_or_append_left}
use Rattle.std.proofs.lemmas.Bool.{cases_lt}
use Rattle.std.proofs.lemmas.Str.{IsCharBoundary-end, IsCharBoundary-at_seam}
use Rattle.std.specs.Str.{IsCharBoundary, IsUtf8}
use Rattle.termwiz_cell.specs.Attributes.{Attributes}
use Rattle.termwiz_cell.specs.CellValue.{CellValue, clean, columns}
use Rattle.termwiz_storage.specs.declared.line.clusterline.runs.Shape.{Shape}
use Rattle.termwiz_storage.specs.CellTexts.{texts_of}
use Rattle.termwiz_storage.specs.Clustered.{cell_len, char_len, first_cell, cells_from, shown_cells, AreCuts, IsCellText, IsClusteredText, IsStepping}
use Rattle.termwiz_storage.specs.Edits.{with_half, with_halves}
use Rattle.termwiz_storage.specs.Stored.{visible_from, visible}
use Rattle.termwiz_storage.specs.VisibleCell.{VisibleCell, at_column}
use Rattle.termwiz_storage.proofs.Widths.{columns_bounds}

-- a cell with its half is one visible cell, and the walk goes on after it
visible_step : (b : Bool) (x : List ℕ) (a : Attributes) (i : ℕ) (cs : List CellValue) (shown : ℕ → List VisibleCell) → ((j : ℕ) → shown j ≡ visible_from j 0 cs) → at_column i (record { text = x; wide = b; attrs = a }) ∷ shown (i + columns (record { text = x; wide = b; attrs = a })) ≡ visible_from i 0 (with_half (record { text = x; wide = b; attrs = a }) ++ cs)
visible_step true x a i cs shown h =
    let e : i + 2 ≡ i + 1 + 1 = omega arith in
    ap (λ (z : List VisibleCell). at_column i (record { text = x; wide = true; attrs = a }) ∷ z) (rw e (h (i + 1 + 1)))
visible_step false x a i cs shown h = ap (λ (z : List VisibleCell). at_column i (record { text = x; wide = false; attrs = a }) ∷ z) (h (i + 1))

shown_is_visible : (i : ℕ) (t : List ℕ) (ss : List Shape) (ps : List Attributes) → shown_cells i t ss ps ≡ visible_from i 0 (cells_from t ss ps)
shown_is_visible i t [] ps = refl
shown_is_visible i t (s ∷ ss) [] = refl
shown_is_visible i t (s ∷ ss) (a ∷ ps) =
    visible_step s.wide (take (cell_len s t) t) a i (cells_from (drop (cell_len s t) t) ss ps) (λ j. shown_cells j (drop (cell_len s t) t) ss ps) (λ j. shown_is_visible j (drop (cell_len s t) t) ss ps)

-- the list is its visible cells with their halves
with_halves-shown : (i : ℕ) (t : List ℕ) (ss : List Shape) (ps : List Attributes) → with_halves (shown_cells i t ss ps) ≡ cells_from t ss ps
with_halves-shown i t [] ps = refl
with_halves-shown i t (s ∷ ss) [] = refl
with_halves-shown i t (s ∷ ss) (a ∷ ps) =
    ap (λ (z : List CellValue). with_half (first_cell t s a) ++ z) (with_halves-shown (i + columns (first_cell t s a)) (drop (cell_len s t) t) ss ps)

-- the text is the texts of the visible cells
texts_of-shown : (i : ℕ) (t : List ℕ) (ss : List Shape) (ps : List Attributes) → AreCuts t ss → length ss ≡ length ps → texts_of (shown_cells i t ss ps) ≡ t
texts_of-shown i t [] ps h e = sym h
texts_of-shown i t (s ∷ ss) [] h e = absurd (omega arith)
texts_of-shown i t (s ∷ ss) (a ∷ ps) h e =
    ap (λ (z : List ℕ). take (cell_len s t) t ++ z) (texts_of-shown (i + columns (first_cell t s a)) (drop (cell_len s t) t) ss ps h.1 (omega arith)) ∙ take-append-drop (cell_len s t) t

not_one_char : (b : Bool) (n m : ℕ) → (if b then 1 else n) ≤ 0 → (if b then m else n) ≡ (if b then 1 else n)
not_one_char true n m h = absurd (omega arith)
not_one_char false n m h = refl

-- the first cell of a text is that of a longer one
cell_len_in_longer : (s : Shape) (t u : List ℕ) → cell_len s t ≤ length t → cell_len s (t ++ u) ≡ cell_len s t
cell_len_in_longer s [] u h = not_one_char s.one_char s.bytes (char_len (get_or u 0 0)) h
cell_len_in_longer s (y ∷ t) u h = refl

-- the cells of a text, and of another after it
pub cells_from-append : (t u : List ℕ) (ss rs : List Shape) (ps qs : List Attributes) → AreCuts t ss → length ss ≡ length ps → cells_from (t ++ u) (ss ++ rs) (ps ++ qs) ≡ cells_from t ss ps ++ cells_from u rs qs
cells_from-append t u [] rs [] qs h e = rw h refl
cells_from-append t u [] rs (p ∷ ps) qs h e = absurd (omega arith)
cells_from-append t u (x ∷ ss) rs [] qs h e = absurd (omega arith)
cells_from-append t u (x ∷ ss) rs (p ∷ ps) qs h e =
    let n : ℕ = cell_len x t in
    let within : n ≤ length t = h.0.boundary.0 in
    let len : cell_len x (t ++ u) ≡ n = cell_len_in_longer x t u within in
    let front : take (cell_len x (t ++ u)) (t ++ u) ≡ take n t = rw len (take-append-le n t u within) in
    let back : drop (cell_len x (t ++ u)) (t ++ u) ≡ drop n t ++ u = rw len (drop-append-le n t u within) in
    rw (front, back, cells_from-append (drop n t) u ss rs ps qs h.1 (omega arith))
    (sym (append_assoc (with_half (first_cell t x p)) (cells_from (drop n t) ss ps) (cells_from u rs qs)))

-- the cell of a text of one cell
cells_from-one : (u : List ℕ) (s : Shape) (a : Attributes) → cell_len s u ≡ length u → cells_from u (s ∷ []) (a ∷ []) ≡ with_half (record { text = u; wide = s.wide; attrs = a })
cells_from-one u s a b =
    let text : take (cell_len s u) u ≡ u = rw b (take_all (length u) u (omega arith)) in
    rw text (append-nil (with_half (record { text = u; wide = s.wide; attrs = a })))

-- one more cell
pub cells_from-push : (t u : List ℕ) (ss : List Shape) (s : Shape) (ps : List Attributes) (a : Attributes) → AreCuts t ss → length ss ≡ length ps → cell_len s u ≡ length u → cells_from (t ++ u) (ss ++ s ∷ []) (ps ++ a ∷ []) ≡ cells_from t ss ps ++ with_half (record { text = u; wide = s.wide; attrs = a })
cells_from-push t u ss s ps a h e b = cells_from-append t u ss (s ∷ []) ps (a ∷ []) h e ∙ ap (λ (z : List CellValue). cells_from t ss ps ++ z) (cells_from-one u s a b)

-- a place in a text is one in a longer text
boundary_in_longer : (t u : List ℕ) (i : ℕ) → IsUtf8 u → IsCharBoundary t i → IsCharBoundary (t ++ u) i
boundary_in_longer t u i v h =
    elim (cases_lt i (length t)) [
      | inl l ↦ (omega (arith, length-append t u), λ _ g. let e : get_or (t ++ u) i 0 ≡ get_or t i 0 = get_or_append_left t u 0 i l in rw e (h.1 l (omega (arith, e))))
      | inr l ↦ let e : i ≡ length t = omega (arith, h.0) in rw e (IsCharBoundary-at_seam (t ++ u) t u refl v)
    ]

cell_text_in_longer : (t u : List ℕ) (n : ℕ) → IsUtf8 u → IsCellText t n → IsCellText (t ++ u) n
cell_text_in_longer t u n v h = record {
  boundary = boundary_in_longer t u n v h.boundary;
  clean = rw (take-append-le n t u h.boundary.0) h.clean;
}

whole_cell_text : (u : List ℕ) → clean u ≡ u → IsCellText u (length u)
whole_cell_text u c = record {
  boundary = IsCharBoundary-end u;
  clean = rw (take_all (length u) u (omega arith)) c;
}

AreCuts-append : (t u : List ℕ) (ss rs : List Shape) → IsUtf8 u → AreCuts t ss → AreCuts u rs → AreCuts (t ++ u) (ss ++ rs)
AreCuts-append t u [] rs v h k = rw h k
AreCuts-append t u (x ∷ ss) rs v h k =
    let n : ℕ = cell_len x t in
    let len : cell_len x (t ++ u) ≡ n = cell_len_in_longer x t u h.0.boundary.0 in
    rw (len, drop-append-le n t u h.0.boundary.0) (cell_text_in_longer t u n v h.0, AreCuts-append (drop n t) u ss rs v h.1 k)

AreCuts-one : (u : List ℕ) (s : Shape) → clean u ≡ u → cell_len s u ≡ length u → AreCuts u (s ∷ [])
AreCuts-one u s c b = rw b (whole_cell_text u c, drop_all (length u) u (omega arith))

pub length-with_half : (c : CellValue) → length (with_half c) ≡ columns c
length-with_half c = elim c.wide as (λ (b : Bool). length (with_half (record c { wide = b })) ≡ columns (record c { wide = b })) [ true ↦ refl | false ↦ refl ]

-- what is read from the list that a text stands for
pub visible-cells_from : (cs : List CellValue) (t : List ℕ) (ss : List Shape) (ps : List Attributes) → cells_from t ss ps ≡ cs → shown_cells 0 t ss ps ≡ visible cs
visible-cells_from cs t ss ps e = shown_is_visible 0 t ss ps ∙ ap visible e

pub with_halves-visible : (cs : List CellValue) (t : List ℕ) (ss : List Shape) (ps : List Attributes) → cells_from t ss ps ≡ cs → with_halves (visible cs) ≡ cs
with_halves-visible cs t ss ps e = ap with_halves (sym (visible-cells_from cs t ss ps e)) ∙ with_halves-shown 0 t ss ps ∙ e

pub texts_of-visible : (cs : List CellValue) (t : List ℕ) (ss : List Shape) (ps : List Attributes) (n : ℕ) → cells_from t ss ps ≡ cs → IsClusteredText t ss ps n → texts_of (visible cs) ≡ t
texts_of-visible cs t ss ps n e h = ap texts_of (sym (visible-cells_from cs t ss ps e)) ∙ texts_of-shown 0 t ss ps h.cuts h.aligned

pub IsStepping-start : (t : List ℕ) (ss : List Shape) (ps : List Attributes) (n : ℕ) → IsClusteredText t ss ps n → IsStepping t ss ps 0
IsStepping-start t ss ps n h = record { cuts = h.cuts; aligned = h.aligned; fits = omega (arith, h.len, h.fits) }

pub IsSound-append : (t u : List ℕ) (ss rs : List Shape) (ps qs : List Attributes) (n m : ℕ) → IsUtf8 u → IsClusteredText t ss ps n → IsClusteredText u rs qs m → n + m < 2 ^ 64 → IsClusteredText (t ++ u) (ss ++ rs) (ps ++ qs) (n + m)
IsSound-append t u ss rs ps qs n m v h k f = record {
  cuts = AreCuts-append t u ss rs v h.cuts k.cuts;
  aligned = omega (arith, h.aligned, k.aligned, length-append ss rs, length-append ps qs);
  len = omega (arith, h.len, k.len, ap length (cells_from-append t u ss rs ps qs h.cuts h.aligned), length-append (cells_from t ss ps) (cells_from u rs qs));
  fits = f;
}

-- a text of one cell
IsSound-one : (u : List ℕ) (s : Shape) (a : Attributes) → clean u ≡ u → cell_len s u ≡ length u → IsClusteredText u (s ∷ []) (a ∷ []) (columns (record { text = u; wide = s.wide; attrs = a }))
IsSound-one u s a w b =
    let c : CellValue = record { text = u; wide = s.wide; attrs = a } in
    let len : length (with_half c) ≡ columns c = length-with_half c in
    let few : columns c ≤ 2 = (columns_bounds c).1 in
    record {
      cuts = AreCuts-one u s w b;
      aligned = refl;
      len = sym len ∙ sym (ap length (cells_from-one u s a b));
      fits = omega arith;
    }

pub IsSound-push : (t u : List ℕ) (ss : List Shape) (s : Shape) (ps : List Attributes) (a : Attributes) (n m : ℕ) → IsUtf8 u → clean u ≡ u → IsClusteredText t ss ps n → cell_len s u ≡ length u → m ≡ n + columns (record { text = u; wide = s.wide; attrs = a }) → m < 2 ^ 64 → IsClusteredText (t ++ u) (ss ++ s ∷ []) (ps ++ a ∷ []) m
IsSound-push t u ss s ps a n m v w h b e f =
    rw e (IsSound-append t u ss (s ∷ []) ps (a ∷ []) n _ v h (IsSound-one u s a w b) (omega arith))
