-- What the entries of a visible cell do: its pen and its text print the cell.
use Rattle.std.proofs.Common.{◌≡◌, ℕ, ◌<◌, Bool, true, false, cond, eqb, List, [], ◌∷◌, ◌++◌, length, fold, arith, inl, inr, ne_eqb, eq-eqb, bytes_eq, get_or, nat_lt, refl, sym, ap, ◌∙◌, subst, Decides}
use Rattle.termwiz_storage.specs.VisibleCell.{VisibleCell}
use Rattle.std.proofs.lemmas.List.Sums.{fold-append, fold_push}
use Rattle.std.proofs.lemmas.Bool.{cases_Bool}
use Rattle.std.proofs.lemmas.Slice.Eq.{bytes_eq-Decides, slice_eq-Decides}
use Rattle.std.specs.Cmp.Lexicographic.{pointwise}
use Rattle.unicode_segmentation.specs.Grapheme.{graphemes}
use Rattle.termwiz_cell.specs.Attributes.{Attributes, attributes_eq, attributes_eq-Decides}
use Rattle.termwiz_cell.specs.CellValue.{CellValue, clean, measured}
use Rattle.termwiz_cell.specs.ChangeValue as change
use Rattle.termwiz_cell.specs.ChangeValue.{ChangeValue}
use Rattle.termwiz_line.specs.Entries.{joins, join, add_text, Penned, pen_entry, cell_out}
use Rattle.termwiz_cell.specs.Graphemes.{is_single, single}
use Rattle.termwiz_screen.specs.Screen.{Screen}
use Rattle.termwiz_screen.specs.Print.{piece_of, printed_cell, put_at_cursor, print_one}
use Rattle.termwiz_screen.specs.Step.{step, replay}
use Rattle.termwiz_screen.specs.Measured.{IsMeasured}
use Rattle.termwiz_screen.specs.declared.print.Piece.TheVariants.{Cell}

pub texts_eq-Decides : (xs ys : List (List ℕ)) → Decides (pointwise bytes_eq xs ys) (xs ≡ ys)
texts_eq-Decides xs ys = slice_eq-Decides bytes_eq-Decides xs ys (pointwise bytes_eq xs ys) refl

-- adding a text is printing its one grapheme
replay_join : (f : List ℕ → ℕ) (s : Screen) (e : ChangeValue) (t : List ℕ) → graphemes true t ≡ t ∷ [] → replay f s (join e t) ≡ print_one f (step f s e) t
replay_join f s (change.Text u) t h = joined (joins u t) (texts_eq-Decides (graphemes true (u ++ t)) (graphemes true u ++ t ∷ [])).0
  where
    joined : (b : Bool) → (b ≡ true → graphemes true (u ++ t) ≡ graphemes true u ++ t ∷ []) →
        replay f s (cond b (change.Text (u ++ t) ∷ []) (change.Text u ∷ change.Text t ∷ [])) ≡ print_one f (step f s (change.Text u)) t
    joined true e = ap (fold (print_one f) s) (e refl) ∙ fold_push (print_one f) s (graphemes true u) t
    joined false e = ap (fold (print_one f) (step f s (change.Text u))) h
replay_join f s e t h = ap (fold (print_one f) (step f s e)) h

pub replay_text : (f : List ℕ → ℕ) (es : List ChangeValue) (s : Screen) (t : List ℕ) → graphemes true t ≡ t ∷ [] → replay f s (add_text es t) ≡ print_one f (replay f s es) t
replay_text f [] s t h = ap (fold (print_one f) s) h
replay_text f (e ∷ []) s t h = replay_join f s e t h
replay_text f (e ∷ (g ∷ es)) s t h = replay_text f (g ∷ es) (step f s e) t h

-- a pen entry leaves the pen, whether it is needed or not
pub replay_pen : (f : List ℕ → ℕ) (s : Screen) (old new : Attributes) → s.pen ≡ old → replay f s (pen_entry old new) ≡ record s { pen = new }
replay_pen f s old new e = penned (attributes_eq old new) (attributes_eq-Decides old new).0
  where
    penned : (b : Bool) → (b ≡ true → old ≡ new) → replay f s (cond b [] (change.AllAttributes new ∷ [])) ≡ record s { pen = new }
    penned true h = λ i. record s { pen = (e ∙ h refl) i }
    penned false h = refl

-- a measured grapheme is stored as it is
pub single_is : (g : List ℕ) → graphemes true g ≡ g ∷ [] → single g ≡ g
single_is g h = let t : is_single g ≡ true = eq-eqb _ 1 (ap length h) in rw t

pub printed_is : (f : List ℕ → ℕ) (c : CellValue) → IsMeasured f c → measured f (single c.text) c.attrs ≡ c
printed_is f c m =
    ap (λ g. measured f g c.attrs) (single_is c.text m.alone)
    ∙ λ i. record { text = m.is_clean i; wide = (ap (λ t. nat_lt 1 (f t)) m.is_clean ∙ sym m.wide_is) i; attrs = c.attrs }

-- a clean text is no line break
pub no_break : (f : List ℕ → ℕ) (pen : Attributes) (g : List ℕ) → clean g ≡ g → piece_of f pen g ≡ Cell (printed_cell f pen g)
no_break f pen g h =
    let cr : bytes_eq g (13 ∷ []) ≡ false = differs (13 ∷ []) (λ e. absurd (omega (arith, ap (λ l. get_or l 0 0) e))) in
    let lf : bytes_eq g (10 ∷ []) ≡ false = differs (10 ∷ []) (λ e. absurd (omega (arith, ap (λ l. get_or l 0 0) e))) in
    let crlf : bytes_eq g (13 ∷ 10 ∷ []) ≡ false = differs (13 ∷ 10 ∷ []) (λ e. absurd (omega (arith, ap (λ l. get_or l 0 0) e))) in
    rw (cr, lf, crlf)
  where
    differs : (b : List ℕ) → (clean b ≡ b → ⊥) → bytes_eq g b ≡ false
    differs b n = elim (cases_Bool (bytes_eq g b)) [
      | inl t ↦ absurd (n (subst (λ l. clean l ≡ l) ((bytes_eq-Decides g b).0 t) h))
      | inr f ↦ f
    ]

-- a measured cell, where no wrap is pending
pub print_cell : (f : List ℕ → ℕ) (s : Screen) (c : CellValue) → s.x < s.width → IsMeasured f c → print_one f (record s { pen = c.attrs }) c.text ≡ put_at_cursor (record s { pen = c.attrs }) c
print_cell f s c l m =
    let n : piece_of f c.attrs c.text ≡ Cell (printed_cell f c.attrs c.text) = no_break f c.attrs c.text m.is_clean in
    let k : eqb s.x s.width ≡ false = ne_eqb s.x s.width (omega arith) in
    rw (n, k) (ap (put_at_cursor (record s { pen = c.attrs })) (printed_is f c m))

-- the entries of a visible cell
pub replay_cell : (f : List ℕ → ℕ) (s : Screen) (d : Penned) (p : VisibleCell) → (replay f s d.entries).pen ≡ d.pen → (replay f s d.entries).x < (replay f s d.entries).width → IsMeasured f p.cell →
    replay f s (cell_out d p).entries ≡ put_at_cursor (record (replay f s d.entries) { pen = p.cell.attrs }) p.cell
replay_cell f s d p e l m =
    replay_text f (d.entries ++ pen_entry d.pen p.cell.attrs) s p.cell.text m.alone
    ∙ ap (λ v. print_one f v p.cell.text) (fold-append (step f) s d.entries _ ∙ replay_pen f (replay f s d.entries) d.pen p.cell.attrs e)
    ∙ print_cell f (replay f s d.entries) p.cell l m
