-- Lines that a line was cut into: how long they are, and what they show.
use Rattle.std.proofs.Common.{◌≡◌, ℕ, ◌+◌, ◌≤◌, inl, inr, Bool, true, false, List, [], ◌∷◌, ◌++◌, length, map, refl, sym, ◌∙◌, ap, length-append, arith}
use Rattle.std.proofs.lemmas.Bool.{cases_Bool}
use Rattle.std.proofs.lemmas.List.{map-append}
use Rattle.std.specs.List.{All}
use Rattle.std.proofs.lemmas.List.Elements.{All-nil, All-cons}
use Rattle.termwiz_cell.specs.Attributes.{Attributes}
use Rattle.termwiz_cell.specs.CellValue.{CellValue, columns, is_wide}
use Rattle.termwiz_storage.specs.Edits.{with_half, with_halves}
use Rattle.termwiz_storage.specs.Stored.{visible, visible_from}
use Rattle.termwiz_storage.specs.Wrapped.{with_wrapped}
use Rattle.termwiz_storage.proofs.Widths.{columns_bounds}
use Rattle.termwiz_storage.specs.VisibleCell.{VisibleCell}
use Rattle.termwiz_line.specs.LineValue.{LineValue}
use Rattle.termwiz_line.specs.Pieces.{joined, AreLongest, none, one_more}
use Rattle.termwiz_line.specs.Trim.{IsTrimmed}
use Rattle.termwiz_line.specs.Wraps.{IsSpace, columns_taken, FitsOrAlone, line_of, mark_last, marked_pieces, AreLinesOf, IsWrapped, FitsWidth, unmarked}

-- ---- how long they are

length-with_half : (c : CellValue) → length (with_half c) ≡ columns c
length-with_half c = elim (cases_Bool (is_wide c)) [ inl w ↦ rw w refl | inr w ↦ rw w refl ]

length-with_halves : (p : List VisibleCell) → length (with_halves p) ≡ columns_taken p
length-with_halves [] = refl
length-with_halves (c ∷ cs) = omega (arith, length-append (with_half c.cell) (with_halves cs), length-with_half c.cell, length-with_halves cs)

columns_of-mark_last : (p : List VisibleCell) → columns_taken (mark_last p) ≡ columns_taken p
columns_of-mark_last [] = refl
columns_of-mark_last (c ∷ []) = refl
columns_of-mark_last (c ∷ d ∷ ds) = ap (λ n. columns c.cell + n) (columns_of-mark_last (d ∷ ds))

fits : (width : ℕ) (p : List VisibleCell) → 2 ≤ width → FitsOrAlone width p → columns_taken p ≤ width
fits width p l (inl h) = h
fits width [] l (inr h) = absurd (omega arith)
fits width (c ∷ []) l (inr h) = omega (arith, (columns_bounds c.cell).1)
fits width (c ∷ d ∷ ds) l (inr h) = absurd (omega arith)

all_short : (width seqno : ℕ) (ps : List (List VisibleCell)) → 2 ≤ width → AreLongest (FitsOrAlone width) ps → All (λ l. length l.cells ≤ width) (map (line_of seqno) (marked_pieces ps))
all_short width seqno [] l none = All-nil (λ (l : LineValue). length l.cells ≤ width)
all_short width seqno (p ∷ []) l (one_more h t) = All-cons (λ (l : LineValue). length l.cells ≤ width) (line_of seqno p) [] (omega (arith, length-with_halves p, fits width p l h.piece)) (All-nil (λ (l : LineValue). length l.cells ≤ width))
all_short width seqno (p ∷ q ∷ qs) l (one_more h t) = All-cons (λ (l : LineValue). length l.cells ≤ width) (line_of seqno (mark_last p)) (map (line_of seqno) (marked_pieces (q ∷ qs))) (omega (arith, length-with_halves (mark_last p), columns_of-mark_last p, fits width p l h.piece)) (all_short width seqno (q ∷ qs) l t)

-- ---- what they show

shown-first : (i : ℕ) (text : List ℕ) (wide : Bool) (attrs : Attributes) (cs : List VisibleCell) → ((j : ℕ) → unmarked (visible_from j 0 (with_halves cs)) ≡ unmarked cs)
    → let c : CellValue = record { text = text; wide = wide; attrs = attrs } in unmarked (visible_from i 0 (with_half c ++ with_halves cs)) ≡ with_wrapped false c ∷ unmarked cs
shown-first i text true attrs cs h = ap (λ z. with_wrapped false (record { text = text; wide = true; attrs = attrs }) ∷ z) (h (i + 1 + 1))
shown-first i text false attrs cs h = ap (λ z. with_wrapped false (record { text = text; wide = false; attrs = attrs }) ∷ z) (h (i + 1))

shown-with_halves : (i : ℕ) (p : List VisibleCell) → unmarked (visible_from i 0 (with_halves p)) ≡ unmarked p
shown-with_halves i [] = refl
shown-with_halves i (c ∷ cs) = shown-first i c.cell.text c.cell.wide c.cell.attrs cs (λ j. shown-with_halves j cs)

unmarked-mark_last : (p : List VisibleCell) → unmarked (mark_last p) ≡ unmarked p
unmarked-mark_last [] = refl
unmarked-mark_last (c ∷ []) = refl
unmarked-mark_last (c ∷ d ∷ ds) = ap (λ z. with_wrapped false c.cell ∷ z) (unmarked-mark_last (d ∷ ds))

all_shown : (seqno : ℕ) (ps : List (List VisibleCell)) → joined (map (λ l. unmarked (visible l.cells)) (map (line_of seqno) (marked_pieces ps))) ≡ unmarked (joined ps)
all_shown seqno [] = refl
all_shown seqno (p ∷ []) = ap (λ z. z ++ []) (shown-with_halves 0 p) ∙ sym (map-append (λ (q : VisibleCell). with_wrapped false q.cell) p [])
all_shown seqno (p ∷ q ∷ qs) =
    ap (λ z. z ++ joined (map (λ l. unmarked (visible l.cells)) (map (line_of seqno) (marked_pieces (q ∷ qs))))) (shown-with_halves 0 (mark_last p) ∙ unmarked-mark_last p)
    ∙ ap (λ z. unmarked p ++ z) (all_shown seqno (q ∷ qs))
    ∙ sym (map-append (λ (c : VisibleCell). with_wrapped false c.cell) p (joined (q ∷ qs)))

pub fits_width : (width seqno : ℕ) (line : LineValue) (lines : List LineValue) → 2 ≤ width → IsWrapped width seqno line lines → FitsWidth width line lines
fits_width width seqno line lines l w = record {
  kept = w.kept;
  trimmed = w.trimmed;
  short = λ n. let a = w.cut n in rw a.lines_are (all_short width seqno a.pieces l a.cut.longest);
  same = λ n. let a = w.cut n in rw a.lines_are (all_shown seqno a.pieces ∙ ap unmarked a.cut.whole);
}

-- where a cell counts
pub IsWrapped-cut : (width seqno : ℕ) (line : LineValue) (lines : List LineValue) (kept rest : List VisibleCell) (first : VisibleCell) → IsTrimmed IsSpace (visible line.cells) kept → kept ≡ first ∷ rest → AreLinesOf width seqno (first ∷ rest) lines → IsWrapped width seqno line lines
IsWrapped-cut width seqno line lines kept rest first t e a = record {
  kept = kept;
  trimmed = t;
  cut = λ n. rw e a;
  alone = λ h. absurd (let z : first ∷ rest ≡ [] = sym e ∙ h in cc);
}
