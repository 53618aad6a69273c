-- Lists are trimmed in one way, so there is one list of zones, and one way to wrap a line.
use Rattle.std.proofs.Common.{◌≡◌, ◌≢◌, ℕ, ◌⊎◌, inl, inr, List, [], ◌∷◌, ◌++◌, map, refl, sym, ◌∙◌, ap, subst, append_assoc}
use Rattle.std.proofs.lemmas.List.{append-nil}
use Rattle.std.specs.List.{All}
use Rattle.termwiz_cell.specs.CellValue.{CellValue}
use Rattle.termwiz_line.specs.declared.line.line.zones.ZoneRange.{ZoneRange}
use Rattle.termwiz_storage.specs.Stored.{visible}
use Rattle.termwiz_storage.specs.VisibleCell.{VisibleCell}
use Rattle.termwiz_line.specs.LineEq.{line_contents}
use Rattle.termwiz_line.specs.LineValue.{LineValue}
use Rattle.termwiz_line.specs.Pieces.{AreEqualBy}
use Rattle.termwiz_line.specs.Trim.{IsTrimmed}
use Rattle.termwiz_line.specs.Wraps.{AreLinesOf, FitsOrAlone, IsSpace, line_of, marked_pieces}
use Rattle.termwiz_line.specs.Zones.{AreZonesOf, IsBlank, semantic, zone_of}
use Rattle.termwiz_line.specs.CutLaws.{ZonesAreOne, WrapsAreAlike, WrapsAreOne}
use Rattle.termwiz_line.proofs.Cuts.{same_append, IsCut-same}
use Rattle.termwiz_line.proofs.Ends.{All-beginning, All-last, split_last}

-- a trimmed list can't go on with dull elements
no_dull_end : {A : Type 0} (IsDull : A → Type 0) (xs k l d e more : List A) → IsTrimmed IsDull xs l → All IsDull d → l ≡ k ++ more → d ≡ more ++ e → more ≡ []
no_dull_end IsDull xs k l d e [] t a p q = refl
no_dull_end {A} IsDull xs k l d e (y ∷ ys) t a p q =
    let s = split_last y ys in
    let ends : l ≡ (k ++ s.0) ++ s.1 ∷ [] = p ∙ ap (λ z. k ++ z) s.2 ∙ sym (append_assoc k s.0 (s.1 ∷ [])) in
    let all : All IsDull (s.0 ++ s.1 ∷ []) = subst (λ (z : List A). All IsDull z) s.2 (All-beginning IsDull (y ∷ ys) e (subst (λ (z : List A). All IsDull z) q a)) in
    absurd (t.counts (k ++ s.0) s.1 ends (All-last IsDull s.0 s.1 all))

trimmed_same : {A : Type 0} (IsDull : A → Type 0) (xs k l : List A) → IsTrimmed IsDull xs k → IsTrimmed IsDull xs l → k ≡ l
trimmed_same IsDull xs k l t u = elim (same_append k l t.dropped u.dropped (t.whole ∙ sym u.whole)) [
  | inl w ↦
      let n : w.0 ≡ [] = no_dull_end IsDull xs k l t.dropped u.dropped w.0 u t.dull w.1 w.2 in
      sym (w.1 ∙ ap (λ z. k ++ z) n ∙ append-nil k)
  | inr w ↦
      let n : w.0 ≡ [] = no_dull_end IsDull xs l k u.dropped t.dropped w.0 t u.dull w.1 w.2 in
      w.1 ∙ ap (λ z. l ++ z) n ∙ append-nil l
]

empty_or_not : {A : Type 0} (xs : List A) → (xs ≡ []) ⊎ (xs ≢ [])
empty_or_not [] = inl refl
empty_or_not (x ∷ xs) = inr (λ e. cc)

zones_of_same : (cells : List VisibleCell) (a b : List ZoneRange) → AreZonesOf cells a → AreZonesOf cells b → a ≡ b
zones_of_same cells a b x y = x.zones_are ∙ ap (map zone_of) (IsCut-same (AreEqualBy semantic) cells x.pieces y.pieces x.cut y.cut) ∙ sym y.zones_are

pub zones_are_one : ZonesAreOne
zones_are_one cells a b x y =
    let same : x.kept ≡ y.kept = trimmed_same IsBlank cells x.kept y.kept x.trimmed y.trimmed in
    elim (empty_or_not x.kept) [
      | inl e ↦ zones_of_same cells a b (x.of_all e) (y.of_all (sym same ∙ e))
      | inr n ↦ zones_of_same x.kept a b (x.of_kept n) (subst (λ (k : List VisibleCell). AreZonesOf k b) (sym same) (y.of_kept (λ e. n (same ∙ e))))
    ]

lines_of_same : (width seqno : ℕ) (cells : List VisibleCell) (a b : List LineValue) → AreLinesOf width seqno cells a → AreLinesOf width seqno cells b → a ≡ b
lines_of_same width seqno cells a b x y = x.lines_are ∙ ap (λ ps. map (line_of seqno) (marked_pieces ps)) (IsCut-same (FitsOrAlone width) cells x.pieces y.pieces x.cut y.cut) ∙ sym y.lines_are

pub wraps_are_one : WrapsAreOne
wraps_are_one width seqno line a b x y =
    let same : x.kept ≡ y.kept = trimmed_same IsSpace _ x.kept y.kept x.trimmed y.trimmed in
    elim (empty_or_not x.kept) [
      | inl e ↦ x.alone e ∙ sym (y.alone (sym same ∙ e))
      | inr n ↦ lines_of_same width seqno x.kept a b (x.cut n) (subst (λ (k : List VisibleCell). AreLinesOf width seqno k b) (sym same) (y.cut (λ e. n (same ∙ e))))
    ]

pub wraps_are_alike : WrapsAreAlike
wraps_are_alike width seqno one other a b e x y =
    let cells : one.cells ≡ other.cells = ap (λ c. c.cells) e in
    let same : x.kept ≡ y.kept = trimmed_same IsSpace _ x.kept y.kept x.trimmed (subst (λ (cs : List CellValue). IsTrimmed IsSpace (visible cs) y.kept) (sym cells) y.trimmed) in
    elim (empty_or_not x.kept) [
      | inl n ↦ ap (map line_contents) (x.alone n) ∙ ap (λ c. c ∷ []) e ∙ ap (map line_contents) (sym (y.alone (sym same ∙ n)))
      | inr n ↦ ap (map line_contents) (lines_of_same width seqno x.kept a b (x.cut n) (subst (λ (k : List VisibleCell). AreLinesOf width seqno k b) (sym same) (y.cut (λ e. n (same ∙ e)))))
    ]
