-- Cells that are set one after another.
use Rattle.std.proofs.Common.{◌≡◌, ◌≢◌, ◌⊎◌, inl, inr, ℕ, ◌+◌, suc, max, true, false, List, [], ◌∷◌, ◌++◌, length, refl, sym, ◌∙◌, ap, subst, arith, append-nil, append_assoc}
use Rattle.std.specs.Prelude.{nat_lt}
use Rattle.std.proofs.lemmas.Bool.{lt-ltb}
use Rattle.std.proofs.lemmas.List.{length-append}
use Rattle.std.specs.List.{concat}
use Rattle.std.specs.Str.{IsUtf8}
use Rattle.unicode_segmentation.specs.Grapheme.{graphemes, is_grapheme_break}
use Rattle.unicode_segmentation.proofs.SegmentsLemmas.{concat-segments}
use Rattle.termwiz_cell.specs.CellValue.{CellValue, columns}
use Rattle.termwiz_storage.specs.Edits.{with_half, with_halves}
use Rattle.termwiz_storage.specs.Stored.{set_cell}
use Rattle.termwiz_storage.proofs.SetCell.{length-set_cell}
use Rattle.termwiz_storage.specs.VisibleCell.{VisibleCell}
use Rattle.termwiz_line.specs.Filled.{taken}
use Rattle.termwiz_line.specs.LineValue.{LineValue, IsEdited, IsUnchanged}
use Rattle.termwiz_line.specs.Texts.{IsPartlyOverlaid, Overlays, overlaid, at_columns}
use Rattle.termwiz_line.proofs.Fills.{taken-more}

-- halves don't depend on the columns
pub halves-anywhere : (x y : ℕ) (cs : List CellValue) → with_halves (at_columns x cs) ≡ with_halves (at_columns y cs)
halves-anywhere x y [] = refl
halves-anywhere x y (c ∷ cs) = ap (λ (z : List CellValue). with_half c ++ z) (halves-anywhere (x + columns c) (y + columns c) cs)

-- a cell is pushed with its half
pub pushed-more : (done : List CellValue) {new all : List CellValue} (c : CellValue) (cs : List CellValue) → new ≡ done ++ with_half c → done ++ with_halves (at_columns 0 (c ∷ cs)) ≡ all → new ++ with_halves (at_columns 0 cs) ≡ all
pushed-more done {new} {all} c cs e h =
    ap (λ (z : List CellValue). z ++ with_halves (at_columns 0 cs)) e
    ∙ append_assoc done (with_half c) (with_halves (at_columns 0 cs))
    ∙ ap (λ (z : List CellValue). done ++ (with_half c ++ z)) (halves-anywhere 0 (0 + columns c) cs)
    ∙ h

overlaid-more : (ps : List VisibleCell) (p : VisibleCell) (cs : List CellValue) → overlaid (ps ++ p ∷ []) cs ≡ set_cell p.column p.cell (overlaid ps cs)
overlaid-more [] p cs = refl
overlaid-more (q ∷ ps) p cs = overlaid-more ps p (set_cell q.column q.cell cs)

-- some first ones of the cells are set, and these are left
pub record IsOverlaying (old : LineValue) (all left : List VisibleCell) (seqno : ℕ) (now : LineValue) : Type 0 where
  pub set : List VisibleCell
  pub whole : set ++ left ≡ all
  pub overlays : Overlays old set seqno now

pub overlaying-none : (old : LineValue) (all : List VisibleCell) (seqno : ℕ) → IsOverlaying old all all seqno old
overlaying-none old all seqno = record { set = []; whole = refl; overlays = record { cells_are = refl; number = refl; flags = refl; vector = λ v. v } }

pub overlaying-more : {old now new : LineValue} {all left : List VisibleCell} {seqno : ℕ} (p : VisibleCell)
    → IsOverlaying old all (p ∷ left) seqno now → IsEdited now (set_cell p.column p.cell now.cells) seqno new → IsOverlaying old all left seqno new
overlaying-more {old} {now} {new} {all} {left} {seqno} p h t = record {
  set = h.set ++ p ∷ [];
  whole = append_assoc h.set (p ∷ []) left ∙ h.whole;
  overlays = record {
    cells_are = t.cells_are ∙ ap (set_cell p.column p.cell) h.overlays.cells_are ∙ sym (overlaid-more h.set p old.cells);
    number = (
        let more : length (h.set ++ p ∷ []) ≡ suc (length h.set) = length-append h.set (p ∷ []) ∙ omega arith in
        let some : nat_lt 0 (length (h.set ++ p ∷ [])) ≡ true = lt-ltb 0 _ (omega (arith, more)) in
        let taken-is : taken (length (h.set ++ p ∷ [])) old.seqno seqno ≡ max old.seqno seqno = rw some refl in
        t.number ∙ ap (λ n. max n seqno) h.overlays.number ∙ taken-more (length h.set) old.seqno seqno ∙ sym taken-is
        );
    flags = t.flags ∙ h.overlays.flags;
    vector = λ v. t.vector (h.overlays.vector v);
  };
}

pub overlaying-partly : {old now new : LineValue} {all left : List VisibleCell} {seqno : ℕ} → IsOverlaying old all left seqno now → IsUnchanged now new → IsPartlyOverlaid old all seqno new
overlaying-partly {old} {now} {new} {all} {left} {seqno} h t = record {
  set = h.set;
  left = left;
  whole = h.whole;
  overlays = record {
    cells_are = t.cells ∙ h.overlays.cells_are;
    number = t.number ∙ h.overlays.number;
    flags = t.flags ∙ h.overlays.flags;
    vector = λ v. t.vector (h.overlays.vector v);
  };
}

pub overlaying-all : {old now : LineValue} {all : List VisibleCell} {seqno : ℕ} → IsOverlaying old all [] seqno now → Overlays old all seqno now
overlaying-all {old} {now} {all} {seqno} h = subst (λ ps. Overlays old ps seqno now) (sym (append-nil h.set) ∙ h.whole) h.overlays

-- ---- the form that is left

-- the form of a line over which graphemes are laid from a column on, of which some are left
pub record IsLaid (old : LineValue) (start column : ℕ) (all left : List (List ℕ)) (now : LineValue) : Type 0 where
  pub text : old.is_vector ≡ false → start ≡ length old.cells → now.is_vector ≡ false
  pub at_end : start ≡ length old.cells → column ≡ length now.cells
  pub elsewhere : start ≢ length old.cells → ((left ≡ all) × (column ≢ length now.cells)) ⊎ (now.is_vector ≡ true)

pub IsLaid-none : (old : LineValue) (start : ℕ) (all left : List (List ℕ)) → left ≡ all → IsLaid old start start all left old
IsLaid-none old start all left e = record { text = λ v p. v; at_end = λ p. p; elsewhere = λ p. inl (e, p) }

pub IsLaid-more : {old now new : LineValue} {start column end seqno : ℕ} {all left rest : List (List ℕ)} (c : CellValue)
    → end ≡ column + columns c → IsLaid old start column all left now → IsEdited now (set_cell column c now.cells) seqno new
    → (now.is_vector ≡ false → column ≡ length now.cells → new.is_vector ≡ false) → (column ≢ length now.cells → new.is_vector ≡ true)
    → IsLaid old start end all rest new
IsLaid-more {old} {now} {new} {start} {column} {end} c e h t appended made = record {
  text = λ v p. appended (h.text v p) (h.at_end p);
  at_end = λ p.
      let here : column ≡ length now.cells = h.at_end p in
      let l : length new.cells ≡ max (length now.cells) (column + columns c) = ap length t.cells_are ∙ length-set_cell column c now.cells in
      omega arith;
  elsewhere = λ p. elim (h.elsewhere p) [
    | inl first ↦ inr (made first.1)
    | inr v ↦ inr (t.vector v)
  ];
}

pub IsLaid-all : {old now : LineValue} {start column : ℕ} {all left : List (List ℕ)} → left ≡ [] → all ≢ [] → IsLaid old start column all left now → start ≢ length old.cells → now.is_vector ≡ true
IsLaid-all e some h p = elim (h.elsewhere p) [
  | inl first ↦ absurd (some (sym first.0 ∙ e))
  | inr v ↦ v
]

-- a text that isn't empty has graphemes
pub graphemes-some : (text : List ℕ) → IsUtf8 text → text ≢ [] → graphemes true text ≢ []
graphemes-some text u some e = some (sym (concat-segments (is_grapheme_break true) text u) ∙ ap concat e)
