-- Rows that keep their flags and stay vectors.
use Rattle.std.proofs.Common.{◌≡◌, ℕ, ◌<◌, true, List, length, get_or, set, sym, ◌∙◌, ap, subst}
use Rattle.std.proofs.lemmas.List.{length-map, get_or-map, set-get_or, map-set}
use Rattle.std.proofs.lemmas.List.Elements.{All-get_or, All-set}
use Rattle.termwiz_line.specs.LineFlags.{LineFlags, no_flags}
use Rattle.termwiz_line.specs.LineValue.{LineValue, IsEdited, IsUnchanged}
use Rattle.termwiz_cell.specs.CellValue.{CellValue}
use Rattle.termwiz_screen.specs.ScreenValue.{cells_of}
use Rattle.termwiz_screen.specs.Sides.{AreVectors, KeepsSide, KeepSides, row_flags}

-- of one row
pub side-edited : {old new : LineValue} {cs : List CellValue} {n : ℕ} → IsEdited old cs n new → KeepsSide old new
side-edited e = record { flags = e.flags; vector = e.vector }

pub side-unchanged : {old new : LineValue} → IsUnchanged old new → KeepsSide old new
side-unchanged e = record { flags = e.flags; vector = e.vector }

-- a vector that is unchanged is the same line
pub unchanged-vector : {old new : LineValue} → old.is_vector ≡ true → IsUnchanged old new → new ≡ old
unchanged-vector v e = λ i. record {
  cells = e.cells i;
  seqno = e.number i;
  flags = e.flags i;
  is_vector = (e.vector v ∙ sym v) i;
}

-- of all rows
pub sides-more : {xs ys zs : List LineValue} → KeepSides xs ys → KeepSides ys zs → KeepSides xs zs
sides-more h k = record { flags = k.flags ∙ h.flags; vectors = λ v. k.vectors (h.vectors v) }

-- one row is written anew
pub sides-set : (ls : List LineValue) (i : ℕ) (l m : LineValue) → i < length ls → l ≡ get_or ls i l → KeepsSide l m → KeepSides ls (set ls i m)
sides-set ls i l m h e k = record {
  flags = map-set (λ (v : LineValue). v.flags) ls i m
      ∙ ap (set (row_flags ls) i) (k.flags ∙ sym (get_or-map (λ (v : LineValue). v.flags) ls i l no_flags h ∙ ap (λ (v : LineValue). v.flags) (sym e)))
      ∙ set-get_or (row_flags ls) i no_flags;
  vectors = λ v. record {
    each =
        All-set (λ (x : LineValue). x.is_vector ≡ true) ls i m
        (k.vector (subst (λ (x : LineValue). x.is_vector ≡ true) (sym e) (All-get_or (λ (x : LineValue). x.is_vector ≡ true) ls i l h v.each))) v.each;
  };
}

-- a vector is put back unchanged
pub set-unchanged : (ls : List LineValue) (i : ℕ) (l m : LineValue) → i < length ls → l ≡ get_or ls i l → AreVectors ls → IsUnchanged l m → set ls i m ≡ ls
set-unchanged ls i l m h e v u =
    let vector : l.is_vector ≡ true = subst (λ (x : LineValue). x.is_vector ≡ true) (sym e) (All-get_or (λ (x : LineValue). x.is_vector ≡ true) ls i l h v.each) in
    ap (set ls i) (unchanged-vector vector u ∙ e) ∙ set-get_or ls i l

-- one row gets other flags
pub flags-set : (ls : List LineValue) (i : ℕ) (l m : LineValue) (f : LineFlags → LineFlags) → i < length ls → l ≡ get_or ls i l → m.flags ≡ f l.flags → row_flags (set ls i m) ≡ set (row_flags ls) i (f (get_or (row_flags ls) i no_flags))
flags-set ls i l m f h e k =
    map-set (λ (v : LineValue). v.flags) ls i m
    ∙ ap (set (row_flags ls) i) (k ∙ ap f (sym (get_or-map (λ (v : LineValue). v.flags) ls i l no_flags h ∙ ap (λ (v : LineValue). v.flags) (sym e))))

-- as many flags as rows
pub sides-full : (ls : List LineValue) {h : ℕ} → length (cells_of ls) ≡ h → length (row_flags ls) ≡ h
sides-full ls e = length-map ls (λ (l : LineValue). l.flags) ∙ sym (length-map ls (λ (l : LineValue). l.cells)) ∙ e
