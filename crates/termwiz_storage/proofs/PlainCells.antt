-- Runs of plain cells: what they make of a text, and what is left after them.
use Rattle.std.proofs.Common.{◌≡◌, ℕ, zero, suc, ◌+◌, ◌<◌, ◌≤◌, ◌^◌, List, [], ◌∷◌, ◌++◌, length, take, drop, replicate, true, false, not, ◌&&◌, refl, ap, ap₂, sym, subst, ◌∙◌, append_assoc, add-zero, arith}
use Rattle.std.specs.List.{list_all}
use Rattle.std.proofs.lemmas.List.{append-nil}
use Rattle.std.specs.Prelude.{nat_le, nat_lt}
use Rattle.std.proofs.lemmas.Bool.{and_parts, not-true, lt-ltb, leb-true}
use Rattle.std.proofs.lemmas.Bool.Decides.{nat_tests}
use Rattle.std.proofs.lemmas.Str.{IsCharBoundary-at_seam, IsUtf8-append, IsUtf8-nil}
use Rattle.std.specs.Str.{IsUtf8}
use Rattle.std.specs.String.Boundary.{IsSplitPoint}
use Rattle.termwiz_text.specs.Plain.{is_plain, is_one_plain}
use Rattle.termwiz_text.proofs.Plain.{utf8_one}
use Rattle.termwiz_cell.specs.Attributes.{Attributes, attributes_eq, attributes_eq-Decides}
use Rattle.termwiz_cell.specs.CellValue.{CellValue, clean, is_control, is_wide, plain_cell}
use Rattle.termwiz_storage.specs.declared.line.clusterline.runs.Shape.{Shape}
use Rattle.termwiz_storage.specs.CellTexts.{cell_texts}
use Rattle.termwiz_storage.specs.Stored.{visible_from}
use Rattle.termwiz_storage.specs.VisibleCell.{at_column}
use Rattle.termwiz_storage.specs.Clustered.{cell_len, cells_from, IsClusteredText, IsWhole}
use Rattle.termwiz_storage.specs.PlainCells.{is_plain_with, ArePlain, IsPlainFirst}
use Rattle.termwiz_storage.proofs.Clustered.{IsSound-push, cells_from-push}
use Rattle.termwiz_storage.proofs.Whole.{behind_narrow}

-- the shape of a plain cell
abbrev pub plain_shape : Shape
plain_shape = record { bytes = 0; one_char = true; wide = false }

one_plain : (t : List ℕ) → is_one_plain t ≡ true → (b : ℕ) × (t ≡ b ∷ []) × (is_plain b ≡ true)
one_plain [] h = cc
one_plain (b ∷ []) h = (b, refl, h)
one_plain (b ∷ (d ∷ t)) h = cc

plain_is : (a : Attributes) (c : CellValue) → is_plain_with a c ≡ true → (b : ℕ) × (c ≡ plain_cell b a) × (is_plain b ≡ true)
plain_is a c h =
    let parts = and_parts (not (is_wide c)) (is_one_plain c.text && attributes_eq c.attrs a) h in
    let rest = and_parts (is_one_plain c.text) (attributes_eq c.attrs a) parts.1 in
    let text = one_plain c.text rest.0 in
    let narrow : c.wide ≡ false = not-true c.wide parts.0 in
    let attrs : c.attrs ≡ a = (attributes_eq-Decides c.attrs a).0 rest.1 in
    (text.0, (λ i. record { text = text.1 i; wide = narrow i; attrs = attrs i }), text.2)

-- the walk of a list that begins with a plain cell
pub plain_first : (a : Attributes) (i b : ℕ) (c : CellValue) (cs : List CellValue) → is_plain_with a c ≡ true → c.text ≡ b ∷ [] → IsPlainFirst a (visible_from i 0 (c ∷ cs)) b (visible_from (i + 1) 0 cs)
plain_first a i b c cs h e =
    let parts = plain_is a c h in
    let same : parts.0 ≡ b = let texts : parts.0 ∷ [] ≡ b ∷ [] = sym (ap (λ (d : CellValue). d.text) parts.1) ∙ e in cc in
    record {
      column = i;
      plain = ap is_plain (sym same) ∙ parts.2;
      first = ap (λ (d : CellValue). visible_from i 0 (d ∷ cs)) parts.1 ∙ ap (λ t. at_column i (plain_cell t a) ∷ visible_from (i + 1) 0 cs) same;
    }

clean_plain : (b : ℕ) → is_plain b ≡ true → clean (b ∷ []) ≡ b ∷ []
clean_plain b h =
    let parts = and_parts (nat_le 0x20 b) (nat_le b 0x7E) h in
    let low : 32 ≤ b = leb-true 32 b parts.0 in
    let high : b ≤ 126 = leb-true b 126 parts.1 in
    let no : is_control b ≡ false = grind (arith, nat_tests) in
    rw no refl

len_plain : (b : ℕ) → is_plain b ≡ true → cell_len plain_shape (b ∷ []) ≡ 1
len_plain b h =
    let high : b ≤ 126 = leb-true b 126 (and_parts (nat_le 0x20 b) (nat_le b 0x7E) h).1 in
    let low : nat_lt b 128 ≡ true = lt-ltb b 128 (omega arith) in
    rw low refl

-- a text with one more run, of k cells
pub record HasRun (t : List ℕ) (ss : List Shape) (ps : List Attributes) (k m : ℕ) (a : Attributes) (cs old : List CellValue) : Type 0 where
  pub sound : IsClusteredText (t ++ cell_texts cs) (ss ++ replicate k plain_shape) (ps ++ replicate k a) m
  pub cells : cells_from (t ++ cell_texts cs) (ss ++ replicate k plain_shape) (ps ++ replicate k a) ≡ old ++ cs

has_run : (cs : List CellValue) (t : List ℕ) (ss : List Shape) (ps : List Attributes) (n m : ℕ) (a : Attributes) (old : List CellValue) → ArePlain a cs → IsClusteredText t ss ps n → cells_from t ss ps ≡ old → m ≡ n + length cs → m < 2 ^ 64 → HasRun t ss ps (length cs) m a cs old
has_run [] t ss ps n m a old p h e k l = record {
  sound = rw (append-nil t, append-nil ss, append-nil ps, k, add-zero) h;
  cells = rw (append-nil t, append-nil ss, append-nil ps, append-nil old) e;
}
has_run (c ∷ cs) t ss ps n m a old p h e k l =
    let parts = and_parts (is_plain_with a c) (list_all (is_plain_with a) cs) p in
    let own = plain_is a c parts.0 in
    let b : ℕ = own.0 in
    let text : c.text ≡ b ∷ [] = ap (λ (c : CellValue). c.text) own.1 in
    let len = len_plain b own.2 in
    let sound : IsClusteredText (t ++ b ∷ []) (ss ++ plain_shape ∷ []) (ps ++ a ∷ []) (n + 1) = IsSound-push t (b ∷ []) ss plain_shape ps a n (n + 1) (utf8_one b own.2) (clean_plain b own.2) h len refl (omega arith) in
    let cells : cells_from (t ++ b ∷ []) (ss ++ plain_shape ∷ []) (ps ++ a ∷ []) ≡ old ++ c ∷ [] = cells_from-push t (b ∷ []) ss plain_shape ps a h.cuts h.aligned len ∙ ap₂ (λ (x : List CellValue) (y : CellValue). x ++ y ∷ []) e (sym own.1) in
    let more : HasRun (t ++ b ∷ []) (ss ++ plain_shape ∷ []) (ps ++ a ∷ []) (length cs) m a cs (old ++ c ∷ []) = has_run cs (t ++ b ∷ []) (ss ++ plain_shape ∷ []) (ps ++ a ∷ []) (n + 1) m a (old ++ c ∷ []) parts.1 sound cells (omega arith) l in
    let texts : (t ++ b ∷ []) ++ cell_texts cs ≡ t ++ cell_texts (c ∷ cs) = append_assoc t (b ∷ []) (cell_texts cs) ∙ ap (λ (z : List ℕ). t ++ (z ++ cell_texts cs)) (sym text) in
    let shapes : (ss ++ plain_shape ∷ []) ++ replicate (length cs) plain_shape ≡ ss ++ replicate (length (c ∷ cs)) plain_shape = append_assoc ss (plain_shape ∷ []) (replicate (length cs) plain_shape) in
    let attrs : (ps ++ a ∷ []) ++ replicate (length cs) a ≡ ps ++ replicate (length (c ∷ cs)) a = append_assoc ps (a ∷ []) (replicate (length cs) a) in
    record {
      sound = rw (← texts, ← shapes, ← attrs) more.sound;
      cells = rw (← texts, ← shapes, ← attrs) (more.cells ∙ append_assoc old (c ∷ []) cs);
    }

pub has_plain_run : (cs : List CellValue) (t : List ℕ) (ss : List Shape) (ps : List Attributes) (n k : ℕ) (a : Attributes) (old : List CellValue) → ArePlain a cs → IsClusteredText t ss ps n → cells_from t ss ps ≡ old → length cs ≡ k → n + k < 2 ^ 64 → HasRun t ss ps k (n + k) a cs old
has_plain_run cs t ss ps n k a old p h e l f =
    subst (λ (j : ℕ). HasRun t ss ps j (n + k) a cs old) l (has_run cs t ss ps n (n + k) a old p h e (omega arith) f)

-- what is left after plain cells
pub whole_behind : (n : ℕ) (cs : List CellValue) (a : Attributes) → ArePlain a (take n cs) → IsWhole cs → IsWhole (drop n cs)
whole_behind zero cs a p h = h
whole_behind (suc n) [] a p h = h
whole_behind (suc n) (c ∷ cs) a p h =
    let parts = and_parts (is_plain_with a c) (list_all (is_plain_with a) (take n cs)) p in
    let narrow : is_wide c ≡ false = ap (λ (c : CellValue). c.wide) (plain_is a c parts.0).1 in
    whole_behind n cs a parts.1 (behind_narrow c cs narrow h)

-- each has one byte
pub length-plain_texts : (cs : List CellValue) (a : Attributes) → ArePlain a cs → length (cell_texts cs) ≡ length cs
length-plain_texts [] a p = refl
length-plain_texts (c ∷ cs) a p =
    let parts = and_parts (is_plain_with a c) (list_all (is_plain_with a) cs) p in
    let own = plain_is a c parts.0 in
    let text : c.text ≡ own.0 ∷ [] = ap (λ (c : CellValue). c.text) own.1 in
    let more : length (cell_texts cs) ≡ length cs = length-plain_texts cs a parts.1 in
    rw text (ap suc more)

utf8_plain_texts : (cs : List CellValue) (a : Attributes) → ArePlain a cs → IsUtf8 (cell_texts cs)
utf8_plain_texts [] a p = IsUtf8-nil
utf8_plain_texts (c ∷ cs) a p =
    let parts = and_parts (is_plain_with a c) (list_all (is_plain_with a) cs) p in
    let own = plain_is a c parts.0 in
    let text : c.text ≡ own.0 ∷ [] = ap (λ (c : CellValue). c.text) own.1 in
    IsUtf8-append c.text (cell_texts cs) (subst IsUtf8 (sym text) (utf8_one own.0 own.2)) (utf8_plain_texts cs a parts.1)

-- where the texts of plain cells begin in a longer text
pub split_before_plain : (t : List ℕ) (cs : List CellValue) (a : Attributes) → ArePlain a cs → IsSplitPoint (t ++ cell_texts cs) (length t)
split_before_plain t cs a p =
    let seam = IsCharBoundary-at_seam (t ++ cell_texts cs) t (cell_texts cs) refl (utf8_plain_texts cs a p) in
    (seam.0, λ _ l b. seam.1 l b)
