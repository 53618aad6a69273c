-- Rows that are all vectors of one length, in another width and back.
use Rattle.std.proofs.Common.{◌≡◌, ℕ, ◌+◌, ◌-◌, ◌<◌, ◌≤◌, true, Bool, List, [], ◌∷◌, ◌++◌, length, take, drop, get_or, set, map, refl, sym, ◌∙◌, ap, ap₂, subst, arith, length-take}
use Rattle.std.specs.List.{list_all}
use Rattle.std.proofs.lemmas.Bool.{and_from, and_parts, eqb-true}
use Rattle.std.proofs.lemmas.List.{get_or-append_right, get_or-drop, length-map, set-get_or, take_all, take-append-drop, take-append-le}
use Rattle.std.proofs.lemmas.List.Elements.{All-get_or, All-take}
use Rattle.std.proofs.lemmas.List.Sums.{AllPass-from_list_all, list_all-from_AllPass}
use Rattle.std.proofs.lemmas.Slice.{drop-append-drop}
use Rattle.termwiz_cell.specs.CellValue.{CellValue}
use Rattle.termwiz_line.specs.LineValue.{LineValue}
use Rattle.termwiz_screen.specs.Resized.{cuts_in_place, in_width, is_vector_of}
use Rattle.termwiz_screen.proofs.RowChanges.Grown.{cuts, length-resized, resized-all, resized-back}

-- one line
module _ (k w : ℕ) (l : LineValue) (a : is_vector_of k l ≡ true) where
  vector : l.is_vector ≡ true
  vector = (and_parts _ _ a).0

  long : length l.cells ≡ k
  long = eqb-true _ _ (and_parts _ _ a).1

  cuts_alike : w ≤ k → cuts_in_place w l ≡ true
  cuts_alike e = cuts w l vector (omega (arith, long))

  stays_alike : w ≡ k → in_width w l ≡ l
  stays_alike e = ap₂ (λ (cs : List CellValue) (b : Bool). record l { cells = cs; is_vector = b }) (resized-all l.cells w (omega (arith, long))) (sym vector)

  cuts_padded : k < w → cuts_in_place k (in_width w l) ≡ true
  cuts_padded e = cuts k (in_width w l) refl (omega (arith, length-resized w l.cells))

  cut_padded : k < w → in_width k (in_width w l) ≡ l
  cut_padded e = ap₂ (λ (cs : List CellValue) (b : Bool). record l { cells = cs; is_vector = b }) (rw (sym long) (resized-back w l.cells (omega (arith, long)))) (sym vector)

-- all lines
pub all_cut_alike : (k w : ℕ) (ls : List LineValue) → w ≤ k → list_all (is_vector_of k) ls ≡ true → list_all (cuts_in_place w) ls ≡ true
all_cut_alike k w [] e a = refl
all_cut_alike k w (l ∷ ls) e a =
    let each = and_parts (is_vector_of k l) (list_all (is_vector_of k) ls) a in
    and_from _ _ (cuts_alike k w l each.0 e) (all_cut_alike k w ls e each.1)

pub all_stay_alike : (k w : ℕ) (ls : List LineValue) → w ≡ k → list_all (is_vector_of k) ls ≡ true → map (in_width w) ls ≡ ls
all_stay_alike k w [] e a = refl
all_stay_alike k w (l ∷ ls) e a =
    let each = and_parts (is_vector_of k l) (list_all (is_vector_of k) ls) a in
    ap₂ (λ (m : LineValue) (ms : List LineValue). m ∷ ms) (stays_alike k w l each.0 e) (all_stay_alike k w ls e each.1)

pub all_cut_padded : (k w : ℕ) (ls : List LineValue) → k < w → list_all (is_vector_of k) ls ≡ true → list_all (cuts_in_place k) (map (in_width w) ls) ≡ true
all_cut_padded k w [] e a = refl
all_cut_padded k w (l ∷ ls) e a =
    let each = and_parts (is_vector_of k l) (list_all (is_vector_of k) ls) a in
    and_from _ _ (cuts_padded k w l each.0 e) (all_cut_padded k w ls e each.1)

pub padded_back : (k w : ℕ) (ls : List LineValue) → k < w → list_all (is_vector_of k) ls ≡ true → map (in_width k) (map (in_width w) ls) ≡ ls
padded_back k w [] e a = refl
padded_back k w (l ∷ ls) e a =
    let each = and_parts (is_vector_of k l) (list_all (is_vector_of k) ls) a in
    ap₂ (λ (m : LineValue) (ms : List LineValue). m ∷ ms) (cut_padded k w l each.0 e) (padded_back k w ls e each.1)

-- rows are padded up to row i
module _ (k w i : ℕ) (old rows : List LineValue) (row : LineValue) (inside : i < length old) (longer : k < w) (a : list_all (is_vector_of k) old ≡ true) (is : rows ≡ map (in_width w) (take i old) ++ drop i old) (read : row ≡ get_or rows i row) where
  many : length (map (in_width w) (take i old)) ≡ i
  many = length-map (take i old) (in_width w) ∙ length-take i old ∙ omega arith

  -- row i is as it was
  read_old : row ≡ get_or old i row
  read_old =
      let at : i + (i - i) ≡ i = omega arith in
      read ∙ ap (λ (ls : List LineValue). get_or ls i row) is ∙ get_or-append_right (map (in_width w) (take i old)) (drop i old) i i row many (omega arith) ∙ get_or-drop i old (i - i) row ∙ ap (λ j. get_or old j row) at

  pub row_is_vector : row.is_vector ≡ true
  row_is_vector =
      let one : is_vector_of k (get_or old i row) ≡ true = All-get_or (λ (l : LineValue). is_vector_of k l ≡ true) old i row inside (AllPass-from_list_all (is_vector_of k) old a) in
      subst (λ (l : LineValue). l.is_vector ≡ true) (sym read_old) (and_parts _ _ one).0

  taken : take i rows ≡ map (in_width w) (take i old)
  taken = ap (take i) is ∙ take-append-le i (map (in_width w) (take i old)) (drop i old) (omega (arith, many)) ∙ take_all i (map (in_width w) (take i old)) (omega (arith, many))

  left : drop i rows ≡ drop i old
  left = ap (drop i) is ∙ drop-append-drop i old (map (in_width w) (take i old)) i (omega arith) many

  first_alike : list_all (is_vector_of k) (take i old) ≡ true
  first_alike = list_all-from_AllPass (is_vector_of k) (take i old) (All-take (λ (l : LineValue). is_vector_of k l ≡ true) i old (AllPass-from_list_all (is_vector_of k) old a))

  -- memory is refused for it
  module _ (new : LineValue) (same : new ≡ row) where
    unchanged : set rows i new ≡ rows
    unchanged = ap (set rows i) (same ∙ read) ∙ set-get_or rows i row

    pub first_cut : list_all (cuts_in_place k) (take i (set rows i new)) ≡ true
    first_cut = ap (λ (ls : List LineValue). list_all (cuts_in_place k) (take i ls)) unchanged ∙ ap (list_all (cuts_in_place k)) taken ∙ all_cut_padded k w (take i old) longer first_alike

    pub restored : (cut : List LineValue) → cut ≡ map (in_width k) (take i (set rows i new)) → cut ++ drop i (set rows i new) ≡ old
    restored cut e =
        let first : cut ≡ take i old = e ∙ ap (λ (ls : List LineValue). map (in_width k) (take i ls)) unchanged ∙ ap (map (in_width k)) taken ∙ padded_back k w (take i old) longer first_alike in
        ap₂ (λ (xs ys : List LineValue). xs ++ ys) first (ap (drop i) unchanged ∙ left) ∙ take-append-drop i old
