-- Rows that are written cell by cell, with spaces held back.
use Rattle.std.proofs.Common.{◌≡◌, ℕ, zero, suc, ◌+◌, ◌-◌, ◌<◌, Bool, true, false, cond, not, ◌&&◌, List, [], ◌∷◌, ◌++◌, length, refl, sym, ap, ap₂, ◌∙◌, subst, arith, ltb-true, append_assoc, append-nil, inl, inr, bytes_eq}
use Rattle.termwiz_storage.specs.VisibleCell.{VisibleCell, at_column}
use Rattle.std.specs.Prelude.{nat_lt}
use Rattle.std.specs.Cmp.Lexicographic.{bytes_decides}
use Rattle.std.proofs.lemmas.Bool.{cases_Bool, and_from, and_left, and_right, and_parts, cond-false, true≢false, lt-ltb, ltb-false}
use Rattle.std.proofs.lemmas.List.{replicate-append-replicate}
use Rattle.std.proofs.lemmas.List.Sums.{fold-append}
use Rattle.termwiz_cell.specs.Attributes.{Attributes, attributes_eq, attributes_eq-Decides, default_attributes, has_only_background}
use Rattle.termwiz_cell.specs.CellValue.{blank_of, space}
use Rattle.termwiz_cell.specs.ChangeValue as change
use Rattle.termwiz_cell.specs.ChangeValue.{ChangeValue, is_text}
use Rattle.termwiz_line.specs.GrowingText.{ends_printable}
use Rattle.termwiz_line.specs.LastChange.{last_is}
use Rattle.termwiz_line.specs.Entries.{Penned, pen_entry, add_text, cell_out, cells_out, is_space_of, all_spaces, trimmed, pen_behind, is_empty, clear_entry, with_tail, ends_plain, row_entries}
use Rattle.termwiz_line.specs.Writing.{Writing, behind, and_cells, ends_in_space, spaces_of, IsWritten}
use Rattle.termwiz_line.proofs.EntryLists.{trimmed_push, row_entries_plain}
use Rattle.termwiz_line.proofs.JoinedTexts.{add_text_behind, ends_with_added, ends_with_plain}

-- a cell more at the end
pub ends_push : (a : Attributes) (ps : List VisibleCell) (p : VisibleCell) → ends_in_space a (ps ++ p ∷ []) ≡ is_space_of a p
ends_push a [] p = refl
ends_push a (q ∷ []) p = refl
ends_push a (q ∷ (r ∷ ps)) p = ends_push a (r ∷ ps) p

all_not : (a : Attributes) (p : VisibleCell) (ps : List VisibleCell) → ends_in_space a (p ∷ ps) ≡ false → all_spaces a (p ∷ ps) ≡ false
all_not a p [] h = and_left (is_space_of a p) true h
all_not a p (q ∷ ps) h = and_right (is_space_of a p) (all_spaces a (q ∷ ps)) (all_not a q ps h)

-- nothing is left out where the last cell is no such space
pub untrimmed : (a : Attributes) (ps : List VisibleCell) → ends_in_space a ps ≡ false → trimmed a ps ≡ ps
untrimmed a [] h = refl
untrimmed a (p ∷ []) h = cond-false (all_spaces a (p ∷ [])) [] (p ∷ []) (all_not a p [] h)
untrimmed a (p ∷ (q ∷ ps)) h = cond-false (all_spaces a (p ∷ (q ∷ ps))) [] (p ∷ trimmed a (q ∷ ps)) (all_not a p (q ∷ ps) h) ∙ ap (λ l. p ∷ l) (untrimmed a (q ∷ ps) h)

-- the text and the attributes of a space
space_parts : (a : Attributes) (p : VisibleCell) → is_space_of a p ≡ true → (p.cell.text ≡ space) × (p.cell.attrs ≡ a)
space_parts a p h =
    let parts = and_parts (bytes_eq p.cell.text space) (attributes_eq p.cell.attrs a) h in
    ((bytes_decides p.cell.text space).0 parts.0, (attributes_eq-Decides p.cell.attrs a).0 parts.1)

-- printing sees the text and the attributes alone
pub cell_out_like : (d : Penned) (p q : VisibleCell) → p.cell.text ≡ q.cell.text → p.cell.attrs ≡ q.cell.attrs → cell_out d p ≡ cell_out d q
cell_out_like d p q t a i = record { entries = add_text (d.entries ++ pen_entry d.pen (a i)) (t i); pen = a i }

pub and_cells-append : (d : Penned) (ps qs : List VisibleCell) → and_cells d (ps ++ qs) ≡ and_cells (and_cells d ps) qs
and_cells-append d ps qs = fold-append cell_out d ps qs

-- spaces that stand in a row are printed as any others
and_spaces : (d : Penned) (a : Attributes) (ps : List VisibleCell) → all_spaces a ps ≡ true → and_cells d ps ≡ and_cells d (spaces_of (length ps) a)
and_spaces d a [] h = refl
and_spaces d a (p ∷ ps) h =
    let parts = and_parts (is_space_of a p) (all_spaces a ps) h in
    let this = space_parts a p parts.0 in
    ap (λ e. and_cells e ps) (cell_out_like d p (at_column 0 (blank_of a)) this.0 this.1) ∙ and_spaces (cell_out d (at_column 0 (blank_of a))) a ps parts.1

more_spaces : (m n : ℕ) (a : Attributes) → spaces_of (m + n) a ≡ spaces_of m a ++ spaces_of n a
more_spaces m n a = sym (replicate-append-replicate m n (at_column 0 (blank_of a)))

pub trimmed_spaces : (a : Attributes) (ps qs : List VisibleCell) → all_spaces a qs ≡ true → trimmed a (ps ++ qs) ≡ trimmed a ps
trimmed_spaces a ps [] h = ap (trimmed a) (append-nil ps)
trimmed_spaces a ps (q ∷ qs) h =
    let parts = and_parts (is_space_of a q) (all_spaces a qs) h in
    ap (trimmed a) (sym (append_assoc ps (q ∷ []) qs)) ∙ trimmed_spaces a (ps ++ q ∷ []) qs parts.1 ∙ trimmed_push a ps q parts.0

ends_in_spaces : (a b : Attributes) (ps qs : List VisibleCell) → all_spaces a qs ≡ true → 0 < length qs → ends_in_space b (ps ++ qs) ≡ attributes_eq a b
ends_in_spaces a b ps [] h l = absurd (omega arith)
ends_in_spaces a b ps (q ∷ []) h l =
    let this = space_parts a q (and_parts (is_space_of a q) true h).0 in
    ends_push b ps q ∙ ap₂ (λ t c. bytes_eq t space && attributes_eq c b) this.0 this.1
ends_in_spaces a b ps (q ∷ (r ∷ qs)) h l =
    ap (ends_in_space b) (sym (append_assoc ps (q ∷ []) (r ∷ qs))) ∙ ends_in_spaces a b (ps ++ q ∷ []) (r ∷ qs) (and_parts (is_space_of a q) _ h).1 (omega arith)

held_is : (n : ℕ) (b : Bool) → 0 < n → (nat_lt 0 n && b) ≡ b
held_is n b l = ap (λ t. t && b) (lt-ltb 0 n l)

-- one of the spaces is printed
pub one_space : (d : Penned) (n : ℕ) (a : Attributes) → 0 < n → and_cells (cell_out d (at_column 0 (blank_of a))) (spaces_of (n - 1) a) ≡ and_cells d (spaces_of n a)
one_space d zero a l = absurd (omega arith)
one_space d (suc n) a l = let one : suc n - 1 ≡ n = omega arith in ap (λ k. and_cells (cell_out d (at_column 0 (blank_of a))) (spaces_of k a)) one

-- nothing is written yet
pub written_nothing : (w : Writing) → w.spaces ≡ 0 → IsWritten w.printed [] w
written_nothing w e = record {
  printed = refl;
  whole = ap (λ n. and_cells w.printed (spaces_of n w.space_attrs)) e;
  held = λ a. sym (ap (λ n. nat_lt 0 n && attributes_eq w.space_attrs a) e);
}

module _ (from : Penned) (cells : List VisibleCell) (w v : Writing) (z : IsWritten from cells w) where
  -- a cell that is no space
  pub written_cell : (p : VisibleCell) → bytes_eq p.cell.text space ≡ false → v.spaces ≡ 0 → v.printed ≡ cell_out (and_cells w.printed (spaces_of w.spaces w.space_attrs)) p → IsWritten from (cells ++ p ∷ []) v
  written_cell p n e h = record {
    printed = all ∙ ap (and_cells from) (sym (untrimmed v.space_attrs (cells ++ p ∷ []) (ends v.space_attrs)));
    whole = ap (λ k. and_cells v.printed (spaces_of k v.space_attrs)) e ∙ all;
    held = λ a. ends a ∙ sym (ap (λ k. nat_lt 0 k && attributes_eq v.space_attrs a) e);
  }
    where
      all : v.printed ≡ and_cells from (cells ++ p ∷ [])
      all = h ∙ ap (λ d. cell_out d p) z.whole ∙ sym (and_cells-append from cells (p ∷ []))

      ends : (a : Attributes) → ends_in_space a (cells ++ p ∷ []) ≡ false
      ends a = ends_push a cells p ∙ and_left (bytes_eq p.cell.text space) (attributes_eq p.cell.attrs a) n

  -- more of the spaces held back
  pub written_spaces : (more : List VisibleCell) → all_spaces w.space_attrs more ≡ true → v.printed ≡ w.printed → v.spaces ≡ w.spaces + length more → v.space_attrs ≡ w.space_attrs → 0 < w.spaces → 0 < length more → IsWritten from (cells ++ more) v
  written_spaces more h ep es ea l lm = record {
    printed = ep ∙ z.printed ∙ ap (and_cells from) (sym (trimmed_spaces w.space_attrs cells more h) ∙ sym (ap (λ a. trimmed a (cells ++ more)) ea));
    whole =
        (λ i. and_cells (ep i) (spaces_of (es i) (ea i))) ∙ ap (and_cells w.printed) (more_spaces w.spaces (length more) w.space_attrs)
        ∙ and_cells-append w.printed (spaces_of w.spaces w.space_attrs) (spaces_of (length more) w.space_attrs)
        ∙ ap (λ d. and_cells d (spaces_of (length more) w.space_attrs)) z.whole
        ∙ sym (and_spaces (and_cells from cells) w.space_attrs more h) ∙ sym (and_cells-append from cells more);
    held = λ a. ends_in_spaces w.space_attrs a cells more h lm ∙ sym (held_is v.spaces (attributes_eq v.space_attrs a) (omega arith) ∙ ap (λ b. attributes_eq b a) ea);
  }

  -- spaces of other attributes
  pub other_spaces : (more : List VisibleCell) → all_spaces v.space_attrs more ≡ true → v.printed ≡ and_cells w.printed (spaces_of w.spaces w.space_attrs) → v.spaces ≡ length more → 0 < length more → (nat_lt 0 w.spaces && attributes_eq w.space_attrs v.space_attrs) ≡ false → IsWritten from (cells ++ more) v
  other_spaces more h ep es lm other = record {
    printed = ep ∙ z.whole ∙ ap (and_cells from) (sym (trimmed_spaces v.space_attrs cells more h ∙ untrimmed v.space_attrs cells (z.held v.space_attrs ∙ other)));
    whole =
        (λ i. and_cells ((ep ∙ z.whole) i) (spaces_of (es i) v.space_attrs))
        ∙ sym (and_spaces (and_cells from cells) v.space_attrs more h) ∙ sym (and_cells-append from cells more);
    held = λ a. ends_in_spaces v.space_attrs a cells more h lm ∙ sym (held_is v.spaces (attributes_eq v.space_attrs a) (omega arith));
  }

  -- one more of the spaces held back, or the first one
  pub written_space : (p : VisibleCell) → is_space_of w.space_attrs p ≡ true → v.printed ≡ w.printed → v.spaces ≡ w.spaces + 1 → v.space_attrs ≡ w.space_attrs → IsWritten from (cells ++ p ∷ []) v
  written_space p h ep es ea =
      let one : all_spaces w.space_attrs (p ∷ []) ≡ true = and_from (is_space_of w.space_attrs p) true h refl in
      elim (cases_Bool (nat_lt 0 w.spaces)) [
        | inl t ↦ written_spaces (p ∷ []) one ep es ea (ltb-true 0 w.spaces t) (omega arith)
        | inr f ↦
            let none : w.spaces ≡ 0 = omega (arith, ltb-false 0 w.spaces f) in
            other_spaces (p ∷ []) (ap (λ a. all_spaces a (p ∷ [])) ea ∙ one) (ep ∙ sym (ap (λ n. and_cells w.printed (spaces_of n w.space_attrs)) none)) (es ∙ ap (λ n. n + 1) none) (omega arith)
            (ap (λ b. b && attributes_eq w.space_attrs v.space_attrs) f)
      ]

  -- while none are held back, it doesn't matter in which attributes
  pub written_attrs : w.spaces ≡ 0 → v.printed ≡ w.printed → v.spaces ≡ 0 → IsWritten from cells v
  written_attrs ew ep ev = record {
    printed = ep ∙ z.printed ∙ ap (and_cells from) (untrimmed w.space_attrs cells (none w.space_attrs) ∙ sym (untrimmed v.space_attrs cells (none v.space_attrs)));
    whole = ap (λ n. and_cells v.printed (spaces_of n v.space_attrs)) ev ∙ ep ∙ sym (ap (λ n. and_cells w.printed (spaces_of n w.space_attrs)) ew) ∙ z.whole;
    held = λ a. none a ∙ sym (ap (λ n. nat_lt 0 n && attributes_eq v.space_attrs a) ev);
  }
    where
      none : (a : Attributes) → ends_in_space a cells ≡ false
      none a = z.held a ∙ ap (λ n. nat_lt 0 n && attributes_eq w.space_attrs a) ew

  -- nothing more
  pub written_none : (more : List VisibleCell) → length more ≡ 0 → v ≡ w → IsWritten from (cells ++ more) v
  written_none [] e same = subst (λ (u : Writing). IsWritten from (cells ++ []) u) (sym same) (subst (λ cs. IsWritten from cs w) (sym (append-nil cells)) z)
  written_none (p ∷ ps) e same = absurd (omega arith)

self_eq : (a : Attributes) → attributes_eq a a ≡ true
self_eq a = (attributes_eq-Decides a a).1 refl

-- a cell in the pen that stands
pub out_in_pen : (d : Penned) (p : VisibleCell) (text : List ℕ) (es : List ChangeValue) → p.cell.text ≡ text → p.cell.attrs ≡ d.pen → es ≡ add_text d.entries text → record { entries = es; pen = d.pen } ≡ cell_out d p
out_in_pen d p text es t a e =
    let pen : pen_entry d.pen p.cell.attrs ≡ [] = ap (pen_entry d.pen) a ∙ ap (λ b. cond b [] (change.AllAttributes d.pen ∷ [])) (self_eq d.pen) in
    let entries : es ≡ add_text (d.entries ++ pen_entry d.pen p.cell.attrs) p.cell.text =
    e ∙ sym ((λ i. add_text (d.entries ++ pen i) (t i)) ∙ ap (λ l. add_text l text) (append-nil d.entries)) in
    λ i. record { entries = entries i; pen = sym a i }

-- printed spaces are printable ASCII
pub spaces_in_text : (n : ℕ) (d : Penned) (a : Attributes) → last_is ends_printable d.entries ≡ true → d.pen ≡ a → (last_is ends_printable (and_cells d (spaces_of n a)).entries ≡ true) × ((and_cells d (spaces_of n a)).pen ≡ a)
spaces_in_text zero d a h e = (h, e)
spaces_in_text (suc n) d a h e = spaces_in_text n (cell_out d (at_column 0 (blank_of a))) a (ends_with_plain (d.entries ++ pen_entry d.pen a) 32 refl) refl

-- rows after other entries, which end in no text
cell_behind : (es : List ChangeValue) (d : Penned) (p : VisibleCell) → last_is is_text es ≡ false → cell_out (behind es d) p ≡ behind es (cell_out d p)
cell_behind es d p h =
    let pen = pen_entry d.pen p.cell.attrs in
    let texts : add_text ((es ++ d.entries) ++ pen) p.cell.text ≡ es ++ add_text (d.entries ++ pen) p.cell.text =
    ap (λ l. add_text l p.cell.text) (append_assoc es d.entries pen) ∙ add_text_behind es (d.entries ++ pen) p.cell.text h in
    λ i. record { entries = texts i; pen = p.cell.attrs }

cells_behind : (es : List ChangeValue) (d : Penned) (ps : List VisibleCell) → last_is is_text es ≡ false → and_cells (behind es d) ps ≡ behind es (and_cells d ps)
cells_behind es d [] h = refl
cells_behind es d (p ∷ ps) h = ap (λ e. and_cells e ps) (cell_behind es d p h) ∙ cells_behind es (cell_out d p) ps h

row_behind : (from : Penned) (ps : List VisibleCell) → last_is is_text from.entries ≡ false → and_cells from ps ≡ behind from.entries (cells_out from.pen ps)
row_behind from ps h =
    let start : from ≡ behind from.entries (record { entries = []; pen = from.pen }) = λ i. record { entries = sym (append-nil from.entries) i; pen = from.pen } in
    ap (λ d. and_cells d ps) start ∙ cells_behind from.entries (record { entries = []; pen = from.pen }) ps h

tail_behind : (es : List ChangeValue) (d : Penned) (kept : List VisibleCell) (a : Attributes) → with_tail (behind es d) kept a ≡ behind es (with_tail d kept a)
tail_behind es d kept a =
    let pen = cond (is_empty kept) [] (pen_entry d.pen a) in
    let entries : ((es ++ d.entries) ++ pen) ++ clear_entry a ≡ es ++ ((d.entries ++ pen) ++ clear_entry a) =
    ap (λ l. l ++ clear_entry a) (append_assoc es d.entries pen) ∙ append_assoc es (d.entries ++ pen) (clear_entry a) in
    λ i. record { entries = entries i; pen = cond (is_empty kept && attributes_eq a default_attributes) d.pen a }

-- a printed cell leaves a text
texts_stay : (d : Penned) (ps : List VisibleCell) → last_is is_text d.entries ≡ true → last_is is_text (and_cells d ps).entries ≡ true
texts_stay d [] h = h
texts_stay d (p ∷ ps) h = texts_stay (cell_out d p) ps (ends_with_added (d.entries ++ pen_entry d.pen p.cell.attrs) p.cell.text)

nothing_printed : (from : Penned) (ps : List VisibleCell) → last_is is_text from.entries ≡ false → is_empty ps ≡ not (last_is is_text (and_cells from ps).entries)
nothing_printed from [] h = sym (ap not h)
nothing_printed from (p ∷ ps) h = sym (ap not (texts_stay (cell_out from p) ps (ends_with_added (from.entries ++ pen_entry from.pen p.cell.attrs) p.cell.text)))

-- the attributes of a space at the end
ends_as : (a : Attributes) (ps : List VisibleCell) → ends_in_space a ps ≡ true → (ends_plain ps ≡ has_only_background a) × ((b : Attributes) → pen_behind b ps ≡ a)
ends_as a [] h = absurd (true≢false (sym h))
ends_as a (p ∷ []) h =
    let this = (space_parts a p h).1 in
    (ap (λ b. is_space_of b p && has_only_background b) this ∙ ap (λ t. t && has_only_background a) h, λ b. this)
ends_as a (p ∷ (q ∷ ps)) h = let rest = ends_as a (q ∷ ps) h in (rest.0, λ b. rest.1 p.cell.attrs)

ends_otherwise : (ps : List VisibleCell) → ((a : Attributes) → ends_in_space a ps ≡ false) → ends_plain ps ≡ false
ends_otherwise [] h = refl
ends_otherwise (p ∷ []) h = and_left (is_space_of p.cell.attrs p) (has_only_background p.cell.attrs) (h p.cell.attrs)
ends_otherwise (p ∷ (q ∷ ps)) h = ends_otherwise (q ∷ ps) h

module _ (from : Penned) (cells : List VisibleCell) (w : Writing) (apart : last_is is_text from.entries ≡ false) (z : IsWritten from cells w) where
  held_true : 0 < w.spaces → ends_in_space w.space_attrs cells ≡ true
  held_true l = z.held w.space_attrs ∙ and_from (nat_lt 0 w.spaces) (attributes_eq w.space_attrs w.space_attrs) (lt-ltb 0 w.spaces l) (self_eq w.space_attrs)

  -- the spaces held back are printed where they are more than a background
  pub row_printed : (d : Penned) → ends_plain cells ≡ false → d ≡ and_cells w.printed (spaces_of w.spaces w.space_attrs) → d ≡ behind from.entries (row_entries from.pen cells)
  row_printed d n e = e ∙ z.whole ∙ row_behind from cells apart ∙ ap (behind from.entries) (sym (cond-false (ends_plain cells) _ (cells_out from.pen cells) n))

  pub not_left_out : (nat_lt 0 w.spaces && has_only_background w.space_attrs) ≡ false → ends_plain cells ≡ false
  not_left_out n = elim (cases_Bool (nat_lt 0 w.spaces)) [
    | inl t ↦ (ends_as w.space_attrs cells (held_true (ltb-true 0 w.spaces t))).0 ∙ sym (ap (λ b. b && has_only_background w.space_attrs) t) ∙ n
    | inr f ↦ ends_otherwise cells (λ a. z.held a ∙ ap (λ b. b && attributes_eq w.space_attrs a) f)
  ]

  -- and else they are left out
  pub row_left_out : (d : Penned) → 0 < w.spaces → has_only_background w.space_attrs ≡ true → ((kept : List VisibleCell) → is_empty kept ≡ not (last_is is_text w.printed.entries) → d ≡ with_tail w.printed kept w.space_attrs) → d ≡ behind from.entries (row_entries from.pen cells)
  row_left_out d l plain tail =
      let a = w.space_attrs in
      let kept = trimmed a cells in
      let ends = ends_as a cells (held_true l) in
      tail kept (nothing_printed from kept apart ∙ ap (λ (e : Penned). not (last_is is_text e.entries)) (sym z.printed))
      ∙ ap (λ e. with_tail e kept a) (z.printed ∙ row_behind from kept apart)
      ∙ tail_behind from.entries (cells_out from.pen kept) kept a
      ∙ ap (behind from.entries) (sym (row_entries_plain from.pen cells a (ends.0 ∙ plain) (ends.1 from.pen)))
