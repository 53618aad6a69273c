-- The state of a walk that cuts a line into lines.
use Rattle.std.proofs.Common.{◌≡◌, ◌≢◌, ℕ, ◌+◌, ◌≤◌, inl, inr, List, [], ◌∷◌, ◌++◌, length, map, refl, sym, ◌∙◌, ap, append_assoc, length-append, arith, true}
use Rattle.std.proofs.lemmas.List.{append-nil, map-append}
use Rattle.termwiz_cell.specs.CellValue.{CellValue, columns}
use Rattle.termwiz_storage.specs.Edits.{with_half, with_halves}
use Rattle.termwiz_storage.specs.Wrapped.{with_wrapped}
use Rattle.termwiz_storage.specs.VisibleCell.{VisibleCell}
use Rattle.termwiz_line.specs.LineValue.{LineValue}
use Rattle.termwiz_line.specs.Wraps.{columns_taken, FitsOrAlone, line_of, new_line, mark_last, marked_pieces, AreLinesOf}
use Rattle.termwiz_line.proofs.Cuts.{AreClosed, IsUnderWay, under_way-start, under_way-grows, under_way-ends, under_way-done}

pub columns_of-append : (p q : List VisibleCell) → columns_taken (p ++ q) ≡ columns_taken p + columns_taken q
columns_of-append [] q = omega arith
columns_of-append (c ∷ cs) q = omega (arith, columns_of-append cs q)

with_halves-append : (p q : List VisibleCell) → with_halves (p ++ q) ≡ with_halves p ++ with_halves q
with_halves-append [] q = refl
with_halves-append (c ∷ cs) q = ap (λ z. with_half c.cell ++ z) (with_halves-append cs q) ∙ sym (append_assoc (with_half c.cell) (with_halves cs) (with_halves q))

mark_last-push : (p : List VisibleCell) (c : VisibleCell) → mark_last (p ++ c ∷ []) ≡ p ++ record c { cell = with_wrapped true c.cell } ∷ []
mark_last-push [] c = refl
mark_last-push (d ∷ []) c = refl
mark_last-push (d ∷ e ∷ es) c = ap (λ z. d ∷ z) (mark_last-push (e ∷ es) c)

marked-push : (ps : List (List VisibleCell)) (p : List VisibleCell) → marked_pieces (ps ++ p ∷ []) ≡ map mark_last ps ++ p ∷ []
marked-push [] p = refl
marked-push (q ∷ []) p = refl
marked-push (q ∷ r ∷ rs) p = ap (λ z. mark_last q ∷ z) (marked-push (r ∷ rs) p)

map-map : {A B C : Type 0} (f : B → C) (g : A → B) (xs : List A) → map f (map g xs) ≡ map (λ x. f (g x)) xs
map-map f g [] = refl
map-map f g (x ∷ xs) = ap (λ z. f (g x) ∷ z) (map-map f g xs)

length_beginning : (p more : List VisibleCell) → p ≢ [] → length (p ++ more) ≡ 1 → length p ≡ 1
length_beginning [] more s e = absurd (s refl)
length_beginning (c ∷ cs) more s e = omega (arith, e, length-append cs more)

pub closed : (width : ℕ) → AreClosed (FitsOrAlone width)
closed width = record {
  beginning = λ p more s h. elim h [
    | inl z ↦ inl (omega (arith, z, columns_of-append p more))
    | inr z ↦ inr (length_beginning p more s z)
  ];
  single = λ x. inr refl;
}

-- the state of the loop: lines that are done, one without its last cell, that cell, and the columns of the two
pub record IsWrapping (width seqno : ℕ) (first : VisibleCell) (rest left : List VisibleCell) (lines : List LineValue) (line : List CellValue) (last : VisibleCell) (used : ℕ) : Type 0 where
  pub before : List (List VisibleCell)
  pub now : List VisibleCell
  pub under_way : IsUnderWay (FitsOrAlone width) first rest before (now ++ last ∷ []) left
  pub lines_are : lines ≡ map (λ p. line_of seqno (mark_last p)) before
  pub line_is : line ≡ with_halves now
  pub used_is : used ≡ columns_taken now + columns last.cell

pub wrapping-start : (width seqno : ℕ) (first : VisibleCell) (rest : List VisibleCell) (used : ℕ) → used ≡ columns first.cell → IsWrapping width seqno first rest rest [] [] first used
wrapping-start width seqno first rest used u = record { before = []; now = []; under_way = under_way-start (FitsOrAlone width) (closed width) first rest; lines_are = refl; line_is = refl; used_is = omega (arith, u) }

pub columns_of-push : (p : List VisibleCell) (c : VisibleCell) → columns_taken (p ++ c ∷ []) ≡ columns_taken p + columns c.cell
columns_of-push p c = omega (arith, columns_of-append p (c ∷ []))

with_halves-push : (p : List VisibleCell) (c : VisibleCell) → with_halves (p ++ c ∷ []) ≡ with_halves p ++ with_half c.cell
with_halves-push p c = with_halves-append p (c ∷ []) ∙ ap (λ z. with_halves p ++ z) (append-nil (with_half c.cell))

pub wrapping-grows : (width seqno : ℕ) (first : VisibleCell) (rest left : List VisibleCell) (lines : List LineValue) (line : List CellValue) (last x : VisibleCell) (used : ℕ) → used + columns x.cell ≤ width → IsWrapping width seqno first rest (x ∷ left) lines line last used → IsWrapping width seqno first rest left lines (line ++ with_half last.cell) x (used + columns x.cell)
wrapping-grows width seqno first rest left lines line last x used h z = record {
  before = z.before;
  now = z.now ++ last ∷ [];
  under_way = under_way-grows (FitsOrAlone width) first rest z.before (z.now ++ last ∷ []) left x (inl (omega (arith, h, z.used_is, columns_of-push (z.now ++ last ∷ []) x, columns_of-push z.now last))) z.under_way;
  lines_are = z.lines_are;
  line_is = rw z.line_is (sym (with_halves-push z.now last));
  used_is = omega (arith, z.used_is, columns_of-push z.now last);
}

done_line : (now : List VisibleCell) (last : VisibleCell) (line : List CellValue) → line ≡ with_halves now → line ++ with_half (with_wrapped true last.cell) ≡ with_halves (mark_last (now ++ last ∷ []))
done_line now last line e = rw (e, mark_last-push now last) (sym (with_halves-push now (record last { cell = with_wrapped true last.cell })))

too_long : (width : ℕ) (now : List VisibleCell) (last x : VisibleCell) (used : ℕ) → used ≡ columns_taken now + columns last.cell → (used + columns x.cell ≤ width → ⊥) → FitsOrAlone width ((now ++ last ∷ []) ++ x ∷ []) → ⊥
too_long width now last x used u n (inl h) = n (omega (arith, h, u, columns_of-push (now ++ last ∷ []) x, columns_of-push now last))
too_long width now last x used u n (inr h) = absurd (omega (arith, h, length-append (now ++ last ∷ []) (x ∷ []), length-append now (last ∷ [])))

pub wrapping-ends : (width seqno : ℕ) (first : VisibleCell) (rest left : List VisibleCell) (lines : List LineValue) (line : List CellValue) (last x : VisibleCell) (used more : ℕ) → more ≡ columns x.cell → (used + columns x.cell ≤ width → ⊥) → IsWrapping width seqno first rest (x ∷ left) lines line last used → IsWrapping width seqno first rest left (lines ++ new_line seqno (line ++ with_half (with_wrapped true last.cell)) ∷ []) [] x more
wrapping-ends width seqno first rest left lines line last x used more m n z = record {
  before = z.before ++ (z.now ++ last ∷ []) ∷ [];
  now = [];
  under_way = under_way-ends (FitsOrAlone width) (closed width) first rest z.before (z.now ++ last ∷ []) left x (too_long width z.now last x used z.used_is n) z.under_way;
  lines_are = rw (z.lines_are, done_line z.now last line z.line_is) (sym (map-append (λ p. line_of seqno (mark_last p)) z.before ((z.now ++ last ∷ []) ∷ [])));
  line_is = refl;
  used_is = omega (arith, m);
}

pub wrapping-done : (width seqno : ℕ) (first : VisibleCell) (rest : List VisibleCell) (lines : List LineValue) (line : List CellValue) (last : VisibleCell) (used : ℕ) → IsWrapping width seqno first rest [] lines line last used → AreLinesOf width seqno (first ∷ rest) (lines ++ new_line seqno (line ++ with_half last.cell) ∷ [])
wrapping-done width seqno first rest lines line last used z = record {
  pieces = z.before ++ (z.now ++ last ∷ []) ∷ [];
  cut = under_way-done (FitsOrAlone width) (closed width) first rest z.before (z.now ++ last ∷ []) z.under_way;
  lines_are =
      let m = marked-push z.before (z.now ++ last ∷ []) in
      let l : line ++ with_half last.cell ≡ with_halves (z.now ++ last ∷ []) = rw z.line_is (sym (with_halves-push z.now last)) in
      rw (m, z.lines_are, l) (sym (map-append (line_of seqno) (map mark_last z.before) ((z.now ++ last ∷ []) ∷ []) ∙ ap (λ q. q ++ line_of seqno (z.now ++ last ∷ []) ∷ []) (map-map (line_of seqno) mark_last z.before)));
}
