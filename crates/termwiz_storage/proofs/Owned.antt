-- Lists of cells that own nothing, once they are edited.
use Rattle.std.proofs.Common.{◌≡◌, ◌↔◌, ℕ, zero, suc, ◌+◌, ◌*◌, ◌-◌, ◌<◌, ◌≤◌, Bool, false, true, cond, not, min, max, inl, inr, List, [], ◌∷◌, ◌++◌, length, take, drop, set, get_or, replicate, refl, subst, sym, ◌∙◌, ap, arith}
use Rattle.std.specs.Prelude.{IsTrue, encode_utf8, nat_le, nat_lt, ◌&&◌, ◌||◌}
use Rattle.std.specs.List.{insert, list_all, remove}
use Rattle.std.proofs.Math.Bool.{and-true}
use Rattle.std.proofs.lemmas.Bool.{and_parts, cases_eq, cases_lt, le-ltb, lt-ltb, or_parts, true≢false}
use Rattle.std.proofs.lemmas.List.{get_or-set_other, get_or-set_same, get_or-take, get_or_default, get_or_past, length-replicate, length-take}
use Rattle.std.proofs.lemmas.List.Elements.{All-append, All-cons, All-drop, All-nil, All-replicate, All-set, All-take}
use Rattle.termwiz_cell.specs.Attributes.{Attributes, needs_box}
use Rattle.termwiz_cell.specs.CellValue.{CellValue, blank, blank_of, half, is_wide, owns_memory, plain_cell}
use Rattle.termwiz_cell.proofs.Cleaned.{length_clean}
use Rattle.termwiz_text.specs.Letter.{is_letter}
use Rattle.termwiz_text.proofs.LetterRuns.{letter_bytes}
use Rattle.termwiz_storage.specs.Edits.{inserted, inserted_at_margin, removed_at_margin, with_half}
use Rattle.termwiz_storage.specs.Letters.{letter_cell, put_letters}
use Rattle.termwiz_storage.specs.Stored.{padded, put, put_run, stored}
use Rattle.termwiz_storage.specs.Wrapped.{with_wrapped}
use Rattle.termwiz_storage.specs.Used.{IsBlanked, IsMarked, IsUsedTo, OwnNothing}
use Rattle.termwiz_storage.proofs.Edits.{used-blank, used-remove}
use Rattle.termwiz_storage.proofs.LetterRuns.{used-put_letters}
use Rattle.termwiz_storage.proofs.Runs.{used-put_run}
use Rattle.termwiz_storage.proofs.Used.{used-all, used-more, used-padded, used-set}

abbrev pub Unowned : CellValue → Type 0
Unowned c = owns_memory c ≡ false

pub unboxed : (c : CellValue) → Unowned c → needs_box c.attrs ≡ false
unboxed c h = (or_parts (nat_lt 7 (length c.text)) (needs_box c.attrs) h).1

pub unowned_blank_of : (a : Attributes) → needs_box a ≡ false → Unowned (blank_of a)
unowned_blank_of a h = h

pub unowned_half : (c : CellValue) → Unowned c → Unowned (half c)
unowned_half c h = unboxed c h

pub unowned_stored : (cs : List CellValue) (x : ℕ) → OwnNothing cs → Unowned (stored cs x)
unowned_stored cs x h = elim (cases_lt x (length cs)) [
  | inl l ↦ h x blank l
  | inr l ↦ ap owns_memory (get_or_past cs x blank l)
]

-- a cell at each place
pub nothing_from_stored : (cs : List CellValue) → ((x : ℕ) → Unowned (stored cs x)) → OwnNothing cs
nothing_from_stored cs h = λ k d l. ap owns_memory (get_or_default cs k d blank l) ∙ h k

pub nothing_padded : (n : ℕ) (cs : List CellValue) → OwnNothing cs → OwnNothing (padded n cs)
nothing_padded n cs h = All-append Unowned cs (replicate (n - length cs) blank) h (All-replicate Unowned (n - length cs) blank refl)

pub nothing_set : (cs : List CellValue) (i : ℕ) (c : CellValue) → Unowned c → OwnNothing cs → OwnNothing (set cs i c)
nothing_set cs i c u h = All-set Unowned cs i c u h

pub nothing_put_run : (i : ℕ) (bs : List ℕ) (a : Attributes) (cs : List CellValue) → needs_box a ≡ false → OwnNothing cs → OwnNothing (put_run i bs a cs)
nothing_put_run i [] a cs u h = h
nothing_put_run i (b ∷ bs) a cs u h = nothing_put_run (i + 1) bs a (set cs i (plain_cell b a)) u (nothing_set cs i (plain_cell b a) u h)

pub unowned_letter : (c : ℕ) (a : Attributes) → is_letter c ≡ true → needs_box a ≡ false → Unowned (letter_cell c a)
unowned_letter c a l u =
    let short : nat_lt 7 (length (letter_cell c a).text) ≡ false = le-ltb 7 (length (letter_cell c a).text) (omega (arith, letter_bytes c l, length_clean (encode_utf8 c))) in
    rw (short, u) refl

pub nothing_put_letters : (i : ℕ) (ls : List ℕ) (a : Attributes) (cs : List CellValue) → list_all is_letter ls ≡ true → needs_box a ≡ false → OwnNothing cs → OwnNothing (put_letters i ls a cs)
nothing_put_letters i [] a cs l u h = h
nothing_put_letters i (c ∷ ls) a cs l u h =
    let parts = and_parts (is_letter c) (list_all is_letter ls) l in
    let d : CellValue = letter_cell c a in
    nothing_put_letters (i + 2) ls a (put i d cs) parts.1 u
    (nothing_set (set cs (i + 1) (half d)) i d (unowned_letter c a parts.0 u) (nothing_set cs (i + 1) (half d) u h))

pub nothing_blanked : (a b : ℕ) (old new : List CellValue) → IsBlanked a b old new → OwnNothing old → OwnNothing new
nothing_blanked a b old new p h = nothing_from_stored new (λ x. elim (cases_lt x a) [
  | inl l ↦ ap owns_memory (p.before x l) ∙ unowned_stored old x h
  | inr l ↦ elim (cases_lt x b) [
    | inl m ↦ ap owns_memory (p.inside x l m)
    | inr m ↦ ap owns_memory (p.behind x m) ∙ unowned_stored old x h
  ]
])

-- default blanks own nothing
pub nothing_unused : (cs : List CellValue) → IsUsedTo 0 cs → OwnNothing cs
nothing_unused cs h = nothing_from_stored cs (λ x. ap owns_memory (h.rest x (omega arith)))

pub nothing_remove : (cs : List CellValue) (x : ℕ) → OwnNothing cs → OwnNothing (remove cs x)
nothing_remove cs x h = All-append Unowned (take x cs) (drop (suc x) cs) (All-take Unowned x cs h) (All-drop Unowned (suc x) cs h)

pub nothing_insert : (cs : List CellValue) (x : ℕ) (c : CellValue) → Unowned c → OwnNothing cs → OwnNothing (insert cs x c)
nothing_insert cs x c u h = All-append Unowned (take x cs) (c ∷ drop x cs) (All-take Unowned x cs h) (All-cons Unowned c (drop x cs) u (All-drop Unowned x cs h))

nothing_either : (b : Bool) (xs ys : List CellValue) → OwnNothing xs → OwnNothing ys → OwnNothing (cond b xs ys)
nothing_either true xs ys h k = h
nothing_either false xs ys h k = k

pub nothing_inserted_at_margin : (m : ℕ) (c : CellValue) (cs : List CellValue) → Unowned c → OwnNothing cs → OwnNothing (inserted_at_margin m c cs)
nothing_inserted_at_margin m c cs u h = nothing_either (nat_le m (length cs + 1)) (insert cs (m - 1) c) cs (nothing_insert cs (m - 1) c u h) h

nothing_removed_at_margin : (m : ℕ) (cs : List CellValue) → OwnNothing cs → OwnNothing (removed_at_margin m cs)
nothing_removed_at_margin m cs h = nothing_either (nat_le m (length cs)) (remove cs (m - 1)) cs (nothing_remove cs (m - 1) h) h

nothing_with_half : (c : CellValue) → Unowned c → OwnNothing (with_half c)
nothing_with_half c u =
    let one : OwnNothing (c ∷ []) = All-cons Unowned c [] u (All-nil Unowned) in
    nothing_either (is_wide c) (c ∷ half c ∷ []) (c ∷ []) (All-cons Unowned c (half c ∷ []) u (All-cons Unowned (half c) [] (unowned_half c u) (All-nil Unowned))) one

pub nothing_wrapped : (b : Bool) (i : ℕ) (cs : List CellValue) → OwnNothing cs → OwnNothing (set cs i (with_wrapped b (stored cs i)))
nothing_wrapped b i cs h = nothing_set cs i (with_wrapped b (stored cs i)) (unowned_stored cs i h) h

pub nothing_inserted : (x : ℕ) (c : CellValue) (m : ℕ) (cs : List CellValue) → Unowned c → OwnNothing cs → OwnNothing (inserted x c m cs)
nothing_inserted x c m cs u h =
    let gap : List CellValue = padded x (removed_at_margin m cs) in
    let free : OwnNothing gap = nothing_padded x (removed_at_margin m cs) (nothing_removed_at_margin m cs h) in
    All-append Unowned (take x gap ++ with_half c) (drop x gap) (All-append Unowned (take x gap) (with_half c) (All-take Unowned x gap free) (nothing_with_half c u)) (All-drop Unowned x gap free)

-- what a storage knows of its cells, once they are edited
pub marked_new : (b : Bool) (cs : List CellValue) → (IsTrue b ↔ OwnNothing cs) → IsMarked (length cs) (not b) cs
marked_new true cs h = record { blanks = used-all cs; unowned = λ _. h.0 refl }
marked_new false cs h = record { blanks = used-all cs; unowned = λ e. absurd (true≢false e) }

pub marked_all : (u : ℕ) (o : Bool) (cs : List CellValue) → length cs ≤ u → (o ≡ false → OwnNothing cs) → IsMarked u o cs
marked_all u o cs l h = record { blanks = used-more (length cs) u cs l (used-all cs); unowned = h }

pub marked_lent : (u : ℕ) (cs : List CellValue) → length cs ≤ u → IsMarked u true cs
marked_lent u cs l = marked_all u true cs l (λ e. absurd (true≢false e))

pub marked_copies : (n : ℕ) (c : CellValue) (cs : List CellValue) → cs ≡ replicate n c → IsMarked n (owns_memory c) cs
marked_copies n c cs e = marked_all n (owns_memory c) cs (omega (arith, ap length e, length-replicate n c)) (λ u. rw e (All-replicate Unowned n c u))

pub marked_set : (u i : ℕ) (o : Bool) (c : CellValue) (cs : List CellValue) → IsMarked u o cs → IsMarked (max u (i + 1)) (o || owns_memory c) (set cs i c)
marked_set u i o c cs m = record {
  blanks = used-set u i c cs m.blanks;
  unowned = λ h. let parts = or_parts o (owns_memory c) h in nothing_set cs i c parts.1 (m.unowned parts.0);
}

pub marked_set_two : (u i : ℕ) (o : Bool) (c d : CellValue) (cs : List CellValue) → IsMarked u o cs → IsMarked (max u (i + 2)) (o || (owns_memory c || owns_memory d)) (set (set cs (i + 1) d) i c)
marked_set_two u i o c d cs m = record {
  blanks =
      let edge : max (max u (i + 1 + 1)) (i + 1) ≡ max u (i + 2) = omega arith in
      subst (λ (n : ℕ). IsUsedTo n (set (set cs (i + 1) d) i c)) edge (used-set (max u (i + 1 + 1)) i c (set cs (i + 1) d) (used-set u (i + 1) d cs m.blanks));
  unowned = λ h.
      let parts = or_parts o (owns_memory c || owns_memory d) h in
      let both = or_parts (owns_memory c) (owns_memory d) parts.1 in
      nothing_set (set cs (i + 1) d) i c both.0 (nothing_set cs (i + 1) d both.1 (m.unowned parts.0));
}

pub marked_put_run : (u i : ℕ) (o : Bool) (bs : List ℕ) (a : Attributes) (cs : List CellValue) → needs_box a ≡ false → IsMarked u o cs → IsMarked (max u (i + length bs)) o (put_run i bs a cs)
marked_put_run u i o bs a cs n m = record {
  blanks = used-put_run u i bs a cs m.blanks;
  unowned = λ h. nothing_put_run i bs a cs n (m.unowned h);
}

pub marked_copied : (u i k : ℕ) (o : Bool) (b : ℕ) (a : Attributes) (cs : List CellValue) → needs_box a ≡ false → IsMarked u o cs → IsMarked (max u (i + k)) o (put_run i (replicate k b) a cs)
marked_copied u i k o b a cs n m = subst (λ (j : ℕ). IsMarked (max u (i + j)) o (put_run i (replicate k b) a cs)) (length-replicate k b) (marked_put_run u i o (replicate k b) a cs n m)

pub marked_put_letters : (u i : ℕ) (o : Bool) (ls : List ℕ) (a : Attributes) (cs : List CellValue) → list_all is_letter ls ≡ true → needs_box a ≡ false → IsMarked u o cs → IsMarked (max u (i + 2 * length ls)) o (put_letters i ls a cs)
marked_put_letters u i o ls a cs l n m = record {
  blanks = used-put_letters u i ls a cs m.blanks;
  unowned = λ h. nothing_put_letters i ls a cs l n (m.unowned h);
}

pub marked_padded : (u n : ℕ) (o : Bool) (cs : List CellValue) → IsMarked u o cs → IsMarked u o (padded n cs)
marked_padded u n o cs m = record { blanks = used-padded u n cs m.blanks; unowned = λ h. nothing_padded n cs (m.unowned h) }

pub marked_half : (u v : ℕ) (o : Bool) (cs : List CellValue) (d : CellValue) (new : List CellValue) → length new ≤ v → d ≡ half (stored cs (length cs - 1)) → new ≡ cs ++ d ∷ [] → IsMarked u o cs → IsMarked v o new
marked_half u v o cs d new l e n m = marked_all v o new l (λ h.
    let last : Unowned (stored cs (length cs - 1)) = unowned_stored cs (length cs - 1) (m.unowned h) in
    rw (n, e) (All-append Unowned cs (half (stored cs (length cs - 1)) ∷ []) (m.unowned h) (All-cons Unowned (half (stored cs (length cs - 1))) [] (unowned_half (stored cs (length cs - 1)) last) (All-nil Unowned))))

pub marked_remove : (u x : ℕ) (o : Bool) (cs : List CellValue) → x < length cs → IsMarked u o cs → IsMarked u o (remove cs x)
marked_remove u x o cs l m = record { blanks = used-remove u x cs l m.blanks; unowned = λ h. nothing_remove cs x (m.unowned h) }

pub marked_blank : (u : ℕ) (o : Bool) (cs : List CellValue) → IsMarked u o cs → IsMarked u o (cs ++ blank ∷ [])
marked_blank u o cs m = record {
  blanks = used-blank u cs m.blanks;
  unowned = λ h. All-append Unowned cs (blank ∷ []) (m.unowned h) (All-cons Unowned blank [] refl (All-nil Unowned));
}

-- where no column is used
pub marked_used : (u : ℕ) (o : Bool) (cs : List CellValue) → IsUsedTo u cs → (o ≡ false → OwnNothing cs) → IsMarked u (o && nat_lt 0 u) cs
marked_used zero o cs h n = record { blanks = h; unowned = λ _. nothing_unused cs h }
marked_used (suc u) o cs h n =
    let some : nat_lt 0 (suc u) ≡ true = lt-ltb 0 (suc u) (omega arith) in
    record { blanks = h; unowned = λ e. n (sym (and-true o) ∙ ap (λ b. o && b) (sym some) ∙ e) }

-- a cell becomes the half of what it was
pub marked_halved : (u k : ℕ) (o : Bool) (c d : CellValue) (cs : List CellValue) → k < length cs → c ≡ get_or cs k c → d ≡ half c → IsMarked u o cs → IsMarked u o (set cs k d)
marked_halved u k o c d cs l e f m =
    let at : c ≡ stored cs k = e ∙ get_or_default cs k c blank l in
    record {
      blanks = record {
        rest = λ x n. elim (cases_eq x k) [
          | inl z ↦ ap (stored (set cs k d)) z ∙ get_or-set_same cs k d blank l ∙ f ∙ ap half (at ∙ m.blanks.rest k (omega arith))
          | inr z ↦ get_or-set_other cs k x d blank z ∙ m.blanks.rest x n
        ];
      };
      unowned = λ h. nothing_set cs k d (rw (f, at) (unowned_half (stored cs k) (unowned_stored cs k (m.unowned h)))) (m.unowned h);
    }

-- where it is cut
pub marked_take : (u n : ℕ) (o : Bool) (cs : List CellValue) → IsMarked u o cs → IsMarked (min u n) (o && nat_lt 0 (min u n)) (take n cs)
marked_take u n o cs m = marked_used (min u n) o (take n cs) (record {
  rest = λ x l. elim (cases_lt x n) [
    | inl a ↦ get_or-take n cs x blank a ∙ m.blanks.rest x (omega arith)
    | inr a ↦ get_or_past (take n cs) x blank (omega (arith, length-take n cs))
  ];
}) (λ h. All-take Unowned n cs (m.unowned h))

-- where columns from a up to b become default blanks, as far as they were used
pub blanked_low : (u a b e : ℕ) (o : Bool) (old new : List CellValue) → u ≤ b → e ≡ min b u → IsBlanked a e old new → IsMarked u o old → IsMarked (min u a) (o && nat_lt 0 (min u a)) new
blanked_low u a b e o old new l f p m = marked_used (min u a) o new (record {
  rest = λ x n. elim (cases_lt x a) [
    | inl k ↦ p.before x k ∙ m.blanks.rest x (omega arith)
    | inr k ↦ elim (cases_lt x e) [
      | inl z ↦ p.inside x k z
      | inr z ↦ p.behind x z ∙ m.blanks.rest x (omega arith)
    ]
  ];
}) (λ h. nothing_blanked a e old new p (m.unowned h))

pub blanked_high : (u a b e : ℕ) (o : Bool) (old new : List CellValue) → b < u → e ≡ min b u → IsBlanked a e old new → IsMarked u o old → IsMarked u o new
blanked_high u a b e o old new l f p m = record {
  blanks = record { rest = λ x n. p.behind x (omega arith) ∙ m.blanks.rest x n };
  unowned = λ h. nothing_blanked a e old new p (m.unowned h);
}

-- a copy of the cells that were used, padded
pub marked_first : (v u have : ℕ) (o : Bool) (cs : List CellValue) → IsMarked v o cs → IsMarked u o (padded have (take u cs))
marked_first v u have o cs m = marked_padded u have o (take u cs) (marked_all u o (take u cs) (omega (arith, length-take u cs)) (λ h. All-take Unowned u cs (m.unowned h)))
