-- Rows that grow where they stand, and are brought back or cut.
use Rattle.std.proofs.Common.{◌≡◌, ℕ, ◌+◌, ◌-◌, ◌<◌, ◌≤◌, inl, inr, true, false, Bool, List, [], ◌∷◌, ◌++◌, length, take, drop, get_or, set, map, refl, sym, ◌∙◌, ap, ap₂, subst, arith, length-append, length-take, le-leb}
use Rattle.std.specs.List.{list_all}
use Rattle.std.proofs.lemmas.Bool.{cases_Bool, cases_lt, leb-false}
use Rattle.std.proofs.lemmas.List.{get_or_append_left, get_or-append_right, get_or_at, get_or-drop, get_or-set_same, get_or_default, length-drop, length-map, length-replicate, set-get_or, set-set, take_all, take-append-le}
use Rattle.std.proofs.lemmas.List.Edits.{map_over_more}
use Rattle.termwiz_cell.specs.CellValue.{CellValue, blank}
use Rattle.termwiz_storage.specs.Stored.{padded, hides}
use Rattle.termwiz_storage.specs.Halves.{missing_half, resized}
use Rattle.termwiz_storage.proofs.Halves.{resized-grown, resized-cut}
use Rattle.termwiz_line.specs.LineValue.{LineValue}
use Rattle.termwiz_screen.specs.Resized.{HaveGrown, Undoes, can_undo, cuts_in_place, in_width, undone, widened_line}
use Rattle.termwiz_screen.specs.declared.rows.resizing.Undo.{Undo}
use Rattle.termwiz_screen.specs.declared.rows.resizing.Undo.TheVariants.{Cut, Put}

length-missing_half : (cs : List CellValue) → length (missing_half cs) ≤ 1
length-missing_half cs = elim (cases_Bool (hides cs (length cs))) [
  | inl t ↦ rw t (omega arith)
  | inr f ↦ rw f (omega arith)
]

-- cells in a width are as many
pub length-resized : (w : ℕ) (cs : List CellValue) → length (resized w cs) ≡ w
length-resized w cs = elim (cases_lt (length cs) w) [
  | inl l ↦
      let long : length (cs ++ missing_half cs) ≤ w = omega (arith, length-append cs (missing_half cs), length-missing_half cs) in
      ap length (sym (resized-grown w cs (cs ++ missing_half cs) l refl)) ∙ length-append (cs ++ missing_half cs) _ ∙ omega (arith, length-replicate (w - length (cs ++ missing_half cs)) blank)
  | inr g ↦ ap length (sym (resized-cut w cs g)) ∙ length-take w cs ∙ omega arith
]

pub resized-all : (cs : List CellValue) (n : ℕ) → n ≡ length cs → resized n cs ≡ cs
resized-all cs n e = sym (resized-cut n cs (omega arith)) ∙ take_all n cs (omega arith)

resized-same : (w : ℕ) (cs : List CellValue) → resized w (resized w cs) ≡ resized w cs
resized-same w cs = resized-all (resized w cs) w (sym (length-resized w cs))

-- cells that have grown, cut back
pub resized-back : (w : ℕ) (cs : List CellValue) → length cs < w → resized (length cs) (resized w cs) ≡ cs
resized-back w cs l =
    let grew : resized w cs ≡ padded w (cs ++ missing_half cs) = sym (resized-grown w cs (cs ++ missing_half cs) l refl) in
    sym (resized-cut (length cs) (resized w cs) (omega (arith, length-resized w cs)))
    ∙ ap (take (length cs)) grew
    ∙ take-append-le (length cs) (cs ++ missing_half cs) _ (omega (arith, length-append cs (missing_half cs)))
    ∙ take-append-le (length cs) cs (missing_half cs) (omega arith)
    ∙ take_all (length cs) cs (omega arith)

pub cuts : (k : ℕ) (l : LineValue) → l.is_vector ≡ true → k ≤ length l.cells → cuts_in_place k l ≡ true
cuts k l v e = rw v (le-leb k (length l.cells) e)

-- a vector that isn't cut in place is shorter
shorter : (w : ℕ) (l : LineValue) → l.is_vector ≡ true → cuts_in_place w l ≡ false → length l.cells < w
shorter w l v f = leb-false w (length l.cells) (rw v at f)

-- one line
module _ (w : ℕ) (l : LineValue) where
  kept-grown : cuts_in_place w l ≡ true → widened_line w l ≡ l
  kept-grown t = rw t refl

  longer-grown : cuts_in_place w l ≡ false → widened_line w l ≡ in_width w l
  longer-grown f = rw f refl

  pub cuts-grown : cuts_in_place w (widened_line w l) ≡ true
  cuts-grown = elim (cases_Bool (cuts_in_place w l)) [
    | inl t ↦ subst (λ (m : LineValue). cuts_in_place w m ≡ true) (sym (kept-grown t)) t
    | inr f ↦ subst (λ (m : LineValue). cuts_in_place w m ≡ true) (sym (longer-grown f)) (cuts w (in_width w l) refl (omega (arith, length-resized w l.cells)))
  ]

  pub in_width-grown : in_width w (widened_line w l) ≡ in_width w l
  in_width-grown = elim (cases_Bool (cuts_in_place w l)) [
    | inl t ↦ ap (in_width w) (kept-grown t)
    | inr f ↦ ap (in_width w) (longer-grown f) ∙ ap (λ (cs : List CellValue). record l { cells = cs; is_vector = true }) (resized-same w l.cells)
  ]

  -- a vector, cut back to its length
  module _ (v : l.is_vector ≡ true) where
    can_cut : cuts_in_place (length l.cells) (widened_line w l) ≡ true
    can_cut = elim (cases_Bool (cuts_in_place w l)) [
      | inl t ↦ subst (λ (m : LineValue). cuts_in_place (length l.cells) m ≡ true) (sym (kept-grown t)) (cuts (length l.cells) l v (omega arith))
      | inr f ↦ subst (λ (m : LineValue). cuts_in_place (length l.cells) m ≡ true) (sym (longer-grown f)) (cuts (length l.cells) (in_width w l) refl (omega (arith, length-resized w l.cells, shorter w l v f)))
    ]

    cut_back : in_width (length l.cells) (widened_line w l) ≡ l
    cut_back = elim (cases_Bool (cuts_in_place w l)) [
      | inl t ↦ ap (in_width (length l.cells)) (kept-grown t) ∙ ap₂ (λ (cs : List CellValue) (b : Bool). record l { cells = cs; is_vector = b }) (resized-all l.cells (length l.cells) refl) (sym v)
      | inr f ↦ ap (in_width (length l.cells)) (longer-grown f) ∙ ap₂ (λ (cs : List CellValue) (b : Bool). record l { cells = cs; is_vector = b }) (resized-back w l.cells (shorter w l v f)) (sym v)
    ]

  can_undo-grown : (u : Undo) → Undoes l u → can_undo u (widened_line w l) ≡ true
  can_undo-grown (Cut k) p = ap (λ n. cuts_in_place n (widened_line w l)) p.1 ∙ can_cut p.0
  can_undo-grown (Put text) p = refl

  undone-grown : (u : Undo) → Undoes l u → undone u (widened_line w l) ≡ l
  undone-grown (Cut k) p = ap (λ n. in_width n (widened_line w l)) p.1 ∙ cut_back p.0
  undone-grown (Put text) p = p

-- the first rows have grown
module _ (w n : ℕ) (old : List LineValue) (inside : n < length old) where
  length-first : length (map (widened_line w) (take n old)) ≡ n
  length-first = length-map (take n old) (widened_line w) ∙ length-take n old ∙ omega arith

  length-first_grown : length (map (widened_line w) (take n old) ++ drop n old) ≡ length old
  length-first_grown = length-append (map (widened_line w) (take n old)) (drop n old) ∙ omega (arith, length-first, length-drop n old)

  -- the next one has not
  next : (d : LineValue) → get_or (map (widened_line w) (take n old) ++ drop n old) n d ≡ get_or old n d
  next d =
      let at : n + (n - n) ≡ n = omega arith in
      get_or-append_right (map (widened_line w) (take n old)) (drop n old) n n d length-first (omega arith) ∙ get_or-drop n old (n - n) d ∙ ap (λ k. get_or old k d) at

  -- it grows
  step : (x : LineValue) → x ≡ get_or old n x → set (map (widened_line w) (take n old) ++ drop n old) n (widened_line w x) ≡ map (widened_line w) (take (n + 1) old) ++ drop (n + 1) old
  step x e = map_over_more (widened_line w) old (map (widened_line w) (take n old) ++ drop n old) n x inside refl (e ∙ sym (next x))

-- none has grown yet
pub grown_none : (w : ℕ) (old : List LineValue) (undos : List Undo) → undos ≡ [] → HaveGrown w old undos old
grown_none w old undos e = rw e (record { rows = refl; each = λ j l u m. absurd (omega arith) })

pub grow_more : (w : ℕ) (old rows : List LineValue) (undos us : List Undo) (n : ℕ) (r new : LineValue) (u : Undo)
    → HaveGrown w old undos rows → n ≡ length undos → n < length old → r ≡ get_or rows n r → new ≡ widened_line w r → Undoes r u → us ≡ undos ++ u ∷ [] → HaveGrown w old us (set rows n new)
grow_more w old rows undos us n r new u h e inside read is undo push =
    let more : n + 1 ≡ length us = sym (ap length push ∙ length-append undos (u ∷ []) ∙ omega arith) in
    let was : rows ≡ map (widened_line w) (take n old) ++ drop n old = subst (λ k. rows ≡ map (widened_line w) (take k old) ++ drop k old) (sym e) h.rows in
    let read_old : r ≡ get_or old n r = read ∙ ap (λ (ls : List LineValue). get_or ls n r) was ∙ next w n old inside r in
    record {
      rows = subst (λ k. set rows n new ≡ map (widened_line w) (take k old) ++ drop k old) more
          (ap₂ (λ (ls : List LineValue) (l : LineValue). set ls n l) was is ∙ step w n old inside r read_old);
      each = λ j l v m. elim (cases_lt j n) [
        | inl b ↦
            let at : get_or us j v ≡ get_or undos j v = ap (λ (vs : List Undo). get_or vs j v) push ∙ get_or_append_left undos (u ∷ []) v j (omega arith) in
            subst (Undoes (get_or old j l)) (sym at) (h.each j l v (omega arith))
        | inr g ↦
            let last : j ≡ n = omega arith in
            let at : get_or us j v ≡ u = ap (λ (vs : List Undo). get_or vs j v) push ∙ get_or_at undos u [] v j (omega arith) in
            let old_at : r ≡ get_or old j l = read_old ∙ get_or_default old n r l inside ∙ ap (λ k. get_or old k l) (sym last) in
            subst (Undoes (get_or old j l)) (sym at) (subst (λ (x : LineValue). Undoes x u) old_at undo)
      ];
    }

-- the last of the rows that have grown is brought back
module _ (w : ℕ) (old rows : List LineValue) (undos us : List Undo) (n : ℕ) (r : LineValue) (u : Undo) (h : HaveGrown w old undos rows) (e : n ≡ length us) (inside : n < length old) (read : r ≡ get_or rows n r) (pop : undos ≡ us ++ u ∷ []) where
  more : length undos ≡ n + 1
  more = ap length pop ∙ length-append us (u ∷ []) ∙ omega arith

  was : rows ≡ set (map (widened_line w) (take n old) ++ drop n old) n (widened_line w (get_or old n r))
  was = h.rows ∙ ap (λ k. map (widened_line w) (take k old) ++ drop k old) more ∙ sym (step w n old inside (get_or old n r) (get_or_default old n r (get_or old n r) inside))

  is_grown : r ≡ widened_line w (get_or old n r)
  is_grown = read ∙ ap (λ (ls : List LineValue). get_or ls n r) was ∙ get_or-set_same (map (widened_line w) (take n old) ++ drop n old) n (widened_line w (get_or old n r)) r (omega (arith, length-first_grown w n old inside))

  is_undo : Undoes (get_or old n r) u
  is_undo =
      let at : get_or undos n u ≡ u = ap (λ (vs : List Undo). get_or vs n u) pop ∙ get_or_at us u [] u n (sym e) in
      subst (Undoes (get_or old n r)) at (h.each n r u (omega (arith, more)))

  pub can_undo_last : can_undo u r ≡ true
  can_undo_last = ap (can_undo u) is_grown ∙ can_undo-grown w (get_or old n r) u is_undo

  pub undo_last : (new : LineValue) → new ≡ undone u r → HaveGrown w old us (set rows n new)
  undo_last new is =
      let x = get_or old n r in
      let first = map (widened_line w) (take n old) ++ drop n old in
      let back : new ≡ get_or first n r = is ∙ ap (undone u) is_grown ∙ undone-grown w x u is_undo ∙ sym (next w n old inside r) in
      record {
        rows = subst (λ k. set rows n new ≡ map (widened_line w) (take k old) ++ drop k old) e
            (ap₂ (λ (ls : List LineValue) (l : LineValue). set ls n l) was back ∙ set-set first n (widened_line w x) (get_or first n r) ∙ set-get_or first n r);
        each = λ j l v m.
            let at : get_or undos j v ≡ get_or us j v = ap (λ (vs : List Undo). get_or vs j v) pop ∙ get_or_append_left us (u ∷ []) v j m in
            subst (Undoes (get_or old j l)) at (h.each j l v (omega (arith, more)));
      }

-- with no undo left each row is as it was
pub undone_all : (w : ℕ) (old rows : List LineValue) (undos : List Undo) → HaveGrown w old undos rows → length undos ≡ 0 → rows ≡ old
undone_all w old rows undos h e = h.rows ∙ ap (λ k. map (widened_line w) (take k old) ++ drop k old) e

-- rows that have grown can all be cut
all-cut : (w : ℕ) (ls : List LineValue) → list_all (cuts_in_place w) (map (widened_line w) ls) ≡ true
all-cut w [] = refl
all-cut w (l ∷ ls) = rw (cuts-grown w l) (all-cut w ls)

pub all_cut : (w : ℕ) (ls rows : List LineValue) → rows ≡ map (widened_line w) ls → list_all (cuts_in_place w) rows ≡ true
all_cut w ls rows e = ap (list_all (cuts_in_place w)) e ∙ all-cut w ls

pub cut-grown : (w : ℕ) (ls : List LineValue) → map (in_width w) (map (widened_line w) ls) ≡ map (in_width w) ls
cut-grown w [] = refl
cut-grown w (l ∷ ls) = ap₂ (λ (m : LineValue) (ms : List LineValue). m ∷ ms) (in_width-grown w l) (cut-grown w ls)
