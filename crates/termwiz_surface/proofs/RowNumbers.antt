-- Rows that changes leave, and those that they mark.
use Rattle.std.proofs.Common.{◌≡◌, ℕ, ◌+◌, ◌<◌, ◌≤◌, true, false, inl, inr, ◌⊎◌, List, [], ◌∷◌, ◌++◌, ◌-◌, length, get_or, take, drop, replicate, refl, sym, ◌∙◌, ap, ap₂, subst, arith, length-append, length-take, length-drop}
use Rattle.std.specs.Prelude.{slice_set, max, nat_le, nat_lt, Bool, not, ◌||◌, cond, Result, Ok, Err, OnOk, OnErr, ◌==◌}
use Rattle.std.specs.Result.{is_err}
use Rattle.std.proofs.lemmas.Bool.{cases_Bool, cases_eq, cases_lt, true≢false, eqb-true, eq-eqb, ne_eqb, leb-false, lt-ltb, le-ltb, le-leb, lt-leb, not-false, or_left, or_right, or_from, or_parts}
use Rattle.std.proofs.Math.Bool.{or-false}
use Rattle.std.proofs.lemmas.List.{length-set, get_or-set_same, get_or-set_other, get_or_past, get_or_append_left, get_or-append_right, get_or-drop, get_or-take, get_or-map, length-replicate, length-map, map-set}
use Rattle.termwiz_cell.specs.ChangeValue.{ChangeValue}
use Rattle.termwiz_cell.specs.CellValue.{CellValue, blank}
use Rattle.termwiz_line.specs.LineFlags.{LineFlags, no_flags}
use Rattle.termwiz_screen.specs.Log.{LogValue, next_number, appended, flushed, restarted}
use Rattle.termwiz_line.specs.Row.{row_of}
use Rattle.termwiz_screen.specs.Screen.{row_at}
use Rattle.termwiz_screen.specs.ScrollRegions.{with_region, region_up, region_down}
use Rattle.termwiz_screen.proofs.Logs.{flushed_number}
use Rattle.termwiz_screen.proofs.Regions.{map-replicate}
use Rattle.termwiz_surface.specs.Adding.{Makes, with_log}
use Rattle.termwiz_surface.specs.Resizing.{HasResized, resize_touches}
use Rattle.termwiz_surface.specs.RowNumbers.{AreMarked, AreRenewed, NumbersRows, NumbersTouched}
use Rattle.termwiz_screen.specs.Step.{replay, replay_kept}
use Rattle.termwiz_surface.specs.Touching.{every_row, no_row, scroll_touches, touched}
use Rattle.termwiz_surface.proofs.Touching.{or_assoc, up-none, down-none}
use Rattle.termwiz_surface.specs.Surface.{SurfaceValue, Becomes, MarksRows, SameFrame, number_at, numbers_over, screen_of, shown_at, kept_of, lengths_of}

-- ---- numbers over one for all rows

over-set : (all : ℕ) (own : List ℕ) (a number : ℕ) → a < length own → numbers_over all (slice_set own a number) ≡ slice_set (numbers_over all own) a (max all number)
over-set all own a number l = map-set (max all) own a number

-- each is its own, unless the one for all is greater
pub over-at : (all : ℕ) (own : List ℕ) (j : ℕ) → j < length own → get_or (numbers_over all own) j 0 ≡ max all (get_or own j 0)
over-at all own j l = get_or-map (max all) own j 0 0 l

pub over-least : (all : ℕ) (own : List ℕ) (j : ℕ) → j < length own → all ≤ get_or (numbers_over all own) j 0
over-least all own j l = omega (arith, over-at all own j l)

-- no row has a number of its own
pub over-zeros : (n number : ℕ) → numbers_over number (replicate n 0) ≡ replicate n number
over-zeros n number = map-replicate (max number) n 0 ∙ ap (replicate n) (let e : max number 0 ≡ number = omega arith in e)

-- the rows before this one have their numbers as their own, and those from it on have their own ones
pub record OwnsNumbers (all : ℕ) (old : List ℕ) (i : ℕ) (own : List ℕ) : Type 0 where
  pub count : length own ≡ length old
  pub before : (j : ℕ) → j < i → get_or own j 0 ≡ get_or (numbers_over all old) j 0
  pub behind : (j : ℕ) → i ≤ j → get_or own j 0 ≡ get_or old j 0

pub owns-none : (all : ℕ) (old : List ℕ) → OwnsNumbers all old 0 old
owns-none all old = record { count = refl; before = λ j l. absurd (omega arith); behind = λ j l. refl }

pub owns-more : (all : ℕ) (old own : List ℕ) (i number : ℕ) → i < length own → number ≡ get_or (numbers_over all own) i 0 → OwnsNumbers all old i own → OwnsNumbers all old (i + 1) (slice_set own i number)
owns-more all old own i number l e o = record {
  count = length-set own i number ∙ o.count;
  before = λ j below. elim (cases_eq j i) [
    | inl same ↦ ap (λ k. get_or (slice_set own i number) k 0) same ∙ get_or-set_same own i number 0 l
        ∙ (let is : number ≡ get_or (numbers_over all old) j 0 = rw same (e ∙ over-at all own i l ∙ ap (max all) (o.behind i (omega arith)) ∙ sym (over-at all old i (omega (arith, l, o.count)))) in is)
    | inr other ↦ get_or-set_other own i j number 0 other ∙ o.before j (omega arith)
  ];
  behind = λ j above. get_or-set_other own i j number 0 (λ same. omega arith) ∙ o.behind j (omega arith);
}

pub owns-all : (all : ℕ) (old : List ℕ) (i : ℕ) (own : List ℕ) → length old ≤ i → OwnsNumbers all old i own → (j : ℕ) → get_or own j 0 ≡ get_or (numbers_over all old) j 0
owns-all all old i own done o j = elim (cases_lt j i) [
  | inl before ↦ o.before j before
  | inr past ↦ get_or_past own j 0 (omega (arith, o.count)) ∙ sym (get_or_past (numbers_over all old) j 0 (omega (arith, length-map old (max all))))
]

-- each has its number as its own
pub over-owned : (all : ℕ) (own old : List ℕ) → length own ≡ length old → ((j : ℕ) → get_or own j 0 ≡ get_or (numbers_over all old) j 0) → (j : ℕ) → get_or (numbers_over 0 own) j 0 ≡ get_or (numbers_over all old) j 0
over-owned all own old count same j = elim (cases_lt j (length own)) [
  | inl l ↦ over-at 0 own j l ∙ (let none : max 0 (get_or own j 0) ≡ get_or own j 0 = omega arith in none) ∙ same j
  | inr past ↦ get_or_past (numbers_over 0 own) j 0 (omega (arith, past, length-map own (max 0))) ∙ sym (get_or_past (numbers_over all old) j 0 (omega (arith, past, count, length-map old (max all))))
]

-- one more row comes in
pub comes-in : (own xs : List ℕ) (n : ℕ) → length own ≡ n → length xs ≤ n → ((j : ℕ) → j < n → get_or own j 0 ≡ get_or xs j 0) → (j : ℕ) → j < n + 1 → get_or (own ++ 0 ∷ []) j 0 ≡ get_or xs j 0
comes-in own xs n e le same j l = elim (cases_lt j n) [
  | inl before ↦ get_or_append_left own (0 ∷ []) 0 j (omega arith) ∙ same j before
  | inr last ↦ get_or-append_right own (0 ∷ []) n j 0 e last ∙ (let zero : j - n ≡ 0 = omega arith in ap (λ k. get_or (0 ∷ []) k 0) zero) ∙ sym (get_or_past xs j 0 (omega arith))
]

-- one number
pub marked-one : (all : ℕ) (own : List ℕ) (a number own_number : ℕ) → a < length own → own_number ≡ max (get_or own a 0) number → AreMarked a 1 number (numbers_over all own) (numbers_over all (slice_set own a own_number))
marked-one all own a number own_number l e =
    let xs = numbers_over all own in
    let inside : a < length xs = omega (arith, l, length-map own (max all)) in
    let written : get_or (slice_set xs a (max all own_number)) a 0 ≡ max number (get_or xs a 0) =
    get_or-set_same xs a (max all own_number) 0 inside ∙ (let same : max all own_number ≡ max number (get_or xs a 0) = omega (arith, e, over-at all own a l) in same) in
    rw (over-set all own a own_number l) (record {
      same_count = length-set xs a (max all own_number);
      inside = λ j from to. subst (λ (k : ℕ). get_or (slice_set xs a (max all own_number)) k 0 ≡ max number (get_or xs k 0)) (let e : a ≡ j = omega arith in e) written;
      outside = λ j out. get_or-set_other xs a j (max all own_number) 0 (λ e. elim out [
        | inl before ↦ omega arith
        | inr behind ↦ omega arith
      ]);
    })

-- none
pub marked-none : (xs : List ℕ) (a number : ℕ) → AreMarked a 0 number xs xs
marked-none xs a number = record {
  same_count = refl;
  inside = λ j from to. absurd (omega arith);
  outside = λ j out. refl;
}

-- one more
pub marked-more : (xs ys zs : List ℕ) (a row number : ℕ) → a ≤ row → AreMarked a (row - a) number xs ys → AreMarked row 1 number ys zs → AreMarked a (row + 1 - a) number xs zs
marked-more xs ys zs a row number from m one = record {
  same_count = one.same_count ∙ m.same_count;
  inside = λ j after to. elim (cases_eq j row) [
    | inl e ↦ one.inside j (omega (arith, e)) (omega (arith, e)) ∙ ap (max number) (m.outside j (inr (omega (arith, e))))
    | inr other ↦ one.outside j (inl (omega arith)) ∙ m.inside j after (omega arith)
  ];
  outside = λ j out. elim out [
    | inl before ↦ one.outside j (inl (omega arith)) ∙ m.outside j (inl before)
    | inr behind ↦ one.outside j (inr (omega arith)) ∙ m.outside j (inr (omega arith))
  ];
}

-- all rows
pub marked-all : (all number more : ℕ) (own : List ℕ) (n : ℕ) → length own ≡ n → more ≡ max all number → AreMarked 0 n number (numbers_over all own) (numbers_over more own)
marked-all all number more own n e is =
    let old : length (numbers_over all own) ≡ n = length-map own (max all) ∙ e in
    let new : length (numbers_over more own) ≡ n = length-map own (max more) ∙ e in
    record {
      same_count = new ∙ sym old;
      inside = λ j from to. let there : j < length own = omega (arith, to, e) in omega (arith, is, over-at all own j there, over-at more own j there);
      outside = λ j out. elim out [
        | inl before ↦ absurd (omega arith)
        | inr behind ↦ get_or_past (numbers_over more own) j 0 (omega (arith, new)) ∙ sym (get_or_past (numbers_over all own) j 0 (omega (arith, old)))
      ];
    }

-- all rows, as a range of them
pub marked-whole : (first count n number : ℕ) (old new : List ℕ) → count ≡ n → first + count ≤ n → AreMarked 0 n number old new → AreMarked first count number old new
marked-whole first count n number old new all inside m = record {
  same_count = m.same_count;
  inside = λ j from to. m.inside j (omega arith) (omega (arith, all, inside));
  outside = λ j out. elim out [
    | inl before ↦ absurd (omega (arith, all, inside))
    | inr behind ↦ m.outside j (inr (omega (arith, all, inside)))
  ];
}

-- rows are taken with their own numbers, which were `before`, over one for all rows that isn't
-- above the new number, and those from one on are marked
pub renewed : (height first number all : ℕ) (old before own new : List ℕ) → first ≤ height → first ≤ length before → all ≤ number → length own ≡ height → ((j : ℕ) → get_or (numbers_over all before) j 0 ≡ get_or old j 0) → ((j : ℕ) → j < height → get_or own j 0 ≡ get_or before j 0) → AreMarked first (height - first) number (numbers_over all own) new → AreRenewed height first number old new
renewed height first number all old before own new inside there bounded count was same m =
    let over : (j : ℕ) → j < height → j < length before → get_or (numbers_over all own) j 0 ≡ get_or old j 0 =
    λ j l k. over-at all own j (omega (arith, count)) ∙ ap (max all) (same j l) ∙ sym (over-at all before j k) ∙ was j in
    let marked_over : (j : ℕ) → j < height → max number (get_or (numbers_over all own) j 0) ≡ max number (get_or old j 0) =
    λ j l. elim (cases_lt j (length before)) [
      | inl known ↦ ap (max number) (over j l known)
      | inr past ↦
          let own_zero : get_or own j 0 ≡ 0 = same j l ∙ get_or_past before j 0 past in
          let old_zero : get_or old j 0 ≡ 0 = sym (was j) ∙ get_or_past (numbers_over all before) j 0 (omega (arith, past, length-map before (max all))) in
          omega (arith, over-at all own j (omega (arith, count)), own_zero, old_zero, bounded)
    ] in
    record {
      count = m.same_count ∙ length-map own (max all) ∙ count;
      kept = λ j below. m.outside j (inl below) ∙ over j (omega arith) (omega arith);
      marked = λ j from l. m.inside j from (omega arith) ∙ marked_over j l;
    }

module _ {W : Type 0} where
  -- nothing has changed
  pub marks-none : (s : SurfaceValue W) → MarksRows no_row s s
  marks-none s = record { each = λ j l. inr (refl, (refl, refl, refl)) }

  -- the same rows by another test
  pub marks-alike : (u v : ℕ → Bool) (r s : SurfaceValue W) → ((j : ℕ) → v j ≡ u j) → MarksRows u r s → MarksRows v r s
  marks-alike u v r s same m = record {
    each = λ j l. elim (m.each j l) [
      | inl is ↦ inl (same j ∙ is.0, is.1)
      | inr stays ↦ inr (same j ∙ stays.0, stays.1)
    ];
  }

  -- two steps
  pub marks-then : (u v : ℕ → Bool) (r s t : SurfaceValue W) → s.height ≡ r.height → s.mark ≡ r.mark → MarksRows u r s → MarksRows v s t → MarksRows (λ j. u j || v j) r t
  marks-then u v r s t height mark first second = record {
    each = λ j l. elim (second.each j (subst (λ (h : ℕ). j < h) (sym height) l)) [
      | inl is ↦ elim (first.each j l) [
        | inl was ↦ inl (or_left (u j) (v j) was.0, omega (arith, is.1, was.1, mark))
        | inr stayed ↦ inl (or_right (u j) (v j) is.0, omega (arith, is.1, stayed.1.2, mark))
      ]
      | inr stays ↦ elim (first.each j l) [
        | inl was ↦ inl (or_left (u j) (v j) was.0, stays.1.2 ∙ was.1)
        | inr stayed ↦ inr (or_from (u j) (v j) stayed.0 stays.0, (stays.1.0 ∙ stayed.1.0, stays.1.1 ∙ stayed.1.1, stays.1.2 ∙ stayed.1.2))
      ]
    ];
  }

  -- of the rows that steps touch, some are marked, and those that the steps left touch are not yet
  pub record MarksSome (all left : ℕ → Bool) (old new : SurfaceValue W) : Type 0 where
    pub done : ℕ → Bool
    pub marks : MarksRows done old new
    pub both : (j : ℕ) → all j ≡ (done j || left j)

  pub some-none : (all : ℕ → Bool) (s : SurfaceValue W) → MarksSome all all s s
  some-none all s = record { done = no_row; marks = marks-none s; both = λ j. refl }

  pub some-more : (all left now rest : ℕ → Bool) (r s t : SurfaceValue W) → s.height ≡ r.height → s.mark ≡ r.mark → ((j : ℕ) → left j ≡ (now j || rest j)) → MarksSome all left r s → MarksRows now s t → MarksSome all rest r t
  some-more all left now rest r s t height mark is m next = record {
    done = λ j. m.done j || now j;
    marks = marks-then m.done now r s t height mark m.marks next;
    both = λ j. m.both j ∙ ap (λ b. m.done j || b) (is j) ∙ sym (or_assoc (m.done j) (now j) (rest j));
  }

  pub some-all : (all left : ℕ → Bool) (r s : SurfaceValue W) → ((j : ℕ) → left j ≡ false) → MarksSome all left r s → MarksRows all r s
  some-all all left r s none m = marks-alike m.done all r s (λ j. m.both j ∙ ap (λ b. m.done j || b) (none j) ∙ or-false (m.done j)) m.marks

-- the rows before and after a region
abbrev pub IsOutside : ℕ → ℕ → ℕ → Type 0
IsOutside a n j = (j < a) ⊎ (a + n ≤ j)

-- the elements of a region are others, and those outside stay
region-outside : {X : Type 0} (xs ys : List X) (a n j : ℕ) (d : X) → a + n ≤ length xs → length ys ≡ n → IsOutside a n j → get_or (with_region xs a n ys) j d ≡ get_or xs j d
region-outside xs ys a n j d inside long out =
    let front : length (take a xs) ≡ a = length-take a xs ∙ omega arith in
    elim out [
      | inl before ↦ get_or_append_left (take a xs) (ys ++ drop (a + n) xs) d j (omega (arith, front)) ∙ get_or-take a xs j d before
      | inr behind ↦
          get_or-append_right (take a xs) (ys ++ drop (a + n) xs) a j d front (omega arith)
          ∙ get_or-append_right ys (drop (a + n) xs) n (j - a) d long (omega arith)
          ∙ get_or-drop (a + n) xs (j - a - n) d
          ∙ ap (λ k. get_or xs k d) (omega arith)
    ]

module _ {X : Type 0} (d : X) (xs : List X) (a n k j : ℕ) (e : X) (inside : a + n ≤ length xs) (out : IsOutside a n j) where
  pub up-outside : get_or (region_up d xs a n k) j e ≡ get_or xs j e
  up-outside = region-outside xs _ a n j e inside (simp (length-append, length-drop, length-take, length-replicate) (omega arith)) out

  pub down-outside : get_or (region_down d xs a n k) j e ≡ get_or xs j e
  down-outside = region-outside xs _ a n j e inside (simp (length-append, length-drop, length-take, length-replicate) (omega arith)) out

-- of `height` rows the test holds for the n rows from row a on, and for no other
pub record AreRange (touched : ℕ → Bool) (height a n : ℕ) : Type 0 where
  pub each : (j : ℕ) → j < height → ((touched j ≡ true) × (a ≤ j) × (j < a + n)) ⊎ ((touched j ≡ false) × IsOutside a n j)

range-one : (height y : ℕ) → AreRange (λ j. j == y) height y 1
range-one height y = record {
  each = λ j l. elim (cases_eq j y) [
    | inl e ↦ inl (eq-eqb j y e, omega arith, omega arith)
    | inr other ↦ inr (
      ne_eqb j y other,
      elim (cases_lt j y) [
        | inl before ↦ inl before
        | inr from ↦ inr (omega arith)
      ],
    )
  ];
}

pub range-from : (height y : ℕ) → AreRange (λ j. nat_le y j) height y (height - y)
range-from height y = record {
  each = λ j l. elim (cases_lt j y) [
    | inl before ↦ inr (lt-leb y j before, inl before)
    | inr from ↦ inl (le-leb y j from, from, omega arith)
  ];
}

pub range-scroll : (height first size count : ℕ) → 0 < count → AreRange (scroll_touches first size count) height first size
range-scroll height first size count some = record {
  each = λ j l.
      let moves : nat_lt 0 count ≡ true = lt-ltb 0 count some in
      elim (cases_lt j first) [
        | inl before ↦ inr (rw (moves, lt-leb first j before) refl, inl before)
        | inr from ↦ elim (cases_lt j (first + size)) [
          | inl inner ↦ inl (rw (moves, le-leb first j from, lt-ltb j (first + size) inner) refl, from, inner)
          | inr behind ↦ inr (rw (moves, le-leb first j from, le-ltb j (first + size) behind) refl, inr behind)
        ]
      ];
}

module _ {W : Type 0} where
  -- rows from a on, n of them, are marked, and the others stay
  pub marks-range : (touched : ℕ → Bool) (old new : SurfaceValue W) (a n : ℕ) → AreRange touched old.height a n → new.width ≡ old.width → AreMarked a n old.mark old.numbers new.numbers
      → ((j : ℕ) → IsOutside a n j → row_at new.lines j ≡ row_at old.lines j) → ((j : ℕ) → IsOutside a n j → get_or new.flags j no_flags ≡ get_or old.flags j no_flags) → MarksRows touched old new
  marks-range touched old new a n range width m lines flags = record {
    each = λ j l. elim (range.each j l) [
      | inl is ↦ inl (is.0, m.inside j is.1 is.2)
      | inr out ↦ inr (out.0, (ap₂ row_of width (lines j out.1), flags j out.1, m.outside j out.1))
    ];
  }

  -- one row is marked, and the others stay
  pub marks-one : (y : ℕ) (old new : SurfaceValue W) → new.width ≡ old.width → AreMarked y 1 old.mark old.numbers new.numbers
      → ((j : ℕ) → IsOutside y 1 j → row_at new.lines j ≡ row_at old.lines j) → ((j : ℕ) → IsOutside y 1 j → get_or new.flags j no_flags ≡ get_or old.flags j no_flags) → MarksRows (λ j. j == y) old new
  marks-one y old new = marks-range (λ j. j == y) old new y 1 (range-one old.height y)

  -- all rows are marked
  pub marks-all : (n : ℕ) (old new : SurfaceValue W) → old.height ≤ n → AreMarked 0 n old.mark old.numbers new.numbers → MarksRows every_row old new
  marks-all n old new all m = record { each = λ j l. inl (refl, m.inside j (omega arith) (omega arith)) }

-- one element is another, and the others stay
pub set-outside : {X : Type 0} (xs : List X) (y : ℕ) (x d : X) (j : ℕ) → IsOutside y 1 j → get_or (slice_set xs y x) j d ≡ get_or xs j d
set-outside xs y x d j out = get_or-set_other xs y j x d (λ same. elim out [
  | inl before ↦ omega arith
  | inr behind ↦ omega arith
])

module _ {W : Type 0} where
  -- one row has other cells
  pub marks-set : (y : ℕ) (old new : SurfaceValue W) (row : List CellValue) → new.width ≡ old.width → AreMarked y 1 old.mark old.numbers new.numbers → new.lines ≡ slice_set old.lines y row → new.flags ≡ old.flags → MarksRows (λ j. j == y) old new
  marks-set y old new row width m lines flags = marks-one y old new width m
      (λ j out. ap (λ (ls : List (List CellValue)). row_at ls j) lines ∙ set-outside old.lines y row [] j out)
      (λ j out. ap (λ (fs : List LineFlags). get_or fs j no_flags) flags)

module _ {W : Type 0} where
  -- no row is touched, and one shows what it did by other cells
  pub marks-shown : (touched : ℕ → Bool) (y : ℕ) (old new : SurfaceValue W) → ((j : ℕ) → touched j ≡ false) → new.width ≡ old.width → new.numbers ≡ old.numbers → shown_at new y ≡ shown_at old y
      → ((j : ℕ) → IsOutside y 1 j → row_at new.lines j ≡ row_at old.lines j) → new.flags ≡ old.flags → MarksRows touched old new
  marks-shown touched y old new none width numbers shown lines flags = record {
    each = λ j l. inr (
      none j,
      (
        elim ((range-one old.height y).each j l) [
          | inl here ↦ let is : j ≡ y = omega (arith, here.1) in subst (λ (k : ℕ). shown_at new k ≡ shown_at old k) (sym is) shown
          | inr out ↦ ap₂ row_of width (lines j out.1)
        ],
        ap (λ (fs : List LineFlags). get_or fs j no_flags) flags,
        ap (λ (ns : List ℕ). get_or ns j 0) numbers,
      ),
    );
  }

  -- changes were made under the number that the list has, and then logged
  pub makes-logged : (f : List ℕ → ℕ) (s m : SurfaceValue W) (cs : List ChangeValue) (mark : ℕ) (log : LogValue) → mark ≡ next_number s.log + length cs → log ≡ appended s.log cs
      → Becomes (record s { mark = mark }) (replay f (screen_of s) cs) (replay_kept f (screen_of s) (kept_of s) cs) (touched f (screen_of s) cs) m → Makes f s cs (with_log m log)
  makes-logged f s m cs mark log e is b =
      let number : mark ≡ next_number (appended s.log cs) = omega (arith, e, length-append s.log.changes cs) in
      record {
        widths = b.widths;
        width = b.width;
        height = b.height;
        full = b.full;
        log = is;
        screen_is = b.screen_is;
        kept_is = b.kept_is;
        mark = b.mark ∙ number;
        rows = record {
          each = λ j l. elim (b.rows.each j l) [
            | inl is ↦ inl (is.0, is.1 ∙ ap (λ k. max k (number_at s j)) number)
            | inr stays ↦ inr stays
          ];
        };
      }

-- a scroll by 0 rows leaves the surface
module _ {W : Type 0} (s : SurfaceValue W) (first size count : ℕ) (e : count ≡ 0) where
  marks-still : MarksRows (scroll_touches first size count) s s
  marks-still = marks-alike no_row (scroll_touches first size count) s s (λ j. ap (λ k. scroll_touches first size k j) e) (marks-none s)

  pub up-still : Becomes s (record (screen_of s) { rows = region_up (replicate s.width blank) (screen_of s).rows first size count }) (record (kept_of s) { lengths = region_up s.width (lengths_of s) first size count; flags = region_up no_flags s.flags first size count }) (scroll_touches first size count) s
  up-still = record {
    widths = refl;
    width = refl;
    height = refl;
    full = refl;
    log = refl;
    screen_is = λ i. record (screen_of s) { rows = sym (up-none (replicate s.width blank) (screen_of s).rows first size count e) i };
    kept_is = λ i. record (kept_of s) {
      lengths = sym (up-none s.width (lengths_of s) first size count e) i;
      flags = sym (up-none no_flags s.flags first size count e) i;
    };
    mark = refl;
    rows = marks-still;
  }

  pub down-still : Becomes s (record (screen_of s) { rows = region_down (replicate s.width blank) (screen_of s).rows first size count }) (record (kept_of s) { lengths = region_down s.width (lengths_of s) first size count; flags = region_down no_flags s.flags first size count }) (scroll_touches first size count) s
  down-still = record {
    widths = refl;
    width = refl;
    height = refl;
    full = refl;
    log = refl;
    screen_is = λ i. record (screen_of s) { rows = sym (down-none (replicate s.width blank) (screen_of s).rows first size count e) i };
    kept_is = λ i. record (kept_of s) {
      lengths = sym (down-none s.width (lengths_of s) first size count e) i;
      flags = sym (down-none no_flags s.flags first size count e) i;
    };
    mark = refl;
    rows = marks-still;
  }

-- ---- what the numbers say

pub restarted_least : (l : LogValue) → next_number l ≤ next_number (restarted l)
restarted_least l = elim (cases_Bool (next_number l == 0)) [
  | inl e ↦ let none : next_number l ≡ 0 = eqb-true _ _ e in rw e (omega (arith, none))
  | inr e ↦ rw e (omega arith)
]

pub restarted_more : (l : LogValue) → 0 < next_number l → next_number l < next_number (restarted l)
restarted_more l some = elim (cases_Bool (next_number l == 0)) [
  | inl e ↦ let none : next_number l ≡ 0 = eqb-true _ _ e in absurd (omega (arith, none, some))
  | inr e ↦ rw e (omega arith)
]

module _ {W : Type 0} where
  pub numbers-same : (s : SurfaceValue W) → NumbersRows s s
  numbers-same s = record {
    stayed = λ n j some known l le. (refl, l, (refl, refl, refl));
    grows = omega arith;
  }

  pub numbers-then : (r s t : SurfaceValue W) → NumbersRows r s → NumbersRows s t → NumbersRows r t
  numbers-then r s t first second = record {
    stayed = λ n j some known l le.
        let later = second.stayed n j some (omega (arith, known, first.grows)) l le in
        let inside : j < s.height = later.1 in
        let below : number_at s j ≤ n = subst (λ (k : ℕ). k ≤ n) later.2.2 le in
        let before = first.stayed n j some known inside below in
        (later.0 ∙ before.0, before.1, (later.2.0 ∙ before.2.0, later.2.1 ∙ before.2.1, later.2.2 ∙ before.2.2));
    grows = omega (arith, first.grows, second.grows);
  }

  -- some changes were made
  pub numbers-makes : (f : List ℕ → ℕ) (s t : SurfaceValue W) (cs : List ChangeValue) → 0 < length cs → Makes f s cs t → NumbersRows s t
  numbers-makes f s t cs some m =
      let number : next_number (appended s.log cs) ≡ next_number s.log + length cs = omega (arith, length-append s.log.changes cs) in
      record {
        stayed = λ n j positive known l le. elim (m.rows.each j (subst (λ (h : ℕ). j < h) m.height l)) [
          | inl is ↦ let above : n < number_at t j = omega (arith, is.1, number, known, some) in absurd (omega (arith, above, le))
          | inr stays ↦ (m.width, subst (λ (h : ℕ). j < h) m.height l, stays.1)
        ];
        grows = omega (arith, number, ap next_number m.log);
      }

  -- all rows have the number of an emptied log
  pub numbers-restarted : (s t : SurfaceValue W) → t.log ≡ restarted s.log → ((j : ℕ) → j < t.height → next_number t.log ≤ number_at t j) → NumbersRows s t
  numbers-restarted s t log all = record {
    stayed = λ n j some known l le.
        let above : next_number s.log < next_number t.log = rw log (restarted_more s.log (omega (arith, some, known))) in
        absurd (omega (arith, all j l, above, known, le));
    grows = rw log (restarted_least s.log);
  }

  -- a row that a resize leaves alone was there, in the same width
  pub resize-leaves : (s : SurfaceValue W) (w j : ℕ) → resize_touches s w j ≡ false → (w ≡ s.width) × (j < s.height)
  resize-leaves s w j e =
      let parts = or_parts (not (w == s.width)) (nat_le s.height j) e in
      (eqb-true w s.width (not-false (w == s.width) parts.0), leb-false s.height j parts.1)

  -- the surface has taken another size
  pub numbers-resized : (s t : SurfaceValue W) (w h : ℕ) → HasResized s w h t → NumbersRows s t
  numbers-resized s t w h r = record {
    stayed = λ n j some known l le. elim (r.rows.each j (subst (λ (k : ℕ). j < k) r.height l)) [
      | inl is ↦
          let above : next_number s.log < next_number (restarted s.log) = restarted_more s.log (omega (arith, some, known)) in
          absurd (omega (arith, is.1, above, known, le))
      | inr stays ↦
          let left = resize-leaves s w j stays.0 in
          (r.width ∙ left.0, left.1, (stays.1.0 ∙ ap (λ k. row_of k (row_at s.lines j)) left.0, stays.1.1, stays.1.2))
    ];
    grows = rw r.log (restarted_least s.log);
  }

  -- none were made, whatever is logged
  pub numbers-none : (s t : SurfaceValue W) (mark : ℕ) (before log : LogValue) → t ≡ record s { log = before; mark = mark } → next_number s.log ≤ next_number log → NumbersRows s (with_log t log)
  numbers-none s t mark before log e le = subst (λ (v : SurfaceValue W). NumbersRows s (with_log v log)) (sym e) (record {
    stayed = λ n j some known l below. (refl, l, (refl, refl, refl));
    grows = le;
  })

  -- the numbers of rows after changes
  pub numbers-touched : (f : List ℕ → ℕ) (s t : SurfaceValue W) (cs : List ChangeValue) → Makes f s cs t → NumbersTouched f s cs t
  numbers-touched f s t cs m = λ j l.
      let number : next_number (appended s.log cs) ≡ next_number t.log = sym (ap next_number m.log) in
      elim (m.rows.each j l) [
        | inl is ↦ rw is.0 (is.1 ∙ ap (λ n. max n (number_at s j)) number)
        | inr stays ↦ rw stays.0 stays.1.2
      ]

  pub numbers-flushed_touched : (f : List ℕ → ℕ) (s t : SurfaceValue W) (cs : List ChangeValue) (k : ℕ) → Makes f s cs t → NumbersTouched f s cs (with_log t (flushed t.log k))
  numbers-flushed_touched f s t cs k m = λ j l. numbers-touched f s t cs m j l ∙ ap (λ n. cond (touched f (screen_of s) cs j) (max n (number_at s j)) (number_at s j)) (sym (flushed_number t.log k))

  -- a call that makes changes succeeded, or it failed, and then the log was emptied
  pub numbers-made : {E : Type 0} (f : List ℕ → ℕ) (s t : SurfaceValue W) (cs : List ChangeValue) (result : Result (Unit {0}) E) → is_err result ≡ false → (length cs ≡ 0 → NumbersRows s t) → OnOk result (Makes f s cs t) → NumbersRows s t
  numbers-made f s t cs (Ok u) e none m = elim (cases_eq (length cs) 0) [
    | inl e ↦ none e
    | inr some ↦ numbers-makes f s t cs (omega arith) m
  ]
  numbers-made f s t cs (Err x) e none m = absurd (true≢false e)

  pub numbers-unmade : {E : Type 0} (s t u : SurfaceValue W) (result : Result (Unit {0}) E) → is_err result ≡ true → OnErr result (SameFrame s t) → u.log ≡ restarted t.log → ((j : ℕ) → j < u.height → next_number u.log ≤ number_at u j) → NumbersRows s u
  numbers-unmade s t u (Ok x) e m log all = absurd (true≢false (sym e))
  numbers-unmade s t u (Err x) e m log all = numbers-restarted s u (log ∙ ap restarted m.log) all

  pub numbers-flushed : (s : SurfaceValue W) (k : ℕ) → NumbersRows s (with_log s (flushed s.log k))
  numbers-flushed s k = record {
    stayed = λ n j some known l le. (refl, l, (refl, refl, refl));
    grows = omega (arith, flushed_number s.log k);
  }

  -- another surface takes its place, whose rows have greater numbers than any that it had
  pub numbers-replaced : (s fresh t : SurfaceValue W) → next_number s.log < next_number fresh.log → ((j : ℕ) → j < fresh.height → next_number s.log < number_at fresh j) → NumbersRows fresh t → NumbersRows s t
  numbers-replaced s fresh t later above then = record {
    stayed = λ n j some known l le.
        let stays = then.stayed n j some (omega (arith, known, later)) l le in
        absurd (omega (arith, above j stays.1, stays.2.2, known, le));
    grows = omega (arith, later, then.grows);
  }
