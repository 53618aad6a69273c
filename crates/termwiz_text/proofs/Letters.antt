-- Letters that stand alone: what a Unicode table says of each.
use Rattle.std.proofs.Common.{◌≡◌, ℕ, ◌≤◌, Bool, true, false, not, ◌&&◌, ◌||◌, ◌==◌, inl, inr, List, [], ◌∷◌, ◌++◌, length, Some, None, refl, sym, ap, ◌∙◌, arith}
use Rattle.std.proofs.lemmas.Bool.{and_parts, or_cases, cases_lt, leb-true, lt-leb, ne_eqb, true≢false}
use Rattle.std.proofs.lemmas.Str.{chars-nil, chars_past_char, encodes-chars, IsUtf8-past_char}
use Rattle.std.specs.Prelude.{nat_le, encode_utf8, encode_utf8_all}
use Rattle.std.specs.Int.{is_in_range}
use Rattle.std.specs.Str.{chars, IsUtf8}
use Rattle.ucd_table.specs.Rows.{Range, in_ranges}
use Rattle.ucd_table.proofs.Facts.{Stepped-everywhere, always, ends_by}
use Rattle.ucd_table.proofs.Stepped.{Stepped, zip_stepped, of_ranges}
use Rattle.ucd_table.proofs.StepsLemmas.{rises_from}
use Rattle.termwiz_text.specs.Letter.{is_letter, is_narrow, only_char}

abbrev pub letter_ranges : List Range
letter_ranges = (0x3041, 0x3096) ∷ (0x30A1, 0x30FA) ∷ (0x4E00, 0x9FFF) ∷ []

in_letter_ranges : (c : ℕ) → in_ranges letter_ranges c ≡ is_letter c
unfolding in_ranges
in_letter_ranges c = regroup (is_in_range 0x3041 0x3096 c) (is_in_range 0x30A1 0x30FA c) (is_in_range 0x4E00 0x9FFF c)
  where
    regroup : (x y z : Bool) → (x || (y || (z || false))) ≡ ((x || y) || z)
    regroup true y z = refl
    regroup false true z = refl
    regroup false false true = refl
    regroup false false false = refl

unfoldable pub letters_stepped : Stepped (in_ranges letter_ranges)
unfolding rises_from
letters_stepped = of_ranges letter_ranges refl

abbrev pub narrow_ranges : List Range
narrow_ranges = (0x00C0, 0x02FF) ∷ (0x0391, 0x03C9) ∷ (0x0400, 0x0482) ∷ (0x2200, 0x22FF) ∷ (0x2500, 0x259F) ∷ (0x2800, 0x28FF) ∷ []

in_narrow_ranges : (c : ℕ) → in_ranges narrow_ranges c ≡ is_narrow c
unfolding in_ranges
in_narrow_ranges c =
    regroup (is_in_range 0x00C0 0x02FF c) (is_in_range 0x0391 0x03C9 c) (is_in_range 0x0400 0x0482 c) (is_in_range 0x2200 0x22FF c) (is_in_range 0x2500 0x259F c) (is_in_range 0x2800 0x28FF c)
  where
    regroup : (u v w x y z : Bool) → (u || (v || (w || (x || (y || (z || false)))))) ≡ (((((u || v) || w) || x) || y) || z)
    regroup true v w x y z = refl
    regroup false true w x y z = refl
    regroup false false true x y z = refl
    regroup false false false true y z = refl
    regroup false false false false true z = refl
    regroup false false false false false true = refl
    regroup false false false false false false = refl

unfoldable pub narrow_stepped : Stepped (in_ranges narrow_ranges)
unfolding rises_from
narrow_stepped = of_ranges narrow_ranges refl

-- the value passes, where it is that of a character within
abbrev pub passes_if : {V : Type 0} → (V → Bool) → Bool → V → Bool
passes_if test within v = not within || test v

-- the test of each value within the ranges, along the steps of the table
abbrev pub within_along : {V : Type 0} (ranges : List Range) → Stepped (in_ranges ranges) → (f : ℕ → V) → Stepped f → (test : V → Bool) → Stepped (λ c. passes_if test (in_ranges ranges c) (f c))
within_along ranges within f s test = zip_stepped (passes_if test) (in_ranges ranges) f within s

abbrev pub within_passes : {V : Type 0} (ranges : List Range) → Stepped (in_ranges ranges) → (f : ℕ → V) → Stepped f → (V → Bool) → Bool
within_passes ranges within f s test =
    let along = within_along ranges within f s test in
    always (λ c. passes_if test (in_ranges ranges c) (f c)) along && (ends_by 0x11_0000 along.steps && along.default)

Stepped-within : {V : Type 0} (ranges : List Range) (within : Stepped (in_ranges ranges)) (f : ℕ → V) (s : Stepped f) (test : V → Bool) → within_passes ranges within f s test ≡ true → (c : ℕ) → in_ranges ranges c ≡ true → test (f c) ≡ true
Stepped-within ranges within f s test ok c h =
    sym (ap (λ inside. not inside || test (f c)) h)
    ∙ Stepped-everywhere (λ c. passes_if test (in_ranges ranges c) (f c)) (within_along ranges within f s test) ok c

pub Stepped-letters : {V : Type 0} (f : ℕ → V) (s : Stepped f) (test : V → Bool) → within_passes letter_ranges letters_stepped f s test ≡ true → (c : ℕ) → is_letter c ≡ true → test (f c) ≡ true
Stepped-letters f s test ok c h = Stepped-within letter_ranges letters_stepped f s test ok c (in_letter_ranges c ∙ h)

pub Stepped-narrow : {V : Type 0} (f : ℕ → V) (s : Stepped f) (test : V → Bool) → within_passes narrow_ranges narrow_stepped f s test ≡ true → (c : ℕ) → is_narrow c ≡ true → test (f c) ≡ true
Stepped-narrow f s test ok c h = Stepped-within narrow_ranges narrow_stepped f s test ok c (in_narrow_ranges c ∙ h)

pub letter_from : (c : ℕ) → is_letter c ≡ true → 0x3041 ≤ c
letter_from c h = elim (or_cases (is_in_range 0x3041 0x3096 c || is_in_range 0x30A1 0x30FA c) (is_in_range 0x4E00 0x9FFF c) h) [
  | inl kana ↦ elim (or_cases (is_in_range 0x3041 0x3096 c) (is_in_range 0x30A1 0x30FA c) kana) [
    | inl x ↦ lowest 0x3041 0x3096 x
    | inr x ↦ let l = lowest 0x30A1 0x30FA x in omega arith
  ]
  | inr x ↦ let l = lowest 0x4E00 0x9FFF x in omega arith
]
  where
    lowest : (low high : ℕ) → is_in_range low high c ≡ true → low ≤ c
    lowest low high x = leb-true low c (and_parts (nat_le low c) (nat_le c high) x).0

-- A narrow character is no control character. Each range begins above those.
pub narrow_from : (c : ℕ) → is_narrow c ≡ true → 0xA1 ≤ c
narrow_from c h = elim (cases_lt c 0xA1) [
  | inr m ↦ m
  | inl l ↦ absurd (true≢false (sym h ∙ rw (lt-leb 0x00C0 c (omega arith), lt-leb 0x0391 c (omega arith), lt-leb 0x0400 c (omega arith), lt-leb 0x2200 c (omega arith), lt-leb 0x2500 c (omega arith), lt-leb 0x2800 c (omega arith)) refl))
]

-- a character that a text begins with is the only one where nothing follows
module _ (text rest : List ℕ) (c : ℕ) (u : IsUtf8 text) (split : text ≡ encode_utf8 c ++ rest) where
  later : encode_utf8_all (chars rest) ≡ rest
  later = encodes-chars rest (IsUtf8-past_char text rest c u split)

  front : chars text ≡ c ∷ chars rest
  front = chars_past_char text rest c u split

  pub is_only : (length rest == 0) ≡ true → Some c ≡ only_char (chars text)
  is_only h = sym (ap only_char front ∙ some rest h)
    where
      some : (rest : List ℕ) → (length rest == 0) ≡ true → only_char (c ∷ chars rest) ≡ Some c
      some [] h = ap (λ cs. only_char (c ∷ cs)) chars-nil
      some (b ∷ rest) h = absurd (true≢false (sym h ∙ ne_eqb (length (b ∷ rest)) 0 (omega arith)))

  pub is_not_only : (length rest == 0) ≡ false → None ≡ only_char (chars text)
  is_not_only h = sym (ap only_char front ∙ more rest (chars rest) later h)
    where
      more : (rest cs : List ℕ) → encode_utf8_all cs ≡ rest → (length rest == 0) ≡ false → only_char (c ∷ cs) ≡ None
      more [] cs e h = absurd cc
      more (b ∷ rest) [] e h = absurd cc
      more (b ∷ rest) (d ∷ cs) e h = refl
