-- Runs of pieces, and the runs that texts begin with.
use Rattle.std.proofs.Common.{◌≡◌, ℕ, suc, ◌+◌, ◌<◌, ◌≤◌, Bool, true, false, ◌&&◌, ◌||◌, ◌==◌, inl, inr, List, [], ◌∷◌, ◌++◌, map, length, length-append, add_assoc, append-nil, eqb-true, eq-eqb, refl, sym, ap, ap₂, ◌∙◌, arith}
use Rattle.std.proofs.lemmas.Bool.{cases_Bool, and_parts, lt-ltb}
use Rattle.std.proofs.lemmas.List.{map-append, length-map}
use Rattle.std.proofs.lemmas.Str.{chars-nil, chars_past_char, IsUtf8-encode}
use Rattle.std.specs.Prelude.{encode_utf8}
use Rattle.std.specs.List.{All, AllByRecursion, list_all}
use Rattle.std.specs.Str.{chars, IsUtf8}
use Rattle.unicode_segmentation.specs.Grapheme.{graphemes, is_grapheme_break}
use Rattle.unicode_segmentation.proofs.SegmentsLemmas.{length-segments}
use Rattle.termwiz_text.specs.First.{IsFirst}
use Rattle.termwiz_text.specs.Letter.{is_letter}
use Rattle.termwiz_text.specs.Plain.{is_plain}
use Rattle.termwiz_text.proofs.Plain.{chars_plain, utf8_one}
use Rattle.termwiz_text.proofs.LetterRuns.{letter_to}
use Rattle.termwiz_cell.specs.Attributes.{default_attributes}
use Rattle.termwiz_cell.specs.CellValue.{columns}
use Rattle.termwiz_screen.specs.Runs.{IsNarrowRun, IsWideRun}
use Rattle.termwiz_screen.proofs.Runs.{PrintsCell-plain}
use Rattle.termwiz_screen.proofs.LetterRuns.{PrintsCell-letter}
use Rattle.termwiz_wire.specs.Pieces.{alike, before, grouped, needs_pieces, piece, piece_columns, pieces_of, runs, stands_out}
use Rattle.termwiz_wire.specs.Beginning.{IsBeginning}
use Rattle.termwiz_wire.specs.declared.pieces.Run.{Run}

pub runs_are : (f : List ℕ → ℕ) (text : List ℕ) → runs f text ≡ grouped (pieces_of f text)
unfolding runs
runs_are f text = refl

-- ---- runs before others

alike_is : (r s : Run) → alike r s ≡ true → (r.characters ≡ s.characters) × (r.columns ≡ s.columns)
alike_is r s h = let p = and_parts (r.characters == s.characters) (r.columns == s.columns) h in (eqb-true _ _ p.0, eqb-true _ _ p.1)

-- alike runs are alike to the same ones
alike-alike : (r s t : Run) → alike r s ≡ true → alike r t ≡ alike s t
alike-alike r s t h = let p = alike_is r s h in ap₂ (λ a b. a == t.characters && b == t.columns) p.0 p.1

-- a run before one that is alike is one with it
pub before-alike : (r s : Run) (rs : List Run) → alike r s ≡ true → before r (before s rs) ≡ before (record s { count = r.count + s.count }) rs
before-alike r s [] h = rw h refl
before-alike r s (t ∷ ts) h = elim (cases_Bool (alike s t)) [
  | inl y ↦
      let z : alike r t ≡ true = alike-alike r s t h ∙ y in
      let P : ℕ → List Run = λ n. record t { count = n } ∷ ts in
      rw (y, z) (ap P (sym (add_assoc r.count s.count t.count)))
  | inr n ↦ rw (n, h) refl
]

-- so it grows
before-grown : (r s : Run) (rs : List Run) → alike r s ≡ true → before r (before s rs) ≡ before (record r { count = r.count + s.count }) rs
before-grown r s rs h =
    let p = alike_is r s h in
    before-alike r s rs h ∙ ap₂ (λ a b. before (record { count = r.count + s.count; characters = a; columns = b }) rs) (sym p.0) (sym p.1)

-- a run before another one stands by itself
pub before-apart : (r s : Run) (rs : List Run) → alike r s ≡ false → before r (before s rs) ≡ r ∷ before s rs
before-apart r s [] h = rw h refl
before-apart r s (t ∷ ts) h = elim (cases_Bool (alike s t)) [
  | inl y ↦
      let p = alike_is s t y in
      let z : alike r t ≡ false = sym (ap₂ (λ a b. r.characters == a && r.columns == b) p.0 p.1) ∙ h in
      rw (y, z) refl
  | inr n ↦ rw (n, h) refl
]

-- n pieces of these numbers of characters and columns
abbrev many : ℕ → ℕ → ℕ → Run
many a b n = record { count = n; characters = a; columns = b }

-- pieces alike before others are a run
grouped-alike : (a b : ℕ) (h : ℕ → Run) (cs : List ℕ) (rs : List Run) → AllByRecursion (λ c. h c ≡ many a b 1) cs → 0 < length cs → grouped (map h cs ++ rs) ≡ before (many a b (length cs)) (grouped rs)
grouped-alike a b h [] rs e l = absurd (omega arith)
grouped-alike a b h (c ∷ []) rs e l = ap (λ r. before r (grouped rs)) e.0
grouped-alike a b h (c ∷ (d ∷ cs)) rs e l =
    let same : alike (many a b 1) (many a b (length (d ∷ cs))) ≡ true = ap₂ (λ x y. x && y) (eq-eqb a a refl) (eq-eqb b b refl) in
    let sum : 1 + length (d ∷ cs) ≡ length (c ∷ (d ∷ cs)) = omega arith in
    ap₂ (λ r rs. before r rs) e.0 (grouped-alike a b h (d ∷ cs) rs e.1 (omega arith))
    ∙ before-alike (many a b 1) (many a b (length (d ∷ cs))) (grouped rs) same
    ∙ ap (λ n. before (many a b n) (grouped rs)) sum

-- ---- the run that a text begins with

-- it is cut so
begun : (f : List ℕ → ℕ) (text rest : List ℕ) (ps : List Run) (run : Run) → pieces_of f text ≡ ps ++ pieces_of f rest → grouped (ps ++ pieces_of f rest) ≡ before run (grouped (pieces_of f rest)) → runs f text ≡ before run (runs f rest)
begun f text rest ps run e h = runs_are f text ∙ ap grouped e ∙ h ∙ sym (ap (before run) (runs_are f rest))

map-map : (f : List ℕ → ℕ) (g : ℕ → List ℕ) (cs : List ℕ) → map (piece f) (map g cs) ≡ map (λ c. piece f (g c)) cs
map-map f g [] = refl
map-map f g (c ∷ cs) = ap (λ rs. piece f (g c) ∷ rs) (map-map f g cs)

cut_so : (f : List ℕ → ℕ) (g : ℕ → List ℕ) (text cs rest : List ℕ) → graphemes true text ≡ map g cs ++ graphemes true rest → pieces_of f text ≡ map (λ c. piece f (g c)) cs ++ pieces_of f rest
cut_so f g text cs rest e = ap (map (piece f)) e ∙ map-append (piece f) (map g cs) (graphemes true rest) ∙ ap (λ rs. rs ++ pieces_of f rest) (map-map f g cs)

piece-plain : (f : List ℕ → ℕ) (c : ℕ) → is_plain c ≡ true → f (c ∷ []) ≤ 1 → piece f (c ∷ []) ≡ many 1 1 1
piece-plain f c h n =
    let prints = PrintsCell-plain f default_attributes c h n in
    let one : chars (c ∷ []) ≡ c ∷ [] = chars_plain c [] (utf8_one c h) h ∙ ap (λ cs. c ∷ cs) chars-nil in
    ap₂ (λ a b. many a b 1) (ap length one) (ap piece_columns prints.is_text ∙ ap columns prints.cell_is)

pieces-plain : (f : List ℕ → ℕ) (cs : List ℕ) → list_all is_plain cs ≡ true → All (λ b. f (b ∷ []) ≤ 1) cs → AllByRecursion (λ c. piece f (c ∷ []) ≡ many 1 1 1) cs
pieces-plain f [] h n = tt
pieces-plain f (c ∷ cs) h n =
    let p = and_parts (is_plain c) (list_all is_plain cs) h in
    (piece-plain f c p.0 (n 0 0 (omega arith)), pieces-plain f cs p.1 (λ k d l. n (suc k) d (omega arith)))

pub beginning_of_plain : (f : List ℕ → ℕ) (text run rest : List ℕ) (columns : ℕ) → IsNarrowRun f text columns run rest → 0 < length run → IsBeginning f text (record { count = length run; characters = 1; columns = 1 }) rest
beginning_of_plain f text run rest columns is some = record {
  runs_are = begun f text rest (map (λ c. piece f (c ∷ [])) run) (many 1 1 (length run)) (cut_so f (λ c. c ∷ []) text run rest is.graphemes_are) (grouped-alike 1 1 (λ c. piece f (c ∷ [])) run (pieces_of f rest) (pieces-plain f run is.plain is.narrow) some);
  some = some;
  within = omega (arith, length-append run rest, ap length is.whole);
}

letter_text : (c : ℕ) → is_letter c ≡ true → IsUtf8 (encode_utf8 c)
letter_text c h = let to : c ≤ 0x9FFF = letter_to c h in IsUtf8-encode c (rw (lt-ltb c 0xD800 (omega arith)) refl)

piece-letter : (f : List ℕ → ℕ) (c : ℕ) → is_letter c ≡ true → 1 < f (encode_utf8 c) → piece f (encode_utf8 c) ≡ many 1 2 1
piece-letter f c h n =
    let prints = PrintsCell-letter f default_attributes c h n in
    let one : chars (encode_utf8 c) ≡ c ∷ [] = chars_past_char (encode_utf8 c) [] c (letter_text c h) (sym (append-nil (encode_utf8 c))) ∙ ap (λ cs. c ∷ cs) chars-nil in
    ap₂ (λ a b. many a b 1) (ap length one) (ap piece_columns prints.is_text ∙ ap columns prints.cell_is)

pieces-letters : (f : List ℕ → ℕ) (cs : List ℕ) → list_all is_letter cs ≡ true → All (λ c. 1 < f (encode_utf8 c)) cs → AllByRecursion (λ c. piece f (encode_utf8 c) ≡ many 1 2 1) cs
pieces-letters f [] h n = tt
pieces-letters f (c ∷ cs) h n =
    let p = and_parts (is_letter c) (list_all is_letter cs) h in
    (piece-letter f c p.0 (n 0 0 (omega arith)), pieces-letters f cs p.1 (λ k d l. n (suc k) d (omega arith)))

pub beginning_of_letters : (f : List ℕ → ℕ) (text run rest : List ℕ) (columns : ℕ) → IsWideRun f text columns run rest → 0 < length (chars run) → length (chars run) ≤ length run → IsBeginning f text (record { count = length (chars run); characters = 1; columns = 2 }) rest
beginning_of_letters f text run rest columns is some few = record {
  runs_are = begun f text rest (map (λ c. piece f (encode_utf8 c)) (chars run)) (many 1 2 (length (chars run))) (cut_so f encode_utf8 text (chars run) rest is.graphemes_are) (grouped-alike 1 2 (λ c. piece f (encode_utf8 c)) (chars run) (pieces_of f rest) (pieces-letters f (chars run) is.letters is.wide) some);
  some = some;
  within = omega (arith, length-append run rest, ap length is.whole);
}

pub beginning_of_piece : (f : List ℕ → ℕ) (text g rest : List ℕ) → IsFirst text g rest → IsBeginning f text (piece f g) rest
beginning_of_piece f text g rest is = record {
  runs_are = begun f text rest (piece f g ∷ []) (piece f g) (ap (map (piece f)) is.graphemes_are) refl;
  some = omega arith;
  within = let l = is.shrinks in omega arith;
}

pub runs-nothing : (f : List ℕ → ℕ) (text : List ℕ) → graphemes true text ≡ [] → runs f text ≡ []
runs-nothing f text e = runs_are f text ∙ ap (λ gs. grouped (map (piece f) gs)) e

-- ---- a run that goes on in what is left

pub run_grows : (f : List ℕ → ℕ) (all : List Run) (run next : Run) (left after : List ℕ) → all ≡ before run (runs f left) → IsBeginning f left next after → alike run next ≡ true → all ≡ before (record run { count = run.count + next.count }) (runs f after)
run_grows f all run next left after e is same = e ∙ ap (before run) is.runs_are ∙ before-grown run next (runs f after) same

pub run_ends : (f : List ℕ → ℕ) (all : List Run) (run next : Run) (left after : List ℕ) → all ≡ before run (runs f left) → IsBeginning f left next after → alike run next ≡ false → all ≡ run ∷ before next (runs f after)
run_ends f all run next left after e is other = e ∙ ap (before run) is.runs_are ∙ before-apart run next (runs f after) other

pub run_is_last : (f : List ℕ → ℕ) (all : List Run) (run : Run) (left : List ℕ) → all ≡ before run (runs f left) → runs f left ≡ [] → all ≡ run ∷ []
run_is_last f all run left e none = e ∙ ap (before run) none

-- ---- how many there are

length-before : (r : Run) (rs : List Run) → length (before r rs) ≤ suc (length rs)
length-before r [] = omega arith
length-before r (s ∷ rs) = elim (cases_Bool (alike r s)) [ inl y ↦ rw y (omega arith) | inr n ↦ rw n (omega arith) ]

length-grouped : (rs : List Run) → length (grouped rs) ≤ length rs
length-grouped [] = omega arith
length-grouped (r ∷ rs) = omega (arith, length-before r (grouped rs), length-grouped rs)

-- a text has no more runs than bytes
pub length-runs : (f : List ℕ → ℕ) (text : List ℕ) → IsUtf8 text → length (runs f text) ≤ length text
length-runs f text u = rw (runs_are f text) (omega (arith, length-grouped (pieces_of f text), length-map (graphemes true text) (piece f), length-segments (is_grapheme_break true) text u))

-- ---- what needs pieces

any-before : (r : Run) (rs : List Run) → needs_pieces (before r rs) ≡ (stands_out r || needs_pieces rs)
any-before r [] = refl
any-before r (s ∷ rs) = elim (cases_Bool (alike r s)) [
  | inl y ↦
      let p = alike_is r s y in
      let same : stands_out r ≡ stands_out s = stands_alike r s p.0 p.1 in
      rw (y, same) (twice (stands_out s) (needs_pieces rs))
  | inr n ↦ rw n refl
]
  where
    twice : (a b : Bool) → (a || b) ≡ (a || (a || b))
    twice true b = refl
    twice false b = refl

    stands_alike : (r s : Run) → r.characters ≡ s.characters → r.columns ≡ s.columns → stands_out r ≡ stands_out s
    stands_alike r s e h = ap₂ (λ a b. stands_out (many a b 1)) e h

pub any-grouped : (rs : List Run) → needs_pieces (grouped rs) ≡ needs_pieces rs
any-grouped [] = refl
any-grouped (r ∷ rs) = any-before r (grouped rs) ∙ ap (λ b. stands_out r || b) (any-grouped rs)
