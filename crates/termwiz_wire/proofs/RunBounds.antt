-- The numbers of a text's runs are no more than its bytes.
use Rattle.std.proofs.Common.{◌≡◌, ℕ, zero, suc, ◌+◌, ◌-◌, ◌*◌, ◌^◌, ◌<◌, ◌≤◌, true, false, cond, List, [], ◌∷◌, length, map, refl, ap, ◌∙◌, arith}
use Rattle.std.specs.List.{AllByRecursion, concat}
use Rattle.std.proofs.lemmas.List.{length-append}
use Rattle.core.specs.Str.{chars, chars_after, continuation_len, lead_bits}
use Rattle.unicode_segmentation.specs.Grapheme.{graphemes, is_grapheme_break}
use Rattle.unicode_segmentation.proofs.SegmentsLemmas.{concat-segments, length-segments}
use Rattle.cbor.specs.Encoding.{IsText}
use Rattle.termwiz_cell.specs.Attributes.{default_attributes}
use Rattle.termwiz_screen.specs.Print.{piece_of}
use Rattle.termwiz_screen.specs.declared.print.Piece.{Piece}
use Rattle.termwiz_screen.specs.declared.print.Piece.TheVariants.{CarriageReturn, LineFeed, CarriageReturnLineFeed, Cell}
use Rattle.termwiz_wire.specs.Pieces.{piece_columns, piece, pieces_of, alike, before, grouped, runs}
use Rattle.termwiz_wire.specs.declared.pieces.Run.{Run}

-- a run whose numbers have an encoding
pub record IsRun (r : Run) : Type 0 where
  pub count : r.count < 2 ^ 64
  pub characters : r.characters < 2 ^ 64
  pub columns : r.columns < 2 ^ 64

-- ---- how many pieces there are

abbrev total : List Run → ℕ
total [] = 0
total (r ∷ rs) = r.count + total rs

total-before : (r : Run) (rs : List Run) → total (before r rs) ≡ r.count + total rs
total-before r [] = refl
total-before r (s ∷ rs) =
    elim (alike r s) as (λ b. total (cond b (record s { count = r.count + s.count } ∷ rs) (r ∷ s ∷ rs)) ≡ r.count + (s.count + total rs)) [
      | true ↦ omega arith
      | false ↦ refl
    ]

total-grouped : (rs : List Run) → total (grouped rs) ≡ total rs
total-grouped [] = refl
total-grouped (r ∷ rs) = total-before r (grouped rs) ∙ ap (λ (n : ℕ). r.count + n) (total-grouped rs)

total-pieces : (measure : List ℕ → ℕ) (gs : List (List ℕ)) → total (map (piece measure) gs) ≡ length gs
total-pieces measure [] = refl
total-pieces measure (g ∷ gs) = omega (arith, total-pieces measure gs)

-- ---- how large each is

record IsSmall (n : ℕ) (r : Run) : Type 0 where
  pub characters : r.characters ≤ n
  pub columns : r.columns ≤ 2

small-before : (n : ℕ) (r : Run) (rs : List Run) → IsSmall n r → AllByRecursion (IsSmall n) rs → AllByRecursion (IsSmall n) (before r rs)
small-before n r [] one all = (one, tt)
small-before n r (s ∷ rs) one all =
    elim (alike r s) as (λ b. AllByRecursion (IsSmall n) (cond b (record s { count = r.count + s.count } ∷ rs) (r ∷ s ∷ rs))) [
      | true ↦ (record { characters = all.0.characters; columns = all.0.columns }, all.1)
      | false ↦ (one, all)
    ]

small-grouped : (n : ℕ) (rs : List Run) → AllByRecursion (IsSmall n) rs → AllByRecursion (IsSmall n) (grouped rs)
small-grouped n [] all = tt
small-grouped n (r ∷ rs) all = small-before n r (grouped rs) all.0 (small-grouped n rs all.1)

few-columns : (p : Piece) → piece_columns p ≤ 2
few-columns CarriageReturn = omega arith
few-columns LineFeed = omega arith
few-columns CarriageReturnLineFeed = omega arith
few-columns (Cell c) =
    elim c.wide as (λ b. cond b 2 1 ≤ 2) [
      | true ↦ omega arith
      | false ↦ omega arith
    ]

chars_after-few : (n c : ℕ) (bytes : List ℕ) → length (chars_after n c bytes) ≤ suc (length bytes)
chars_after-few zero c [] = omega arith
chars_after-few zero c (b ∷ bytes) = omega (arith, chars_after-few (continuation_len b) (lead_bits b) bytes)
chars_after-few (suc n) c [] = omega arith
chars_after-few (suc n) c (b ∷ bytes) = omega (arith, chars_after-few n (c * 64 + (b - 128)) bytes)

chars-few : (bytes : List ℕ) → length (chars bytes) ≤ length bytes
unfolding chars
chars-few [] = omega arith
chars-few (b ∷ bytes) = chars_after-few (continuation_len b) (lead_bits b) bytes

small-pieces : (measure : List ℕ → ℕ) (n : ℕ) (gs : List (List ℕ)) → length (concat gs) ≤ n → AllByRecursion (IsSmall n) (map (piece measure) gs)
small-pieces measure n [] few = tt
small-pieces measure n (g ∷ gs) few =
    let all : length (concat (g ∷ gs)) ≡ length g + length (concat gs) = length-append g (concat gs) in
    (record { characters = omega (arith, all, few, chars-few g); columns = few-columns (piece_of measure default_attributes g) }, small-pieces measure n gs (omega (arith, all, few)))

-- ---- the runs of a text

runs_fit : (n : ℕ) (rs : List Run) → n < 2 ^ 64 → total rs ≤ n → AllByRecursion (IsSmall n) rs → AllByRecursion IsRun rs
runs_fit n [] lt few all = tt
runs_fit n (r ∷ rs) lt few all = (record { count = omega arith; characters = omega (arith, all.0.characters); columns = omega (arith, all.0.columns) }, runs_fit n rs lt (omega arith) all.1)

pub runs-are : (measure : List ℕ → ℕ) (text : List ℕ) → IsText text → AllByRecursion IsRun (runs measure text)
unfolding runs
runs-are measure text is =
    let gs : List (List ℕ) = graphemes true text in
    let whole : concat gs ≡ text = concat-segments (is_grapheme_break true) text is.utf8 in
    let len : length (concat gs) ≡ length text = ap length whole in
    let many : length gs ≤ length text = length-segments (is_grapheme_break true) text is.utf8 in
    let counted : total (grouped (pieces_of measure text)) ≡ length gs = total-grouped (pieces_of measure text) ∙ total-pieces measure gs in
    runs_fit (length text) (grouped (pieces_of measure text)) is.length (omega (arith, counted, many)) (small-grouped (length text) (pieces_of measure text) (small-pieces measure (length text) gs (omega (arith, len))))
