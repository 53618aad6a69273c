-- Parts of a text: runs of ASCII and of letters, and the pieces that graphemes print.
use Rattle.std.specs.Prelude.{◌≡◌, ℕ, ◌*◌, ◌<◌, ◌≤◌, true, List, [], ◌∷◌, ◌++◌, map, length, encode_utf8}
use Rattle.std.specs.List.{All, list_all}
use Rattle.std.specs.Str.{chars}
use Rattle.unicode_segmentation.specs.Grapheme.{graphemes}
use Rattle.termwiz_text.specs.Letter.{AreLetters}
use Rattle.termwiz_text.specs.Plain.{is_plain}
use Rattle.termwiz_screen.specs.Measured.{IsMeasured}
use Rattle.termwiz_screen.specs.declared.print.Piece.{Piece}
use Rattle.termwiz_screen.specs.declared.print.Piece.TheVariants.{CarriageReturn, LineFeed, CarriageReturnLineFeed, Cell}

-- each of these characters of ASCII has one column at most
abbrev pub AreNarrow : (List ℕ → ℕ) → List ℕ → Type 0
AreNarrow measure run = All (λ b. measure (b ∷ []) ≤ 1) run

-- the text begins with this run of printable ASCII, which fits in this many columns: each of the
-- run is a grapheme by itself
pub record IsNarrowRun (measure : List ℕ → ℕ) (text : List ℕ) (columns : ℕ) (run rest : List ℕ) :
    Type 0 where
  pub whole : run ++ rest ≡ text
  pub plain : list_all is_plain run ≡ true
  pub narrow : AreNarrow measure run
  pub within : length run ≤ columns
  pub graphemes_are : graphemes true text ≡ map (λ c. c ∷ []) run ++ graphemes true rest

-- each of these letters has two columns
abbrev pub AreWide : (List ℕ → ℕ) → List ℕ → Type 0
AreWide measure letters = All (λ c. 1 < measure (encode_utf8 c)) letters

-- the text begins with this run of letters of two columns each, which fits in this many columns:
-- each of the run is a grapheme by itself
pub record IsWideRun (measure : List ℕ → ℕ) (text : List ℕ) (columns : ℕ) (run rest : List ℕ) :
    Type 0 where
  pub whole : run ++ rest ≡ text
  pub letters : AreLetters run
  pub wide : AreWide measure (chars run)
  pub within : 2 * length (chars run) ≤ columns
  pub graphemes_are : graphemes true text ≡ map encode_utf8 (chars run) ++ graphemes true rest

-- a piece that is a cell is measured
abbrev pub IsMeasuredPiece : (List ℕ → ℕ) → Piece → Type 0
IsMeasuredPiece measure CarriageReturn = Unit {0}
IsMeasuredPiece measure LineFeed = Unit {0}
IsMeasuredPiece measure CarriageReturnLineFeed = Unit {0}
IsMeasuredPiece measure (Cell c) = IsMeasured measure c
