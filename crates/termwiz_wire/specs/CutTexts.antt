-- How a change of a text is decoded whose pieces are not all there.
use Rattle.std.specs.Prelude.{ℕ, Bool, false, ◌&&◌, ◌==◌, List, length, drop, string_bytes, Some, Result, Ok, if◌then◌else◌}
use Rattle.std.specs.Str.{chars}
use Rattle.cbor.specs.Decoding.{◌>>=◌, Stop, ok, text_at}
use Rattle.cbor.specs.declared.error.FaultKind.TheVariants as faults
use Rattle.termwiz_cell.specs.ChangeValue.{ChangeValue}
use Rattle.termwiz_cell.specs.ChangeValue as changed
use Rattle.termwiz_wire.specs.Cuts.{are_at, no_run, refused, runs_at, threes_at}
use Rattle.termwiz_wire.specs.Decoding.{change_kind_at, count_at}
use Rattle.termwiz_wire.specs.Pieces.{needs_pieces}
use Rattle.termwiz_wire.specs.Work.{bears}
use Rattle.termwiz_wire.specs.declared.decode.cut_texts.BegunPieces.{BegunPieces}
use Rattle.termwiz_wire.specs.declared.decode.cut_texts.BegunPieces.TheVariants as pieces
use Rattle.termwiz_wire.specs.declared.decode.cut_texts.BegunText.{BegunText}
use Rattle.termwiz_wire.specs.declared.decode.other_runs.OtherRuns.{OtherRuns}
use Rattle.termwiz_wire.specs.declared.decode.cut_texts.OwnRuns.{OwnRuns}
use Rattle.termwiz_wire.specs.declared.decode.cut_texts.Places.{Places}
use Rattle.termwiz_wire.specs.declared.decode.heads.Head.{Head}
use Rattle.termwiz_wire.specs.declared.pieces.Run.{Run}

-- a text whose runs come as it has them here: how many it has, and those that are left
pub record OwnPart : Type 0 where
  pub text : List ℕ
  pub count : ℕ
  pub left : List Run

-- runs that are decoded by their rules alone: the characters after them, the last one, whether one
-- of them is a reason to send them, and how many are left
pub record OtherPart : Type 0 where
  pub characters : List ℕ
  pub last : Run
  pub needed : Bool
  pub left : ℕ

pub data PiecesPart : Type 0 where
  Own : (part : OwnPart) → PiecesPart
  Other : (part : OtherPart) → PiecesPart

-- a change of a text as far as it is decoded: where its parts begin, and its pieces
pub record TextPart : Type 0 where
  pub places : Places
  pub pieces : PiecesPart

abbrev pub own_part : OwnRuns → OwnPart
own_part own =
    record {
      text = string_bytes own.text;
      count = length own.runs.items;
      left = drop own.read own.runs.items;
    }

abbrev pub other_part : OtherRuns → OtherPart
other_part other =
    record {
      characters = drop other.passed other.characters.items;
      last = other.last;
      needed = other.needed;
      left = other.left;
    }

abbrev pub pieces_part : BegunPieces → PiecesPart
pieces_part (pieces.Own own) = Own (own_part own)
pieces_part (pieces.Other other) = Other (other_part other)

abbrev pub text_part : BegunText → TextPart
text_part text = record { places = text.places; pieces = pieces_part text.pieces }

-- ---- up to the first run

-- the bytes from the text on, in a change of one with pieces
unfoldable pub with_pieces_at : ℕ → List ℕ → Result (List ℕ) Stop
with_pieces_at room bytes = do
  count ← count_at room bytes
  kind ← change_kind_at room count.0 count.1
  if kind.0 == 2 && count.0 == 3 then Ok kind.1 else refused faults.Type room kind.1

-- a text, and how many numbers its pieces have
unfoldable pub text_begun_at : ℕ → List ℕ → Result ((List ℕ × ℕ) × List ℕ) Stop
text_begun_at room bytes = do
  start ← with_pieces_at room bytes
  text ← text_at room start
  numbers ← threes_at room text.1
  ok (text.0, numbers.0) numbers.1

-- `count` runs of a text, by their rules alone
abbrev pub all_others : List ℕ → ℕ → OtherPart
all_others text count =
    record { characters = chars text; last = no_run; needed = false; left = count }

-- `count` runs of a text that has these here
abbrev pub begun_pieces : List ℕ → List Run → ℕ → PiecesPart
begun_pieces text rs count =
    if needs_pieces rs && length rs == count
    then Own (record { text = text; count = count; left = rs })
    else Other (all_others text count)

-- ---- the runs

abbrev pub others_left_at : OtherPart → ℕ → List ℕ → Result (Bool × List ℕ) Stop
others_left_at part room bytes =
    runs_at room part.last part.needed part.characters part.left bytes

abbrev pub own_left_at : List Run → ℕ → List ℕ → Result (Bool × List ℕ) Stop
own_left_at rs room bytes = are_at room rs bytes

-- the fault of runs that are not the text's: theirs, or the text's, which is measured otherwise
abbrev pub others_rest_at :
    ℕ → Places → OtherPart → List ℕ → List ℕ → Result (List ℕ × List ℕ) Stop
others_rest_at room places part all bytes =
    others_left_at part room bytes >>= λ whole.
    if whole.0 then refused faults.Measure room (drop places.text all)
    else refused faults.Range room (drop places.list all)

-- the text, from the next run on: where one differs, all are decoded by their rules
abbrev pub pieces_rest_at :
    ℕ → Places → PiecesPart → List ℕ → List ℕ → Result (List ℕ × List ℕ) Stop
pieces_rest_at room places (Own part) all bytes =
    own_left_at part.left room bytes >>= λ same.
    if same.0 then ok part.text same.1
    else others_rest_at room places (all_others part.text part.count) all (drop places.runs all)
pieces_rest_at room places (Other part) all bytes = others_rest_at room places part all bytes

-- ---- the change

-- the change of a text, if the screen bears it beside this work
abbrev pub borne_at :
    ℕ → Head → ℕ → Places → List ℕ → List ℕ × List ℕ → Result (ChangeValue × List ℕ) Stop
borne_at room head spent places all text =
    if bears (Some head) spent (changed.Text text.0) then ok (changed.Text text.0) text.1
    else refused faults.Limit room (drop places.change all)

-- the change, from the next run on
abbrev pub text_rest_at :
    ℕ → Head → ℕ → TextPart → List ℕ → List ℕ → Result (ChangeValue × List ℕ) Stop
text_rest_at room head spent part all bytes =
    pieces_rest_at room part.places part.pieces all bytes >>= λ text.
    borne_at room head spent part.places all text
