-- How the pieces of a text are decoded: they are those that the text has here. Where they differ,
-- the first rule that they break is the fault, and else that they are measured otherwise.
use Rattle.std.specs.Prelude.{ℕ, zero, suc, ◌*◌, Bool, true, false, not, ◌&&◌, ◌||◌, ◌==◌, nat_lt, ◌%◌, ◌/◌, List, [], ◌∷◌, length, take, drop, Result, Ok, Err, if◌then◌else◌}
use Rattle.std.specs.List.{list_any}
use Rattle.std.specs.Str.{chars, bytes_eq}
use Rattle.cbor.specs.declared.error.FaultKind.{FaultKind}
use Rattle.cbor.specs.declared.error.FaultKind.TheVariants as faults
use Rattle.cbor.specs.Decoding.{◌>>=◌, Stop, ok, allowed, unsigned_at, array_at, list_at}
use Rattle.termwiz_cell.specs.CellValue.{is_control}
use Rattle.termwiz_wire.specs.Pieces.{alike, stands_out, needs_pieces}
use Rattle.termwiz_wire.specs.declared.pieces.Run.{Run}

-- a fault of the item that begins here
abbrev pub refused : {Y : Type 0} → FaultKind → ℕ → List ℕ → Result Y Stop
refused f room bytes = Err (record { fault = f; left = allowed room bytes })

-- ---- the same runs

-- whether the characters and columns ahead are those of this run
unfoldable pub is_rest_at : ℕ → Run → List ℕ → Result (Bool × List ℕ) Stop
is_rest_at room r bytes = do
  size ← unsigned_at room bytes
  if size.0 == r.characters
      then (unsigned_at room size.1 >>= λ columns. ok (columns.0 == r.columns) columns.1)
      else ok false size.1

-- whether the run ahead is this one, up to the first number that differs
unfoldable pub is_run_at : ℕ → Run → List ℕ → Result (Bool × List ℕ) Stop
is_run_at room r bytes = do
  count ← unsigned_at room bytes
  if count.0 == r.count then is_rest_at room r count.1 else ok false count.1

-- whether the runs ahead are these
unfoldable pub are_at : ℕ → List Run → List ℕ → Result (Bool × List ℕ) Stop
are_at room [] bytes = ok true bytes
are_at room (r ∷ rs) bytes = do
  is ← is_run_at room r bytes
  if is.0 then are_at room rs is.1 else ok false is.1

-- whether the list ahead is of these runs
unfoldable pub same_at : ℕ → List Run → List ℕ → Result (Bool × List ℕ) Stop
same_at room rs bytes = do
  n ← array_at room bytes
  if n.0 == 3 * length rs then (list_at room bytes >>= λ m. are_at room rs m.1) else ok false n.1

-- ---- the rules of other runs

abbrev pub is_break : List ℕ → Bool
is_break p = bytes_eq p (13 ∷ []) || (bytes_eq p (10 ∷ []) || bytes_eq p (13 ∷ 10 ∷ []))

abbrev pub begins_line_feed : List ℕ → Bool
begins_line_feed [] = false
begins_line_feed (c ∷ cs) = c == 10

abbrev pub is_return : List ℕ → Bool
is_return p = bytes_eq p (13 ∷ [])

abbrev pub is_line_end : List ℕ → Bool
is_line_end p = bytes_eq p (13 ∷ 10 ∷ [])

-- whether characters before others are a piece: CR LF is not cut, and any other control is alone
abbrev pub is_piece : List ℕ → List ℕ → Bool
is_piece p rest =
    not (is_return p && begins_line_feed rest) &&
    (length p == 1 || (is_line_end p || not (list_any is_control p)))

-- whether each of the next pieces, of `size` characters, is one
unfoldable pub are_pieces : ℕ → ℕ → List ℕ → Bool
are_pieces zero size cs = true
are_pieces (suc n) size cs =
    is_piece (take size cs) (drop size cs) && are_pieces n size (drop size cs)

-- whether each of them has columns, or each is a line break
unfoldable pub have_columns : Bool → ℕ → ℕ → List ℕ → Bool
have_columns wide zero size cs = true
have_columns wide (suc n) size cs =
    (if wide then not (is_break (take size cs)) else is_break (take size cs)) &&
    have_columns wide n size (drop size cs)

-- a number that keeps a rule
abbrev pub kept_at : ℕ → (ℕ → Bool) → List ℕ → Result (ℕ × List ℕ) Stop
kept_at room rule bytes = do
  n ← unsigned_at room bytes
  if rule n.0 then Ok n else refused faults.Range room bytes

-- how many pieces a run has, of the characters that are left
abbrev pub is_count : List ℕ → ℕ → Bool
is_count cs n = nat_lt 0 n && not (nat_lt (length cs) n)

abbrev pub are_characters : List ℕ → ℕ → ℕ → Bool
are_characters cs count n =
    nat_lt 0 n && (not (nat_lt (length cs) (count * n)) && are_pieces count n cs)

abbrev pub are_columns : Run → List ℕ → ℕ → ℕ → ℕ → Bool
are_columns last cs count size n =
    nat_lt n 3 &&
    (have_columns (not (n == 0)) count size cs &&
    not (alike last (record { count = count; characters = size; columns = n })))

-- a run of the characters that are left, after the last one
unfoldable pub run_at : ℕ → Run → List ℕ → List ℕ → Result (Run × List ℕ) Stop
run_at room last cs bytes = do
  count ← kept_at room (is_count cs) bytes
  size ← kept_at room (are_characters cs count.0) count.1
  columns ← kept_at room (are_columns last cs count.0 size.0) size.1
  ok (record { count = count.0; characters = size.0; columns = columns.0 }) columns.1

-- no run yet
abbrev pub no_run : Run
no_run = record { count = 0; characters = 0; columns = 0 }

-- a number of runs after the last one: whether they end with the text, and one of them is a reason
-- to send them
unfoldable pub runs_at : ℕ → Run → Bool → List ℕ → ℕ → List ℕ → Result (Bool × List ℕ) Stop
runs_at room last needed cs zero bytes = ok (needed && length cs == 0) bytes
runs_at room last needed cs (suc n) bytes = do
  r ← run_at room last cs bytes
  runs_at room r.0 (needed || stands_out r.0) (drop (r.0.count * r.0.characters) cs) n r.1

-- how many numbers a list has, in threes
unfoldable pub threes_at : ℕ → List ℕ → Result (ℕ × List ℕ) Stop
threes_at room bytes = do
  n ← array_at room bytes
  if n.0 % 3 == 0 then list_at room bytes else refused faults.Type room bytes

-- the pieces of a text by their rules alone
unfoldable pub cut_at : ℕ → List ℕ → List ℕ → Result (List ℕ) Stop
cut_at room text bytes = do
  n ← threes_at room bytes
  all ← runs_at room no_run false (chars text) (n.0 / 3) n.1
  if all.0 then Ok all.1 else refused faults.Range room bytes

-- ---- the pieces of a text

-- pieces that are not those of the text here: a fault of theirs, and else the text's
unfoldable pub others_at : ℕ → ℕ → List ℕ → List ℕ → Result (List ℕ) Stop
others_at room place text bytes =
    cut_at room text bytes >>= λ rest. Err (record { fault = faults.Measure; left = place })

-- pieces that are read: those of the text here, which needs them, or a fault
unfoldable pub pieces_at : ℕ → ℕ → List ℕ → List Run → List ℕ → Result (List ℕ) Stop
pieces_at room place text rs bytes =
    if needs_pieces rs
    then
    (same_at room rs bytes >>= λ same. if same.0 then Ok same.1
    else others_at room place text bytes)
    else others_at room place text bytes

-- the bytes after a text's pieces, if its change has them as a third item: the text has its fault
-- where it begins
unfoldable pub pieces_by : ℕ → ℕ → ℕ → List ℕ → List Run → List ℕ → Result (List ℕ) Stop
pieces_by room place count text rs bytes =
    if count == 3 then pieces_at room place text rs bytes
    else if needs_pieces rs then Err (record { fault = faults.Measure; left = place })
    else Ok bytes
