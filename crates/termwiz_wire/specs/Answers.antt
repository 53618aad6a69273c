-- How answers and asks are decoded.
use Rattle.std.specs.Prelude.{◌≡◌, ℕ, zero, suc, ◌-◌, ◌^◌, ◌==◌, ◌&&◌, nat_lt, not, List, [], ◌∷◌, ◌++◌, length, take, drop, Option, Some, None, IfSome, Result, Ok, Err, if◌then◌else◌}
use Rattle.std.specs.Option.{option_map_or}
use Rattle.cbor.specs.Decoding.{◌>>=◌, Stop, ok, allowed, fault_of, unsigned_at, below_at, array_at, list_at}
use Rattle.cbor.specs.declared.error.ReadError.{ReadError}
use Rattle.cbor.specs.declared.error.FaultKind.TheVariants as faults
use Rattle.termwiz_cell.specs.ChangeValue.{ChangeValue}
use Rattle.termwiz_wire.specs.Cuts.{refused}
use Rattle.termwiz_wire.specs.Decoding.{change_at}
use Rattle.termwiz_wire.specs.Screens.{is_past}
use Rattle.termwiz_wire.specs.Work.{bears, head_rows, spent_on}
use Rattle.termwiz_wire.specs.declared.decode.halted.Halted.{Halted}
use Rattle.termwiz_wire.specs.declared.fault.Fault.{Fault}
use Rattle.termwiz_wire.specs.declared.fault.Limits.{Limits}
use Rattle.termwiz_wire.specs.declared.fault.WireError.{WireError}
use Rattle.termwiz_wire.specs.declared.fault.WireError.TheVariants as errors
use Rattle.termwiz_wire.specs.declared.sent.SentAnswer.{SentAnswer}
use Rattle.termwiz_wire.specs.declared.sent.Ask.{Ask}
use Rattle.termwiz_wire.specs.declared.decode.heads.Head.{Head}

-- a call returns what decoding gives, seen by view, or fails with its fault, unless memory was
-- refused
abbrev pub Decodes : {X Y : Type 0} → (X → Y) → Result X WireError → Result Y Fault → Type 0
Decodes view (Ok x) read = read ≡ Ok (view x)
Decodes view (Err (errors.Fault f)) read = read ≡ Err f
Decodes view (Err errors.Memory) read = Unit {0}

-- the error of a call, whose item begins at this byte
abbrev pub error_of : ReadError → ℕ → Option ℕ → WireError
error_of error at change =
    option_map_or (λ f. errors.Fault (record { kind = f; at = at; change = change }))
    (fault_of error) errors.Memory

-- ---- heads

-- the bytes after the version, which is 2
unfoldable pub version_at : ℕ → List ℕ → Result (List ℕ) Stop
version_at room bytes = do
  version ← unsigned_at room bytes
  if version.0 == 2 then Ok version.1 else refused faults.Version room bytes

-- the bytes after the version of an array of some items
unfoldable pub body_at : ℕ → ℕ → List ℕ → List ℕ → Result (List ℕ) Stop
body_at room count start bytes =
    if count == 0 then refused faults.Type room start else version_at room bytes

-- the bytes after the version of an array of `items` items: another version may have another count
unfoldable pub opened_at : ℕ → ℕ → List ℕ → Result (List ℕ) Stop
opened_at room items bytes = do
  count ← array_at room bytes
  body ← body_at room count.0 bytes count.1
  if count.0 == items then Ok body else refused faults.Type room bytes

-- a source of an answer
unfoldable pub source_at : ℕ → List ℕ → Result (ℕ × List ℕ) Stop
source_at room bytes = do
  n ← unsigned_at room bytes
  if n.0 == 0 then refused faults.Range room bytes else Ok n

-- a width or a height
unfoldable pub size_at : ℕ → List ℕ → Result (ℕ × List ℕ) Stop
size_at room bytes = do
  n ← below_at room (2 ^ 32) bytes
  if n.0 == 0 then refused faults.Range room bytes else Ok n

-- a height that is within the limits
unfoldable pub height_at : ℕ → Limits → ℕ → List ℕ → Result (ℕ × List ℕ) Stop
height_at room limits width bytes = do
  n ← size_at room bytes
  if is_past limits width n.0 then refused faults.Limit room bytes else Ok n

-- a number from the base on
unfoldable pub based_number_at : ℕ → ℕ → List ℕ → Result (ℕ × List ℕ) Stop
based_number_at room base bytes = do
  n ← unsigned_at room bytes
  if nat_lt n.0 base then refused faults.Range room bytes else Ok n

-- ---- asks

-- the number of an ask: one that names no source has none
unfoldable pub asked_at : ℕ → ℕ → List ℕ → Result (ℕ × List ℕ) Stop
asked_at room source bytes = do
  n ← unsigned_at room bytes
  if source == 0 && not (n.0 == 0) then refused faults.Range room bytes else Ok n

unfoldable pub ask_in : ℕ → List ℕ → Result (Ask × List ℕ) Stop
ask_in room bytes = do
  body ← opened_at room 3 bytes
  source ← unsigned_at room body
  number ← asked_at room source.0 source.1
  ok (record { source = source.0; number = number.0 }) number.1

-- ---- answers

unfoldable pub head_at : ℕ → Limits → List ℕ → Result (Head × List ℕ) Stop
head_at room limits bytes = do
  body ← opened_at room 7 bytes
  s ← source_at room body
  w ← size_at room s.1
  h ← height_at room limits w.0 w.1
  b ← unsigned_at room h.1
  n ← based_number_at room b.0 b.1
  c ← list_at room n.1
  ok (record { source = s.0; width = w.0; height = h.0; base = b.0; number = n.0; count = c.0 }) c.1

-- where decoding ends without a value, and the index of the change in which it does
pub record Halt : Type 0 where
  pub stop : Stop
  pub change : Option ℕ

-- a stop in this change, or in none
abbrev pub halted : {Y : Type 0} → Option ℕ → Result Y Stop → Result Y Halt
halted change (Ok y) = Ok y
halted change (Err s) = Err (record { stop = s; change = change })

-- a call returns what decoding gives, seen by view, or halts so, unless memory was refused
abbrev pub Halts : {X Y : Type 0} → ℕ → (X → Y) → Result X Halted → Result Y Halt → Type 0
Halts left view (Ok x) read = read ≡ Ok (view x)
Halts left view (Err h) read =
    IfSome (fault_of h.error)
    (λ f. read ≡ Err (record { stop = record { fault = f; left = left }; change = h.change }))

-- the next change of an answer with this head, if any, whose changes before it took `spent` work
unfoldable pub next_at :
    (List ℕ → ℕ) → ℕ → Option Head → ℕ → List ℕ → Result (ChangeValue × List ℕ) Stop
next_at measure room head spent bytes = do
  c ← change_at measure room (head_rows head) bytes
  if bears head spent c.0 then Ok c else refused faults.Limit room bytes

-- a number of changes after these, of an answer with this head, if any
unfoldable pub each_at :
    (List ℕ → ℕ) → ℕ → Option Head → List ChangeValue → ℕ → List ℕ →
    Result (List ChangeValue × List ℕ) Halt
each_at measure room head made zero bytes = Ok (made, bytes)
each_at measure room head made (suc n) bytes = do
  first ← halted (Some (length made)) (next_at measure room head (spent_on head made) bytes)
  each_at measure room head (made ++ first.0 ∷ []) n first.1

-- the list of changes by itself
unfoldable pub changes_in :
    (List ℕ → ℕ) → ℕ → Option Head → List ℕ → Result (List ChangeValue × List ℕ) Halt
changes_in measure room head bytes = do
  n ← halted None (list_at room bytes)
  each_at measure room head [] n.0 n.1

-- the answer of this head with these changes
abbrev pub sent_of : Head → List ChangeValue → SentAnswer
sent_of head changes =
    record {
      source = head.source;
      answer =
          record {
            width = head.width;
            height = head.height;
            base = head.base;
            number = head.number;
            changes = changes;
          };
    }

-- an answer's head
abbrev pub head_of : SentAnswer → Head
head_of s =
    record {
      source = s.source;
      width = s.answer.width;
      height = s.answer.height;
      base = s.answer.base;
      number = s.answer.number;
      count = length s.answer.changes;
    }

unfoldable pub answer_in :
    (List ℕ → ℕ) → ℕ → Limits → List ℕ → Result (SentAnswer × List ℕ) Halt
answer_in measure room limits bytes = do
  head ← halted None (head_at room limits bytes)
  changes ← each_at measure room (Some head.0) [] head.0.count head.1
  ok (sent_of head.0 changes.0) changes.1

-- ---- with limits

-- a halt as a fault of the bytes, at whose beginning `all` were allowed
abbrev pub fault_at : ℕ → Halt → Fault
fault_at all h = record { kind = h.stop.fault; at = all - h.stop.left; change = h.change }

-- what was decoded of bytes that were cut at the limit, and the bytes after it
abbrev pub located :
    {A : Type 0} → ℕ → List ℕ → Result (A × List ℕ) Halt → Result (A × List ℕ) Fault
located all past (Ok x) = Ok (x.0, x.1 ++ past)
located all past (Err h) = Err (fault_at all h)

-- decoding within a limit of bytes
abbrev pub within :
    {A : Type 0} → (ℕ → List ℕ → Result (A × List ℕ) Halt) → ℕ → List ℕ → Result (A × List ℕ) Fault
within read limit bytes =
    located (allowed (limit - length bytes) (take limit bytes)) (drop limit bytes)
    (read (limit - length bytes) (take limit bytes))

unfoldable pub answer_at : (List ℕ → ℕ) → Limits → List ℕ → Result (SentAnswer × List ℕ) Fault
answer_at measure limits bytes =
    within (λ room rest. answer_in measure room limits rest) limits.bytes bytes

-- the head of the answer at the front of the bytes, whose changes need not be there
unfoldable pub answer_head_at : Limits → List ℕ → Result Head Fault
answer_head_at limits bytes = do
  head ← within (λ room rest. halted None (head_at room limits rest)) limits.bytes bytes
  Ok head.0

-- what has no limit has that of a `usize`
abbrev pub unlimited : ℕ
unlimited = 2 ^ 64 - 1

unfoldable pub changes_at : (List ℕ → ℕ) → List ℕ → Result (List ChangeValue × List ℕ) Fault
changes_at measure bytes = within (λ room rest. changes_in measure room None rest) unlimited bytes

unfoldable pub one_change_at : (List ℕ → ℕ) → List ℕ → Result (ChangeValue × List ℕ) Fault
one_change_at measure bytes =
    within (λ room rest. halted None (change_at measure room None rest)) unlimited bytes

unfoldable pub ask_at : List ℕ → Result (Ask × List ℕ) Fault
ask_at bytes = within (λ room rest. halted None (ask_in room rest)) unlimited bytes
