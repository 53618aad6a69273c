-- How items are decoded, from left to right, with the first fault that is met. Room is how many
-- more bytes may follow those at hand: where bytes end, more may come while there is room, and past
-- it is the limit.
use Rattle.std.specs.Prelude.{◌≡◌, ℕ, ℤ, pos, negsuc, ◌+◌, ◌-◌, ◌*◌, ◌^◌, Bool, true, false, List, [], ◌∷◌, length, get_or, ◌<◌, take, drop, Option, Some, None, IfSome, Result, Ok, Err, nat_lt, ◌==◌, if◌then◌else◌}
use Rattle.core.specs.Str.{is_utf8}
use Rattle.std.specs.Int.{Width, w16, w32, w64, byte_len, from_be_bytes}
use Rattle.cbor.specs.declared.error.FaultKind.{FaultKind}
use Rattle.cbor.specs.declared.error.FaultKind.TheVariants.{Truncated, Utf8, Range, Limit}
use Rattle.cbor.specs.declared.error.FaultKind.TheVariants as faults
use Rattle.cbor.specs.declared.error.ReadError.{ReadError}
use Rattle.cbor.specs.declared.error.ReadError.TheVariants as errors
use Rattle.cbor.specs.declared.kind.Kind.{Kind}
use Rattle.cbor.specs.declared.kind.Kind.TheVariants as kinds

-- where decoding ends without a value: the fault, and how many bytes are allowed from the item on
-- that shows it
pub record Stop : Type 0 where
  pub fault : FaultKind
  pub left : ℕ

infixl 10 ◌>>=◌
abbrev pub ◌>>=◌ : {A B E : Type 0} → Result A E → (A → Result B E) → Result B E
(Ok x) >>= f = f x
(Err e) >>= f = Err e

-- the fault that an error is, if memory was not refused
abbrev pub fault_of : ReadError → Option FaultKind
fault_of errors.Truncated = Some Truncated
fault_of errors.Version = Some faults.Version
fault_of errors.Type = Some faults.Type
fault_of errors.Utf8 = Some Utf8
fault_of errors.Range = Some Range
fault_of errors.Region = Some faults.Region
fault_of errors.Limit = Some Limit
fault_of errors.Measure = Some faults.Measure
fault_of errors.Memory = None

-- a call fails with the fault that an item has, unless memory was refused
abbrev pub Fails : {Y : Type 0} → ReadError → Result Y FaultKind → Type 0
Fails error read = IfSome (fault_of error) (λ f. read ≡ Err f)

-- a call returns what an item has, seen by view, or fails so
abbrev pub Finds : {X Y : Type 0} → (X → Y) → Result X ReadError → Result Y FaultKind → Type 0
Finds view (Ok x) read = read ≡ Ok (view x)
Finds view (Err e) read = Fails e read

-- a call fails with the fault that decoding gives, with this many bytes allowed from the item on
-- that shows it, unless memory was refused
abbrev pub Stops : {Y : Type 0} → ℕ → ReadError → Result Y Stop → Type 0
Stops left error read =
    IfSome (fault_of error) (λ f. read ≡ Err (record { fault = f; left = left }))

-- a call returns what decoding gives, seen by view, or fails so
abbrev pub Gives : {X Y : Type 0} → ℕ → (X → Y) → Result X ReadError → Result Y Stop → Type 0
Gives left view (Ok x) read = read ≡ Ok (view x)
Gives left view (Err e) read = Stops left e read

abbrev pub IsBytes : List ℕ → Type 0
IsBytes bytes = (i : ℕ) → get_or bytes i 0 < 256

-- how many bytes are allowed from here on
abbrev pub allowed : ℕ → List ℕ → ℕ
allowed room bytes = length bytes + room

-- a value that was decoded, and the bytes after it
abbrev pub ok : {A E : Type 0} → A → List ℕ → Result (A × List ℕ) E
ok x rest = Ok (x, rest)

-- the fault of an item stands where it begins
abbrev pub fault_placed : {Y : Type 0} → ℕ → Result Y FaultKind → Result Y Stop
fault_placed left (Ok y) = Ok y
fault_placed left (Err f) = Err (record { fault = f; left = left })

-- the fault of bytes that are fewer than this
abbrev pub lack : ℕ → ℕ → List ℕ → FaultKind
lack room n bytes = if nat_lt (allowed room bytes) n then Limit else Truncated

-- ---- an item and its fault

-- the first byte, which stays
abbrev pub first_in : ℕ → List ℕ → Result ℕ FaultKind
first_in room [] = Err (lack room 1 [])
first_in room (b ∷ rest) = Ok b

abbrev pub byte_in : ℕ → List ℕ → Result (ℕ × List ℕ) FaultKind
byte_in room [] = Err (lack room 1 [])
byte_in room (b ∷ rest) = Ok (b, rest)

-- an argument in one byte, which would not fit the head
unfoldable pub short_in : ℕ → List ℕ → Result (ℕ × List ℕ) FaultKind
short_in room bytes = do
  b ← byte_in room bytes
  if nat_lt b.0 24 then Err Range else Ok b

-- an argument of this width that would not fit the next smaller form
abbrev pub wide_argument_in : ℕ → Width → ℕ → List ℕ → Result (ℕ × List ℕ) FaultKind
wide_argument_in room w least bytes =
    if nat_lt (length bytes) (byte_len w) then Err (lack room (byte_len w) bytes)
    else if nat_lt (from_be_bytes w (take (byte_len w) bytes)) least then Err Range
    else Ok (from_be_bytes w (take (byte_len w) bytes), drop (byte_len w) bytes)

-- the argument, by the low bits of the head's first byte
unfoldable pub argument_in : ℕ → ℕ → List ℕ → Result (ℕ × List ℕ) FaultKind
argument_in room info rest =
    if info == 24 then short_in room rest
    else if info == 25 then wide_argument_in room w16 (2 ^ 8) rest
    else if info == 26 then wide_argument_in room w32 (2 ^ 16) rest
    else if info == 27 then wide_argument_in room w64 (2 ^ 32) rest
    else if nat_lt info 24 then Ok (info, rest)
    else Err faults.Type

-- the argument of a head of this major type
unfoldable pub head_in : ℕ → ℕ → List ℕ → Result (ℕ × List ℕ) FaultKind
head_in room major bytes = do
  b ← byte_in room bytes
  if nat_lt b.0 (32 * major) then Err faults.Type else argument_in room (b.0 - 32 * major) b.1

-- an argument below the limit
unfoldable pub limited_in : ℕ → ℕ → ℕ → List ℕ → Result (ℕ × List ℕ) FaultKind
limited_in room major limit bytes = do
  n ← head_in room major bytes
  if nat_lt n.0 limit then Ok n else Err Range

-- a number that an `isize` has
unfoldable pub signed_in : ℕ → List ℕ → Result (ℤ × List ℕ) FaultKind
signed_in room bytes = do
  b ← first_in room bytes
  if nat_lt b 32 then (limited_in room 0 (2 ^ 63) bytes >>= λ n. Ok (pos n.0, n.1))
      else (limited_in room 1 (2 ^ 63) bytes >>= λ n. Ok (negsuc n.0, n.1))

unfoldable pub boolean_in : ℕ → List ℕ → Result (Bool × List ℕ) FaultKind
boolean_in room bytes = do
  b ← byte_in room bytes
  if b.0 == 244 then Ok (false, b.1) else if b.0 == 245 then Ok (true, b.1) else Err faults.Type

-- the bytes after null
unfoldable pub null_in : ℕ → List ℕ → Result (List ℕ) FaultKind
null_in room bytes = do
  b ← byte_in room bytes
  if b.0 == 246 then Ok b.1 else Err faults.Type

unfoldable pub utf8_in : List ℕ → Result (List ℕ) FaultKind
utf8_in bytes = if is_utf8 bytes then Ok bytes else Err Utf8

unfoldable pub text_bytes_in : ℕ → List ℕ → Result (List ℕ × List ℕ) FaultKind
text_bytes_in room bytes = do
  n ← head_in room 3 bytes
  if nat_lt (length n.1) n.0 then Err (lack room n.0 n.1)
      else (utf8_in (take n.0 n.1) >>= λ t. Ok (t, drop n.0 n.1))

-- how many items follow, each of one byte at least
unfoldable pub list_in : ℕ → List ℕ → Result (ℕ × List ℕ) FaultKind
list_in room bytes = do
  n ← head_in room 4 bytes
  if nat_lt (allowed room n.1) n.0 then Err Limit else Ok n

-- the bytes after the head of an array of `count` items
unfoldable pub array_of_in : ℕ → ℕ → List ℕ → Result (List ℕ) FaultKind
array_of_in room count bytes = do
  n ← head_in room 4 bytes
  if n.0 == count then Ok n.1 else Err faults.Type

-- what the first byte says of the item
unfoldable pub kind_of : ℕ → Kind
kind_of b =
    if nat_lt b 32 then kinds.Unsigned
    else if nat_lt b 64 then kinds.Negative
    else if nat_lt b 96 then kinds.Other
    else if nat_lt b 128 then kinds.Text
    else if nat_lt b 160 then kinds.Array
    else if b == 244 then kinds.Boolean
    else if b == 245 then kinds.Boolean
    else if b == 246 then kinds.Null
    else kinds.Other

abbrev pub kind_in : ℕ → List ℕ → Result Kind FaultKind
kind_in room bytes = first_in room bytes >>= λ b. Ok (kind_of b)

-- ---- an item, and the place of its fault

unfoldable pub unsigned_at : ℕ → List ℕ → Result (ℕ × List ℕ) Stop
unsigned_at room bytes = fault_placed (allowed room bytes) (head_in room 0 bytes)

-- how many items follow
unfoldable pub array_at : ℕ → List ℕ → Result (ℕ × List ℕ) Stop
array_at room bytes = fault_placed (allowed room bytes) (head_in room 4 bytes)

-- how many items follow, each of one byte at least
unfoldable pub list_at : ℕ → List ℕ → Result (ℕ × List ℕ) Stop
list_at room bytes = fault_placed (allowed room bytes) (list_in room bytes)

-- a number below the limit
unfoldable pub below_at : ℕ → ℕ → List ℕ → Result (ℕ × List ℕ) Stop
below_at room limit bytes = fault_placed (allowed room bytes) (limited_in room 0 limit bytes)

unfoldable pub signed_at : ℕ → List ℕ → Result (ℤ × List ℕ) Stop
signed_at room bytes = fault_placed (allowed room bytes) (signed_in room bytes)

unfoldable pub boolean_at : ℕ → List ℕ → Result (Bool × List ℕ) Stop
boolean_at room bytes = fault_placed (allowed room bytes) (boolean_in room bytes)

unfoldable pub null_at : ℕ → List ℕ → Result (List ℕ) Stop
null_at room bytes = fault_placed (allowed room bytes) (null_in room bytes)

unfoldable pub text_at : ℕ → List ℕ → Result (List ℕ × List ℕ) Stop
text_at room bytes = fault_placed (allowed room bytes) (text_bytes_in room bytes)

unfoldable pub array_of_at : ℕ → ℕ → List ℕ → Result (List ℕ) Stop
array_of_at room count bytes = fault_placed (allowed room bytes) (array_of_in room count bytes)

unfoldable pub kind_at : ℕ → List ℕ → Result Kind Stop
kind_at room bytes = fault_placed (allowed room bytes) (kind_in room bytes)
