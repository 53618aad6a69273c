-- How the decoding of an answer goes on, once more of its bytes have come.
use Rattle.std.specs.Prelude.{◌≡◌, ◌≢◌, ◌⊎◌, ℕ, ◌+◌, ◌-◌, ◌/◌, ◌<◌, ◌≤◌, ◌^◌, Bool, true, false, List, [], ◌∷◌, ◌++◌, length, map, take, drop, Option, Some, None, IfSome, option_map, string_bytes, Vec, Result, Ok, Err}
use Rattle.std.specs.Option.{ForSome}
use Rattle.cbor.specs.Decoding.{◌>>=◌, Stop, Stops, ok, fault_of, text_at}
use Rattle.cbor.specs.declared.error.FaultKind.TheVariants.{Truncated}
use Rattle.cbor.specs.declared.error.ReadError.{ReadError}
use Rattle.cbor.specs.declared.error.ReadError.TheVariants as read_errors
use Rattle.std.specs.declared.alloc.Global.{Global}
use Rattle.termwiz_cell.specs.ChangeValue.{ChangeValue, change_value}
use Rattle.termwiz_cell.specs.ChangeValue as changed
use Rattle.termwiz_cell.specs.declared.change.Change.{Change}
use Rattle.termwiz_wire.specs.Answers.{Halt, answer_at, answer_in, each_at, error_of, halted, head_at, next_at, sent_of}
use Rattle.termwiz_wire.specs.CutLinks.{IsLinkPart, LinkPart, has_item, link_begun_at, link_item_at, link_rest_at, part_of}
use Rattle.termwiz_wire.specs.CutTexts.{OtherPart, PiecesPart, TextPart, begun_pieces, others_left_at, own_left_at, pieces_part, pieces_rest_at, text_begun_at, text_part, text_rest_at, with_pieces_at}
use Rattle.termwiz_wire.specs.CutTexts as texts
use Rattle.termwiz_wire.specs.Cuts.{is_run_at, run_at, threes_at}
use Rattle.termwiz_wire.specs.Lent.{lent_answer}
use Rattle.termwiz_wire.specs.Pieces.{runs}
use Rattle.termwiz_wire.specs.Work.{bears, cost, most_work, spent_on}
use Rattle.termwiz_wire.specs.declared.decode.begun.Begun.{Begun}
use Rattle.termwiz_wire.specs.declared.decode.begun.BegunChange.{BegunChange}
use Rattle.termwiz_wire.specs.declared.decode.begun.BegunChange.TheVariants as begun_changes
use Rattle.termwiz_wire.specs.declared.decode.begun.NoAnswer.{NoAnswer}
use Rattle.termwiz_wire.specs.declared.decode.begun.NoAnswer.TheVariants as no_answers
use Rattle.termwiz_wire.specs.declared.decode.cut_texts.Places.{Places}
use Rattle.termwiz_wire.specs.declared.decode.cut_texts.ReadPieces.{ReadPieces}
use Rattle.termwiz_wire.specs.declared.decode.cut_texts.ReadPieces.TheVariants as read_pieces
use Rattle.termwiz_wire.specs.declared.decode.halted.Halted.{Halted}
use Rattle.termwiz_wire.specs.declared.decode.heads.Head.{Head}
use Rattle.termwiz_wire.specs.declared.fault.Fault.{Fault}
use Rattle.termwiz_wire.specs.declared.fault.Limits.{Limits}
use Rattle.termwiz_wire.specs.declared.fault.WireError.TheVariants as errors
use Rattle.termwiz_wire.specs.declared.pieces.Run.{Run}
use Rattle.termwiz_wire.specs.declared.sent.LentAnswer.{LentAnswer}
use Rattle.termwiz_wire.specs.declared.sent.SentAnswer.{SentAnswer}

-- the changes after these, of those that an answer has
abbrev pub left_at :
    (List ℕ → ℕ) → ℕ → Head → List ChangeValue → List ℕ → Result (List ChangeValue × List ℕ) Halt
left_at measure room head made bytes =
    each_at measure room (Some head) made (head.count - length made) bytes

-- the answer of this head, after these of its changes
abbrev pub rest_at :
    (List ℕ → ℕ) → ℕ → Head → List ChangeValue → List ℕ → Result (SentAnswer × List ℕ) Halt
rest_at measure room head made bytes =
    left_at measure room head made bytes >>= λ changes. ok (sent_of head changes.0) changes.1

-- the next change as far as it is decoded
pub data ChangePart : Type 0 where
  Link : (part : LinkPart) → ChangePart
  Text : (part : TextPart) → ChangePart

abbrev pub change_part : BegunChange → ChangePart
change_part (begun_changes.Link link) = Link (part_of link)
change_part (begun_changes.Text text) = Text (text_part text)

-- the change, from there on, by the bytes of the answer and those that are left
abbrev pub change_rest_at :
    ℕ → Head → ℕ → ChangePart → List ℕ → List ℕ → Result (ChangeValue × List ℕ) Stop
change_rest_at room head spent (Link part) all bytes = link_rest_at room part bytes
change_rest_at room head spent (Text part) all bytes = text_rest_at room head spent part all bytes

-- the answer of this head, after these of its changes and what is begun of the next one
abbrev pub resumed_by :
    (List ℕ → ℕ) → ℕ → Head → List ChangeValue → Option ChangePart → List ℕ → List ℕ →
    Result (SentAnswer × List ℕ) Halt
resumed_by measure room head made None all bytes = rest_at measure room head made bytes
resumed_by measure room head made (Some part) all bytes =
    halted (Some (length made))
    (change_rest_at room head (spent_on (Some head) made) part all bytes) >>= λ first.
    rest_at measure room head (made ++ first.0 ∷ []) first.1

-- the answer whose bytes these are, from what is begun of it
abbrev pub resumed_in : (List ℕ → ℕ) → ℕ → Begun → List ℕ → Result (SentAnswer × List ℕ) Halt
resumed_in measure room begun bytes =
    resumed_by measure room begun.head (map change_value begun.changes.items)
    (option_map change_part begun.next) bytes (drop begun.taken bytes)

-- the parts of a change begin one after another within n bytes
pub record AreWithin (places : Places) (n : ℕ) : Type 0 where
  pub change : places.change ≤ places.text
  pub text : places.text ≤ places.list
  pub list : places.list ≤ places.runs
  pub runs : places.runs ≤ n

-- the keys of a link ascend, and the parts of a text's change begin within n bytes
abbrev pub IsChangePart : ℕ → ChangePart → Type 0
IsChangePart n (Link part) = IsLinkPart part
IsChangePart n (Text part) = AreWithin part.places n

-- with the bytes that follow within the limit, decoding gives the same from the front and from what
-- is begun
pub record LeadsOn (measure : List ℕ → ℕ) (limits : Limits) (begun : Begun) (bytes : List ℕ) :
    Type 0 where
  pub width : (0 < begun.head.width) × (begun.head.width < 2 ^ 32)
  pub height : (0 < begun.head.height) × (begun.head.height < 2 ^ 32)
  pub numbers : begun.head.base ≤ begun.head.number
  pub taken : begun.taken ≤ length (take limits.bytes bytes)
  pub spent : begun.spent ≡ spent_on (Some begun.head) (map change_value begun.changes.items)
  pub borne : begun.spent ≤ most_work begun.head.width begun.head.height
  pub next : IfSome (option_map change_part begun.next) (IsChangePart begun.taken)
  pub same :
      (near : List ℕ) (room : ℕ) → length near + room ≡ limits.bytes - length bytes →
      answer_in measure room limits (take limits.bytes bytes ++ near) ≡
      resumed_in measure room begun (take limits.bytes bytes ++ near)

-- bytes end within what is decoded
pub record StopsTruncated {Y : Type 0} (r : Result Y Stop) : Type 0 where
  pub stop : Stop
  pub is : r ≡ Err stop
  pub cut : stop.fault ≡ Truncated

-- the next change is cut, and it is none of a link whose params have begun or of a text whose list
-- of pieces has
pub record ReachesChange (measure : List ℕ → ℕ) (room : ℕ) (head : Head) (made : List ChangeValue)
    (bytes : List ℕ) : Type 0 where
  pub cut : StopsTruncated (next_at measure room (Some head) (spent_on (Some head) made) bytes)
  pub no_link : (x : LinkPart × List ℕ) → link_begun_at room bytes ≢ Ok x
  pub no_text : (x : (List ℕ × ℕ) × List ℕ) → text_begun_at room bytes ≢ Ok x

-- the next key or value of a link's params is cut
pub record ReachesItem (room : ℕ) (part : LinkPart) (bytes : List ℕ) : Type 0 where
  pub some : has_item part ≡ true
  pub cut : StopsTruncated (link_item_at room part bytes)

-- the next of a text's own runs is cut, as far as it is the same
pub record ReachesOwn (room : ℕ) (left : List Run) (bytes : List ℕ) : Type 0 where
  pub next : Run
  pub behind : List Run
  pub some : left ≡ next ∷ behind
  pub cut : StopsTruncated (is_run_at room next bytes)

-- the next of other runs is cut
pub record ReachesOther (room : ℕ) (part : OtherPart) (bytes : List ℕ) : Type 0 where
  pub some : 0 < part.left
  pub cut : StopsTruncated (run_at room part.last part.characters bytes)

abbrev pub ReachesRun : ℕ → PiecesPart → List ℕ → Type 0
ReachesRun room (texts.Own part) bytes = ReachesOwn room part.left bytes
ReachesRun room (texts.Other part) bytes = ReachesOther room part bytes

abbrev pub ReachesBy :
    (List ℕ → ℕ) → ℕ → Head → List ChangeValue → Option ChangePart → List ℕ → Type 0
ReachesBy measure room head made None bytes = ReachesChange measure room head made bytes
ReachesBy measure room head made (Some (Link part)) bytes = ReachesItem room part bytes
ReachesBy measure room head made (Some (Text part)) bytes = ReachesRun room part.pieces bytes

-- all that the bytes have whole is decoded: the changes, of a link that is cut the keys and values
-- of its params, and of a text that is cut its runs
abbrev pub HasReached : (List ℕ → ℕ) → Limits → Begun → List ℕ → Type 0
HasReached measure limits begun bytes =
    ReachesBy measure (limits.bytes - length bytes) begun.head
    (map change_value begun.changes.items) (option_map change_part begun.next)
    (drop begun.taken (take limits.bytes bytes))

-- what is begun of an answer has all that the bytes have whole, or nothing is begun, since they end
-- before its changes
abbrev pub HasBegun : (List ℕ → ℕ) → Limits → Option Begun → List ℕ → Type 0
HasBegun measure limits None bytes =
    StopsTruncated (head_at (limits.bytes - length bytes) limits (take limits.bytes bytes))
HasBegun measure limits (Some begun) bytes = HasReached measure limits begun bytes

-- more bytes may make an answer
pub record IsUnfinished (measure : List ℕ → ℕ) (limits : Limits) (bytes : List ℕ) : Type 0 where
  pub fault : Fault
  pub is : answer_at measure limits bytes ≡ Err fault
  pub cut : fault.kind ≡ Truncated

-- a call returns what decoding gives, or fails with its fault, unless memory was refused: where
-- more bytes may make an answer, with what leads on to it and has all that is there
abbrev pub Resumes : (List ℕ → ℕ) → Limits → List ℕ → Result (LentAnswer × ℕ) NoAnswer → Type 0
Resumes measure limits bytes (Ok x) =
    answer_at measure limits bytes ≡ Ok (lent_answer x.0, drop x.1 bytes)
Resumes measure limits bytes (Err (no_answers.Cut begun)) =
    IsUnfinished measure limits bytes × ForSome begun (λ b. LeadsOn measure limits b bytes) ×
    HasBegun measure limits begun bytes
Resumes measure limits bytes (Err (no_answers.Failed (errors.Fault f))) =
    (answer_at measure limits bytes ≡ Err f) × (f.kind ≢ Truncated)
Resumes measure limits bytes (Err (no_answers.Failed errors.Memory)) = Unit {0}

-- ---- one change after another

-- decoding has gone on to these changes and bytes, whatever follows within the limit
pub record HasGoneOn (measure : List ℕ → ℕ) (room : ℕ) (head : Head) (made : List ChangeValue)
    (bytes : List ℕ) (more : List ChangeValue) (rest : List ℕ) : Type 0 where
  pub front : List ℕ
  pub parts : bytes ≡ front ++ rest
  pub same :
      (near : List ℕ) (later : ℕ) → length near + later ≡ room →
      left_at measure later head made (bytes ++ near) ≡
      left_at measure later head more (rest ++ near)

-- the changes that were left are there, or one is cut, or decoding fails, with this many bytes
-- allowed from there on
abbrev pub DecodesOn :
    (List ℕ → ℕ) → ℕ → Head → List ChangeValue → List ℕ → Result Bool Halted → List ChangeValue →
    ℕ → List ℕ → Type 0
DecodesOn measure room head made bytes (Ok true) more allowed rest =
    HasGoneOn measure room head made bytes more rest ×
    (left_at measure room head made bytes ≡ Ok (more, rest))
DecodesOn measure room head made bytes (Ok false) more allowed rest =
    HasGoneOn measure room head made bytes more rest × (length more < head.count) ×
    StopsTruncated (next_at measure room (Some head) (spent_on (Some head) more) rest)
DecodesOn measure room head made bytes (Err h) more allowed rest =
    (h.error ≢ read_errors.Truncated) ×
    IfSome (fault_of h.error)
    (λ f. left_at measure room head made bytes ≡
    Err (record { stop = record { fault = f; left = allowed }; change = h.change }))

-- ---- the params of a link that is cut

-- decoding has gone on to these params and bytes, whatever follows within the limit
pub record HasReadOn (room : ℕ) (part : LinkPart) (bytes : List ℕ) (more : LinkPart)
    (rest : List ℕ) : Type 0 where
  pub front : List ℕ
  pub parts : bytes ≡ front ++ rest
  pub keys : IsLinkPart more
  pub same :
      (near : List ℕ) (later : ℕ) → length near + later ≡ room →
      link_rest_at later part (bytes ++ near) ≡ link_rest_at later more (rest ++ near)

-- the params that were left are there, or the bytes end within one, or decoding fails, with this
-- many bytes allowed from there on
abbrev pub ReadsOn :
    ℕ → LinkPart → List ℕ → Result Unit ReadError → LinkPart → ℕ → List ℕ → Type 0
ReadsOn room part bytes (Ok done) more allowed rest =
    HasReadOn room part bytes more rest × (has_item more ≡ false)
ReadsOn room part bytes (Err read_errors.Truncated) more allowed rest =
    HasReadOn room part bytes more rest × ReachesItem room more rest
ReadsOn room part bytes (Err e) more allowed rest =
    IfSome (fault_of e)
    (λ f. link_rest_at room part bytes ≡ Err (record { fault = f; left = allowed }))

-- ---- the runs of a text that is cut

-- these bytes are the last ones of all
pub record EndsIn (all bytes : List ℕ) : Type 0 where
  pub front : List ℕ
  pub parts : all ≡ front ++ bytes

-- decoding has gone on to this state and these bytes, whatever follows within the limit
pub record HasCome {S Y : Type 0} (read : S → ℕ → List ℕ → Result Y Stop) (room : ℕ) (state : S)
    (bytes : List ℕ) (more : S) (rest : List ℕ) : Type 0 where
  pub end : EndsIn bytes rest
  pub same :
      (near : List ℕ) (later : ℕ) → length near + later ≡ room →
      read state later (bytes ++ near) ≡ read more later (rest ++ near)

-- the runs that were left are the text's, or one differs, or the bytes end within one, or decoding
-- fails, with this many bytes allowed from there on
abbrev pub Compares :
    ℕ → List Run → List ℕ → Result Bool ReadError → List Run → ℕ → List ℕ → Type 0
Compares room left bytes (Ok true) more allowed rest =
    HasCome own_left_at room left bytes [] rest
Compares room left bytes (Ok false) more allowed rest =
    own_left_at left room bytes ≡ Ok (false, rest)
Compares room left bytes (Err read_errors.Truncated) more allowed rest =
    HasCome own_left_at room left bytes more rest × ReachesOwn room more rest
Compares room left bytes (Err e) more allowed rest = Stops allowed e (own_left_at left room bytes)

-- the runs that were left are there, and whether they keep the rules, or the bytes end within one,
-- or decoding fails, with this many bytes allowed from there on
abbrev pub ReadsOthers :
    ℕ → OtherPart → List ℕ → Result Bool ReadError → OtherPart → ℕ → List ℕ → Type 0
ReadsOthers room part bytes (Ok whole) more allowed rest =
    others_left_at part room bytes ≡ Ok (whole, rest)
ReadsOthers room part bytes (Err read_errors.Truncated) more allowed rest =
    HasCome others_left_at room part bytes more rest × ReachesOther room more rest
ReadsOthers room part bytes (Err e) more allowed rest =
    Stops allowed e (others_left_at part room bytes)

-- decoding of a text has gone on to these runs and bytes, of all these bytes, whatever follows
-- within the limit
pub record HasReadRuns (room : ℕ) (places : Places) (part : PiecesPart) (all bytes : List ℕ)
    (more : PiecesPart) (rest : List ℕ) : Type 0 where
  pub end : EndsIn all rest
  pub within : AreWithin places (length all - length rest)
  pub same :
      (near : List ℕ) (later : ℕ) → length near + later ≡ room →
      pieces_rest_at later places part (all ++ near) (bytes ++ near) ≡
      pieces_rest_at later places more (all ++ near) (rest ++ near)

-- the text is whole, whatever follows within the limit
pub record IsWholeText (room : ℕ) (places : Places) (part : PiecesPart) (all bytes : List ℕ)
    (text : List ℕ) (rest : List ℕ) : Type 0 where
  pub end : EndsIn all rest
  pub same :
      (near : List ℕ) (later : ℕ) → length near + later ≡ room →
      pieces_rest_at later places part (all ++ near) (bytes ++ near) ≡ Ok (text, rest ++ near)

-- the text is whole, or the bytes end within a run, or decoding fails, with this many bytes allowed
-- from there on
abbrev pub ReadsRuns :
    ℕ → Places → PiecesPart → List ℕ → List ℕ → Result ReadPieces ReadError → ℕ → List ℕ → Type 0
ReadsRuns room places part all bytes (Ok (read_pieces.Whole text)) allowed rest =
    IsWholeText room places part all bytes (string_bytes text) rest
ReadsRuns room places part all bytes (Ok (read_pieces.Cut more)) allowed rest =
    HasReadRuns room places part all bytes (pieces_part more) rest ×
    ReachesRun room (pieces_part more) rest
ReadsRuns room places part all bytes (Err e) allowed rest =
    (e ≢ read_errors.Truncated) × Stops allowed e (pieces_rest_at room places part all bytes)

-- ---- what is begun of the next change

-- the parts of a change begin where these bytes are left, of `len` bytes
pub record ArePlaces (places : Places) (len : ℕ) (change text list runs : List ℕ) : Type 0 where
  pub change_is : places.change ≡ len - length change
  pub text_is : places.text ≡ len - length text
  pub list_is : places.list ≡ len - length list
  pub runs_is : places.runs ≡ len - length runs

-- the change at the front is one of a text whose list of pieces has begun
pub record IsBegunText (measure : List ℕ → ℕ) (room len : ℕ) (bytes : List ℕ) (part : TextPart)
    (first : List ℕ) : Type 0 where
  pub start : List ℕ
  pub list : List ℕ
  pub text : List ℕ
  pub numbers : ℕ
  pub opens : with_pieces_at room bytes ≡ Ok start
  pub reads : text_at room start ≡ Ok (text, list)
  pub lists : threes_at room list ≡ Ok (numbers, first)
  pub places : ArePlaces part.places len bytes start list first
  pub pieces : part.pieces ≡ begun_pieces text (runs measure text) (numbers / 3)

-- its runs are read up to the one that is cut
pub record BeginsText (measure : List ℕ → ℕ) (room : ℕ) (all bytes : List ℕ) (part : TextPart)
    (rest : List ℕ) : Type 0 where
  pub first : List ℕ
  pub begun : PiecesPart
  pub begins :
      IsBegunText measure room (length all) bytes
      (record { places = part.places; pieces = begun }) first
  pub read : HasReadRuns room part.places begun all first part.pieces rest
  pub reached : ReachesRun room part.pieces rest

-- what is begun of a link in the change at the front: its params up to the one that is cut, if they
-- have begun
abbrev pub BeginsLink : ℕ → List ℕ → Option LinkPart → List ℕ → Type 0
BeginsLink room bytes None rest =
    (rest ≡ bytes) × ((x : LinkPart × List ℕ) → link_begun_at room bytes ≢ Ok x)
BeginsLink room bytes (Some part) rest =
    (x : LinkPart × List ℕ) × (link_begun_at room bytes ≡ Ok x) ×
    HasReadOn room x.0 x.1 part rest × ReachesItem room part rest

-- what is begun of a text in that change: its runs, if their list has begun
abbrev pub MayBeginText :
    (List ℕ → ℕ) → ℕ → List ℕ → List ℕ → Option TextPart → List ℕ → Type 0
MayBeginText measure room all bytes None rest =
    (rest ≡ bytes) × ((x : (List ℕ × ℕ) × List ℕ) → text_begun_at room bytes ≢ Ok x)
MayBeginText measure room all bytes (Some part) rest =
    BeginsText measure room all bytes part rest

-- what is begun of any change
abbrev pub BeginsChange :
    (List ℕ → ℕ) → ℕ → List ℕ → List ℕ → Option ChangePart → List ℕ → Type 0
BeginsChange measure room all bytes None rest =
    BeginsLink room bytes None rest × MayBeginText measure room all bytes None rest
BeginsChange measure room all bytes (Some (Link part)) rest =
    BeginsLink room bytes (Some part) rest
BeginsChange measure room all bytes (Some (Text part)) rest =
    MayBeginText measure room all bytes (Some part) rest

-- ---- the rest of the next change

-- what is begun, with this of the next change
abbrev pub begun_with : Begun → BegunChange → Begun
begun_with begun next = record begun { next = Some next }

-- what is begun, with this of the next change, up to `taken` bytes
abbrev pub cut_after : Begun → BegunChange → ℕ → Begun
cut_after begun next taken = record begun { next = Some next; taken = taken }

-- what is begun, with these changes, which take `spent` work, up to `taken` bytes
abbrev pub whole_after : Begun → Vec Change Global → ℕ → ℕ → Begun
whole_after begun changes spent taken =
    record begun { changes = changes; spent = spent; next = None; taken = taken }

-- what is begun has become this, with this change after its changes
abbrev pub IsWith : Begun → ChangeValue → ℕ → ℕ → Begun → Type 0
IsWith begun change spent taken more =
    (more ≡ whole_after begun more.changes spent taken) ×
    (map change_value more.changes.items ≡ map change_value begun.changes.items ++ change ∷ [])

-- a call returns what is begun with this text after its changes, if the screen bears it, or fails
-- where its change begins
abbrev pub WithWhole : Begun → List ℕ → ℕ → ℕ → Result Begun NoAnswer → Type 0
WithWhole begun text start taken (Ok more) =
    (bears (Some begun.head) begun.spent (changed.Text text) ≡ true) ×
    IsWith begun (changed.Text text)
    (begun.spent + cost (Some begun.head) (changed.Text text)) taken more
WithWhole begun text start taken (Err (no_answers.Failed error)) =
    (error ≡ errors.Memory) ⊎
    ((bears (Some begun.head) begun.spent (changed.Text text) ≡ false) ×
    (error ≡
    error_of read_errors.Limit start (Some (length (map change_value begun.changes.items)))))
WithWhole begun text start taken (Err (no_answers.Cut next)) = ⊥

-- a call returns what is begun with the next change whole after its changes, or what decoding
-- gives
abbrev pub WithNext : (List ℕ → ℕ) → Limits → List ℕ → Result Begun NoAnswer → Type 0
WithNext measure limits bytes (Ok begun) =
    LeadsOn measure limits begun bytes × (begun.next ≡ None)
WithNext measure limits bytes (Err e) = Resumes measure limits bytes (Err e)
