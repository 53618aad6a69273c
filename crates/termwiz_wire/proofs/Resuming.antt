-- The decoding of an answer goes on from what is begun of it.
use Rattle.std.proofs.Common.{◌≡◌, ◌≢◌, ℕ, suc, ◌+◌, ◌-◌, ◌<◌, ◌≤◌, ◌^◌, Bool, true, false, cond, List, [], ◌∷◌, ◌++◌, length, take, drop, Option, Some, None, Result, Ok, Err, refl, sym, ap, subst, ◌∙◌, append_assoc, append-nil, arith, inl, inr}
use Rattle.std.specs.Option.{ForSome}
use Rattle.std.specs.Prelude.{map, option_map, IfSome, Vec}
use Rattle.std.specs.declared.alloc.Global.{Global}
use Rattle.std.proofs.lemmas.Bool.{leb-true}
use Rattle.std.proofs.lemmas.List.{length-append, length-drop, take_all, drop-append-le}
use Rattle.cbor.specs.declared.error.FaultKind.TheVariants.{Truncated}
use Rattle.cbor.specs.declared.error.ReadError.{ReadError}
use Rattle.cbor.specs.declared.error.ReadError.TheVariants as read_errors
use Rattle.cbor.specs.Decoding.{◌>>=◌, Stop, Stops, IsBytes, allowed, ok, fault_of}
use Rattle.cbor.specs.Encoding.{array}
use Rattle.termwiz_cell.specs.ChangeValue.{ChangeValue, change_value}
use Rattle.termwiz_cell.specs.declared.change.Change.{Change}
use Rattle.termwiz_cell.specs.ChangeValue as changed
use Rattle.termwiz_wire.specs.CutTexts.{PiecesPart, TextPart, borne_at, pieces_part, pieces_rest_at, text_rest_at}
use Rattle.termwiz_wire.specs.CutLinks.{LinkPart, has_item, link_change, link_change_by, link_rest_at, part_of}
use Rattle.termwiz_wire.specs.Answers.{Decodes, Halt, answer_at, answer_in, each_at, next_at, error_of, fault_at, halted, head_at, located, sent_of}
use Rattle.termwiz_cell.specs.Attributes.{Attributes}
use Rattle.termwiz_cell.specs.Link.{Link}
use Rattle.termwiz_wire.specs.Work.{bears, cost, most_work, spent_on, work}
use Rattle.termwiz_wire.proofs.Bounds.{spent_more}
use Rattle.termwiz_wire.specs.Encoding.{change}
use Rattle.termwiz_wire.specs.Resuming.{AreWithin, BeginsChange, ChangePart, EndsIn, DecodesOn, HasGoneOn, HasReached, HasReadOn, HasReadRuns, IsChangePart, StopsTruncated, IsUnfinished, IsWholeText, LeadsOn, ReachesBy, ReachesItem, ReachesRun, ReadsRuns, Resumes, WithNext, WithWhole, change_part, change_rest_at, left_at, rest_at, resumed_by, resumed_in}
use Rattle.termwiz_wire.specs.Resuming as parts
use Rattle.termwiz_wire.specs.Lent.{lent_answer}
use Rattle.termwiz_wire.specs.Sent.{answer}
use Rattle.termwiz_wire.specs.declared.decode.begun.Begun.{Begun}
use Rattle.termwiz_wire.specs.declared.decode.begun.BegunChange.{BegunChange}
use Rattle.termwiz_wire.specs.declared.decode.begun.BegunChange.TheVariants as begun_changes
use Rattle.termwiz_wire.specs.declared.decode.cut_links.BegunLink.{BegunLink}
use Rattle.termwiz_wire.specs.declared.decode.cut_texts.BegunPieces.{BegunPieces}
use Rattle.termwiz_wire.specs.declared.decode.cut_texts.BegunText.{BegunText}
use Rattle.termwiz_wire.specs.declared.decode.cut_texts.Places.{Places}
use Rattle.termwiz_wire.specs.declared.decode.begun.NoAnswer.{NoAnswer}
use Rattle.termwiz_wire.specs.declared.decode.begun.NoAnswer.TheVariants as no_answers
use Rattle.termwiz_wire.specs.declared.decode.cut_texts.ReadPieces.{ReadPieces}
use Rattle.termwiz_wire.specs.declared.decode.halted.Halted.{Halted}
use Rattle.termwiz_wire.specs.declared.decode.heads.Head.{Head}
use Rattle.termwiz_wire.specs.declared.fault.Limits.{Limits}
use Rattle.termwiz_wire.specs.declared.fault.WireError.{WireError}
use Rattle.termwiz_wire.specs.declared.sent.LentAnswer.{LentAnswer}
use Rattle.termwiz_wire.specs.declared.sent.SentAnswer.{SentAnswer}
use Rattle.termwiz_wire.proofs.AnswersFound.{answer_takes, head_bytes, head_takes}
use Rattle.termwiz_wire.proofs.Each.{next_found}
use Rattle.termwiz_wire.proofs.Loops.{each_go_on, each_end, each_done, each_some}
use Rattle.termwiz_wire.proofs.CutLinks.{begun_end, item_done, item_stop, next_is, read_here, same_then, then_then}
use Rattle.termwiz_wire.proofs.CutTexts.{behind_front, begun_ends, end_at, end_ends, ends_drop, ends_then, places_near, run_reached, runs_here, text_next_is, whole_here, within_more}
use Rattle.termwiz_wire.proofs.Prefixes.{head_reads, link_begun_reads, next_reads, still, still_behind, threes_reads, with_pieces_reads}
use Rattle.cbor.proofs.Prefixes.{text_reads}
use Rattle.termwiz_wire.proofs.Within.{Stopped, Took, if_some, stopped_at, took}

abbrev some : {A : Type 0} → A → Option A
some x = Some x

abbrev sent_behind : Head → List ChangeValue × List ℕ → Result (SentAnswer × List ℕ) Halt
sent_behind head changes = ok (sent_of head changes.0) changes.1

-- the next change, and those after it
next_left : (measure : List ℕ → ℕ) (room : ℕ) (head : Head) (more : List ChangeValue) (bytes : List ℕ) → length more < head.count → left_at measure room head more bytes ≡ (halted (Some (length more)) (next_at measure room (Some head) (spent_on (Some head) more) bytes) >>= λ x. left_at measure room head (more ++ x.0 ∷ []) x.1)
next_left measure room head more bytes lt =
    let k : head.count - length more ≡ suc (head.count - (length more + 1)) = omega (arith, lt) in
    ap (λ (n : ℕ). each_at measure room (Some head) more n bytes) k
    ∙ each_some measure room (Some head) more (head.count - (length more + 1)) bytes
    ∙ same_then (halted (Some (length more)) (next_at measure room (Some head) (spent_on (Some head) more) bytes)) _ _ (λ x. ap (λ (n : ℕ). each_at measure room (Some head) (more ++ x.0 ∷ []) (head.count - n) x.1) (sym (length-append more (x.0 ∷ []))))

-- the two ways of a test
chose_first : {A : Type 0} (b : Bool) (x y : A) → b ≡ true → cond b x y ≡ x
chose_first b x y is = rw is refl

chose_last : {A : Type 0} (b : Bool) (x y : A) → b ≡ false → cond b x y ≡ y
chose_last b x y is = rw is refl

-- a link takes no work
unspent : (head : Head) (spent : ℕ) (attributes : Option Attributes) (link : Link) → spent + cost (Some head) (link_change_by attributes link) ≡ spent
unspent head spent None link = omega arith
unspent head spent (Some a) link = omega arith

-- ---- one change after another

module _ (measure : List ℕ → ℕ) (room : ℕ) (head : Head) (made : List ChangeValue) (bytes : List ℕ) where
  abbrev Gone : List ChangeValue → List ℕ → Type 0
  Gone more rest = HasGoneOn measure room head made bytes more rest

  pub gone_none : Gone made bytes
  gone_none = record { front = []; parts = refl; same = λ near later all. refl }

  -- one change more
  pub gone_more : (more : List ChangeValue) (rest : List ℕ) (c : ChangeValue) (after : List ℕ) → Gone more rest → IsBytes rest → length more < head.count → next_at measure room (Some head) (spent_on (Some head) more) rest ≡ Ok (c, after) → Gone (more ++ c ∷ []) after × IsBytes after
  gone_more more rest c after gone fits lt is =
      let spent : ℕ = spent_on (Some head) more in
      let t = next_found measure room (Some head) spent rest (c, after) fits is in
      let len : length (more ++ c ∷ []) ≡ length more + 1 = length-append more (c ∷ []) in (
        record {
          front = gone.front ++ change measure c;
          parts = gone.parts ∙ ap (λ (t : List ℕ). gone.front ++ t) t.parts ∙ sym (append_assoc gone.front (change measure c) after);
          same = λ near later all.
              let next : next_at measure later (Some head) spent (rest ++ near) ≡ Ok (c, after ++ near) = still (next_reads measure (Some head) spent) room later rest near (c, after) all is in
              let total : Result (List ChangeValue × List ℕ) Halt = left_at measure later head made (bytes ++ near) in
              sym (rw len (each_go_on measure later (Some head) more head.count (length more) (rest ++ near) c (after ++ near) total lt next (sym (gone.same near later all))));
        },
        t.rest_fits,
      )

  -- what is decoded from here on is what is decoded
  pub gone_here : (more : List ChangeValue) (rest : List ℕ) → Gone more rest → left_at measure room head made bytes ≡ left_at measure room head more rest
  gone_here more rest gone =
      ap (left_at measure room head made) (sym (append-nil bytes)) ∙ gone.same [] room (omega arith) ∙ ap (left_at measure room head more) (append-nil rest)

  -- all changes are there
  pub gone_whole : (more : List ChangeValue) (rest : List ℕ) → Gone more rest → head.count ≤ length more → left_at measure room head made bytes ≡ Ok (more, rest)
  gone_whole more rest gone le = each_done measure room (Some head) more head.count (length more) rest (left_at measure room head made bytes) le (sym (gone_here more rest gone))

  -- the next one has no value
  pub gone_stopped : (more : List ChangeValue) (rest : List ℕ) (at : ℕ) (e : ReadError) → Gone more rest → length more < head.count → Stops at e (next_at measure room (Some head) (spent_on (Some head) more) rest) → IfSome (fault_of e) (λ f. left_at measure room head made bytes ≡ Err (record { stop = record { fault = f; left = at }; change = Some (length more) }))
  gone_stopped more rest at e gone lt stops = each_end measure room (Some head) at e more head.count (length more) rest (left_at measure room head made bytes) lt refl stops (sym (gone_here more rest gone))

  -- ---- the next one is cut

  pub gone_halted : (more : List ChangeValue) (rest : List ℕ) (s : Stop) → Gone more rest → length more < head.count → next_at measure room (Some head) (spent_on (Some head) more) rest ≡ Err s → left_at measure room head made bytes ≡ Err (record { stop = s; change = Some (length more) })
  gone_halted more rest s gone lt is = gone_here more rest gone ∙ next_left measure room head more rest lt ∙ ap (λ (r : Result (ChangeValue × List ℕ) Stop). halted (Some (length more)) r >>= λ x. left_at measure room head (more ++ x.0 ∷ []) x.1) is

-- what is begun of the next change, or that nothing is
record BeginsOn (measure : List ℕ → ℕ) (room : ℕ) (head : Head) (more : List ChangeValue) (all rest : List ℕ) (next : Option ChangePart) (after : List ℕ) : Type 0 where
  end : EndsIn all after
  fits : IfSome next (IsChangePart (length all - length after))
  same : (near : List ℕ) (later : ℕ) → length near + later ≡ room → rest_at measure later head more (rest ++ near) ≡ resumed_by measure later head more next (all ++ near) (after ++ near)
  reached : ReachesBy measure room head more next after

-- the rest of the answer, by the rest of its next change
next_rest : (measure : List ℕ → ℕ) (room : ℕ) (head : Head) (more : List ChangeValue) (bytes : List ℕ) (read : Result (ChangeValue × List ℕ) Stop) → length more < head.count → next_at measure room (Some head) (spent_on (Some head) more) bytes ≡ read → rest_at measure room head more bytes ≡ (halted (Some (length more)) read >>= λ first. rest_at measure room head (more ++ first.0 ∷ []) first.1)
next_rest measure room head more bytes read lt is =
    ap (λ (r : Result (List ChangeValue × List ℕ) Halt). r >>= sent_behind head) (next_left measure room head more bytes lt)
    ∙ then_then (halted (Some (length more)) (next_at measure room (Some head) (spent_on (Some head) more) bytes)) _ _
    ∙ ap (λ (r : Result (ChangeValue × List ℕ) Stop). halted (Some (length more)) r >>= λ first. rest_at measure room head (more ++ first.0 ∷ []) first.1) is

begins_on : (measure : List ℕ → ℕ) (room : ℕ) (head : Head) (more : List ChangeValue) (all rest : List ℕ) → EndsIn all rest → IsBytes rest → length more < head.count → spent_on (Some head) more ≤ most_work head.width head.height → StopsTruncated (next_at measure room (Some head) (spent_on (Some head) more) rest) → (next : Option ChangePart) (after : List ℕ) → BeginsChange measure room all rest next after → BeginsOn measure room head more all rest next after
begins_on measure room head more all rest end fits lt few cut None after begins =
    subst (λ (t : List ℕ). BeginsOn measure room head more all rest None t) (sym begins.0.0) (record {
      end = end;
      fits = tt;
      same = λ near later sum. refl;
      reached = record { cut = cut; no_link = begins.0.1; no_text = begins.1.1 };
    })
begins_on measure room head more all rest end fits lt few cut (Some (parts.Link part)) after begins =
    let x : LinkPart × List ℕ = begins.0 in
    let first = begun_end room rest x fits begins.1 in
    record {
      end = ends_then all rest after end (ends_then rest x.1 after (end_ends rest x.1 first) (record { front = begins.2.front; parts = begins.2.parts }));
      fits = begins.2.keys;
      same = λ near later sum. next_rest measure later head more (rest ++ near) (link_rest_at later part (after ++ near)) lt
          (next_is measure later head (spent_on (Some head) more) (rest ++ near) (x.0, x.1 ++ near) few (still link_begun_reads room later rest near x sum begins.1) ∙ begins.2.same near later sum);
      reached = begins.3;
    }
begins_on measure room head more all rest end fits lt few cut (Some (parts.Text part)) after begins =
    let b = begins.begins in
    let part_begun : TextPart = record { places = part.places; pieces = begins.begun } in
    let ends = end_at all rest b.start b.list begins.first end (begun_ends measure room all rest part_begun begins.first end fits b) in
    record {
      end = begins.read.end;
      fits = begins.read.within;
      same = λ near later sum.
          let at = places_near part.places all rest b.start b.list begins.first near b.places ends in
          let first = text_next_is measure later (all ++ near) (rest ++ near) (b.start ++ near) (b.list ++ near) (begins.first ++ near) b.text b.numbers part.places at
          (still_behind with_pieces_reads room later rest near b.start sum b.opens) (still text_reads room later b.start near (b.text, b.list) sum b.reads) (still threes_reads room later b.list near (b.numbers, begins.first) sum b.lists) head (spent_on (Some head) more) in
          next_rest measure later head more (rest ++ near) (text_rest_at later head (spent_on (Some head) more) part (all ++ near) (after ++ near)) lt
          (first
          ∙ ap (λ (p : PiecesPart). pieces_rest_at later part.places p (all ++ near) (begins.first ++ near) >>= borne_at later head (spent_on (Some head) more) part.places (all ++ near)) (sym b.pieces)
          ∙ ap (λ (r : Result (List ℕ × List ℕ) Stop). r >>= borne_at later head (spent_on (Some head) more) part.places (all ++ near)) (begins.read.same near later sum));
      reached = begins.reached;
    }

-- ---- what leads on

-- what is begun, if anything is
for_some : {A : Type 0} (P : A → Type 0) (x : A) → P x → ForSome (Some x) P
for_some {A = A} P x is = λ y e. let same : x ≡ y = some_is {A = A} x y e in subst P same is
  where
    some_is : {A : Type 0} (x y : A) → some x ≡ some y → x ≡ y
    some_is x y e = cc

pub for_none : {A : Type 0} (P : A → Type 0) → ForSome None P
for_none P = λ y e. absurd cc

-- all bytes from one on
pub slice_from : (bytes : List ℕ) (start : ℕ) → take (length bytes - start) (drop start bytes) ≡ drop start bytes
slice_from bytes start = take_all (length bytes - start) (drop start bytes) (omega (arith, length-drop start bytes))

-- the bytes from one on end all
pub slice_ends : (hand : List ℕ) (n : ℕ) → EndsIn hand (take (length hand - n) (drop n hand))
slice_ends hand n = subst (λ (t : List ℕ). EndsIn hand t) (sym (slice_from hand n)) (ends_drop n hand)

pub slice_within : (places : Places) (hand : List ℕ) (n : ℕ) → n ≤ length hand → AreWithin places n → AreWithin places (length hand - length (take (length hand - n) (drop n hand)))
slice_within places hand n le within =
    let len : length (take (length hand - n) (drop n hand)) ≡ length hand - n = ap length (slice_from hand n) ∙ length-drop n hand in
    within_more places n (length hand - length (take (length hand - n) (drop n hand))) (omega (arith, len, le)) within

-- what is read from the bytes after those that were taken
pub runs_read_here : (r room : ℕ) (hand all : List ℕ) (taken : ℕ) (places : Places) (part : PiecesPart) (result : Result ReadPieces ReadError) (left : ℕ) (rest : List ℕ) → r ≡ room → hand ≡ all → ReadsRuns r places part hand (take (length hand - taken) (drop taken hand)) result left rest → ReadsRuns room places part all (drop taken all) result left rest
runs_read_here r room hand all taken places part result left rest r_is same reads =
    subst (λ (h : List ℕ). ReadsRuns room places part h (drop taken h) result left rest) same
    (subst (λ (t : List ℕ). ReadsRuns room places part hand t result left rest) (slice_from hand taken)
    (subst (λ (n : ℕ). ReadsRuns n places part hand (take (length hand - taken) (drop taken hand)) result left rest) r_is reads))

module _ (measure : List ℕ → ℕ) (limits : Limits) (bytes : List ℕ) where
  abbrev hand : List ℕ
  hand = take limits.bytes bytes

  abbrev room : ℕ
  room = limits.bytes - length bytes

  -- the head leads on
  pub leads_first : (head : Head) (changes : Vec Change Global) (rest : List ℕ) (n : ℕ) → (0 < head.width) × (head.width < 2 ^ 32) → (0 < head.height) × (head.height < 2 ^ 32) → head.base ≤ head.number → IsBytes hand → head_at room limits hand ≡ Ok (head, rest) → changes.items ≡ [] → n ≡ length hand - length rest → LeadsOn measure limits (record { head = head; changes = changes; spent = 0; next = None; taken = n }) bytes
  unfolding answer_in
  leads_first head changes rest n width height numbers fits is none n_is =
      let found = head_takes room limits hand (head, rest) fits is in
      let parts : hand ≡ (head_bytes head ++ array head.count) ++ rest = found.front.parts ∙ ap (λ (t : List ℕ). head_bytes head ++ t) found.listed.parts ∙ sym (append_assoc (head_bytes head) (array head.count) rest) in
      record {
        width = width;
        height = height;
        numbers = numbers;
        taken = (behind_front (head_bytes head ++ array head.count) hand rest [] n parts n_is).0;
        spent = ap (λ (cs : List Change). spent_on (Some head) (map change_value cs)) (sym none);
        borne = omega arith;
        next = tt;
        same = λ near later all.
            let after : drop n (hand ++ near) ≡ rest ++ near = (behind_front (head_bytes head ++ array head.count) hand rest near n parts n_is).1 in
            let later_head : head_at later limits (hand ++ near) ≡ Ok (head, rest ++ near) = still (head_reads limits) room later hand near (head, rest) all is in
            let count : head.count ≡ head.count - length {A = ChangeValue} [] = omega arith in
            ap (λ (r : Result (Head × List ℕ) Stop). halted None r >>= λ h. each_at measure later (Some h.0) [] h.0.count h.1 >>= sent_behind h.0) later_head
            ∙ ap (λ (k : ℕ). each_at measure later (Some head) [] k (rest ++ near) >>= sent_behind head) count
            ∙ sym (ap (λ (cs : List Change). rest_at measure later head (map change_value cs) (drop n (hand ++ near))) none ∙ ap (rest_at measure later head []) after);
      }

  -- what is decoded from what is begun
  pub leads_here : (begun : Begun) → LeadsOn measure limits begun bytes → answer_in measure room limits hand ≡ resumed_in measure room begun hand
  leads_here begun leads =
      ap (answer_in measure room limits) (sym (append-nil hand)) ∙ leads.same [] room (omega arith) ∙ ap (resumed_in measure room begun) (append-nil hand)

  -- a head that has no value
  pub head_stopped : (e : ReadError) (at : ℕ) → Stops at e (head_at room limits hand) → Stopped e None at (answer_in measure room limits hand)
  unfolding answer_in
  head_stopped e at stops = if_some (fault_of e) _ _ (λ f is. ap (λ (r : Result (Head × List ℕ) Stop). halted None r >>= λ h. each_at measure room (Some h.0) [] h.0.count h.1 >>= sent_behind h.0) is) stops

  -- ---- what a call returns

  abbrev pub reading : ℕ → List ℕ → Result (SentAnswer × List ℕ) Halt
  reading room bytes = answer_in measure room limits bytes

  -- an answer
  pub answer_took : (s : SentAnswer) (rest : List ℕ) (n : ℕ) → IsBytes hand → answer_in measure room limits hand ≡ Ok (s, rest) → n ≡ length hand - length rest → Took reading limits.bytes (answer measure s) bytes n s
  answer_took s rest n fits e is = took reading limits.bytes (answer measure s) bytes hand rest room n s refl refl (answer_takes measure room limits hand (s, rest) fits e).taken.parts e is

  pub resumes_whole : (a : LentAnswer) (n : ℕ) → Took reading limits.bytes (answer measure (lent_answer a)) bytes n (lent_answer a) → Resumes measure limits bytes (Ok (a, n))
  unfolding answer_at
  resumes_whole a n t = t.exact

  -- more bytes may make it
  pub is_unfinished : (h : Halt) → answer_in measure room limits hand ≡ Err h → h.stop.fault ≡ Truncated → IsUnfinished measure limits bytes
  unfolding answer_at
  is_unfinished h is cut = record { fault = fault_at (allowed room hand) h; is = ap (located (allowed room hand) (drop limits.bytes bytes)) is; cut = cut }

  failed_as : (e : ReadError) (n : ℕ) (change : Option ℕ) → e ≢ read_errors.Truncated → Decodes (λ (x : SentAnswer × List ℕ). x) (Err (error_of e n change)) (answer_at measure limits bytes) → Resumes measure limits bytes (Err (no_answers.Failed (error_of e n change)))
  failed_as read_errors.Truncated n change other d = absurd (other refl)
  failed_as read_errors.Version n change other d = (d, λ is. cc)
  failed_as read_errors.Type n change other d = (d, λ is. cc)
  failed_as read_errors.Utf8 n change other d = (d, λ is. cc)
  failed_as read_errors.Range n change other d = (d, λ is. cc)
  failed_as read_errors.Region n change other d = (d, λ is. cc)
  failed_as read_errors.Limit n change other d = (d, λ is. cc)
  failed_as read_errors.Measure n change other d = (d, λ is. cc)
  failed_as read_errors.Memory n change other d = tt

  -- a fault, or want of memory
  pub resumes_failed : (e : ReadError) (change : Option ℕ) (rest : List ℕ) (later n : ℕ) (result : WireError) → e ≢ read_errors.Truncated → later ≡ room → Stopped e change (allowed later rest) (answer_in measure room limits hand) → n ≡ length hand - length rest → result ≡ error_of e n change → Resumes measure limits bytes (Err (no_answers.Failed result))
  unfolding answer_at
  resumes_failed e change rest later n result other kept stops n_is result_is =
      let d : Decodes (λ (x : SentAnswer × List ℕ). x) (Err (error_of e n change)) (answer_at measure limits bytes) = stopped_at (λ (x : SentAnswer × List ℕ). x) reading limits.bytes bytes hand rest room later n e change (error_of e n change) refl refl kept stops n_is refl in
      subst (λ (w : WireError). Resumes measure limits bytes (Err (no_answers.Failed w))) (sym result_is) (failed_as e n change other d)

  -- ---- from what is begun

  module _ (begun : Begun) (leads : LeadsOn measure limits begun bytes) where
    abbrev made : List ChangeValue
    made = map change_value begun.changes.items

    abbrev start : List ℕ
    start = drop begun.taken hand

    -- the bytes that were taken
    pub hand_ends : EndsIn hand start
    hand_ends = ends_drop begun.taken hand

    -- what is begun, of the next change or of none
    from_begun : (next : Option BegunChange) → begun.next ≡ next → (near : List ℕ) (later : ℕ) → length near + later ≡ room → answer_in measure later limits (hand ++ near) ≡ resumed_by measure later begun.head made (option_map change_part next) (hand ++ near) (start ++ near)
    from_begun next is near later all =
        leads.same near later all
        ∙ ap (λ (l : Option BegunChange). resumed_by measure later begun.head made (option_map change_part l) (hand ++ near) (drop begun.taken (hand ++ near))) is
        ∙ ap (resumed_by measure later begun.head made (option_map change_part next) (hand ++ near)) (drop-append-le begun.taken hand near leads.taken)

    begun_here : (next : Option BegunChange) → begun.next ≡ next → answer_in measure room limits hand ≡ resumed_by measure room begun.head made (option_map change_part next) hand start
    begun_here next is =
        ap (answer_in measure room limits) (sym (append-nil hand)) ∙ from_begun next is [] room (omega arith)
        ∙ ap (λ (t : List ℕ). resumed_by measure room begun.head made (option_map change_part next) t (start ++ [])) (append-nil hand)
        ∙ ap (resumed_by measure room begun.head made (option_map change_part next) hand) (append-nil start)

    -- what was decoded from there on leads on to the answer
    module _ (begun_next : Option BegunChange) (is : begun.next ≡ begun_next) (changes : Vec Change Global) (next : Option BegunChange) (rest : List ℕ) (n spent : ℕ) where
      abbrev later_begun : Begun
      later_begun = record { head = begun.head; changes = changes; spent = spent; next = next; taken = n }

      pub leads_later : EndsIn hand rest → n ≡ length hand - length rest → spent ≡ spent_on (Some begun.head) (map change_value changes.items) → spent ≤ most_work begun.head.width begun.head.height → IfSome (option_map change_part next) (IsChangePart n) → ((near : List ℕ) (later : ℕ) → length near + later ≡ room → resumed_by measure later begun.head made (option_map change_part begun_next) (hand ++ near) (start ++ near) ≡ resumed_by measure later begun.head (map change_value changes.items) (option_map change_part next) (hand ++ near) (rest ++ near)) → LeadsOn measure limits later_begun bytes
      leads_later end n_is spent_is borne fits same = record {
        width = leads.width;
        height = leads.height;
        numbers = leads.numbers;
        taken = (behind_front end.front hand rest [] n end.parts n_is).0;
        spent = spent_is;
        borne = borne;
        next = fits;
        same = λ near later all.
            from_begun begun_next is near later all
            ∙ same near later all
            ∙ ap (resumed_by measure later begun.head (map change_value changes.items) (option_map change_part next) (hand ++ near)) (sym (behind_front end.front hand rest near n end.parts n_is).1);
      }

      -- it has all that is there
      pub reaches_later : EndsIn hand rest → n ≡ length hand - length rest → ReachesBy measure room begun.head (map change_value changes.items) (option_map change_part next) rest → HasReached measure limits later_begun bytes
      reaches_later end n_is reached =
          let behind : rest ≡ drop n hand = sym (append-nil rest) ∙ sym (behind_front end.front hand rest [] n end.parts n_is).1 ∙ ap (drop n) (append-nil hand) in
          subst (λ (t : List ℕ). ReachesBy measure room begun.head (map change_value changes.items) (option_map change_part next) t) behind reached

    -- ---- the next change

    module _ (change : BegunChange) (is : begun.next ≡ Some change) where
      abbrev change_left : ℕ → List ℕ → List ℕ → Result (ChangeValue × List ℕ) Stop
      change_left room all bytes = change_rest_at room begun.head (spent_on (Some begun.head) made) (change_part change) all bytes

      abbrev behind_change : ℕ → Result (ChangeValue × List ℕ) Stop → Result (SentAnswer × List ℕ) Halt
      behind_change room read = halted (Some (length made)) read >>= λ first. rest_at measure room begun.head (made ++ first.0 ∷ []) first.1

      -- it is whole
      pub change_whole : (value : ChangeValue) (rest : List ℕ) (changes : Vec Change Global) (n spent : ℕ) → EndsIn hand rest → ((near : List ℕ) (later : ℕ) → length near + later ≡ room → change_left later (hand ++ near) (start ++ near) ≡ Ok (value, rest ++ near)) → map change_value changes.items ≡ made ++ value ∷ [] → n ≡ length hand - length rest → spent ≡ begun.spent + cost (Some begun.head) value → spent ≤ most_work begun.head.width begun.head.height → LeadsOn measure limits (record { head = begun.head; changes = changes; spent = spent; next = None; taken = n }) bytes
      change_whole value rest changes n spent end same pushed n_is spent_is borne =
          leads_later (Some change) is changes None rest n spent end n_is
          (spent_is ∙ ap (λ (k : ℕ). k + cost (Some begun.head) value) leads.spent ∙ sym (ap (spent_on (Some begun.head)) pushed ∙ spent_more (Some begun.head) made value))
          borne tt
          (λ near later all. ap (behind_change later) (same near later all) ∙ ap (λ (cs : List ChangeValue). rest_at measure later begun.head cs (rest ++ near)) (sym pushed))

      -- the answer has no value where the change has none
      change_stop : (s : Stop) → change_left room hand start ≡ Err s → answer_in measure room limits hand ≡ Err (record { stop = s; change = Some (length made) })
      change_stop s stops = begun_here (Some change) is ∙ ap (behind_change room) stops

      -- it is cut
      change_cut : (next : BegunChange) (rest : List ℕ) (n : ℕ) → EndsIn hand rest → IsChangePart n (change_part next) → ((near : List ℕ) (later : ℕ) → length near + later ≡ room → change_left later (hand ++ near) (start ++ near) ≡ change_rest_at later begun.head (spent_on (Some begun.head) made) (change_part next) (hand ++ near) (rest ++ near)) → StopsTruncated (change_left room hand start) → ReachesBy measure room begun.head made (Some (change_part next)) rest → n ≡ length hand - length rest → Resumes measure limits bytes (Err (no_answers.Cut (Some (record { head = begun.head; changes = begun.changes; spent = begun.spent; next = Some next; taken = n }))))
      change_cut next rest n end fits same cut reached n_is =
          let later : Begun = record { head = begun.head; changes = begun.changes; spent = begun.spent; next = Some next; taken = n } in (
            is_unfinished (record { stop = cut.stop; change = Some (length made) }) (change_stop cut.stop cut.is) cut.cut,
            for_some (λ (b : Begun). LeadsOn measure limits b bytes) later
                (leads_later (Some change) is begun.changes (Some next) rest n begun.spent end n_is leads.spent leads.borne fits
                (λ near later all. ap (behind_change later) (same near later all))),
            reaches_later (Some change) is begun.changes (Some next) rest n begun.spent end n_is reached,
          )

      -- it has a fault
      pub change_failed : (e : ReadError) (rest : List ℕ) (later n : ℕ) (result : WireError) → e ≢ read_errors.Truncated → later ≡ room → Stops (allowed later rest) e (change_left room hand start) → n ≡ length hand - length rest → result ≡ error_of e n (Some (length made)) → Resumes measure limits bytes (Err (no_answers.Failed result))
      change_failed e rest later n result other kept stops n_is result_is =
          resumes_failed e (Some (length made)) rest later n result other kept
          (if_some (fault_of e) _ _ (λ f is. change_stop (record { fault = f; left = allowed later rest }) is) stops) n_is result_is

    -- ---- a link

    module _ (link : BegunLink) (is : begun.next ≡ Some (begun_changes.Link link)) where
      abbrev LinkRead : LinkPart → List ℕ → Type 0
      LinkRead more rest = HasReadOn room (part_of link) start more rest

      link_ends : (more : LinkPart) (rest : List ℕ) → LinkRead more rest → EndsIn hand rest
      link_ends more rest read = ends_then hand start rest hand_ends (record { front = read.front; parts = read.parts })

      -- its params are there
      pub link_whole : (more : LinkPart) (rest : List ℕ) (changes : Vec Change Global) (n : ℕ) → LinkRead more rest → has_item more ≡ false → map change_value changes.items ≡ made ++ link_change more more.params ∷ [] → n ≡ length hand - length rest → LeadsOn measure limits (record { head = begun.head; changes = changes; spent = begun.spent; next = None; taken = n }) bytes
      link_whole more rest changes n read none pushed n_is =
          change_whole (begun_changes.Link link) is (link_change more more.params) rest changes n begun.spent (link_ends more rest read)
          (λ near later all. read.same near later all ∙ item_done later more (rest ++ near) none)
          pushed n_is (sym (unspent begun.head begun.spent more.attributes _)) leads.borne

      -- one is cut
      pub link_cut : (next : BegunLink) (rest : List ℕ) (n : ℕ) → LinkRead (part_of next) rest → ReachesItem room (part_of next) rest → n ≡ length hand - length rest → Resumes measure limits bytes (Err (no_answers.Cut (Some (record { head = begun.head; changes = begun.changes; spent = begun.spent; next = Some (begun_changes.Link next); taken = n }))))
      link_cut next rest n read reached n_is =
          change_cut (begun_changes.Link link) is (begun_changes.Link next) rest n (link_ends (part_of next) rest read) read.keys read.same
          (record { stop = reached.cut.stop; is = read_here room (part_of link) start (part_of next) rest read ∙ item_stop room (part_of next) rest reached.cut.stop reached.some reached.cut.is; cut = reached.cut.cut })
          reached n_is

      -- they have a fault
      pub link_failed : (e : ReadError) (rest : List ℕ) (later n : ℕ) (result : WireError) → e ≢ read_errors.Truncated → later ≡ room → Stops (allowed later rest) e (link_rest_at room (part_of link) start) → n ≡ length hand - length rest → result ≡ error_of e n (Some (length made)) → Resumes measure limits bytes (Err (no_answers.Failed result))
      link_failed e rest later n result other kept stops n_is result_is = change_failed (begun_changes.Link link) is e rest later n result other kept stops n_is result_is

    -- ---- a text

    module _ (text : BegunText) (is : begun.next ≡ Some (begun_changes.Text text)) where
      abbrev places : Places
      places = text.places

      abbrev pieces : PiecesPart
      pieces = pieces_part text.pieces

      abbrev borne_here : ℕ → List ℕ → List ℕ × List ℕ → Result (ChangeValue × List ℕ) Stop
      borne_here room all t = borne_at room begun.head (spent_on (Some begun.head) made) places all t

      -- a run is cut
      pub text_cut : (next : BegunPieces) (rest : List ℕ) (n : ℕ) → HasReadRuns room places pieces hand start (pieces_part next) rest → ReachesRun room (pieces_part next) rest → n ≡ length hand - length rest → Resumes measure limits bytes (Err (no_answers.Cut (Some (record { head = begun.head; changes = begun.changes; spent = begun.spent; next = Some (begun_changes.Text (record { places = text.places; pieces = next })); taken = n }))))
      text_cut next rest n read reached n_is =
          let cut = run_reached room places (pieces_part next) hand rest reached in
          change_cut (begun_changes.Text text) is (begun_changes.Text (record { places = text.places; pieces = next })) rest n read.end (subst (λ (k : ℕ). AreWithin text.places k) (sym n_is) read.within)
          (λ near later all. ap (λ (r : Result (List ℕ × List ℕ) Stop). r >>= borne_here later (hand ++ near)) (read.same near later all))
          (record { stop = cut.stop; is = ap (λ (r : Result (List ℕ × List ℕ) Stop). r >>= borne_here room hand) (runs_here room places pieces hand start (pieces_part next) rest read ∙ cut.is); cut = cut.cut })
          reached n_is

      -- it is whole, and the screen bears it
      pub text_whole : (value rest : List ℕ) (changes : Vec Change Global) (n spent : ℕ) → IsWholeText room places pieces hand start value rest → bears (Some begun.head) begun.spent (changed.Text value) ≡ true → map change_value changes.items ≡ made ++ changed.Text value ∷ [] → n ≡ length hand - length rest → spent ≡ begun.spent + cost (Some begun.head) (changed.Text value) → LeadsOn measure limits (record { head = begun.head; changes = changes; spent = spent; next = None; taken = n }) bytes
      text_whole value rest changes n spent whole bears_it pushed n_is spent_is =
          let bears_here : bears (Some begun.head) (spent_on (Some begun.head) made) (changed.Text value) ≡ true = subst (λ (k : ℕ). bears (Some begun.head) k (changed.Text value) ≡ true) leads.spent bears_it in
          change_whole (begun_changes.Text text) is (changed.Text value) rest changes n spent whole.end
          (λ near later all. ap (λ (r : Result (List ℕ × List ℕ) Stop). r >>= borne_here later (hand ++ near)) (whole.same near later all) ∙ chose_first (bears (Some begun.head) (spent_on (Some begun.head) made) (changed.Text value)) (Ok (changed.Text value, rest ++ near)) _ bears_here)
          pushed n_is spent_is (subst (λ (k : ℕ). k ≤ most_work begun.head.width begun.head.height) (sym spent_is) (leb-true (begun.spent + work begun.head.width begun.head.height (changed.Text value)) (most_work begun.head.width begun.head.height) bears_it))

      -- it doesn't bear it
      pub text_unborne : (value rest : List ℕ) (n : ℕ) (result : WireError) → IsWholeText room places pieces hand start value rest → bears (Some begun.head) begun.spent (changed.Text value) ≡ false → n ≡ places.change → places.change ≤ length hand → result ≡ error_of read_errors.Limit n (Some (length made)) → Resumes measure limits bytes (Err (no_answers.Failed result))
      text_unborne value rest n result whole bears_not n_is within result_is =
          let bears_here : bears (Some begun.head) (spent_on (Some begun.head) made) (changed.Text value) ≡ false = subst (λ (k : ℕ). bears (Some begun.head) k (changed.Text value) ≡ false) leads.spent bears_not in
          change_failed (begun_changes.Text text) is read_errors.Limit (drop places.change hand) room n result (λ is. cc) refl
          (ap (λ (r : Result (List ℕ × List ℕ) Stop). r >>= borne_here room hand) (whole_here room places pieces hand start value rest whole) ∙ chose_last (bears (Some begun.head) (spent_on (Some begun.head) made) (changed.Text value)) (Ok (changed.Text value, rest)) _ bears_here)
          (omega (arith, n_is, within, length-drop places.change hand)) result_is

      -- it is whole, and with it what is begun
      pub text_ended : (value rest : List ℕ) (n : ℕ) (result : Result Begun NoAnswer) → IsWholeText room places pieces hand start value rest → n ≡ length hand - length rest → WithWhole begun value places.change n result → WithNext measure limits bytes result
      text_ended value rest n (Ok more) whole n_is ended = (
        subst (λ (b : Begun). LeadsOn measure limits b bytes) (sym ended.1.0) (text_whole value rest more.changes n (begun.spent + cost (Some begun.head) (changed.Text value)) whole ended.0 ended.1.1 n_is refl),
        ap (λ (b : Begun). b.next) ended.1.0,
      )
      text_ended value rest n (Err (no_answers.Failed error)) whole n_is (inl is_memory) = subst (λ (e : WireError). Resumes measure limits bytes (Err (no_answers.Failed e))) (sym is_memory) tt
      text_ended value rest n (Err (no_answers.Failed error)) whole n_is (inr refused) =
          let within : AreWithin places begun.taken = subst (λ (o : Option BegunChange). IfSome (option_map change_part o) (IsChangePart begun.taken)) is leads.next in
          text_unborne value rest places.change error whole refused.0 refl (omega (arith, within.change, within.text, within.list, within.runs, leads.taken)) refused.1
      text_ended value rest n (Err (no_answers.Cut next)) whole n_is ended = absurd ended

      -- its runs have a fault
      pub text_failed : (e : ReadError) (rest : List ℕ) (later n : ℕ) (result : WireError) → e ≢ read_errors.Truncated → later ≡ room → Stops (allowed later rest) e (pieces_rest_at room places pieces hand start) → n ≡ length hand - length rest → result ≡ error_of e n (Some (length made)) → Resumes measure limits bytes (Err (no_answers.Failed result))
      text_failed e rest later n result other kept stops n_is result_is =
          change_failed (begun_changes.Text text) is e rest later n result other kept
          (if_some (fault_of e) _ _ (λ f is. ap (λ (r : Result (List ℕ × List ℕ) Stop). r >>= borne_here room hand) is) stops) n_is result_is

    -- ---- changes

    module _ (none : begun.next ≡ None) where
      abbrev Left : List ChangeValue → List ℕ → Type 0
      Left more rest = HasGoneOn measure room begun.head made start more rest

      abbrev left_of : Result (List ChangeValue × List ℕ) Halt
      left_of = left_at measure room begun.head made start

      -- the whole answer
      pub leads_whole : (more : List ChangeValue) (rest : List ℕ) → left_of ≡ Ok (more, rest) → answer_in measure room limits hand ≡ Ok (sent_of begun.head more, rest)
      leads_whole more rest is = begun_here None none ∙ ap (λ (r : Result (List ChangeValue × List ℕ) Halt). r >>= sent_behind begun.head) is

      -- no answer
      pub leads_halted : (h : Halt) → left_of ≡ Err h → answer_in measure room limits hand ≡ Err h
      leads_halted h is = begun_here None none ∙ ap (λ (r : Result (List ChangeValue × List ℕ) Halt). r >>= sent_behind begun.head) is

      pub leads_stopped : (e : ReadError) (at : ℕ) (change : Option ℕ) → IfSome (fault_of e) (λ f. left_of ≡ Err (record { stop = record { fault = f; left = at }; change = change })) → Stopped e change at (answer_in measure room limits hand)
      leads_stopped e at change stops = if_some (fault_of e) _ _ (λ f is. leads_halted (record { stop = record { fault = f; left = at }; change = change }) is) stops

      module _ (r : ℕ) (first : List ℕ) (before more : List ChangeValue) (later : ℕ) (rest : List ℕ) (r_is : r ≡ room) (before_is : before ≡ made) (first_is : first ≡ start) where
        abbrev Goes : Result Bool Halted → Type 0
        Goes result = DecodesOn measure r begun.head before first result more (allowed later rest) rest

        abbrev GoesHere : Result Bool Halted → Type 0
        GoesHere result = DecodesOn measure room begun.head made start result more (allowed later rest) rest

        goes_here : (result : Result Bool Halted) → Goes result → GoesHere result
        goes_here result goes =
            subst (λ (t : List ℕ). DecodesOn measure room begun.head made t result more (allowed later rest) rest) first_is
            (subst (λ (n : ℕ). DecodesOn measure n begun.head made first result more (allowed later rest) rest) r_is
            (subst (λ (cs : List ChangeValue). DecodesOn measure r begun.head cs first result more (allowed later rest) rest) before_is goes))

        -- all changes are there
        pub goes_whole : (all : Bool) → all ≡ true → Goes (Ok all) → answer_in measure room limits hand ≡ Ok (sent_of begun.head more, rest)
        goes_whole all is goes = leads_whole more rest (goes_here (Ok true) (subst (λ (b : Bool). Goes (Ok b)) is goes)).1

        -- the bytes that are left end all
        pub goes_ends : (result : Bool) → Goes (Ok result) → EndsIn hand rest
        goes_ends true goes = let g = goes_here (Ok true) goes in ends_then hand start rest hand_ends (record { front = g.0.front; parts = g.0.parts })
        goes_ends false goes = let g = goes_here (Ok false) goes in ends_then hand start rest hand_ends (record { front = g.0.front; parts = g.0.parts })

        -- one is cut
        pub goes_cut : (changes : Vec Change Global) (next : Option BegunChange) (after : List ℕ) (all : Bool) (n spent : ℕ) → IsBytes rest → map change_value changes.items ≡ more → all ≡ false → Goes (Ok all) → BeginsChange measure later hand rest (option_map change_part next) after → later ≡ room → n ≡ length hand - length after → spent ≡ spent_on (Some begun.head) more → spent ≤ most_work begun.head.width begun.head.height → Resumes measure limits bytes (Err (no_answers.Cut (Some (record { head = begun.head; changes = changes; spent = spent; next = next; taken = n }))))
        goes_cut changes next after all n spent fits same is goes begins kept n_is spent_is borne =
            let g = goes_here (Ok false) (subst (λ (b : Bool). Goes (Ok b)) is goes) in
            let few : spent_on (Some begun.head) more ≤ most_work begun.head.width begun.head.height = rw (← spent_is) borne in
            let b = begins_on measure room begun.head more hand rest (goes_ends all goes) fits g.1 few g.2 (option_map change_part next) after (subst (λ (k : ℕ). BeginsChange measure k hand rest (option_map change_part next) after) kept begins) in
            let stops = gone_halted measure room begun.head made start more rest g.2.stop g.0 g.1 g.2.is in
            let begun_later : Begun = record { head = begun.head; changes = changes; spent = spent; next = next; taken = n } in (
              is_unfinished (record { stop = g.2.stop; change = Some (length more) }) (leads_halted (record { stop = g.2.stop; change = Some (length more) }) stops) g.2.cut,
              for_some (λ (b : Begun). LeadsOn measure limits b bytes) begun_later
                  (leads_later None none changes next after n spent b.end n_is (spent_is ∙ ap (spent_on (Some begun.head)) (sym same)) borne (subst (λ (k : ℕ). IfSome (option_map change_part next) (IsChangePart k)) (sym n_is) b.fits)
                  (λ near later all.
                  ap (λ (r : Result (List ChangeValue × List ℕ) Halt). r >>= sent_behind begun.head) (g.0.same near later all)
                  ∙ b.same near later all
                  ∙ ap (λ (cs : List ChangeValue). resumed_by measure later begun.head cs (option_map change_part next) (hand ++ near) (after ++ near)) (sym same))),
              reaches_later None none changes next after n spent b.end n_is (subst (λ (cs : List ChangeValue). ReachesBy measure room begun.head cs (option_map change_part next) after) (sym same) b.reached),
            )

        -- it fails
        pub goes_failed : (h : Halted) (n : ℕ) (result : WireError) → later ≡ room → Goes (Err h) → n ≡ length hand - length rest → result ≡ error_of h.error n h.change → Resumes measure limits bytes (Err (no_answers.Failed result))
        goes_failed h n result kept goes n_is result_is =
            let g = goes_here (Err h) goes in
            resumes_failed h.error h.change rest later n result g.0 kept (leads_stopped h.error (allowed later rest) h.change g.1) n_is result_is
