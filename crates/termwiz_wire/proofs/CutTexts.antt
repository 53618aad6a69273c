-- What is begun of a text whose pieces are not all there leads on to its change.
use Rattle.std.proofs.Common.{◌≡◌, ◌≢◌, ℕ, suc, ◌+◌, ◌-◌, ◌*◌, ◌/◌, ◌%◌, ◌<◌, ◌≤◌, ◌&&◌, ◌||◌, Bool, true, false, cond, eqb, ltb, List, [], ◌∷◌, ◌++◌, length, get_or, take, drop, Option, Some, Result, Ok, Err, refl, sym, ap, subst, ◌∙◌, append_assoc, append-nil, arith, eq-eqb, inl, inr}
use Rattle.std.proofs.lemmas.Bool.{cases_Bool, eqb-true}
use Rattle.std.proofs.lemmas.List.{length-append, length-drop, take-append-drop, drop-append-le, drop-drop, drop_at, drop_more, nil_from_length}
use Rattle.std.specs.Str.{chars}
use Rattle.cbor.specs.declared.error.FaultKind.{FaultKind}
use Rattle.cbor.specs.declared.error.FaultKind.TheVariants.{Truncated}
use Rattle.cbor.specs.declared.error.FaultKind.TheVariants as faults
use Rattle.cbor.specs.declared.error.ReadError.{ReadError}
use Rattle.cbor.specs.declared.error.ReadError.TheVariants as read_errors
use Rattle.cbor.specs.Decoding.{◌>>=◌, Stop, Stops, IsBytes, ok, allowed, fault_of, head_in, list_in, fault_placed, array_at, list_at, text_at}
use Rattle.cbor.proofs.Steps.{bind_ok, chosen, guard_ended, guard_ok, ok_is, placed_ok}
use Rattle.termwiz_cell.specs.ChangeValue.{ChangeValue}
use Rattle.termwiz_cell.specs.ChangeValue as changed
use Rattle.termwiz_wire.specs.Answers.{next_at}
use Rattle.termwiz_wire.specs.CutTexts.{OtherPart, OwnPart, PiecesPart, TextPart, Own, Other, all_others, begun_pieces, other_part, others_left_at, others_rest_at, own_left_at, pieces_rest_at, text_rest_at, with_pieces_at}
use Rattle.termwiz_wire.specs.Cuts.{are_characters, are_columns, cut_at, is_count, is_rest_at, is_run_at, kept_at, no_run, others_at, pieces_at, pieces_by, refused, run_at, runs_at, same_at, threes_at}
use Rattle.termwiz_wire.specs.Decoding.{change_at, change_by, change_kind_at, count_at, printed_at}
use Rattle.termwiz_wire.specs.Pieces.{needs_pieces, runs, stands_out}
use Rattle.termwiz_wire.specs.Resuming.{ArePlaces, AreWithin, Compares, EndsIn, HasCome, HasReadRuns, IsBegunText, IsWholeText, ReachesOther, ReachesOwn, ReachesRun, ReadsOthers, ReadsRuns, StopsTruncated}
use Rattle.termwiz_wire.specs.Work.{bears}
use Rattle.termwiz_wire.specs.declared.decode.cut_texts.Places.{Places}
use Rattle.termwiz_wire.specs.declared.decode.cut_texts.ReadPieces.{ReadPieces}
use Rattle.termwiz_wire.specs.declared.decode.cut_texts.ReadPieces.TheVariants as read_pieces
use Rattle.termwiz_wire.specs.declared.decode.heads.Head.{Head}
use Rattle.termwiz_wire.specs.declared.decode.other_runs.OtherRuns.{OtherRuns}
use Rattle.termwiz_wire.specs.declared.pieces.Run.{Run}
use Rattle.termwiz_wire.proofs.CutLinks.{Ends, IsEnd, apart, change_by_parts, change_kind_ends, count_ends, cut_fault, cut_value, done_ends, either_ends, end_then, kept_ends, list_ends, text_ends, then_ends, unsigned_ends}
use Rattle.termwiz_wire.proofs.CutLoops.{are_next, are_none, are_stop, cut_threes, runs_none, runs_some, whole}
use Rattle.termwiz_wire.proofs.Prefixes.{are_reads, is_run_reads, run_reads, still}
use Rattle.termwiz_wire.proofs.Steps.{both, stopped}
use Rattle.termwiz_wire.proofs.Within.{if_some}

-- ---- what a decoding leaves is the end of its bytes

is_rest_ends : (room : ℕ) (r : Run) → Ends (λ bytes. is_rest_at room r bytes)
unfolding is_rest_at
is_rest_ends room r = then_ends _ (unsigned_ends room) (λ size. either_ends (eqb size r.characters) _ _ (then_ends _ (unsigned_ends room) (λ columns. done_ends)) done_ends)

is_run_ends : (room : ℕ) (r : Run) → Ends (λ bytes. is_run_at room r bytes)
unfolding is_run_at
is_run_ends room r = then_ends _ (unsigned_ends room) (λ count. either_ends (eqb count r.count) _ _ (is_rest_ends room r) done_ends)

kept_at_ends : (room : ℕ) (rule : ℕ → Bool) → Ends (λ bytes. kept_at room rule bytes)
kept_at_ends room rule = kept_ends faults.Range room rule (unsigned_ends room)

run_ends : (room : ℕ) (last : Run) (cs : List ℕ) → Ends (λ bytes. run_at room last cs bytes)
unfolding run_at
run_ends room last cs = then_ends _ (kept_at_ends room (is_count cs)) (λ count. then_ends _ (kept_at_ends room (are_characters cs count)) (λ size. then_ends _ (kept_at_ends room (are_columns last cs count size)) (λ columns. done_ends)))

pub own_end : (room : ℕ) (r : Run) (bytes : List ℕ) (x : Bool × List ℕ) → IsBytes bytes → is_run_at room r bytes ≡ Ok x → IsEnd bytes x.1
own_end room r bytes x fits e = (is_run_ends room r).leaves bytes x fits e

pub other_end : (room : ℕ) (last : Run) (cs bytes : List ℕ) (x : Run × List ℕ) → IsBytes bytes → run_at room last cs bytes ≡ Ok x → IsEnd bytes x.1
other_end room last cs bytes x fits e = (run_ends room last cs).leaves bytes x fits e

-- ---- the list of a text's pieces

-- a list of numbers in threes
record IsList (room : ℕ) (bytes : List ℕ) (x : ℕ × List ℕ) : Type 0 where
  array : array_at room bytes ≡ Ok x
  list : list_at room bytes ≡ Ok x
  threes : eqb (x.0 % 3) 0 ≡ true

abbrev done : {A E : Type 0} → A → Result A E
done x = Ok x

abbrev stops_at : {A : Type 0} → Stop → Result A Stop
stops_at s = Err s

list_array : (room : ℕ) (bytes : List ℕ) (x : ℕ × List ℕ) → list_at room bytes ≡ Ok x → array_at room bytes ≡ Ok x
unfolding list_at list_in array_at
list_array room bytes x e =
    let read = placed_ok (allowed room bytes) (head_in room 4 bytes >>= λ n. cond (ltb (allowed room n.1) n.0) (Err faults.Limit) (Ok n)) x e in
    let n = bind_ok (head_in room 4 bytes) _ x read in
    let g = guard_ok (ltb (allowed room n.0.1) n.0.0) faults.Limit n.0 x n.2 in
    let is : head_in room 4 bytes ≡ Ok x = n.1 ∙ ap (λ (y : ℕ × List ℕ). done {E = FaultKind} y) g.1 in
    ap (fault_placed (allowed room bytes)) is

is_list : (room : ℕ) (bytes : List ℕ) (x : ℕ × List ℕ) → threes_at room bytes ≡ Ok x → IsList room bytes x
unfolding threes_at
is_list room bytes x e =
    let n = bind_ok (array_at room bytes) _ x e in
    elim (chosen (eqb (n.0.0 % 3) 0) (list_at room bytes) (refused faults.Type room bytes) (Ok x) n.2) [
      | inl a ↦ let array = list_array room bytes x a.1 in let same : n.0 ≡ x = ok_is {A = ℕ × List ℕ} n.0 x (sym n.1 ∙ array) in record { array = array; list = a.1; threes = ap (λ (y : ℕ × List ℕ). eqb (y.0 % 3) 0) (sym same) ∙ a.0 }
      | inr b ↦ absurd (apart faults.Type (allowed room bytes) (refused faults.Type room bytes) x refl b.1)
    ]

-- the head of a change of a text with pieces
record IsOpened (room : ℕ) (bytes start : List ℕ) : Type 0 where
  count : ℕ × List ℕ
  kind : ℕ × List ℕ
  counts : count_at room bytes ≡ Ok count
  kinds : change_kind_at room count.0 count.1 ≡ Ok kind
  is : (eqb kind.0 2 && eqb count.0 3) ≡ true
  rest : kind.1 ≡ start

is_opened : (room : ℕ) (bytes start : List ℕ) → with_pieces_at room bytes ≡ Ok start → IsOpened room bytes start
unfolding with_pieces_at
is_opened room bytes start e =
    let count = bind_ok (count_at room bytes) _ start e in
    let kind = bind_ok (change_kind_at room count.0.0 count.0.1) _ start count.2 in
    let g = guard_ended {A = List ℕ} (eqb kind.0.0 2 && eqb count.0.0 3) (stopped faults.Type room kind.0.1) kind.0.1 start kind.2 in
    record { count = count.0; kind = kind.0; counts = count.1; kinds = kind.1; is = g.0; rest = g.1 }

-- where the parts of a change begin
pub record AreEnds (bytes start list first : List ℕ) : Type 0 where
  pub start_end : IsEnd bytes start
  pub list_end : IsEnd bytes list
  pub first_end : IsEnd bytes first
  pub list_behind : IsEnd start list
  pub first_behind : IsEnd list first

pub are_ends : (room : ℕ) (bytes start text list first : List ℕ) (numbers : ℕ) → IsBytes bytes → with_pieces_at room bytes ≡ Ok start → text_at room start ≡ Ok (text, list) → threes_at room list ≡ Ok (numbers, first) → AreEnds bytes start list first
are_ends room bytes start text list first numbers fits opens reads lists =
    let o = is_opened room bytes start opens in
    let c = (count_ends room).leaves bytes o.count fits o.counts in
    let k = (change_kind_ends room o.count.0).leaves o.count.1 o.kind c.fits o.kinds in
    let s : IsEnd bytes start = subst (λ (b : List ℕ). IsEnd bytes b) o.rest (end_then bytes o.count.1 o.kind.1 c k) in
    let t = (text_ends room).leaves start (text, list) s.fits reads in
    let f = (list_ends room).leaves list (numbers, first) t.fits (is_list room list (numbers, first) lists).list in
    let all = end_then bytes start list s t in
    record { start_end = s; list_end = all; first_end = end_then bytes list first all f; list_behind = t; first_behind = f }

end_len : (bytes rest : List ℕ) → IsEnd bytes rest → length rest ≤ length bytes
end_len bytes rest e = omega (arith, ap length e.parts, length-append e.front rest)

pub begun_within : (places : Places) (len : ℕ) (bytes start list first : List ℕ) → ArePlaces places len bytes start list first → AreEnds bytes start list first → AreWithin places (len - length first)
begun_within places len bytes start list first at ends = record {
  change = omega (arith, at.change_is, at.text_is, end_len bytes start ends.start_end);
  text = omega (arith, at.text_is, at.list_is, end_len start list ends.list_behind);
  list = omega (arith, at.list_is, at.runs_is, end_len list first ends.first_behind);
  runs = omega (arith, at.runs_is);
}

-- ---- the change that a text's begin leads to

abbrev texted : List ℕ → List ℕ → Result (List ℕ × List ℕ) Stop
texted text rest = Ok (text, rest)

-- other runs are a fault of theirs, or the text's
others_ended : (b : Bool) (text rest : List ℕ) (m r : Stop) → (cond b (Ok rest) (Err r) >>= (λ (t : List ℕ). stops_at {A = List ℕ} m) >>= texted text) ≡ cond b (Err m) (Err r)
others_ended true text rest m r = refl
others_ended false text rest m r = refl

others_by : (read : Result (Bool × List ℕ) Stop) (text : List ℕ) (m r : Stop) → (read >>= (λ w. cond w.0 (Ok w.1) (Err r)) >>= (λ (t : List ℕ). stops_at {A = List ℕ} m) >>= texted text) ≡ (read >>= λ w. cond w.0 (Err m) (Err r))
others_by (Ok w) text m r = others_ended w.0 text w.1 m r
others_by (Err s) text m r = refl

-- runs that are the text's end with it
own_ended : (b : Bool) (text rest : List ℕ) (other : Result (List ℕ) Stop) (others : Result (List ℕ × List ℕ) Stop) → (other >>= texted text) ≡ others → (cond b (Ok rest) other >>= texted text) ≡ cond b (texted text rest) others
own_ended true text rest other others is = refl
own_ended false text rest other others is = is

own_by : (read : Result (Bool × List ℕ) Stop) (text : List ℕ) (other : Result (List ℕ) Stop) (others : Result (List ℕ × List ℕ) Stop) → (other >>= texted text) ≡ others → (read >>= (λ w. cond w.0 (Ok w.1) other) >>= texted text) ≡ (read >>= λ w. cond w.0 (texted text w.1) others)
own_by (Ok w) text other others is = own_ended w.0 text w.1 other others is
own_by (Err s) text other others is = refl

-- where parts of the bytes are
pub record AreAt (places : Places) (all change start list first : List ℕ) : Type 0 where
  pub change_here : drop places.change all ≡ change
  pub text_here : drop places.text all ≡ start
  pub list_here : drop places.list all ≡ list
  pub first_here : drop places.runs all ≡ first

module _ (room : ℕ) (places : Places) (all change start list first : List ℕ) (at : AreAt places all change start list first) (numbers : ℕ) (is : IsList room list (numbers, first)) (text : List ℕ) where
  abbrev count : ℕ
  count = numbers / 3

  abbrev place : ℕ
  place = allowed room start

  others_are : (others_at room place text list >>= texted text) ≡ others_rest_at room places (all_others text count) all first
  unfolding others_at threes_at
  others_are =
      let read : Result (Bool × List ℕ) Stop = others_left_at (all_others text count) room first in
      let m : List ℕ → Stop = λ (b : List ℕ). stopped faults.Measure room b in
      let r : List ℕ → Stop = λ (b : List ℕ). stopped faults.Range room b in
      let threes : threes_at room list ≡ Ok (numbers, first) = rw (is.array, is.threes) is.list in
      let cut : cut_at room text list ≡ (read >>= whole room list) = cut_threes room text list ∙ ap (λ (t : Result (ℕ × List ℕ) Stop). t >>= λ n. runs_at room no_run false (chars text) (n.0 / 3) n.1 >>= whole room list) threes in
      ap (λ (c : Result (List ℕ) Stop). c >>= (λ (t : List ℕ). stops_at {A = List ℕ} (m start)) >>= texted text) cut
      ∙ others_by read text (m start) (r list)
      ∙ ap (λ (b : List ℕ). read >>= λ w. cond w.0 (stops_at {A = List ℕ × List ℕ} (m b)) (Err (r list))) (sym at.text_here)
      ∙ ap (λ (b : List ℕ). read >>= λ w. cond w.0 (stops_at {A = List ℕ × List ℕ} (m (drop places.text all))) (Err (r b))) (sym at.list_here)

  -- a list of another length
  others_listed : (rs : List Run) → eqb (length rs) count ≡ false → same_at room rs list ≡ Ok (false, first)
  unfolding same_at
  others_listed rs other =
      let three : numbers % 3 ≡ 0 = eqb-true (numbers % 3) 0 is.threes in
      let differs : eqb numbers (3 * length rs) ≡ false = elim (cases_Bool (eqb numbers (3 * length rs))) [
        | inl same ↦ let n : numbers ≡ 3 * length rs = eqb-true numbers (3 * length rs) same in absurd (let bad : eqb (length rs) count ≡ true = eq-eqb (length rs) count (omega (arith, n)) in let never : true ≡ false = sym bad ∙ other in cc)
        | inr differ ↦ differ
      ] in
      rw is.array (rw differs refl)

  own_listed : (rs : List Run) → eqb (length rs) count ≡ true → same_at room rs list ≡ own_left_at rs room first
  unfolding same_at
  own_listed rs same =
      let three : numbers % 3 ≡ 0 = eqb-true (numbers % 3) 0 is.threes in
      let len : length rs ≡ count = eqb-true (length rs) count same in
      let all_there : eqb numbers (3 * length rs) ≡ true = eq-eqb numbers (3 * length rs) (omega (arith, three, len)) in
      rw is.array (rw all_there (rw is.list refl))

  pieces_are : (rs : List Run) → (pieces_at room place text rs list >>= texted text) ≡ pieces_rest_at room places (begun_pieces text rs count) all first
  unfolding pieces_at
  pieces_are rs = elim (cases_Bool (needs_pieces rs)) [
    | inr none ↦ rw none others_are
    | inl some ↦ elim (cases_Bool (eqb (length rs) count)) [
      | inr other ↦ rw (some, other) (ap (λ (s : Result (Bool × List ℕ) Stop). s >>= (λ w. cond w.0 (Ok w.1) (others_at room place text list)) >>= texted text) (others_listed rs other) ∙ others_are)
      | inl same ↦ rw (some, same) (
          ap (λ (s : Result (Bool × List ℕ) Stop). s >>= (λ w. cond w.0 (Ok w.1) (others_at room place text list)) >>= texted text) (own_listed rs same)
          ∙ own_by (own_left_at rs room first) text (others_at room place text list) (others_rest_at room places (all_others text count) all (drop places.runs all))
          (others_are ∙ ap (others_rest_at room places (all_others text count) all) (sym at.first_here)))
    ]
  ]

printed_is : (measure : List ℕ → ℕ) (room : ℕ) (start text list : List ℕ) → text_at room start ≡ Ok (text, list) → printed_at measure room 3 start ≡ (pieces_at room (allowed room start) text (runs measure text) list >>= λ rest. ok (changed.Text text) rest)
unfolding printed_at pieces_by
printed_is measure room start text list reads = rw reads refl

opened_is : (measure : List ℕ → ℕ) (room : ℕ) (rows : Option ℕ) (bytes start : List ℕ) → with_pieces_at room bytes ≡ Ok start → change_at measure room rows bytes ≡ printed_at measure room 3 start
opened_is measure room rows bytes start opens =
    let o = is_opened room bytes start opens in
    let k : o.kind.0 ≡ 2 = eqb-true o.kind.0 2 (both (eqb o.kind.0 2) (eqb o.count.0 3) o.is).0 in
    let c : o.count.0 ≡ 3 = eqb-true o.count.0 3 (both (eqb o.kind.0 2) (eqb o.count.0 3) o.is).1 in
    change_by_parts measure room rows bytes o.count o.kind o.counts o.kinds
    ∙ ap (λ (n : ℕ). change_by measure room rows n o.kind.0 o.kind.1) c
    ∙ ap (λ (n : ℕ). change_by measure room rows 3 n o.kind.1) k
    ∙ ap (λ (b : List ℕ). printed_at measure room 3 b) o.rest

-- a text that is named has no fault of its own
named : (read : Result (List ℕ) Stop) (text : List ℕ) → (read >>= λ rest. ok {A = ChangeValue} {E = Stop} (changed.Text text) rest) ≡ (read >>= texted text >>= λ t. ok (changed.Text t.0) t.1)
named (Ok rest) text = refl
named (Err s) text = refl

borne : (read : Result (List ℕ × List ℕ) Stop) (head : Head) (spent : ℕ) (s : Stop) → (read >>= (λ t. ok {A = ChangeValue} {E = Stop} (changed.Text t.0) t.1) >>= λ c. cond (bears (Some head) spent c.0) (Ok c) (Err s)) ≡ (read >>= λ t. cond (bears (Some head) spent (changed.Text t.0)) (ok (changed.Text t.0) t.1) (Err s))
borne (Ok t) head spent s = refl
borne (Err e) head spent s = refl

-- the change of a text whose list of pieces has begun
module _ (measure : List ℕ → ℕ) (room : ℕ) (all bytes start list first text : List ℕ) (numbers : ℕ) (places : Places) (at : AreAt places all bytes start list first) (opens : with_pieces_at room bytes ≡ Ok start) (reads : text_at room start ≡ Ok (text, list)) (lists : threes_at room list ≡ Ok (numbers, first)) where
  abbrev begun : PiecesPart
  begun = begun_pieces text (runs measure text) (numbers / 3)

  pub text_change_is : (rows : Option ℕ) → change_at measure room rows bytes ≡ (pieces_rest_at room places begun all first >>= λ t. ok (changed.Text t.0) t.1)
  text_change_is rows =
      opened_is measure room rows bytes start opens
      ∙ printed_is measure room start text list reads
      ∙ named (pieces_at room (allowed room start) text (runs measure text) list) text
      ∙ ap (λ (r : Result (List ℕ × List ℕ) Stop). r >>= λ t. ok (changed.Text t.0) t.1) (pieces_are room places all bytes start list first at numbers (is_list room list (numbers, first) lists) text (runs measure text))

  pub text_next_is : (head : Head) (spent : ℕ) → next_at measure room (Some head) spent bytes ≡ text_rest_at room head spent (record { places = places; pieces = begun }) all first
  unfolding next_at
  text_next_is head spent =
      let read : Result (List ℕ × List ℕ) Stop = pieces_rest_at room places begun all first in
      ap (λ (r : Result (ChangeValue × List ℕ) Stop). r >>= λ c. cond (bears (Some head) spent c.0) (Ok c) (refused faults.Limit room bytes)) (text_change_is (Some head.height))
      ∙ borne read head spent (stopped faults.Limit room bytes)
      ∙ ap (λ (b : List ℕ). read >>= λ t. cond (bears (Some head) spent (changed.Text t.0)) (ok (changed.Text t.0) t.1) (refused faults.Limit room b)) (sym at.change_here)

-- pieces are cut where their change is
pub cut_pieces : (read : Result (List ℕ × List ℕ) Stop) → StopsTruncated (read >>= λ t. ok {A = ChangeValue} {E = Stop} (changed.Text t.0) t.1) → StopsTruncated read
cut_pieces (Ok t) cut = let bad : done (changed.Text t.0, t.1) ≡ stops_at {A = ChangeValue × List ℕ} cut.stop = cut.is in absurd cc
cut_pieces (Err e) cut = let both : stops_at {A = ChangeValue × List ℕ} e ≡ stops_at cut.stop = cut.is in let same : e ≡ cut.stop = cc in record { stop = cut.stop; is = ap (λ (s : Stop). stops_at {A = List ℕ × List ℕ} s) same; cut = cut.cut }

-- ---- where the parts of a change begin

-- bytes that end in others, which end in these
pub ends_then : (all bytes rest : List ℕ) → EndsIn all bytes → EndsIn bytes rest → EndsIn all rest
ends_then all bytes rest a b = record { front = a.front ++ b.front; parts = a.parts ∙ ap (λ (t : List ℕ). a.front ++ t) b.parts ∙ sym (append_assoc a.front b.front rest) }

pub end_ends : (bytes rest : List ℕ) → IsEnd bytes rest → EndsIn bytes rest
end_ends bytes rest e = record { front = e.front; parts = e.parts }

pub ends_drop : (n : ℕ) (all : List ℕ) → EndsIn all (drop n all)
ends_drop n all = record { front = take n all; parts = sym (take-append-drop n all) }

-- the bytes after those that were taken
pub behind_front : (front hand rest near : List ℕ) (n : ℕ) → hand ≡ front ++ rest → n ≡ length hand - length rest → (n ≤ length hand) × (drop n (hand ++ near) ≡ rest ++ near)
behind_front front hand rest near n parts is =
    let lens : length hand ≡ length front + length rest = ap length parts ∙ length-append front rest in
    let n_is : length front ≡ n = omega (arith, lens, is) in
    (omega (arith, is), ap (λ (h : List ℕ). drop n (h ++ near)) parts ∙ ap (drop n) (append_assoc front rest near) ∙ drop_at front (rest ++ near) n n_is)

drop_end : (all rest : List ℕ) (n : ℕ) → EndsIn all rest → n ≡ length all - length rest → drop n all ≡ rest
drop_end all rest n end is = ap (drop n) (sym (append-nil all)) ∙ (behind_front end.front all rest [] n end.parts is).1 ∙ append-nil rest

-- bytes that end where the parts of a change begin
pub record EndAtParts (all bytes start list first : List ℕ) : Type 0 where
  pub of_change : EndsIn all bytes
  pub of_text : EndsIn all start
  pub of_list : EndsIn all list
  pub of_runs : EndsIn all first

pub end_at : (all bytes start list first : List ℕ) → EndsIn all bytes → AreEnds bytes start list first → EndAtParts all bytes start list first
end_at all bytes start list first end ends = record {
  of_change = end;
  of_text = ends_then all bytes start end (end_ends bytes start ends.start_end);
  of_list = ends_then all bytes list end (end_ends bytes list ends.list_end);
  of_runs = ends_then all bytes first end (end_ends bytes first ends.first_end);
}

-- they are where they were, with more after them
pub places_near : (places : Places) (all bytes start list first near : List ℕ) → ArePlaces places (length all) bytes start list first → EndAtParts all bytes start list first → AreAt places (all ++ near) (bytes ++ near) (start ++ near) (list ++ near) (first ++ near)
places_near places all bytes start list first near at ends = record {
  change_here = (behind_front ends.of_change.front all bytes near places.change ends.of_change.parts at.change_is).1;
  text_here = (behind_front ends.of_text.front all start near places.text ends.of_text.parts at.text_is).1;
  list_here = (behind_front ends.of_list.front all list near places.list ends.of_list.parts at.list_is).1;
  first_here = (behind_front ends.of_runs.front all first near places.runs ends.of_runs.parts at.runs_is).1;
}

places_here : (places : Places) (all bytes start list first : List ℕ) → ArePlaces places (length all) bytes start list first → EndAtParts all bytes start list first → AreAt places all bytes start list first
places_here places all bytes start list first at ends = record {
  change_here = drop_end all bytes places.change ends.of_change at.change_is;
  text_here = drop_end all start places.text ends.of_text at.text_is;
  list_here = drop_end all list places.list ends.of_list at.list_is;
  first_here = drop_end all first places.runs ends.of_runs at.runs_is;
}

-- what is begun of a text, of all these bytes
module _ (measure : List ℕ → ℕ) (room : ℕ) (all bytes : List ℕ) (part : TextPart) (first : List ℕ) (end : EndsIn all bytes) (fits : IsBytes bytes) (b : IsBegunText measure room (length all) bytes part first) where
  pub begun_ends : AreEnds bytes b.start b.list first
  begun_ends = are_ends room bytes b.start b.text b.list first b.numbers fits b.opens b.reads b.lists

  pub begun_end : EndsIn all first
  begun_end = ends_then all bytes first end (end_ends bytes first begun_ends.first_end)

  pub begun_places : AreWithin part.places (length all - length first)
  begun_places = begun_within part.places (length all) bytes b.start b.list first b.places begun_ends

  -- its pieces are cut where the change is
  pub begun_cut : (rows : Option ℕ) → StopsTruncated (change_at measure room rows bytes) → StopsTruncated (pieces_rest_at room part.places part.pieces all first)
  begun_cut rows cut =
      let at = places_here part.places all bytes b.start b.list first b.places (end_at all bytes b.start b.list first end begun_ends) in
      let here : StopsTruncated (pieces_rest_at room part.places (begun_pieces b.text (runs measure b.text) (b.numbers / 3)) all first) = cut_pieces (pieces_rest_at room part.places (begun_pieces b.text (runs measure b.text) (b.numbers / 3)) all first) (subst (λ (r : Result (ChangeValue × List ℕ) Stop). StopsTruncated r) (text_change_is measure room all bytes b.start b.list first b.text b.numbers part.places at b.opens b.reads b.lists rows) cut) in
      subst (λ (p : PiecesPart). StopsTruncated (pieces_rest_at room part.places p all first)) (sym b.pieces) here

-- ---- one run after another

ends_len : (all rest : List ℕ) → EndsIn all rest → length rest ≤ length all
ends_len all rest e = omega (arith, ap length e.parts, length-append e.front rest)

module _ {S Y : Type 0} (read : S → ℕ → List ℕ → Result Y Stop) (room : ℕ) (state : S) (bytes : List ℕ) where
  abbrev Come : S → List ℕ → Type 0
  Come more rest = HasCome read room state bytes more rest

  pub come_none : Come state bytes
  come_none = record { end = record { front = []; parts = refl }; same = λ near later all. refl }

  pub come_more : (more : S) (rest : List ℕ) (next : S) (after : List ℕ) → Come more rest → IsEnd rest after → ((near : List ℕ) (later : ℕ) → length near + later ≡ room → read more later (rest ++ near) ≡ read next later (after ++ near)) → Come next after
  come_more more rest next after come end step = record {
    end = ends_then bytes rest after come.end (end_ends rest after end);
    same = λ near later all. come.same near later all ∙ step near later all;
  }

  -- what is decoded from here on is what is decoded
  pub come_here : (more : S) (rest : List ℕ) → Come more rest → read state room bytes ≡ read more room rest
  come_here more rest come = ap (read state room) (sym (append-nil bytes)) ∙ come.same [] room (omega arith) ∙ ap (read more room) (append-nil rest)

-- ---- the text's own runs

own_step : (room : ℕ) (left behind : List Run) (r : Run) (bytes rest : List ℕ) → left ≡ r ∷ behind → is_run_at room r bytes ≡ Ok (true, rest) → (near : List ℕ) (later : ℕ) → length near + later ≡ room → own_left_at left later (bytes ++ near) ≡ own_left_at behind later (rest ++ near)
own_step room left behind r bytes rest some is near later all =
    are_next later left behind r (bytes ++ near) (Ok (true, rest ++ near)) some (still (is_run_reads r) room later bytes near (true, rest) all is)

module _ (room : ℕ) (left : List Run) (bytes : List ℕ) where
  pub own_none : HasCome own_left_at room left bytes left bytes
  own_none = come_none own_left_at room left bytes

  -- one run more
  pub own_more : (more : List Run) (rest : List ℕ) (r : Run) (behind : List Run) (after : List ℕ) → HasCome own_left_at room left bytes more rest → IsBytes rest → more ≡ r ∷ behind → is_run_at room r rest ≡ Ok (true, after) → HasCome own_left_at room left bytes behind after
  own_more more rest r behind after come fits some is =
      come_more own_left_at room left bytes more rest behind after come (own_end room r rest (true, after) fits is) (own_step room more behind r rest after some is)

  -- the next one differs
  pub own_differs : (more : List Run) (rest : List ℕ) (r : Run) (behind : List Run) (after : List ℕ) → HasCome own_left_at room left bytes more rest → more ≡ r ∷ behind → is_run_at room r rest ≡ Ok (false, after) → own_left_at left room bytes ≡ Ok (false, after)
  own_differs more rest r behind after come some is =
      come_here own_left_at room left bytes more rest come ∙ are_next room more behind r rest (Ok (false, after)) some is

  -- it has no value
  pub own_stopped : (more : List Run) (rest : List ℕ) (r : Run) (behind : List Run) (at : ℕ) (e : ReadError) → HasCome own_left_at room left bytes more rest → more ≡ r ∷ behind → Stops at e (is_run_at room r rest) → Stops at e (own_left_at left room bytes)
  own_stopped more rest r behind at e come some stops =
      are_stop at room e more behind r rest (own_left_at left room bytes) some stops (sym (come_here own_left_at room left bytes more rest come))

  pub compares_failed : (e : ReadError) (more : List Run) (at : ℕ) (rest : List ℕ) → e ≢ read_errors.Truncated → Stops at e (own_left_at left room bytes) → Compares room left bytes (Err e) more at rest
  compares_failed read_errors.Truncated more at rest other stops = absurd (other refl)
  compares_failed read_errors.Version more at rest other stops = stops
  compares_failed read_errors.Type more at rest other stops = stops
  compares_failed read_errors.Utf8 more at rest other stops = stops
  compares_failed read_errors.Range more at rest other stops = stops
  compares_failed read_errors.Region more at rest other stops = stops
  compares_failed read_errors.Limit more at rest other stops = stops
  compares_failed read_errors.Measure more at rest other stops = stops
  compares_failed read_errors.Memory more at rest other stops = stops

  pub compare_failed : (e : ReadError) (more : List Run) (at : ℕ) (rest : List ℕ) → e ≢ read_errors.Truncated → Compares room left bytes (Err e) more at rest → Stops at e (own_left_at left room bytes)
  compare_failed read_errors.Truncated more at rest other stops = absurd (other refl)
  compare_failed read_errors.Version more at rest other stops = stops
  compare_failed read_errors.Type more at rest other stops = stops
  compare_failed read_errors.Utf8 more at rest other stops = stops
  compare_failed read_errors.Range more at rest other stops = stops
  compare_failed read_errors.Region more at rest other stops = stops
  compare_failed read_errors.Limit more at rest other stops = stops
  compare_failed read_errors.Measure more at rest other stops = stops
  compare_failed read_errors.Memory more at rest other stops = stops

  -- what the run at hand gives, of these from this one on
  pub own_goes : (rs : List Run) (i : ℕ) (d : Run) (rest after : List ℕ) (b : Bool) (later : ℕ) → HasCome own_left_at room left bytes (drop i rs) rest → IsBytes rest → i < length rs → later ≡ room → is_run_at later (get_or rs i d) rest ≡ Ok (b, after) → b ≡ true → HasCome own_left_at room left bytes (drop (i + 1) rs) after
  own_goes rs i d rest after b later come fits lt later_is is same =
      own_more (drop i rs) rest (get_or rs i d) (drop (i + 1) rs) after come fits (drop_more rs i d lt)
      (ap (λ (n : ℕ). is_run_at n (get_or rs i d) rest) (sym later_is) ∙ is ∙ ap (λ (x : Bool). done (x, after)) same)

  pub own_ends : (rs : List Run) (i : ℕ) (d : Run) (rest after : List ℕ) (b : Bool) (later : ℕ) → HasCome own_left_at room left bytes (drop i rs) rest → i < length rs → later ≡ room → is_run_at later (get_or rs i d) rest ≡ Ok (b, after) → b ≡ false → own_left_at left room bytes ≡ Ok (false, after)
  own_ends rs i d rest after b later come lt later_is is other =
      own_differs (drop i rs) rest (get_or rs i d) (drop (i + 1) rs) after come (drop_more rs i d lt)
      (ap (λ (n : ℕ). is_run_at n (get_or rs i d) rest) (sym later_is) ∙ is ∙ ap (λ (x : Bool). done (x, after)) other)

  pub own_fails : (rs : List Run) (i : ℕ) (d : Run) (rest : List ℕ) (e : ReadError) (later at : ℕ) (more : List Run) (after : List ℕ) → HasCome own_left_at room left bytes (drop i rs) rest → i < length rs → later ≡ room → Stops at e (is_run_at later (get_or rs i d) rest) → e ≢ read_errors.Truncated → Compares room left bytes (Err e) more at after
  own_fails rs i d rest e later at more after come lt later_is stops other =
      compares_failed e more at after other
      (own_stopped (drop i rs) rest (get_or rs i d) (drop (i + 1) rs) at e come (drop_more rs i d lt) (subst (λ (n : ℕ). Stops at e (is_run_at n (get_or rs i d) rest)) later_is stops))

  -- none is left
  pub own_done : (rs : List Run) (i : ℕ) (rest : List ℕ) → HasCome own_left_at room left bytes (drop i rs) rest → length rs ≤ i → HasCome own_left_at room left bytes [] rest
  own_done rs i rest come le =
      let none : drop i rs ≡ [] = nil_from_length (drop i rs) (omega (arith, le, length-drop i rs)) in
      subst (λ (more : List Run). HasCome own_left_at room left bytes more rest) none come

-- ---- other runs

-- what is left after a run
abbrev pub behind_run : OtherPart → Run → OtherPart
behind_run part r =
    record {
      characters = drop (r.count * r.characters) part.characters;
      last = r;
      needed = part.needed || stands_out r;
      left = part.left - 1;
    }

-- whether all characters are in the runs
all_passed : (items : List ℕ) (passed len : ℕ) → passed ≤ length items → len ≡ length items → eqb (length (drop passed items)) 0 ≡ eqb passed len
all_passed items passed len within len_is =
    elim (cases_Bool (eqb passed len)) [
      | inl same ↦ let n : passed ≡ len = eqb-true passed len same in eq-eqb (length (drop passed items)) 0 (omega (arith, n, len_is, length-drop passed items)) ∙ sym same
      | inr other ↦ elim (cases_Bool (eqb (length (drop passed items)) 0)) [
        | inl none ↦ let n : length (drop passed items) ≡ 0 = eqb-true (length (drop passed items)) 0 none in let same : eqb passed len ≡ true = eq-eqb passed len (omega (arith, n, within, len_is, length-drop passed items)) in let never : true ≡ false = sym same ∙ other in absurd cc
        | inr some ↦ some ∙ sym other
      ]
    ]

other_next : (room : ℕ) (part : OtherPart) (bytes : List ℕ) (read : Result (Run × List ℕ) Stop) → 0 < part.left → run_at room part.last part.characters bytes ≡ read → others_left_at part room bytes ≡ (read >>= λ r. others_left_at (behind_run part r.0) room r.1)
other_next room part bytes read some is =
    let one : part.left ≡ suc (part.left - 1) = omega (arith, some) in
    ap (λ (n : ℕ). runs_at room part.last part.needed part.characters n bytes) one
    ∙ runs_some room part.last part.needed part.characters (part.left - 1) bytes
    ∙ ap (λ (r : Result (Run × List ℕ) Stop). r >>= λ r. others_left_at (behind_run part r.0) room r.1) is

other_step : (room : ℕ) (part : OtherPart) (r : Run) (bytes rest : List ℕ) → 0 < part.left → run_at room part.last part.characters bytes ≡ Ok (r, rest) → (near : List ℕ) (later : ℕ) → length near + later ≡ room → others_left_at part later (bytes ++ near) ≡ others_left_at (behind_run part r) later (rest ++ near)
other_step room part r bytes rest some is near later all =
    other_next later part (bytes ++ near) (Ok (r, rest ++ near)) some (still (run_reads part.last part.characters) room later bytes near (r, rest) all is)

module _ (room : ℕ) (part : OtherPart) (bytes : List ℕ) where
  pub other_none : HasCome others_left_at room part bytes part bytes
  other_none = come_none others_left_at room part bytes

  pub other_more : (more : OtherPart) (rest : List ℕ) (r : Run) (after : List ℕ) → HasCome others_left_at room part bytes more rest → IsBytes rest → 0 < more.left → run_at room more.last more.characters rest ≡ Ok (r, after) → HasCome others_left_at room part bytes (behind_run more r) after
  other_more more rest r after come fits some is =
      come_more others_left_at room part bytes more rest (behind_run more r) after come (other_end room more.last more.characters rest (r, after) fits is) (other_step room more r rest after some is)

  pub other_stopped : (more : OtherPart) (rest : List ℕ) (at : ℕ) (e : ReadError) → HasCome others_left_at room part bytes more rest → 0 < more.left → Stops at e (run_at room more.last more.characters rest) → Stops at e (others_left_at part room bytes)
  other_stopped more rest at e come some stops =
      if_some (fault_of e) _ _ (λ f is. come_here others_left_at room part bytes more rest come ∙ other_next room more rest (Err (record { fault = f; left = at })) some is) stops

  -- none is left
  pub other_done : (more : OtherPart) (rest : List ℕ) → HasCome others_left_at room part bytes more rest → more.left ≡ 0 → others_left_at part room bytes ≡ Ok (more.needed && eqb (length more.characters) 0, rest)
  other_done more rest come none =
      come_here others_left_at room part bytes more rest come
      ∙ ap (λ (n : ℕ). runs_at room more.last more.needed more.characters n rest) none
      ∙ runs_none room more.last more.needed more.characters rest

  pub reads_others_failed : (e : ReadError) (more : OtherPart) (at : ℕ) (rest : List ℕ) → e ≢ read_errors.Truncated → Stops at e (others_left_at part room bytes) → ReadsOthers room part bytes (Err e) more at rest
  reads_others_failed read_errors.Truncated more at rest other stops = absurd (other refl)
  reads_others_failed read_errors.Version more at rest other stops = stops
  reads_others_failed read_errors.Type more at rest other stops = stops
  reads_others_failed read_errors.Utf8 more at rest other stops = stops
  reads_others_failed read_errors.Range more at rest other stops = stops
  reads_others_failed read_errors.Region more at rest other stops = stops
  reads_others_failed read_errors.Limit more at rest other stops = stops
  reads_others_failed read_errors.Measure more at rest other stops = stops
  reads_others_failed read_errors.Memory more at rest other stops = stops

  pub read_others_failed : (e : ReadError) (more : OtherPart) (at : ℕ) (rest : List ℕ) → e ≢ read_errors.Truncated → ReadsOthers room part bytes (Err e) more at rest → Stops at e (others_left_at part room bytes)
  read_others_failed read_errors.Truncated more at rest other stops = absurd (other refl)
  read_others_failed read_errors.Version more at rest other stops = stops
  read_others_failed read_errors.Type more at rest other stops = stops
  read_others_failed read_errors.Utf8 more at rest other stops = stops
  read_others_failed read_errors.Range more at rest other stops = stops
  read_others_failed read_errors.Region more at rest other stops = stops
  read_others_failed read_errors.Limit more at rest other stops = stops
  read_others_failed read_errors.Measure more at rest other stops = stops
  read_others_failed read_errors.Memory more at rest other stops = stops

  -- what the run at hand gives
  pub others_go : (other : OtherRuns) (rest : List ℕ) (r : Run) (after cs : List ℕ) (later : ℕ) (s : Bool) → HasCome others_left_at room part bytes (other_part other) rest → IsBytes rest → 0 < other.left → later ≡ room → cs ≡ drop other.passed other.characters.items → run_at later other.last cs rest ≡ Ok (r, after) → s ≡ stands_out r → HasCome others_left_at room part bytes (record { characters = drop (other.passed + r.count * r.characters) other.characters.items; last = r; needed = other.needed || s; left = other.left - 1 }) after
  others_go other rest r after cs later s come fits some later_is cs_is is s_is =
      let here : run_at room other.last (drop other.passed other.characters.items) rest ≡ Ok (r, after) = ap (λ (n : ℕ). run_at n other.last (drop other.passed other.characters.items) rest) (sym later_is) ∙ ap (λ (c : List ℕ). run_at later other.last c rest) (sym cs_is) ∙ is in
      let step : List ℕ → Bool → OtherPart = λ (c : List ℕ) (n : Bool). record { characters = c; last = r; needed = other.needed || n; left = other.left - 1 } in
      let same : behind_run (other_part other) r ≡ step (drop (other.passed + r.count * r.characters) other.characters.items) s = ap (λ (c : List ℕ). step c (stands_out r)) (drop-drop (r.count * r.characters) other.passed other.characters.items) ∙ ap (step (drop (other.passed + r.count * r.characters) other.characters.items)) (sym s_is) in
      subst (λ (p : OtherPart). HasCome others_left_at room part bytes p after) same (other_more (other_part other) rest r after come fits some here)

  pub others_fail : (other : OtherRuns) (rest cs : List ℕ) (e : ReadError) (later at : ℕ) (more : OtherPart) (after : List ℕ) → HasCome others_left_at room part bytes (other_part other) rest → 0 < other.left → later ≡ room → cs ≡ drop other.passed other.characters.items → Stops at e (run_at later other.last cs rest) → e ≢ read_errors.Truncated → ReadsOthers room part bytes (Err e) more at after
  others_fail other rest cs e later at more after come some later_is cs_is stops differs =
      reads_others_failed e more at after differs
      (other_stopped (other_part other) rest at e come some (subst (λ (n : ℕ). Stops at e (run_at n other.last (drop other.passed other.characters.items) rest)) later_is (subst (λ (c : List ℕ). Stops at e (run_at later other.last c rest)) cs_is stops)))

  -- whether they end with the text
  pub others_whole : (other : OtherRuns) (rest : List ℕ) (len : ℕ) → HasCome others_left_at room part bytes (other_part other) rest → other.left ≤ 0 → other.needed ≡ true → other.passed ≤ length other.characters.items → len ≡ length other.characters.items → others_left_at part room bytes ≡ Ok (eqb other.passed len, rest)
  others_whole other rest len come none needed within len_is =
      other_done (other_part other) rest come (omega (arith, none))
      ∙ ap (λ (b : Bool). done (b && eqb (length (drop other.passed other.characters.items)) 0, rest)) needed
      ∙ ap (λ (b : Bool). done (b, rest)) (all_passed other.characters.items other.passed len within len_is)

  pub others_unneeded : (other : OtherRuns) (rest : List ℕ) → HasCome others_left_at room part bytes (other_part other) rest → other.left ≤ 0 → other.needed ≡ false → others_left_at part room bytes ≡ Ok (other.needed, rest)
  others_unneeded other rest come none needed =
      other_done (other_part other) rest come (omega (arith, none))
      ∙ ap (λ (b : Bool). done (b && eqb (length (drop other.passed other.characters.items)) 0, rest)) needed
      ∙ ap (λ (b : Bool). done (b, rest)) (sym needed)

-- ---- the runs of a text

-- parts that begin within bytes begin within more
pub within_more : (places : Places) (m n : ℕ) → m ≤ n → AreWithin places m → AreWithin places n
within_more places m n le w = record { change = w.change; text = w.text; list = w.list; runs = omega (arith, w.runs, le) }

within_rest : (places : Places) (all bytes rest : List ℕ) → EndsIn bytes rest → AreWithin places (length all - length bytes) → AreWithin places (length all - length rest)
within_rest places all bytes rest end w = within_more places (length all - length bytes) (length all - length rest) (omega (arith, ends_len bytes rest end)) w

module _ (room : ℕ) (places : Places) (all bytes : List ℕ) (end : EndsIn all bytes) (within : AreWithin places (length all - length bytes)) where
  abbrev after_own : OwnPart → ℕ → List ℕ → Bool × List ℕ → Result (List ℕ × List ℕ) Stop
  after_own part room all same = cond same.0 (ok part.text same.1) (others_rest_at room places (all_others part.text part.count) all (drop places.runs all))

  pub own_cut : (part : OwnPart) (more : List Run) (rest : List ℕ) → HasCome own_left_at room part.left bytes more rest → HasReadRuns room places (Own part) all bytes (Own (record part { left = more })) rest
  own_cut part more rest come = record {
    end = ends_then all bytes rest end come.end;
    within = within_rest places all bytes rest come.end within;
    same = λ near later sum. ap (λ (r : Result (Bool × List ℕ) Stop). r >>= after_own part later (all ++ near)) (come.same near later sum);
  }

  pub own_whole : (part : OwnPart) (rest : List ℕ) → HasCome own_left_at room part.left bytes [] rest → IsWholeText room places (Own part) all bytes part.text rest
  own_whole part rest come = record {
    end = ends_then all bytes rest end come.end;
    same = λ near later sum. ap (λ (r : Result (Bool × List ℕ) Stop). r >>= after_own part later (all ++ near)) (come.same near later sum ∙ are_none later (rest ++ near));
  }

  -- where one differs, all are decoded by their rules
  own_other : (part : OwnPart) (rest : List ℕ) → own_left_at part.left room bytes ≡ Ok (false, rest) → (near : List ℕ) (later : ℕ) → length near + later ≡ room → pieces_rest_at later places (Own part) (all ++ near) (bytes ++ near) ≡ pieces_rest_at later places (Other (all_others part.text part.count)) (all ++ near) (drop places.runs all ++ near)
  own_other part rest differs near later sum =
      let runs_in : places.runs ≤ length all = omega (arith, within.runs) in
      ap (λ (r : Result (Bool × List ℕ) Stop). r >>= after_own part later (all ++ near)) (still (are_reads part.left) room later bytes near (false, rest) sum differs)
      ∙ ap (others_rest_at later places (all_others part.text part.count) (all ++ near)) (drop-append-le places.runs all near runs_in)

  other_cut : (part more : OtherPart) (rest : List ℕ) → HasCome others_left_at room part bytes more rest → HasReadRuns room places (Other part) all bytes (Other more) rest
  other_cut part more rest come = record {
    end = ends_then all bytes rest end come.end;
    within = within_rest places all bytes rest come.end within;
    same = λ near later sum. ap (λ (r : Result (Bool × List ℕ) Stop). r >>= λ w. cond w.0 (stops_at {A = List ℕ × List ℕ} (stopped faults.Measure later (drop places.text (all ++ near)))) (refused faults.Range later (drop places.list (all ++ near)))) (come.same near later sum);
  }

  pub other_reads_cut : (part more : OtherPart) (at : ℕ) (rest : List ℕ) → ReadsOthers room part bytes (Err read_errors.Truncated) more at rest → HasReadRuns room places (Other part) all bytes (Other more) rest × ReachesOther room more rest
  other_reads_cut part more at rest reads = (other_cut part more rest reads.0, reads.1)

  abbrev judged : Bool × List ℕ → Result (List ℕ × List ℕ) Stop
  judged w = cond w.0 (refused faults.Measure room (drop places.text all)) (refused faults.Range room (drop places.list all))

  -- they are measured otherwise, or break a rule
  pub other_measure : (part : OtherPart) (b : Bool) (rest : List ℕ) → b ≡ true → others_left_at part room bytes ≡ Ok (b, rest) → pieces_rest_at room places (Other part) all bytes ≡ Err (stopped faults.Measure room (drop places.text all))
  other_measure part b rest is e = ap (λ (r : Result (Bool × List ℕ) Stop). r >>= judged) (e ∙ ap (λ (b : Bool). done (b, rest)) is)

  pub other_range : (part : OtherPart) (b : Bool) (rest : List ℕ) → b ≡ false → others_left_at part room bytes ≡ Ok (b, rest) → pieces_rest_at room places (Other part) all bytes ≡ Err (stopped faults.Range room (drop places.list all))
  other_range part b rest is e = ap (λ (r : Result (Bool × List ℕ) Stop). r >>= judged) (e ∙ ap (λ (b : Bool). done (b, rest)) is)

  pub other_failed : (part : OtherPart) (e : ReadError) (at : ℕ) → Stops at e (others_left_at part room bytes) → Stops at e (pieces_rest_at room places (Other part) all bytes)
  other_failed part e at stops = if_some (fault_of e) _ _ (λ f is. ap (λ (r : Result (Bool × List ℕ) Stop). r >>= judged) is) stops

  -- what reading them gives
  pub other_measured : (part more : OtherPart) (at : ℕ) (rest : List ℕ) (b : Bool) → b ≡ true → ReadsOthers room part bytes (Ok b) more at rest → (later : ℕ) → later ≡ room → (t : List ℕ) → t ≡ drop places.text all → ReadsRuns room places (Other part) all bytes (Err read_errors.Measure) (allowed later t) t
  other_measured part more at rest b is reads later later_is t t_is = (
    λ e. cc,
    other_measure part b rest is reads ∙ ap (λ (n : ℕ). stops_at {A = List ℕ × List ℕ} (stopped faults.Measure n (drop places.text all))) (sym later_is) ∙ ap (λ (b : List ℕ). stops_at {A = List ℕ × List ℕ} (stopped faults.Measure later b)) (sym t_is),
  )

  pub other_ranged : (part more : OtherPart) (at : ℕ) (rest : List ℕ) (b : Bool) → b ≡ false → ReadsOthers room part bytes (Ok b) more at rest → (later : ℕ) → later ≡ room → (t : List ℕ) → t ≡ drop places.list all → ReadsRuns room places (Other part) all bytes (Err read_errors.Range) (allowed later t) t
  other_ranged part more at rest b is reads later later_is t t_is = (
    λ e. cc,
    other_range part b rest is reads ∙ ap (λ (n : ℕ). stops_at {A = List ℕ × List ℕ} (stopped faults.Range n (drop places.list all))) (sym later_is) ∙ ap (λ (b : List ℕ). stops_at {A = List ℕ × List ℕ} (stopped faults.Range later b)) (sym t_is),
  )

  pub other_error : (part more : OtherPart) (e : ReadError) (at : ℕ) (rest : List ℕ) → e ≢ read_errors.Truncated → ReadsOthers room part bytes (Err e) more at rest → ReadsRuns room places (Other part) all bytes (Err e) at rest
  other_error part more e at rest other reads = (other, other_failed part e at (read_others_failed room part bytes e more at rest other reads))

  pub own_failed : (part : OwnPart) (e : ReadError) (at : ℕ) → Stops at e (own_left_at part.left room bytes) → Stops at e (pieces_rest_at room places (Own part) all bytes)
  own_failed part e at stops = if_some (fault_of e) _ _ (λ f is. ap (λ (r : Result (Bool × List ℕ) Stop). r >>= after_own part room all) is) stops

  abbrev Reads : PiecesPart → List ℕ → Result ReadPieces ReadError → ℕ → List ℕ → Type 0
  Reads part bytes result at rest = ReadsRuns room places part all bytes result at rest

  -- what is decoded after a step is what is decoded
  reads_by : (a b : PiecesPart) (later_bytes : List ℕ) → ((near : List ℕ) (later : ℕ) → length near + later ≡ room → pieces_rest_at later places a (all ++ near) (bytes ++ near) ≡ pieces_rest_at later places b (all ++ near) (later_bytes ++ near)) → (result : Result ReadPieces ReadError) (at : ℕ) (rest : List ℕ) → Reads b later_bytes result at rest → Reads a bytes result at rest
  reads_by a b later_bytes step (Ok (read_pieces.Whole text)) at rest reads = record { end = reads.end; same = λ near later sum. step near later sum ∙ reads.same near later sum }
  reads_by a b later_bytes step (Ok (read_pieces.Cut more)) at rest reads = (record { end = reads.0.end; within = reads.0.within; same = λ near later sum. step near later sum ∙ reads.0.same near later sum }, reads.1)
  reads_by a b later_bytes step (Err e) at rest reads =
      let here : pieces_rest_at room places a all bytes ≡ pieces_rest_at room places b all later_bytes =
      ap (λ (t : List ℕ). pieces_rest_at room places a t bytes) (sym (append-nil all)) ∙ ap (pieces_rest_at room places a (all ++ [])) (sym (append-nil bytes))
      ∙ step [] room (omega arith)
      ∙ ap (pieces_rest_at room places b (all ++ [])) (append-nil later_bytes) ∙ ap (λ (t : List ℕ). pieces_rest_at room places b t later_bytes) (append-nil all) in
      (reads.0, if_some (fault_of e) _ _ (λ f is. here ∙ is) reads.1)

  -- what a comparison gives
  pub own_true : (part : OwnPart) (left more : List Run) (at : ℕ) (rest : List ℕ) (b : Bool) → left ≡ part.left → b ≡ true → Compares room left bytes (Ok b) more at rest → IsWholeText room places (Own part) all bytes part.text rest
  own_true part left more at rest b is all_same compares =
      own_whole part rest (subst (λ (rs : List Run). HasCome own_left_at room rs bytes [] rest) is (subst (λ (b : Bool). Compares room left bytes (Ok b) more at rest) all_same compares))

  pub own_truncated : (part : OwnPart) (left more next : List Run) (at : ℕ) (rest : List ℕ) → left ≡ part.left → more ≡ next → Compares room left bytes (Err read_errors.Truncated) more at rest → HasReadRuns room places (Own part) all bytes (Own (record part { left = next })) rest × ReachesOwn room next rest
  own_truncated part left more next at rest is next_is compares =
      let here : Compares room part.left bytes (Err read_errors.Truncated) next at rest = subst (λ (rs : List Run). Compares room rs bytes (Err read_errors.Truncated) next at rest) is (subst (λ (rs : List Run). Compares room left bytes (Err read_errors.Truncated) rs at rest) next_is compares) in
      (own_cut part next rest here.0, here.1)

  pub own_error : (part : OwnPart) (left more : List Run) (e : ReadError) (at : ℕ) (rest : List ℕ) → left ≡ part.left → e ≢ read_errors.Truncated → Compares room left bytes (Err e) more at rest → ReadsRuns room places (Own part) all bytes (Err e) at rest
  own_error part left more e at rest is other compares =
      (other, own_failed part e at (subst (λ (rs : List Run). Stops at e (own_left_at rs room bytes)) is (compare_failed room left bytes e more at rest other compares)))

  pub own_differs_then : (part : OwnPart) (after : List ℕ) → own_left_at part.left room bytes ≡ Ok (false, after) → (result : Result ReadPieces ReadError) (at : ℕ) (rest : List ℕ) → Reads (Other (all_others part.text part.count)) (drop places.runs all) result at rest → Reads (Own part) bytes result at rest
  own_differs_then part after differs = reads_by (Own part) (Other (all_others part.text part.count)) (drop places.runs all) (own_other part after differs)

  -- all are decoded by their rules, from the first one on
  pub own_then_other : (part : OwnPart) (left more : List Run) (at : ℕ) (after : List ℕ) (b : Bool) → left ≡ part.left → b ≡ false → Compares room left bytes (Ok b) more at after → (later : ℕ) → later ≡ room → (other : OtherPart) → other ≡ all_others part.text part.count → (first : List ℕ) → first ≡ drop places.runs all → (result : Result ReadPieces ReadError) (later_at : ℕ) (rest : List ℕ) → ReadsRuns later places (Other other) all first result later_at rest → ReadsRuns room places (Own part) all bytes result later_at rest
  own_then_other part left more at after b is differ compares later later_is other other_is first first_is result later_at rest reads =
      let differs : own_left_at part.left room bytes ≡ Ok (false, after) = subst (λ (rs : List Run). own_left_at rs room bytes ≡ Ok (false, after)) is (subst (λ (b : Bool). Compares room left bytes (Ok b) more at after) differ compares) in
      own_differs_then part after differs result later_at rest
      (subst (λ (n : ℕ). ReadsRuns n places (Other (all_others part.text part.count)) all (drop places.runs all) result later_at rest) later_is
      (subst (λ (o : OtherPart). ReadsRuns later places (Other o) all (drop places.runs all) result later_at rest) other_is
      (subst (λ (t : List ℕ). ReadsRuns later places (Other other) all t result later_at rest) first_is reads)))

  -- what is left from the first run on
  pub runs_end : (first : List ℕ) → first ≡ drop places.runs all → EndsIn all first
  runs_end first is = subst (λ (t : List ℕ). EndsIn all t) (sym is) (ends_drop places.runs all)

  pub runs_within : (first : List ℕ) → first ≡ drop places.runs all → AreWithin places (length all - length first)
  runs_within first is = record {
    change = within.change;
    text = within.text;
    list = within.list;
    runs = omega (arith, within.runs, ap length is, length-drop places.runs all);
  }

-- ---- a run that is cut

own_reached : (room : ℕ) (left : List Run) (bytes : List ℕ) (reached : ReachesOwn room left bytes) → own_left_at left room bytes ≡ Err reached.cut.stop
own_reached room left bytes reached = are_next room left reached.behind reached.next bytes (Err reached.cut.stop) reached.some reached.cut.is

other_reached : (room : ℕ) (part : OtherPart) (bytes : List ℕ) (reached : ReachesOther room part bytes) → others_left_at part room bytes ≡ Err reached.cut.stop
other_reached room part bytes reached = other_next room part bytes (Err reached.cut.stop) reached.some reached.cut.is

pub run_reached : (room : ℕ) (places : Places) (part : PiecesPart) (all bytes : List ℕ) → ReachesRun room part bytes → StopsTruncated (pieces_rest_at room places part all bytes)
run_reached room places (Own part) all bytes reached = record {
  stop = reached.cut.stop;
  is = ap (λ (r : Result (Bool × List ℕ) Stop). r >>= λ same. cond same.0 (ok part.text same.1) (others_rest_at room places (all_others part.text part.count) all (drop places.runs all))) (own_reached room part.left bytes reached);
  cut = reached.cut.cut;
}
run_reached room places (Other part) all bytes reached = record {
  stop = reached.cut.stop;
  is = ap (λ (r : Result (Bool × List ℕ) Stop). r >>= λ w. cond w.0 (stops_at {A = List ℕ × List ℕ} (stopped faults.Measure room (drop places.text all))) (refused faults.Range room (drop places.list all))) (other_reached room part bytes reached);
  cut = reached.cut.cut;
}

-- what is decoded from these runs on is what is decoded
pub runs_here : (room : ℕ) (places : Places) (part : PiecesPart) (all bytes : List ℕ) (more : PiecesPart) (rest : List ℕ) → HasReadRuns room places part all bytes more rest → pieces_rest_at room places part all bytes ≡ pieces_rest_at room places more all rest
runs_here room places part all bytes more rest read =
    ap (λ (t : List ℕ). pieces_rest_at room places part t bytes) (sym (append-nil all)) ∙ ap (pieces_rest_at room places part (all ++ [])) (sym (append-nil bytes))
    ∙ read.same [] room (omega arith)
    ∙ ap (pieces_rest_at room places more (all ++ [])) (append-nil rest) ∙ ap (λ (t : List ℕ). pieces_rest_at room places more t rest) (append-nil all)

pub whole_here : (room : ℕ) (places : Places) (part : PiecesPart) (all bytes text rest : List ℕ) → IsWholeText room places part all bytes text rest → pieces_rest_at room places part all bytes ≡ Ok (text, rest)
whole_here room places part all bytes text rest read =
    ap (λ (t : List ℕ). pieces_rest_at room places part t bytes) (sym (append-nil all)) ∙ ap (pieces_rest_at room places part (all ++ [])) (sym (append-nil bytes))
    ∙ read.same [] room (omega arith)
    ∙ ap (λ (t : List ℕ). texted text t) (append-nil rest)

-- a text that is cut is neither whole nor has a fault
pub cut_whole : (room : ℕ) (places : Places) (part : PiecesPart) (all bytes text rest : List ℕ) → IsWholeText room places part all bytes text rest → StopsTruncated (pieces_rest_at room places part all bytes) → ⊥
cut_whole room places part all bytes text rest read cut = cut_value (pieces_rest_at room places part all bytes) (text, rest) cut (whole_here room places part all bytes text rest read)

pub cut_failed : (room : ℕ) (places : Places) (part : PiecesPart) (all bytes : List ℕ) (e : ReadError) (at : ℕ) → e ≢ read_errors.Truncated → e ≢ read_errors.Memory → Stops at e (pieces_rest_at room places part all bytes) → StopsTruncated (pieces_rest_at room places part all bytes) → ⊥
cut_failed room places part all bytes read_errors.Truncated at other some stops cut = other refl
cut_failed room places part all bytes read_errors.Version at other some stops cut = let bad : faults.Version ≡ Truncated = cut_fault _ faults.Version at cut stops in cc
cut_failed room places part all bytes read_errors.Type at other some stops cut = let bad : faults.Type ≡ Truncated = cut_fault _ faults.Type at cut stops in cc
cut_failed room places part all bytes read_errors.Utf8 at other some stops cut = let bad : faults.Utf8 ≡ Truncated = cut_fault _ faults.Utf8 at cut stops in cc
cut_failed room places part all bytes read_errors.Range at other some stops cut = let bad : faults.Range ≡ Truncated = cut_fault _ faults.Range at cut stops in cc
cut_failed room places part all bytes read_errors.Region at other some stops cut = let bad : faults.Region ≡ Truncated = cut_fault _ faults.Region at cut stops in cc
cut_failed room places part all bytes read_errors.Limit at other some stops cut = let bad : faults.Limit ≡ Truncated = cut_fault _ faults.Limit at cut stops in cc
cut_failed room places part all bytes read_errors.Measure at other some stops cut = let bad : faults.Measure ≡ Truncated = cut_fault _ faults.Measure at cut stops in cc
cut_failed room places part all bytes read_errors.Memory at other some stops cut = some refl
