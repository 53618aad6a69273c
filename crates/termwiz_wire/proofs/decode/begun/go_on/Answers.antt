use Rattle.std.proofs.Common.{◌≡◌, ◌++◌, ◌+◌, ◌<◌, ◌≤◌, ◌∷◌, [], length, map, ℕ, List, Some, Ok, refl, sym, subst, ap, ◌∙◌, append_assoc, arith}
use Rattle.std.proofs.lemmas.List.{map-append, length-map, length-append}
use Rattle.cbor.specs.declared.error.FaultKind.TheVariants.{Truncated}
use Rattle.cbor.specs.Decoding.{Stops, allowed}
use Rattle.termwiz_cell.specs.ChangeValue.{ChangeValue, change_value}
use Rattle.termwiz_cell.specs.Measure.{measure}
use Rattle.termwiz_cell.specs.declared.change.Change.{Change}
use Rattle.termwiz_surface.specs.Unlogged.{lent_value}
use Rattle.termwiz_surface.specs.declared.surface.lists.LentChange.{LentChange}
use Rattle.termwiz_wire.specs.Answers.{next_at}
use Rattle.termwiz_wire.specs.Work.{cost, spent_on}
use Rattle.termwiz_wire.proofs.Bounds.{spent_more}
use Rattle.termwiz_wire.proofs.Resuming.{gone_none, gone_more, gone_whole, gone_stopped}
use Rattle.termwiz_wire.proofs.decode.begun.go_on.Goals as goal

-- how many changes these are
lens_of_both : (begun : List Change) (changes : List LentChange) → length (map change_value begun ++ map lent_value changes) ≡ length begun + length changes
lens_of_both begun changes = omega (arith, length-append (map change_value begun) (map lent_value changes), length-map begun change_value, length-map changes lent_value)

-- one more after them
pushed : (begun : List Change) (changes after : List LentChange) (c : LentChange) → after ≡ changes ++ c ∷ [] → map change_value begun ++ map lent_value after ≡ (map change_value begun ++ map lent_value changes) ++ lent_value c ∷ []
pushed begun changes after c is =
    ap (λ (cs : List LentChange). map change_value begun ++ map lent_value cs) is ∙ ap (λ (cs : List ChangeValue). map change_value begun ++ cs) (map-append lent_value changes (c ∷ [])) ∙ sym (append_assoc (map change_value begun) (map lent_value changes) (lent_value c ∷ []))

pub changes-init : goal.changes-init
changes-init g c = record {
  gone = gone_none (measure g.W.Widths.width_of c.args.widths.now) c.args.reader.now.room c.args.head (map change_value c.args.begun.now ++ map lent_value c.args.changes.now.items) c.args.reader.now.bytes.now;
  fits = c.requires.bytes;
  spent = c.requires.spent;
  few = c.requires.few;
  room = refl;
}

pub changes-preserved : goal.changes-preserved
changes-preserved g c =
    let m : List ℕ → ℕ = measure g.W.Widths.width_of c.args.widths.now in
    let more : List ChangeValue = map change_value c.args.begun.now ++ map lent_value c.changes.changes.items in
    let lens : length more ≡ length c.args.begun.now + length c.changes.changes.items = lens_of_both c.args.begun.now c.changes.changes.items in
    let e : map change_value c.args.begun.now ++ map lent_value c.push.new.self.items ≡ more ++ lent_value c.in-Ok.change ∷ [] = pushed c.args.begun.now c.changes.changes.items c.push.new.self.items c.in-Ok.change c.in_ok-push-in-Ok.ensures.items in
    let read : next_at m c.args.reader.now.room (Some c.args.head) (spent_on (Some c.args.head) more) c.changes.reader.bytes.now ≡ Ok (lent_value c.in-Ok.change, c.next_of.new.reader.bytes.now) = subst (λ (k : ℕ). next_at m c.args.reader.now.room (Some c.args.head) k c.changes.reader.bytes.now ≡ Ok (lent_value c.in-Ok.change, c.next_of.new.reader.bytes.now)) c.changes.invariant.spent (subst (λ (r : ℕ). next_at m r (Some c.args.head) c.changes.spent c.changes.reader.bytes.now ≡ Ok (lent_value c.in-Ok.change, c.next_of.new.reader.bytes.now)) c.changes.invariant.room c.in-Ok.ensures.value) in
    let lt : length more < c.args.head.count = omega (arith, lens, c.saturating_sub-count.ensures) in
    let next = gone_more m c.args.reader.now.room c.args.head (map change_value c.args.begun.now ++ map lent_value c.args.changes.now.items) c.args.reader.now.bytes.now more c.changes.reader.bytes.now (lent_value c.in-Ok.change) c.next_of.new.reader.bytes.now c.changes.invariant.gone c.changes.invariant.fits lt read in
    record {
      gone = rw e next.0;
      fits = next.1;
      spent = rw e (c.in-Ok.ensures.spent ∙ ap (λ (n : ℕ). n + cost (Some c.args.head) (lent_value c.in-Ok.change)) c.changes.invariant.spent ∙ sym (spent_more (Some c.args.head) more (lent_value c.in-Ok.change)));
      few = c.in-Ok.ensures.few;
      room = c.in-Ok.ensures.room ∙ c.changes.invariant.room;
    }

pub returns-clause-goes : goal.returns-clause-goes
returns-clause-goes g c =
    let more : List ChangeValue = map change_value c.args.begun.now ++ map lent_value c.changes.changes.items in
    let lens : length more ≡ length c.args.begun.now + length c.changes.changes.items = lens_of_both c.args.begun.now c.changes.changes.items in
    let le : c.args.head.count ≤ length more = omega (arith, lens, c.saturating_sub-count.ensures) in
    (c.changes.invariant.gone, gone_whole (measure g.W.Widths.width_of c.args.widths.now) c.args.reader.now.room c.args.head (map change_value c.args.begun.now ++ map lent_value c.args.changes.now.items) c.args.reader.now.bytes.now more c.changes.reader.bytes.now c.changes.invariant.gone le)

pub returns-in-Truncated-clause-goes : goal.returns-in-Truncated-clause-goes
returns-in-Truncated-clause-goes g c =
    let m : List ℕ → ℕ = measure g.W.Widths.width_of c.args.widths.now in
    let more : List ChangeValue = map change_value c.args.begun.now ++ map lent_value c.changes.changes.items in
    let lens : length more ≡ length c.args.begun.now + length c.changes.changes.items = lens_of_both c.args.begun.now c.changes.changes.items in
    let at : ℕ = allowed c.next_of.new.reader.room c.next_of.new.reader.bytes.now in
    let lt : length more < c.args.head.count = omega (arith, lens, c.saturating_sub-count.ensures) in
    let stops : Stops at c.in-Err.error (next_at m c.args.reader.now.room (Some c.args.head) (spent_on (Some c.args.head) more) c.changes.reader.bytes.now) = subst (λ (k : ℕ). Stops at c.in-Err.error (next_at m c.args.reader.now.room (Some c.args.head) k c.changes.reader.bytes.now)) c.changes.invariant.spent (subst (λ (r : ℕ). Stops at c.in-Err.error (next_at m r (Some c.args.head) c.changes.spent c.changes.reader.bytes.now)) c.changes.invariant.room c.in-Err.ensures.value) in
    (c.changes.invariant.gone, lt, record { stop = record { fault = Truncated; left = at }; is = rw c.in-Truncated.is at stops; cut = refl })

pub returns-in_default-clause-goes : goal.returns-in_default-clause-goes
returns-in_default-clause-goes g c =
    let m : List ℕ → ℕ = measure g.W.Widths.width_of c.args.widths.now in
    let more : List ChangeValue = map change_value c.args.begun.now ++ map lent_value c.changes.changes.items in
    let lens : length more ≡ length c.args.begun.now + length c.changes.changes.items = lens_of_both c.args.begun.now c.changes.changes.items in
    let at : ℕ = allowed c.next_of.new.reader.room c.next_of.new.reader.bytes.now in
    let lt : length more < c.args.head.count = omega (arith, lens, c.saturating_sub-count.ensures) in
    let stops : Stops at c.in-Err.error (next_at m c.args.reader.now.room (Some c.args.head) (spent_on (Some c.args.head) more) c.changes.reader.bytes.now) = subst (λ (k : ℕ). Stops at c.in-Err.error (next_at m c.args.reader.now.room (Some c.args.head) k c.changes.reader.bytes.now)) c.changes.invariant.spent (subst (λ (r : ℕ). Stops at c.in-Err.error (next_at m r (Some c.args.head) c.changes.spent c.changes.reader.bytes.now)) c.changes.invariant.room c.in-Err.ensures.value) in
    let stopped = gone_stopped m c.args.reader.now.room c.args.head (map change_value c.args.begun.now ++ map lent_value c.args.changes.now.items) c.args.reader.now.bytes.now more c.changes.reader.bytes.now at c.in-Err.error c.changes.invariant.gone lt stops in
    let len : length c.args.begun.now + c.len-in_default.result ≡ length more = omega (arith, lens, c.len-in_default.ensures) in
    (c.in_default.not-Truncated, rw len stopped)

pub returns-in-Truncated-clause-spent : goal.returns-in-Truncated-clause-spent
returns-in-Truncated-clause-spent g c = c.in-Err.ensures.kept ∙ c.changes.invariant.spent

pub returns-in-Truncated-clause-few : goal.returns-in-Truncated-clause-few
returns-in-Truncated-clause-few g c = rw c.in-Err.ensures.kept c.changes.invariant.few
