use Rattle.std.proofs.Common.{◌≡◌, ◌++◌, ◌+◌, ◌∷◌, [], length, map, ℕ, List, subst, sym, ap, ◌∙◌, Ok}
use Rattle.std.proofs.lemmas.List.{map-append, length-append}
use Rattle.cbor.specs.Decoding.{Stops, allowed}
use Rattle.termwiz_cell.specs.ChangeValue.{ChangeValue, change_value}
use Rattle.termwiz_cell.specs.Measure.{measure}
use Rattle.termwiz_surface.specs.Unlogged.{lent_value}
use Rattle.termwiz_wire.specs.Answers.{each_at, next_at}
use Rattle.termwiz_wire.specs.Work.{cost, spent_on}
use Rattle.termwiz_wire.proofs.Bounds.{spent_more}
use Rattle.termwiz_wire.proofs.Loops.{each_go_on, each_end, each_done}
use Rattle.termwiz_wire.proofs.decode.changes.each_of.Goals as goal

pub returns-in-Err-clause-value : goal.returns-in-Err-clause-value
returns-in-Err-clause-value g c =
    let left = allowed c.next_of.new.reader.room c.next_of.new.reader.bytes.now in
    let made : List ChangeValue = map change_value c.loop-index.changes.items in
    let read : Stops left c.in-Err.error (next_at (measure g.W.Widths.width_of c.args.widths.now) c.args.reader.now.room c.args.head (spent_on c.args.head made) c.loop-index.reader.bytes.now) = subst (λ (k : ℕ). Stops left c.in-Err.error (next_at (measure g.W.Widths.width_of c.args.widths.now) c.args.reader.now.room c.args.head k c.loop-index.reader.bytes.now)) c.loop-index.invariant.spent (subst (λ (r : ℕ). Stops left c.in-Err.error (next_at (measure g.W.Widths.width_of c.args.widths.now) r c.args.head c.loop-index.spent c.loop-index.reader.bytes.now)) c.loop-index.invariant.room c.in-Err.ensures.value) in
    each_end (measure g.W.Widths.width_of c.args.widths.now) c.args.reader.now.room c.args.head left c.in-Err.error (map change_value c.loop-index.changes.items) c.args.count c.loop-index.index c.loop-index.reader.bytes.now (each_at (measure g.W.Widths.width_of c.args.widths.now) c.args.reader.now.room c.args.head [] c.args.count c.args.reader.now.bytes.now) c.loop-index-test.true c.loop-index.invariant.made read c.loop-index.invariant.read

pub loop-index-preserved : goal.loop-index-preserved
loop-index-preserved g c =
    let made : List ChangeValue = map change_value c.loop-index.changes.items in
    let e : map change_value c.push.new.self.items ≡ made ++ lent_value c.in-Ok.change ∷ [] = ap (map change_value) c.in_ok-push.ensures.items ∙ map-append change_value c.loop-index.changes.items (c.in_ok-owned.field-0 ∷ []) ∙ ap (λ (v : ChangeValue). made ++ v ∷ []) c.in_ok-owned.ensures in
    let more : length (made ++ lent_value c.in-Ok.change ∷ []) ≡ length made + 1 = length-append made (lent_value c.in-Ok.change ∷ []) in
    let read : next_at (measure g.W.Widths.width_of c.args.widths.now) c.args.reader.now.room c.args.head (spent_on c.args.head made) c.loop-index.reader.bytes.now ≡ Ok (lent_value c.in-Ok.change, c.next_of.new.reader.bytes.now) = subst (λ (k : ℕ). next_at (measure g.W.Widths.width_of c.args.widths.now) c.args.reader.now.room c.args.head k c.loop-index.reader.bytes.now ≡ Ok (lent_value c.in-Ok.change, c.next_of.new.reader.bytes.now)) c.loop-index.invariant.spent (subst (λ (r : ℕ). next_at (measure g.W.Widths.width_of c.args.widths.now) r c.args.head c.loop-index.spent c.loop-index.reader.bytes.now ≡ Ok (lent_value c.in-Ok.change, c.next_of.new.reader.bytes.now)) c.loop-index.invariant.room c.in-Ok.ensures.value) in
    record {
      read = rw e (each_go_on (measure g.W.Widths.width_of c.args.widths.now) c.args.reader.now.room c.args.head made c.args.count c.loop-index.index c.loop-index.reader.bytes.now (lent_value c.in-Ok.change) c.next_of.new.reader.bytes.now (each_at (measure g.W.Widths.width_of c.args.widths.now) c.args.reader.now.room c.args.head [] c.args.count c.args.reader.now.bytes.now) c.loop-index-test.true read c.loop-index.invariant.read);
      spent = rw e (c.in-Ok.ensures.spent ∙ ap (λ (n : ℕ). n + cost c.args.head (lent_value c.in-Ok.change)) c.loop-index.invariant.spent ∙ sym (spent_more c.args.head made (lent_value c.in-Ok.change)));
      few = c.in-Ok.ensures.few;
      made = ap length e ∙ more ∙ ap (λ (n : ℕ). n + 1) c.loop-index.invariant.made;
      room = c.in-Ok.ensures.room ∙ c.loop-index.invariant.room;
    }

pub returns-clause-value : goal.returns-clause-value
returns-clause-value g c = each_done (measure g.W.Widths.width_of c.args.widths.now) c.args.reader.now.room c.args.head (map change_value c.loop-index.changes.items) c.args.count c.loop-index.index c.loop-index.reader.bytes.now (each_at (measure g.W.Widths.width_of c.args.widths.now) c.args.reader.now.room c.args.head [] c.args.count c.args.reader.now.bytes.now) c.loop-index-test.false c.loop-index.invariant.read
