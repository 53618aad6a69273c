use Rattle.std.proofs.Common.{◌≡◌, ◌-◌, ◌++◌, [], ◌∷◌, length, map, subst, refl, sym, ap, ◌∙◌, arith, String, string_bytes, List, ℕ, Ok}
use Rattle.std.proofs.lemmas.Result.{err_from_is_err_and}
use Rattle.std.specs.List.Sorted.{IsStrictlySortedBy}
use Rattle.cbor.specs.Decoding.{Stops, allowed}
use Rattle.termwiz_cell.specs.Link.{param_bytes}
use Rattle.termwiz_cell.specs.LinkText.{AreInOrder}
use Rattle.termwiz_wire.specs.Decoding.{param_item_at, params_at}
use Rattle.termwiz_wire.proofs.Loops.{params_go_on, params_end, params_done}
use Rattle.termwiz_wire.proofs.Params.{put-last, order-push}
use Rattle.termwiz_wire.proofs.decode.links.params_of.Goals as goal

none_made : {A : Type 0} (es : List (String A × String A)) (room count : ℕ) (bytes : List ℕ) → length es ≡ 0 → (params_at room (map param_bytes es) (count - 0) bytes ≡ params_at room [] count bytes) × AreInOrder (map param_bytes es)
unfolding IsStrictlySortedBy
none_made [] room count bytes e =
    let same : count - 0 ≡ count = omega arith in
    (ap (λ (n : ℕ). params_at room [] n bytes) same, tt)
none_made (x ∷ es) room count bytes e = absurd (omega (arith, e))

pub loop-init : goal.loop-init
loop-init c =
    let start = none_made c.new-params.result.entries c.args.reader.now.room c.args.count c.args.reader.now.bytes.now c.new-params.ensures.len in
    record { read = start.0; ordered = start.1; room = refl }

pub returns-in_err-key-clause-value : goal.returns-in_err-key-clause-value
returns-in_err-key-clause-value c =
    let p = err_from_is_err_and c.from_residual.result c.from_residual.ensures.1 in
    let read = subst (λ (r : ℕ). Stops (allowed c.param_of.new.reader.room c.param_of.new.reader.bytes.now) c.in_err-key.field-0.0 (param_item_at r (map param_bytes c.loop.params.entries) c.loop.reader.bytes.now)) c.loop.invariant.room c.in_err-key.ensures.value in
    rw (p.1, p.2) (params_end c.args.reader.now.room (allowed c.param_of.new.reader.room c.param_of.new.reader.bytes.now) c.in_err-key.field-0.0 (map param_bytes c.loop.params.entries) c.args.count c.loop.counter c.loop.reader.bytes.now (params_at c.args.reader.now.room [] c.args.count c.args.reader.now.bytes.now) c.loop-test.true read c.loop.invariant.read)

pub loop-preserved : goal.loop-preserved
loop-preserved c =
    let made : List (List ℕ × List ℕ) = map param_bytes c.loop.params.entries in
    let p : List ℕ × List ℕ = (string_bytes c.in_ok-key.key, string_bytes c.in_ok-key.value) in
    let e : map param_bytes c.put.new.params.entries ≡ made ++ p ∷ [] = c.in_ok-put.ensures ∙ put-last made p c.loop.invariant.ordered c.in_ok-key.ensures.above in
    let read : param_item_at c.args.reader.now.room made c.loop.reader.bytes.now ≡ Ok (p, c.param_of.new.reader.bytes.now) = subst (λ (r : ℕ). param_item_at r made c.loop.reader.bytes.now ≡ Ok (p, c.param_of.new.reader.bytes.now)) c.loop.invariant.room c.in_ok-key.ensures.value in
    record {
      read = rw e (params_go_on c.args.reader.now.room made c.args.count c.loop.counter c.loop.reader.bytes.now p c.param_of.new.reader.bytes.now (params_at c.args.reader.now.room [] c.args.count c.args.reader.now.bytes.now) c.loop-test.true read c.loop.invariant.read);
      ordered = subst (λ (ps : List (List ℕ × List ℕ)). AreInOrder ps) (sym e) (order-push made p c.loop.invariant.ordered c.in_ok-key.ensures.above);
      room = c.in_ok-key.ensures.room ∙ c.loop.invariant.room;
    }

pub returns-clause-value : goal.returns-clause-value
returns-clause-value c = params_done c.args.reader.now.room (map param_bytes c.loop.params.entries) c.args.count c.loop.counter c.loop.reader.bytes.now (params_at c.args.reader.now.room [] c.args.count c.args.reader.now.bytes.now) c.loop-test.false c.loop.invariant.read
