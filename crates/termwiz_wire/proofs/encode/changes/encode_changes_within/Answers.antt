use Rattle.std.proofs.Common.{◌≡◌, ◌<◌, List, ℕ, ◌++◌, length, map, sym, ◌∙◌, ap, subst, arith, append_assoc}
use Rattle.std.specs.List.{flat_map}
use Rattle.std.proofs.lemmas.List.{length-map}
use Rattle.cbor.specs.Encoding.{array}
use Rattle.termwiz_cell.specs.ChangeValue.{ChangeValue, change_value}
use Rattle.termwiz_cell.specs.Measure.{measure}
use Rattle.termwiz_wire.specs.Encoding.{change, changes}
use Rattle.termwiz_wire.proofs.Encoded.{past_all}
use Rattle.termwiz_wire.proofs.encode.changes.encode_changes_within.Goals as goal

pub returns-then-len-end-clause-past : goal.returns-then-len-end-clause-past
unfolding changes
returns-then-len-end-clause-past g c =
    let m : List ℕ → ℕ = measure g.W.Widths.width_of c.args.widths.now in
    let old : List ℕ = c.args.out.now.items in
    let cs : List ChangeValue = map change_value c.args.values.now in
    let bytes : List ℕ = flat_map (change m) cs in
    let is : (old ++ array (length c.args.values.now)) ++ bytes ≡ old ++ changes m cs =
    append_assoc old (array (length c.args.values.now)) bytes ∙ ap (λ n. old ++ (array n ++ bytes)) (sym (length-map c.args.values.now change_value)) in
    let past = past_all change_value (change m) c.args.values.now c.loop-value.value-index c.args.end (old ++ array (length c.args.values.now)) c.loop-value.out.items c.loop-value.invariant.written (omega (arith, c.if-len-end.true, c.len.ensures, c.loop-value.out.ok.0)) in
    λ none. (omega (arith, c.if-len-end.true, c.len.type_inv), subst (λ (all : List ℕ). c.args.end < length all) is past)
