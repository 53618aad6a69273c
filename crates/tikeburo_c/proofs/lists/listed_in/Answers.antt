use Rattle.std.proofs.Common.{◌≡◌, ◌⊎◌, inl, inr, map, ap, ◌∙◌, sym, length, Err, [], ◌∷◌, ◌++◌}
use Rattle.std.proofs.lemmas.List.{map-append}
use Rattle.std.proofs.lemmas.Bool.{eqb-true}
use Rattle.std.specs.Prelude.{IfErr}
use Rattle.std.specs.declared.alloc.Global.{Global}
use Rattle.std.specs.declared.vec.Vec.{Vec}
use Rattle.termwiz_cell.specs.ChangeValue.{change_value}
use Rattle.termwiz_cell.specs.declared.change.Change.{Change}
use Rattle.tikeburo_c.specs.Lists.{listed_in}
use Rattle.tikeburo_c.specs.declared.failure.Failure.TheVariants.{Memory}
use Rattle.tikeburo_c.proofs.Decoded.{failed_by}
use Rattle.tikeburo_c.proofs.Listed.{ends, goes_on, has_texts, is_done}
use Rattle.tikeburo_c.proofs.lists.listed_in.Goals as goal

pub returns-in_err-others-clause-missing : goal.returns-in_err-others-clause-missing
returns-in_err-others-clause-missing c =
    let l = c.loop-fields in
    let e = c.in_err-others.field-0.0 in
    let total = listed_in c.args.list.now c.args.texts.now in
    failed_by {A = Vec Change Global} (λ r. IfErr r (λ f. f ≡ Memory ⊎ total ≡ Err f)) c.from_residual-in_err-others.result e c.from_residual-in_err-others.ensures.1
    (elim c.in_err-others.ensures.missing [
      | inl memory ↦ inl memory
      | inr wrong ↦ inr (ends c.args.list.now l.fields-index _ (map change_value l.changes.items) l.rest.now e total c.loop-fields-test.true wrong l.invariant)
    ])

pub loop-fields-preserved : goal.loop-fields-preserved
loop-fields-preserved c =
    let l = c.loop-fields in
    let done = map change_value l.changes.items in
    let found = c.in_ok-others.ensures.found in
    let e : map change_value c.push_first.new.changes.items ≡ done ++ change_value found.0 ∷ [] = ap (map change_value) found.2 ∙ map-append change_value l.changes.items (found.0 ∷ []) in
    rw e (goes_on c.args.list.now l.fields-index _ done l.rest.now (change_value found.0) c.in_ok-others.others.now (listed_in c.args.list.now c.args.texts.now) c.loop-fields-test.true found.1 l.invariant)

pub returns-then-not-is_empty-clause-missing : goal.returns-then-not-is_empty-clause-missing
returns-then-not-is_empty-clause-missing c =
    let l = c.loop-fields in
    inr (has_texts c.args.list.now l.fields-index (map change_value l.changes.items) l.rest.now (listed_in c.args.list.now c.args.texts.now) c.loop-fields-test.false (sym c.is_empty.ensures ∙ c.if-not-is_empty.true) l.invariant)

pub returns-clause-found : goal.returns-clause-found
returns-clause-found c =
    let l = c.loop-fields in
    is_done c.args.list.now l.fields-index (map change_value l.changes.items) l.rest.now (listed_in c.args.list.now c.args.texts.now) c.loop-fields-test.false (eqb-true (length l.rest.now) 0 (sym c.is_empty.ensures ∙ c.if-not-is_empty.false)) l.invariant
