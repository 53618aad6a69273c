use Rattle.std.proofs.Common.{◌≡◌, ◌⊎◌, inl, inr, map, ap, ◌∙◌, sym, length, Err, [], ◌∷◌, ◌++◌}
use Rattle.std.proofs.lemmas.List.{map-append}
use Rattle.std.proofs.lemmas.Bool.{eqb-true}
use Rattle.std.specs.Prelude.{IfErr}
use Rattle.std.specs.declared.alloc.Global.{Global}
use Rattle.std.specs.declared.vec.Vec.{Vec}
use Rattle.termwiz_surface.specs.Unlogged.{lent_value}
use Rattle.termwiz_surface.specs.declared.surface.lists.LentChange.{LentChange}
use Rattle.tikeburo_c.specs.Lists.{listed_in}
use Rattle.tikeburo_c.specs.declared.failure.Failure.TheVariants.{Memory}
use Rattle.tikeburo_c.proofs.Decoded.{failed_by}
use Rattle.tikeburo_c.proofs.Listed.{ends, goes_on, has_texts, is_done}
use Rattle.tikeburo_c.proofs.unlogged.listed_lent_in.Goals as goal

pub returns-in_err-change-clause-missing : goal.returns-in_err-change-clause-missing
returns-in_err-change-clause-missing c =
    let l = c.loop-fields in
    let e = c.in_err-change.field-0.0 in
    let total = listed_in c.args.list.now c.args.texts.now in
    failed_by {A = Vec LentChange Global} (λ r. IfErr r (λ f. f ≡ Memory ⊎ total ≡ Err f)) c.from_residual-in_err-change.result e c.from_residual-in_err-change.ensures.1
    (elim c.in_err-change.ensures.missing [
      | inl memory ↦ inl memory
      | inr wrong ↦ inr (ends c.args.list.now l.fields-index _ (map lent_value l.changes.items) l.rest.now e total c.loop-fields-test.true wrong l.invariant)
    ])

pub loop-fields-preserved : goal.loop-fields-preserved
loop-fields-preserved c =
    let l = c.loop-fields in
    let done = map lent_value l.changes.items in
    let change = c.in_ok-change.change in
    let e : map lent_value c.push.new.self.items ≡ done ++ lent_value change ∷ [] = ap (map lent_value) c.in_ok-push.ensures.items ∙ map-append lent_value l.changes.items (change ∷ []) in
    rw e (goes_on c.args.list.now l.fields-index _ done l.rest.now (lent_value change) c.in_ok-change.others.now (listed_in c.args.list.now c.args.texts.now) c.loop-fields-test.true c.in_ok-change.ensures.found l.invariant)

pub returns-then-not-is_empty-clause-missing : goal.returns-then-not-is_empty-clause-missing
returns-then-not-is_empty-clause-missing c =
    let l = c.loop-fields in
    inr (has_texts c.args.list.now l.fields-index (map lent_value l.changes.items) l.rest.now (listed_in c.args.list.now c.args.texts.now) c.loop-fields-test.false (sym c.is_empty.ensures ∙ c.if-not-is_empty.true) l.invariant)

pub returns-clause-found : goal.returns-clause-found
returns-clause-found c =
    let l = c.loop-fields in
    is_done c.args.list.now l.fields-index (map lent_value l.changes.items) l.rest.now (listed_in c.args.list.now c.args.texts.now) c.loop-fields-test.false (eqb-true (length l.rest.now) 0 (sym c.is_empty.ensures ∙ c.if-not-is_empty.false)) l.invariant
