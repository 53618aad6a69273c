use Rattle.std.proofs.Common.{◌≡◌, ◌∷◌, [], ◌++◌, List, ap, sym, ◌∙◌, append-nil, arith, length, rules}
use Rattle.std.specs.Vec.Iter.{into_iter_items}
use Rattle.termwiz_storage.specs.declared.line.clusterline.runs.AttrsRun.{AttrsRun}
use Rattle.termwiz_storage.specs.CellRuns.{attrs_of}
use Rattle.termwiz_storage.proofs.CellRuns.{attrs_of-push, joined_more, no_runs}
use Rattle.termwiz_storage.proofs.line.clusterline.run_lists.append_attrs.Goals as goal

pub loop-run-init : goal.loop-run-init
loop-run-init c =
    let given = c.into_iter-run-iterator.ensures.into_iter_gives in
    record {
      same = ap (λ (rs : List AttrsRun). attrs_of c.args.runs.now.items ++ attrs_of rs) given.0;
      room = omega arith;
      count = search rules;
    }

pub unwrap-requires : goal.unwrap-requires
unwrap-requires c = c.push.ensures.succeeds (omega (arith, c.in-Some.ensures.steps.1, c.loop-run.invariant.room, c.lengthen_last.ensures.len, c.lengthen_last.ensures.capacity))

pub loop-run-preserved-then-not-lengthen_last : goal.loop-run-preserved-then-not-lengthen_last
loop-run-preserved-then-not-lengthen_last c =
    let at = c.loop-run in
    let run : AttrsRun = c.in-Some.run' in
    let steps : into_iter_items at.run-iterator ≡ run ∷ into_iter_items c.next.new.self = c.in-Some.ensures.steps.0 in
    let short = ap length steps in
    let pushed : c.push.new.self.items ≡ at.runs.items ++ run ∷ [] = rw c.unwrap.ensures at c.push.ensures.items ∙ ap (λ (rs : List AttrsRun). rs ++ run ∷ []) (c.lengthen_last.ensures.no c.if-not-lengthen_last.true) in
    record {
      same = joined_more at.runs.items c.push.new.self.items _ _ _ run (rw pushed (attrs_of-push at.runs.items run)) steps at.invariant.same;
      room = omega (arith, c.in-Some.ensures.steps.1, at.invariant.room, c.lengthen_last.ensures.len, c.lengthen_last.ensures.capacity, c.push.ensures.len, c.push.ensures.capacity);
      count = omega (arith, c.in-Some.ensures.steps.1, at.invariant.count, short);
    }

pub loop-run-preserved-else-not-lengthen_last : goal.loop-run-preserved-else-not-lengthen_last
loop-run-preserved-else-not-lengthen_last c =
    let at = c.loop-run in
    let run : AttrsRun = c.in-Some.run' in
    let steps : into_iter_items at.run-iterator ≡ run ∷ into_iter_items c.next.new.self = c.in-Some.ensures.steps.0 in
    let short = ap length steps in
    record {
      same = joined_more at.runs.items c.lengthen_last.new.runs.items _ _ _ run (c.lengthen_last.ensures.yes c.if-not-lengthen_last.false) steps at.invariant.same;
      room = omega (arith, c.in-Some.ensures.steps.1, at.invariant.room, c.lengthen_last.ensures.len, c.lengthen_last.ensures.capacity);
      count = omega (arith, c.in-Some.ensures.steps.1, at.invariant.count, short);
    }

pub returns : goal.returns
returns c =
    let at = c.loop-run in
    sym (append-nil (attrs_of at.runs.items))
    ∙ ap (λ (rs : List AttrsRun). attrs_of at.runs.items ++ attrs_of rs) (sym (no_runs (into_iter_items at.run-iterator) (sym at.invariant.count ∙ c.in-None.ensures.steps.0)))
    ∙ at.invariant.same
