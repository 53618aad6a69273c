use Rattle.std.proofs.Common.{rules, refl, sym}
use Rattle.std.proofs.Output.{has_written_append, has_written_of_eq}
use Rattle.std.specs.Map.Iter.{deref_pair}
use Rattle.termwiz_cell.specs.Link.{param_bytes}
use Rattle.termwiz_cell.proofs.ParamLists.{separator_after-push, params_text-push}
use Rattle.termwiz_cell.proofs.hyperlink.params.write_params.Goals as goal

pub loop-key-preserved : goal.loop-key-preserved
loop-key-preserved g c = (
  tt,
  tt,
  sym (separator_after-push c.loop-key.yielded (c.in-Some.key, c.in-Some.value)),
  (λ plain.
      let so_far = c.loop-key.invariant.3 plain in
      has_written_of_eq _ _ _ _ _ (params_text-push param_bytes deref_pair c.loop-key.yielded (c.in-Some.key, c.in-Some.value) c.loop-key.separator.now c.loop-key.invariant.2) (has_written_append _ _ _ _ _ _ so_far (c.in_ok-write.ensures.writes so_far.plain refl))),
  search rules,
)
