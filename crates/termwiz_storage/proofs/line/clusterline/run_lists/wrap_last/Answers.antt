use Rattle.std.proofs.Common.{◌≡◌, ℕ, ◌+◌, ◌-◌, ◌++◌, ◌∷◌, [], List, replicate, arith, ap, sym, ◌∙◌, get_or, length, length-append}
use Rattle.termwiz_storage.proofs.CellRuns.{last_read}
use Rattle.std.proofs.lemmas.List.Concat.{flat_map-append}
use Rattle.termwiz_cell.specs.Attributes.{Attributes}
use Rattle.termwiz_storage.specs.declared.line.clusterline.runs.AttrsRun.{AttrsRun}
use Rattle.termwiz_storage.specs.CellRuns.{attrs_of, map_last, marked}
use Rattle.termwiz_storage.proofs.ClusterWrapped.{map_last-run}
use Rattle.termwiz_storage.proofs.line.clusterline.run_lists.wrap_last.Goals as goal

pub returns-in-Some-clause-ok : goal.returns-in-Some-clause-ok
returns-in-Some-clause-ok c =
    let last : AttrsRun = c.in-Some.last in
    let front : List AttrsRun = c.pop.new.self.items in
    let f : Attributes → Attributes = marked c.args.wrapped in
    let m : last.cells ≡ last.cells - 1 + 1 = omega (arith, last.some) in
    let items : c.args.runs.now.items ≡ front ++ last ∷ [] = c.in-Some.ensures.items in
    let old : attrs_of c.args.runs.now.items ≡ attrs_of front ++ (replicate (last.cells - 1 + 1) last.attrs ++ []) =
    ap attrs_of items ∙ flat_map-append (λ (r : AttrsRun). replicate r.cells r.attrs) front (last ∷ []) ∙ ap (λ (n : ℕ). attrs_of front ++ (replicate n last.attrs ++ [])) m in
    let read : AttrsRun = c.index.result.now in
    let read_is : read ≡ last =
    c.index.ensures ∙ ap (λ (z : List AttrsRun). get_or z (c.len-count.result - 1) read) items ∙ last_read front last read (c.len-count.result - 1) (omega (arith, ap length items, length-append front (last ∷ []))) in
    let attrs : c.in_ok-attrs.attrs ≡ f last.attrs = c.in_ok-attrs.ensures ∙ ap (λ (r : AttrsRun). f r.attrs) read_is in
    c.push_run-in-Some.ensures.attrs ∙ rw (c.push_run.ensures.attrs, attrs) (sym (ap (map_last f) old ∙ map_last-run f (attrs_of front) (last.cells - 1) last.attrs))
