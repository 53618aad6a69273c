use Rattle.std.proofs.Common.{◌≡◌, ℕ, ◌+◌, ◌<◌, Bool, true, false, List, length, get_or, drop, sym, ◌∙◌, ap, arith, rules}
use Rattle.std.specs.Prelude.{◌||◌}
use Rattle.std.specs.List.{list_any}
use Rattle.std.specs.Option.{is_some}
use Rattle.termwiz_storage.specs.declared.line.clusterline.runs.AttrsRun.{AttrsRun}
use Rattle.termwiz_storage.specs.CellRuns.{attrs_of}
use Rattle.termwiz_storage.proofs.CellRuns.{attrs_of-drop}
use Rattle.termwiz_storage.proofs.Linked.{linked-run}
use Rattle.termwiz_storage.proofs.line.clusterline.run_lists.has_link.Goals as goal

abbrev any_link : List AttrsRun → Bool
any_link rs = list_any (λ a. is_some a.hyperlink) (attrs_of rs)

from_run : (rs : List AttrsRun) (k : ℕ) (r : AttrsRun) → k < length rs → r ≡ get_or rs k r → any_link (drop k rs) ≡ (is_some r.attrs.hyperlink || any_link (drop (k + 1) rs))
from_run rs k r l e = ap (list_any (λ a. is_some a.hyperlink)) (attrs_of-drop rs k r l e) ∙ linked-run r.cells r.attrs (attrs_of (drop (k + 1) rs)) r.some

pub returns-then-is_some : goal.returns-then-is_some
returns-then-is_some c =
    let runs : List AttrsRun = c.args.runs.now in
    let run : AttrsRun = c.run-item.result in
    let k : ℕ = c.loop-run.run-index in
    let linked : is_some run.attrs.hyperlink ≡ true = search rules in
    sym (ap (λ (b : Bool). b || any_link (drop (k + 1) runs)) linked) ∙ sym (from_run runs k run (omega arith) c.run-item.is) ∙ c.loop-run.invariant

pub loop-run-preserved : goal.loop-run-preserved
loop-run-preserved c =
    let runs : List AttrsRun = c.args.runs.now in
    let run : AttrsRun = c.run-item.result in
    let k : ℕ = c.loop-run.run-index in
    let none : is_some run.attrs.hyperlink ≡ false = search rules in
    sym (ap (λ (b : Bool). b || any_link (drop (k + 1) runs)) none) ∙ sym (from_run runs k run (omega arith) c.run-item.is) ∙ c.loop-run.invariant
