use Rattle.std.proofs.Common.{◌≡◌, ◌≢◌, ◌-◌, ◌≤◌, List, ◌∷◌, length, subst, sym, take, arith, ◌∙◌}
use Rattle.std.proofs.lemmas.Result.{IfOk-weaker}
use Rattle.termwiz_storage.specs.CellRef.{indexed_cell}
use Rattle.termwiz_storage.specs.CellsLeft.{cells_left}
use Rattle.termwiz_storage.specs.Storage.{cells_in}
use Rattle.termwiz_storage.specs.Stored.{visible}
use Rattle.termwiz_storage.specs.VisibleCell.{VisibleCell}
use Rattle.termwiz_line.specs.Trim.{IsTrimmed}
use Rattle.termwiz_line.specs.Zones.{IsBlank}
use Rattle.termwiz_line.proofs.Walk.{walk_grows}
use Rattle.termwiz_line.proofs.Zoned.{AreZones-none, AreZones-kept}
use Rattle.termwiz_line.proofs.line.line.zones.zones_of.Goals.{then-kept-eq0, else-kept-eq0}
use Rattle.termwiz_line.proofs.line.line.zones.zones_of.Goals as goal

pub kept_count-kept-requires : goal.kept_count-kept-requires
kept_count-kept-requires c = rw c.iter.ensures (omega (arith, (walk_grows 0 0 (cells_in c.args.storage.now)).0))

pub returns-in-None : goal.returns-in-None
returns-in-None c = rw c.new.ensures.items (AreZones-none (visible (cells_in c.args.storage.now)) (sym c.iter-rest.ensures ∙ c.in-None.ensures.steps.0))

pub returns-after-kept-eq0 : goal.returns-after-kept-eq0
returns-after-kept-eq0 c =
    let cells : List VisibleCell = visible (cells_in c.args.storage.now) in
    let e : cells ≡ indexed_cell c.in-Some.first ∷ cells_left c.next.new.self = sym c.iter-rest.ensures ∙ c.in-Some.ensures.steps.0 in
    let t : IsTrimmed IsBlank cells (take c.kept_count-kept.result cells) = subst (λ (x : List VisibleCell). IsTrimmed IsBlank x (take c.kept_count-kept.result x)) c.iter.ensures c.kept_count-kept.ensures in
    let l : length cells ≤ c.len-len.result = omega (arith, (walk_grows 0 0 (cells_in c.args.storage.now)).0, c.len-len.ensures) in
    let a : c.kept_count-kept.result ≡ 0 → length cells ≤ c.if-kept-eq0.count = λ h. elim c.if-kept-eq0.branch [ then-kept-eq0 w ↦ omega (arith, l, w.count-is) | else-kept-eq0 w ↦ absurd (w.if-kept-eq0.false h) ] in
    let b : c.kept_count-kept.result ≢ 0 → c.if-kept-eq0.count ≡ c.kept_count-kept.result - 1 = λ h. elim c.if-kept-eq0.branch [ then-kept-eq0 w ↦ absurd (h w.if-kept-eq0.true) | else-kept-eq0 w ↦ w.count-is ] in
    IfOk-weaker c.zones_from.result _ _ (λ z h. AreZones-kept cells c.kept_count-kept.result c.if-kept-eq0.count (indexed_cell c.in-Some.first) (cells_left c.next.new.self) z.items e t a b h) c.zones_from.ensures
