use Rattle.std.proofs.Common.{◌≡◌, ◌+◌, List, length, min, arith, refl, sym, ◌∙◌, ap, subst, rules}
use Rattle.std.proofs.lemmas.Bool.{iff_false}
use Rattle.termwiz_cell.specs.CellValue.{CellValue, blank, columns}
use Rattle.termwiz_storage.specs.Stored.{visible, IsKept}
use Rattle.termwiz_storage.specs.CellRef.{indexed_cell}
use Rattle.termwiz_storage.proofs.CellRefs.{ref_cell-is, contents-is}
use Rattle.termwiz_storage.proofs.Kept.{EndsAt, blank_cell, other_cell, nothing, IsKept-ends}
use Rattle.termwiz_storage.proofs.line.clusterline.ClusteredLine.walked_len.Goals as goal
use Rattle.termwiz_storage.specs.VisibleCell.{VisibleCell}

pub returns : goal.returns
returns c =
    let h = c.loop-cell.invariant.end_is in
    let cs : List CellValue = c.args.self.now in
    let walk : c.into_iter-cell-iterator.result ≡ visible cs = c.into_iter-cell-iterator.ensures.into_iter_gives ∙ c.iter-cell-items.ensures in
    let end : EndsAt 0 c.into_iter-cell-iterator.result h.0 = h.2 h.0 (subst (λ (z : List VisibleCell). EndsAt h.0 z h.0) (sym c.in-None.ensures.steps.0) nothing) in
    let kept : IsKept cs (min h.0 (length cs)) = IsKept-ends cs h.0 (subst (λ (z : List VisibleCell). EndsAt 0 z h.0) walk end) in
    let len : c.self.inside.len ≡ length cs = c.self.invariant.len ∙ ap length c.self.view_is in
    let n : c.min.result ≡ min h.0 (length cs) = omega (arith, h.1, c.self.invariant.fits) in
    rw n kept

pub loop-cell-init : goal.loop-cell-init
loop-cell-init c = record { can = tt; finite = tt; end_is = (0, omega arith, λ e t. t) }

pub loop-cell-preserved : goal.loop-cell-preserved
loop-cell-preserved c =
    let h = c.loop-cell.invariant.end_is in
    record { can = tt; finite = tt; end_is = (h.0, h.1, λ e t. h.2 e (subst (λ (z : List VisibleCell). EndsAt h.0 z e) (sym c.in-Some.ensures.steps.0) (blank_cell (ref_cell-is c.in-Some.cell blank c.in-Some.ensures.steps.1.width (c.is_blank.ensures.0 (search rules))) t))) }

pub loop-cell-preserved-then-not-is_blank : goal.loop-cell-preserved-then-not-is_blank
loop-cell-preserved-then-not-is_blank c =
    let h = c.loop-cell.invariant.end_is in
    let p : VisibleCell = indexed_cell c.in-Some.cell in
    record {
      can = tt;
      finite = tt;
      end_is = (p.column + columns p.cell, c.saturating_add-kept.ensures ∙ rw (c.cell_index.ensures, c.width.ensures, c.in-Some.ensures.steps.1.width) refl, λ e t. h.2 e (subst (λ (z : List VisibleCell). EndsAt h.0 z e) (sym c.in-Some.ensures.steps.0) (other_cell (λ e. iff_false c.is_blank.ensures c.if-not-is_blank.true (contents-is c.in-Some.cell blank c.in-Some.ensures.steps.1.width e)) t)));
    }
