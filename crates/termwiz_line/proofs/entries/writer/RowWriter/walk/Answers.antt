use Rattle.std.proofs.Common.{◌++◌, ◌∷◌, [], List, map, refl, ap, sym, ◌∙◌, append_assoc, append-nil, subst}
use Rattle.std.proofs.lemmas.List.{map-append}
use Rattle.termwiz_storage.specs.CellRef.{indexed_cell}
use Rattle.termwiz_storage.specs.CellsLeft.{cells_left}
use Rattle.termwiz_storage.specs.VisibleCell.{VisibleCell}
use Rattle.termwiz_line.specs.Writing.{IsWritten}
use Rattle.termwiz_line.proofs.entries.writer.RowWriter.walk.Goals as goal

pub loop-cell-init : goal.loop-cell-init
loop-cell-init c = record {
  can = tt;
  finite = tt;
  written = λ from before z. subst (λ (cs : List VisibleCell). IsWritten from cs c.args.self.now) (sym (append-nil before)) z;
  same = refl;
}

pub loop-cell-preserved : goal.loop-cell-preserved
loop-cell-preserved c =
    let cell = c.in-Some.cell in
    let done = c.loop-cell.yielded in
    let more = map-append indexed_cell done (cell ∷ []) in
    record {
      can = tt;
      finite = tt;
      written = λ from before z. subst (λ (cs : List VisibleCell). IsWritten from cs c.cell.new.self)
          (append_assoc before (map indexed_cell done) (indexed_cell cell ∷ []) ∙ ap (λ l. before ++ l) (sym more))
          (c.in_ok-cell.ensures from (before ++ map indexed_cell done) (indexed_cell cell) (sym c.str.ensures) (sym c.attrs.ensures) (c.loop-cell.invariant.written from before z));
      same =
          ap (λ l. l ++ cells_left c.next.new.self) more ∙ append_assoc (map indexed_cell done) (indexed_cell cell ∷ []) (cells_left c.next.new.self)
          ∙ ap (λ l. map indexed_cell done ++ l) (sym c.in-Some.ensures.steps.0) ∙ c.loop-cell.invariant.same;
    }

pub returns : goal.returns
returns c =
    λ from before z. subst (λ (cs : List VisibleCell). IsWritten from cs c.loop-cell.self)
    (ap (λ l. before ++ l) (sym (append-nil (map indexed_cell c.loop-cell.yielded)) ∙ ap (λ l. map indexed_cell c.loop-cell.yielded ++ l) (sym c.in-None.ensures.steps.0) ∙ c.loop-cell.invariant.same ∙ ap cells_left c.into_iter-cell-iterator.ensures.into_iter_gives))
    (c.loop-cell.invariant.written from before z)
