-- There is one list of clusters, and each byte of a cluster's text tells its cell.
use Rattle.std.proofs.Common.{◌≡◌, ℕ, ◌+◌, List, [], ◌∷◌, ◌++◌, map, length, get_or, refl, sym, ◌∙◌, ap, ap₂, arith, length-append}
use Rattle.termwiz_storage.specs.VisibleCell.{VisibleCell}
use Rattle.std.proofs.lemmas.Grind.{flat_map-append}
use Rattle.std.proofs.lemmas.List.{get_or_append_left, get_or-append-add, get_or-replicate, length-replicate}
use Rattle.termwiz_cell.specs.CellValue.{columns}
use Rattle.termwiz_line.specs.Clusters.{AreCutInto, no_run, next_run, IsWordOrSpaces, cell_of_bytes, cells_of_bytes, cluster_of, look_of}
use Rattle.termwiz_line.specs.CutLaws.{ClustersAreOne, BytesTellTheirCells}
use Rattle.termwiz_line.specs.Pieces.{AreEqualBy}
use Rattle.termwiz_line.specs.Texts.{texts_of}
use Rattle.termwiz_line.proofs.Cuts.{IsCut-same}

parts_same : {A : Type 0} (IsPiece : List A → Type 0) (runs qs : List (List A)) (a b : List (List A)) → runs ≡ qs → AreCutInto IsPiece runs a → AreCutInto IsPiece qs b → a ≡ b
parts_same IsPiece [] [] _ _ e no_run no_run = refl
parts_same IsPiece [] (q ∷ qs) a b e x y = cc
parts_same IsPiece (r ∷ rs) [] a b e x y = cc
parts_same {A} IsPiece (r ∷ rs) (q ∷ qs) _ _ e (next_run {parts = p} {others = o} k c) (next_run {parts = p2} {others = o2} l d) =
    let first : r ≡ q = cc in
    let rest : rs ≡ qs = cc in
    ap₂ (λ (x y : List (List A)). x ++ y) (IsCut-same IsPiece q p p2 (rw (← first) k) l) (parts_same IsPiece rs qs o o2 rest c d)

pub clusters_are_one : ClustersAreOne
clusters_are_one shown cells a b x y =
    let runs = IsCut-same (AreEqualBy (look_of shown)) cells x.runs y.runs x.runs_are y.runs_are in
    x.clusters_are ∙ ap (map (cluster_of shown)) (parts_same IsWordOrSpaces x.runs y.runs x.parts y.parts runs x.parts_are y.parts_are) ∙ sym y.clusters_are

-- there are as many as bytes
length-cells : (cells : List VisibleCell) → length (cells_of_bytes cells) ≡ length (texts_of cells)
length-cells [] = refl
length-cells (c ∷ cs) = omega (arith, length-cells cs, length-append (cell_of_bytes c) (cells_of_bytes cs), length-append c.cell.text (texts_of cs), length-replicate {A = ℕ × ℕ} (length c.cell.text) (c.column, columns c.cell))

pub bytes_tell_their_cells : BytesTellTheirCells
bytes_tell_their_cells before c after k h =
    let all : List (ℕ × ℕ) = cell_of_bytes c ++ cells_of_bytes after in
    let n : length (cell_of_bytes c) ≡ length c.cell.text = length-replicate {A = ℕ × ℕ} (length c.cell.text) (c.column, columns c.cell) in
    let read : get_or (cells_of_bytes before ++ all) (length (cells_of_bytes before) + k) (0, 0) ≡ (c.column, columns c.cell) = get_or-append-add (cells_of_bytes before) all k (0, 0) ∙ get_or_append_left (cell_of_bytes c) (cells_of_bytes after) (0, 0) k (omega (arith, h, n)) ∙ get_or-replicate (length c.cell.text) k (c.column, columns c.cell) (0, 0) h in
    rw (flat_map-append cell_of_bytes before (c ∷ after), ← length-cells before) read
