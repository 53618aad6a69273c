-- The clusters of visible cells, one after another, have the texts, the columns and the bytes of
-- these.
use Rattle.std.proofs.Common.{◌≡◌, ℕ, ◌+◌, List, [], ◌∷◌, ◌++◌, map, refl, sym, ◌∙◌, ap, ap₂, append_assoc}
use Rattle.termwiz_storage.specs.VisibleCell.{VisibleCell}
use Rattle.std.specs.List.{flat_map}
use Rattle.std.specs.Prelude.{sum_by, Option}
use Rattle.std.proofs.lemmas.List.Sums.{sum_by-cons}
use Rattle.std.proofs.lemmas.Grind.{flat_map-append}
use Rattle.termwiz_cell.specs.declared.emoji.Presentation.{Presentation}
use Rattle.termwiz_line.specs.Clusters.{AreCutInto, no_run, next_run, IsWordOrSpaces, cell_of_bytes, cells_of_bytes, cluster_of}
use Rattle.termwiz_line.specs.CutLaws.{ClustersJoin}
use Rattle.termwiz_line.specs.Pieces.{joined}
use Rattle.termwiz_line.specs.Texts.{texts_of}
use Rattle.termwiz_line.specs.Wraps.{columns_taken}
use Rattle.termwiz_line.proofs.Wrapping.{columns_of-append}

joined-append : {A : Type 0} (a b : List (List A)) → joined (a ++ b) ≡ joined a ++ joined b
joined-append [] b = refl
joined-append (p ∷ ps) b = rw (joined-append ps b, append_assoc p (joined ps) (joined b)) refl

-- the parts join to what the runs join to
parts_join : {A : Type 0} (IsPiece : List A → Type 0) (runs parts : List (List A)) → AreCutInto IsPiece runs parts → joined parts ≡ joined runs
parts_join IsPiece [] _ no_run = refl
parts_join {A} IsPiece (r ∷ rs) _ (next_run {parts = p} {others = o} cut rest) =
    joined-append p o ∙ ap₂ (λ (x y : List A). x ++ y) cut.whole (parts_join IsPiece rs o rest)

module _ (shown : List ℕ → Presentation × Option Presentation) where
  texts_join : (parts : List (List VisibleCell)) → flat_map (λ k. k.text) (map (cluster_of shown) parts) ≡ texts_of (joined parts)
  texts_join [] = refl
  texts_join (p ∷ ps) = rw (texts_join ps, flat_map-append (λ (c : VisibleCell). c.cell.text) p (joined ps)) refl

  widths_join : (parts : List (List VisibleCell)) → sum_by (λ k. k.width) (map (cluster_of shown) parts) ≡ columns_taken (joined parts)
  widths_join [] = refl
  widths_join (p ∷ ps) = sum_by-cons (λ k. k.width) (cluster_of shown p) (map (cluster_of shown) ps) ∙ ap (λ n. columns_taken p + n) (widths_join ps) ∙ sym (columns_of-append p (joined ps))

  bytes_join : (parts : List (List VisibleCell)) → flat_map (λ k. k.cells_of_bytes) (map (cluster_of shown) parts) ≡ cells_of_bytes (joined parts)
  bytes_join [] = refl
  bytes_join (p ∷ ps) = rw (bytes_join ps, flat_map-append cell_of_bytes p (joined ps)) refl

pub clusters_join : ClustersJoin
clusters_join shown cells clusters h =
    let whole : joined h.parts ≡ cells = parts_join IsWordOrSpaces h.runs h.parts h.parts_are ∙ h.runs_are.whole in
    record {
      texts = ap (flat_map (λ k. k.text)) h.clusters_are ∙ texts_join shown h.parts ∙ ap texts_of whole;
      widths = ap (λ ks. sum_by (λ k. k.width) ks) h.clusters_are ∙ widths_join shown h.parts ∙ ap columns_taken whole;
      bytes = ap (flat_map (λ k. k.cells_of_bytes)) h.clusters_are ∙ bytes_join shown h.parts ∙ ap cells_of_bytes whole;
    }
