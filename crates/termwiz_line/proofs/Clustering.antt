-- The state of a walk that cuts visible cells into clusters.
use Rattle.std.proofs.Common.{◌≡◌, ◌≢◌, ℕ, ◌⊎◌, inl, inr, List, [], ◌∷◌, ◌++◌, map, refl, sym, ◌∙◌, ap, Bool, true, false, Option, Some, None, IsTrue, ◌↔◌, rules}
use Rattle.termwiz_storage.specs.VisibleCell.{VisibleCell}
use Rattle.std.proofs.lemmas.Bool.{iff_false}
use Rattle.std.proofs.lemmas.List.{flat_map_more, map-append}
use Rattle.termwiz_cell.specs.Attributes.{Attributes, attributes_eq, attributes_eq-Decides}
use Rattle.termwiz_cell.specs.declared.emoji.Presentation.{Presentation}
use Rattle.termwiz_cell.specs.declared.emoji.Presentation.TheVariants.{Text, Emoji}
use Rattle.termwiz_line.specs.declared.cellcluster.shape.Shape.{Shape}
use Rattle.termwiz_line.specs.Pieces.{IsCut, AreEqualBy, none}
use Rattle.termwiz_line.specs.Wraps.{IsSpace}
use Rattle.termwiz_line.specs.ClusterShapes.{grown, shape_of_one}
use Rattle.termwiz_line.specs.Clusters.{IsNoSpace, IsWordOrSpaces, ClusterValue, look_of, look_of_first, cell_of_bytes, cluster_of, with_cell, AreClusters, no_run}
use Rattle.termwiz_line.proofs.Cuts.{AreClosed, IsUnderWay, under_way-start, under_way-grows, under_way-ends, under_way-done}
use Rattle.termwiz_line.proofs.Decided.{decided}
use Rattle.termwiz_line.proofs.EqualBy.{AreEqualBy-closed, AreEqualBy-takes, AreEqualBy-refuses}
use Rattle.termwiz_line.proofs.Nested.{IsBoth, IsBoth-closed, AreNested, nested}
use Rattle.termwiz_line.proofs.WordOrSpaces.{IsWordOrSpaces-closed, HasShape, HasShape-one, HasShape-some, HasShape-piece, HasShape-grows, HasShape-ends}
use Rattle.termwiz_line.proofs.Wrapping.{columns_of-push}

same_presentation : (a b : Presentation) → (a ≡ b) ⊎ (a ≡ b → ⊥)
same_presentation Text Text = inl refl
same_presentation Text Emoji = inr (λ e. cc)
same_presentation Emoji Text = inr (λ e. cc)
same_presentation Emoji Emoji = inl refl

pub same_look : (a b : Attributes × Presentation) → (a ≡ b) ⊎ (a ≡ b → ⊥)
same_look a b = elim (decided (attributes_eq a.0 b.0) (attributes_eq-Decides a.0 b.0)) [
  | inr n ↦ inr (λ e. n (ap (λ (l : Attributes × Presentation). l.0) e))
  | inl e ↦ elim (same_presentation a.1 b.1) [
    | inr n ↦ inr (λ e. n (ap (λ (l : Attributes × Presentation). l.1) e))
    | inl f ↦ inl (λ i. (e i, f i))
  ]
]

-- cells of one look that are a word or spaces
abbrev pub IsCluster : (List ℕ → Presentation × Option Presentation) → List VisibleCell → Type 0
IsCluster shown = IsBoth (AreEqualBy (look_of shown)) IsWordOrSpaces

module _ (shown : List ℕ → Presentation × Option Presentation) where
  cluster_of-push : (p : List VisibleCell) (x : VisibleCell) → p ≢ [] → cluster_of shown (p ++ x ∷ []) ≡ with_cell (cluster_of shown p) x
  cluster_of-push [] x n = absurd (n refl)
  cluster_of-push (c ∷ cs) x n = rw (← flat_map_more (λ q. q.cell.text) [] (c ∷ cs) x, ← flat_map_more cell_of_bytes [] (c ∷ cs) x, columns_of-push (c ∷ cs) x) refl

  closed : AreClosed (IsCluster shown)
  closed = IsBoth-closed (AreEqualBy (look_of shown)) IsWordOrSpaces (AreEqualBy-closed (look_of shown)) IsWordOrSpaces-closed

when_true : {P : Type 0} (b : Bool) → (IsTrue b ↔ P) → b ≡ true → P
when_true b h e = h.0 (search rules)

-- the state of the loop: clusters that are done, and one that may grow
pub record IsClustering (shown : List ℕ → Presentation × Option Presentation) (first : VisibleCell) (rest left : List VisibleCell) (clusters : List ClusterValue) (cluster : ClusterValue) (shape : Shape) : Type 0 where
  pub before : List (List VisibleCell)
  pub now : List VisibleCell
  pub has_shape : HasShape shape now
  pub under_way : IsUnderWay (IsCluster shown) first rest before now left
  pub clusters_are : clusters ≡ map (cluster_of shown) before
  pub cluster_is : cluster ≡ cluster_of shown now

abbrev pub look_of_cluster : ClusterValue → Attributes × Presentation
look_of_cluster k = (k.attrs, k.presentation)

module _ (shown : List ℕ → Presentation × Option Presentation) (first : VisibleCell) (rest : List VisibleCell) where
  pub clustering-start : (space : Bool) → (IsTrue space ↔ IsSpace first) → IsClustering shown first rest rest [] (cluster_of shown (first ∷ [])) (shape_of_one space)
  clustering-start space s = record { before = []; now = first ∷ []; has_shape = HasShape-one space first (when_true space s) (iff_false s); under_way = under_way-start (IsCluster shown) (closed shown) first rest; clusters_are = refl; cluster_is = refl }

  look_is : (k : ClusterValue) (p : List VisibleCell) → k ≡ cluster_of shown p → look_of_cluster k ≡ look_of_first shown p
  look_is k p e = ap look_of_cluster e

  pub clustering-grows : (left : List VisibleCell) (clusters : List ClusterValue) (cluster : ClusterValue) (shape next : Shape) (x : VisibleCell) (look space : Bool) → grown shape look space ≡ Some next → (IsTrue look ↔ (look_of shown x ≡ look_of_cluster cluster)) → (IsTrue space ↔ IsSpace x) → IsClustering shown first rest (x ∷ left) clusters cluster shape → IsClustering shown first rest left clusters (with_cell cluster x) next
  clustering-grows left clusters cluster shape next x look space e l s z =
      let h = HasShape-grows shape look space next z.now x z.has_shape e (when_true space s) (iff_false s) in
      let n : z.now ≢ [] = HasShape-some shape z.now z.has_shape in
      let same : look_of shown x ≡ look_of_first shown z.now = when_true look l h.0 ∙ look_is cluster z.now z.cluster_is in
      record {
        before = z.before;
        now = z.now ++ x ∷ [];
        has_shape = h.1;
        under_way = under_way-grows (IsCluster shown) first rest z.before z.now left x (record { left = AreEqualBy-takes (look_of shown) (look_of_first shown) (λ c cs. refl) z.now x n same z.under_way.piece.left; right = HasShape-piece next (z.now ++ x ∷ []) h.1 }) z.under_way;
        clusters_are = z.clusters_are;
        cluster_is = rw z.cluster_is (sym (cluster_of-push shown z.now x n));
      }

  stops : (shape : Shape) (look space : Bool) (now : List VisibleCell) (x : VisibleCell) (k : ClusterValue) → HasShape shape now → k ≡ cluster_of shown now → grown shape look space ≡ None → (look ≡ false → look_of shown x ≡ look_of_cluster k → ⊥) → (space ≡ false → IsNoSpace x) → IsCluster shown (now ++ x ∷ []) → ⊥
  stops shape true space now x k h e g l b w = HasShape-ends shape true space now x h g b refl w.right
  stops shape false space now x k h e g l b w = AreEqualBy-refuses (look_of shown) (look_of_first shown) (λ c cs. refl) now x (HasShape-some shape now h) (λ q. l refl (q ∙ sym (look_is k now e))) w.left

  pub clustering-ends : (left : List VisibleCell) (clusters : List ClusterValue) (cluster : ClusterValue) (shape : Shape) (x : VisibleCell) (look space : Bool) → grown shape look space ≡ None → (IsTrue look ↔ (look_of shown x ≡ look_of_cluster cluster)) → (IsTrue space ↔ IsSpace x) → IsClustering shown first rest (x ∷ left) clusters cluster shape → IsClustering shown first rest left (clusters ++ cluster ∷ []) (cluster_of shown (x ∷ [])) (shape_of_one space)
  clustering-ends left clusters cluster shape x look space e l s z = record {
    before = z.before ++ z.now ∷ [];
    now = x ∷ [];
    has_shape = HasShape-one space x (when_true space s) (iff_false s);
    under_way = under_way-ends (IsCluster shown) (closed shown) first rest z.before z.now left x (stops shape look space z.now x cluster z.has_shape z.cluster_is e (iff_false l) (iff_false s)) z.under_way;
    clusters_are = rw (z.clusters_are, z.cluster_is) (sym (map-append (cluster_of shown) z.before (z.now ∷ [])));
    cluster_is = refl;
  }

  pub clustering-done : (clusters : List ClusterValue) (cluster : ClusterValue) (shape : Shape) → IsClustering shown first rest [] clusters cluster shape → AreClusters shown (first ∷ rest) (clusters ++ cluster ∷ [])
  clustering-done clusters cluster shape z =
      let parts : List (List VisibleCell) = z.before ++ z.now ∷ [] in
      let c : IsCut (IsCluster shown) (first ∷ rest) parts = under_way-done (IsCluster shown) (closed shown) first rest z.before z.now z.under_way in
      let n : AreNested (look_of shown) IsWordOrSpaces parts = nested (look_of shown) IsWordOrSpaces (λ x y. same_look (look_of shown x) (look_of shown y)) parts c.longest in
      record {
        runs = n.runs;
        parts = parts;
        runs_are = record { whole = n.whole ∙ c.whole; longest = n.longest };
        parts_are = n.cut;
        clusters_are = rw (z.clusters_are, z.cluster_is) (sym (map-append (cluster_of shown) z.before (z.now ∷ [])));
      }

-- no cells have no clusters
pub clusters-none : (shown : List ℕ → Presentation × Option Presentation) → AreClusters shown [] []
clusters-none shown = record { runs = []; parts = []; runs_are = record { whole = refl; longest = none }; parts_are = no_run; clusters_are = refl }
