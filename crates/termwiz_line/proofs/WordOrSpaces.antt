-- Words and spaces: where a cluster that grows from the left has to end.
use Rattle.std.proofs.Common.{◌≡◌, ◌≢◌, ◌⊎◌, inl, inr, List, [], ◌∷◌, ◌++◌, refl, sym, ◌∙◌, ap, subst, append_assoc, Bool, true, false, Some, None}
use Rattle.termwiz_storage.specs.VisibleCell.{VisibleCell}
use Rattle.std.specs.Prelude.{bytes_eq}
use Rattle.std.proofs.lemmas.List.{append-nil}
use Rattle.std.specs.Cmp.Lexicographic.{bytes_decides}
use Rattle.std.specs.List.{All}
use Rattle.std.proofs.lemmas.List.Elements.{All-nil, All-push, All-cons, All-head}
use Rattle.termwiz_cell.specs.CellValue.{space}
use Rattle.termwiz_line.specs.declared.cellcluster.shape.Shape.{Shape}
use Rattle.termwiz_line.specs.declared.cellcluster.shape.Shape.TheVariants.{Spaces, Word, WordAndSpace}
use Rattle.termwiz_line.specs.Wraps.{IsSpace}
use Rattle.termwiz_line.specs.Clusters.{IsNoSpace, IsWordOrSpaces, spaces, word, word_and_space}
use Rattle.termwiz_line.specs.ClusterShapes.{grown, shape_of_one}
use Rattle.termwiz_line.proofs.Cuts.{AreClosed}
use Rattle.termwiz_line.proofs.Decided.{decided}
use Rattle.termwiz_line.proofs.Ends.{All-beginning, All-last, last_same, init_same, split_last, not_nil-append}

pub is_space_or_not : (c : VisibleCell) → IsSpace c ⊎ IsNoSpace c
is_space_or_not c = decided (bytes_eq c.cell.text space) (bytes_decides c.cell.text space)

first_is : (P : VisibleCell → Type 0) (p : List VisibleCell) → p ≢ [] → All P p → (Q : VisibleCell → Type 0) → All Q p → (c : VisibleCell) × P c × Q c
first_is P [] n h Q k = absurd (n refl)
first_is P (c ∷ cs) n h Q k = (c, All-head P c cs h, All-head Q c cs k)

clash : (p : List VisibleCell) → p ≢ [] → All IsSpace p → All IsNoSpace p → ⊥
clash p n h k = let f = first_is IsSpace p n h IsNoSpace k in f.2 f.1

-- spaces take no other cell
spaces_full : (p : List VisibleCell) (x : VisibleCell) (w : List VisibleCell) → p ≢ [] → All IsSpace p → IsNoSpace x → IsWordOrSpaces w → w ≡ p ++ x ∷ [] → ⊥
spaces_full p x w n h k (spaces a) e = k (All-last IsSpace p x (subst (λ (z : List VisibleCell). All IsSpace z) e a))
spaces_full p x w n h k (word m a) e = clash p n h (All-beginning IsNoSpace p (x ∷ []) (subst (λ (z : List VisibleCell). All IsNoSpace z) e a))
spaces_full p x _ n h k (word_and_space q s m a b) e = k (subst IsSpace (last_same q p s x e) b)

-- a word and its space take nothing more
word_full : (p : List VisibleCell) (t x : VisibleCell) (w : List VisibleCell) → p ≢ [] → All IsNoSpace p → IsSpace t → IsWordOrSpaces w → w ≡ (p ++ t ∷ []) ++ x ∷ [] → ⊥
word_full p t x w n h k (spaces a) e =
    let b : All IsSpace ((p ++ t ∷ []) ++ x ∷ []) = subst (λ (z : List VisibleCell). All IsSpace z) e a in
    clash p n (All-beginning IsSpace p (t ∷ []) (All-beginning IsSpace (p ++ t ∷ []) (x ∷ []) b)) h
word_full p t x w n h k (word m a) e =
    let b : All IsNoSpace ((p ++ t ∷ []) ++ x ∷ []) = subst (λ (z : List VisibleCell). All IsNoSpace z) e a in
    All-last IsNoSpace p t (All-beginning IsNoSpace (p ++ t ∷ []) (x ∷ []) b) k
word_full p t x _ n h k (word_and_space q s m a b) e =
    let r : q ≡ p ++ t ∷ [] = init_same q (p ++ t ∷ []) s x e in
    All-last IsNoSpace p t (subst (λ (z : List VisibleCell). All IsNoSpace z) r a) k

beginning : (p more w : List VisibleCell) → p ≢ [] → IsWordOrSpaces w → w ≡ p ++ more → IsWordOrSpaces p
beginning p more w n (spaces a) e = spaces (All-beginning IsSpace p more (subst (λ (z : List VisibleCell). All IsSpace z) e a))
beginning p more w n (word m a) e = word n (All-beginning IsNoSpace p more (subst (λ (z : List VisibleCell). All IsNoSpace z) e a))
beginning p [] _ n (word_and_space q s m a b) e = subst IsWordOrSpaces (e ∙ append-nil p) (word_and_space q s m a b)
beginning p (y ∷ ys) _ n (word_and_space q s m a b) e =
    let l = split_last y ys in
    let e' : q ++ s ∷ [] ≡ (p ++ l.0) ++ l.1 ∷ [] = e ∙ ap (λ z. p ++ z) l.2 ∙ sym (append_assoc p l.0 (l.1 ∷ [])) in
    let r : q ≡ p ++ l.0 = init_same q (p ++ l.0) s l.1 e' in
    word n (All-beginning IsNoSpace p l.0 (subst (λ (z : List VisibleCell). All IsNoSpace z) r a))

single : (x : VisibleCell) → IsSpace x ⊎ IsNoSpace x → IsWordOrSpaces (x ∷ [])
single x (inl h) = spaces (All-cons IsSpace x [] h (All-nil IsSpace))
single x (inr h) = word (λ e. cc) (All-cons IsNoSpace x [] h (All-nil IsNoSpace))

pub IsWordOrSpaces-closed : AreClosed IsWordOrSpaces
IsWordOrSpaces-closed = record {
  beginning = λ p more n h. beginning p more (p ++ more) n h refl;
  single = λ x. single x (is_space_or_not x);
}

-- ---- what a cluster holds so far

pub data HasShape : Shape → List VisibleCell → Type 0 where
  has_spaces : {p : List VisibleCell} → p ≢ [] → All IsSpace p → HasShape Spaces p
  has_word : {p : List VisibleCell} → p ≢ [] → All IsNoSpace p → HasShape Word p
  has_word_and_space : (p : List VisibleCell) (s : VisibleCell) → p ≢ [] → All IsNoSpace p → IsSpace s → HasShape WordAndSpace (p ++ s ∷ [])

pub HasShape-one : (space : Bool) (x : VisibleCell) → (space ≡ true → IsSpace x) → (space ≡ false → IsNoSpace x) → HasShape (shape_of_one space) (x ∷ [])
HasShape-one true x a b = has_spaces (λ e. cc) (All-cons IsSpace x [] (a refl) (All-nil IsSpace))
HasShape-one false x a b = has_word (λ e. cc) (All-cons IsNoSpace x [] (b refl) (All-nil IsNoSpace))

pub HasShape-some : (s : Shape) (p : List VisibleCell) → HasShape s p → p ≢ []
HasShape-some s p (has_spaces n a) = n
HasShape-some s p (has_word n a) = n
HasShape-some s _ (has_word_and_space q t n a b) = not_nil-append q t []

pub HasShape-piece : (s : Shape) (p : List VisibleCell) → HasShape s p → IsWordOrSpaces p
HasShape-piece s p (has_spaces n a) = spaces a
HasShape-piece s p (has_word n a) = word n a
HasShape-piece s _ (has_word_and_space q t n a b) = word_and_space q t n a b

pub HasShape-grows : (s : Shape) (look space : Bool) (t : Shape) (p : List VisibleCell) (x : VisibleCell) → HasShape s p → grown s look space ≡ Some t → (space ≡ true → IsSpace x) → (space ≡ false → IsNoSpace x) → (look ≡ true) × HasShape t (p ++ x ∷ [])
HasShape-grows Spaces true true t p x (has_spaces n a) e y z = (refl, let q : Spaces ≡ t = cc in subst (λ (u : Shape). HasShape u (p ++ x ∷ [])) q (has_spaces (not_nil-append p x []) (All-push IsSpace p x a (y refl))))
HasShape-grows Word true false t p x (has_word n a) e y z = (refl, let q : Word ≡ t = cc in subst (λ (u : Shape). HasShape u (p ++ x ∷ [])) q (has_word (not_nil-append p x []) (All-push IsNoSpace p x a (z refl))))
HasShape-grows Word true true t p x (has_word n a) e y z = (refl, let q : WordAndSpace ≡ t = cc in subst (λ (u : Shape). HasShape u (p ++ x ∷ [])) q (has_word_and_space p x n a (y refl)))
HasShape-grows Spaces true false t p x h e y z = cc
HasShape-grows WordAndSpace true b t p x h e y z = cc
HasShape-grows Spaces false b t p x h e y z = cc
HasShape-grows Word false b t p x h e y z = cc
HasShape-grows WordAndSpace false b t p x h e y z = cc

pub HasShape-ends : (s : Shape) (look space : Bool) (p : List VisibleCell) (x : VisibleCell) → HasShape s p → grown s look space ≡ None → (space ≡ false → IsNoSpace x) → look ≡ true → IsWordOrSpaces (p ++ x ∷ []) → ⊥
HasShape-ends Spaces true false p x (has_spaces n a) e z l w = spaces_full p x (p ++ x ∷ []) n a (z refl) w refl
HasShape-ends WordAndSpace true b _ x (has_word_and_space q t n a k) e z l w = word_full q t x ((q ++ t ∷ []) ++ x ∷ []) n a k w refl
HasShape-ends Spaces true true p x h e z l w = cc
HasShape-ends Word true true p x h e z l w = cc
HasShape-ends Word true false p x h e z l w = cc
HasShape-ends s false b p x h e z l w = cc
