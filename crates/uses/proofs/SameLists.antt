-- `==` of two lists decides whether they say the same, where that of their items does.
use Rattle.std.proofs.Common.{◌≡◌, List, [], ◌∷◌, map, refl}
use Rattle.std.specs.Bool.{Decides}
use Rattle.std.specs.Cmp.Lexicographic.{pointwise}
use Rattle.std.specs.Prelude.{Bool, ◌&&◌}
use Rattle.std.proofs.lemmas.Bool.Decides.{Decides-and, Decides-like}

module _ {A B : Type 0} (E : A → A → Bool) (f : A → B) (decides : (a b : A) → Decides (E a b) (f a ≡ f b)) where
  pub lists_decide : (xs ys : List A) → Decides (pointwise E xs ys) (map f xs ≡ map f ys)
  lists_decide [] [] = (λ e. refl, λ e. refl)
  lists_decide [] (y ∷ ys) = ((λ e. cc), (λ e. cc))
  lists_decide (x ∷ xs) [] = ((λ e. cc), (λ e. cc))
  lists_decide (x ∷ xs) (y ∷ ys) =
      Decides-like (E x y && pointwise E xs ys)
      (λ e i. e.0 i ∷ e.1 i)
      (λ e. (cc, cc))
      (Decides-and (E x y) (pointwise E xs ys) (decides x y) (lists_decide xs ys))
