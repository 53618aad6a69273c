-- Lists whose elements are clones of each other.
use Rattle.std.proofs.Common.{◌≡◌, List, [], ◌∷◌, map, refl}
use Rattle.std.specs.List.{AllZip}

-- where each clone is seen as its source is, the lists are too
pub map-clone : {A B : Type 0} (C : A → A → Type 0) (f : A → B) → ((x y : A) → C x y → f y ≡ f x) → (xs ys : List A) → AllZip C xs ys → map f ys ≡ map f xs
map-clone C f same [] [] h = refl
map-clone C f same [] (y ∷ ys) h = absurd h
map-clone C f same (x ∷ xs) [] h = absurd h
map-clone C f same (x ∷ xs) (y ∷ ys) h = λ i. same x y h.0 i ∷ map-clone C f same xs ys h.1 i
