-- What is decoded of a stream's bytes, wherever they are cut, is its answers.
use Rattle.std.proofs.Common.{◌≡◌, ℕ, ◌<◌, List, [], ◌∷◌, ◌++◌, length, take, drop, Result, Ok, Err, refl, sym, ap, subst, ◌∙◌, inl, inr}
use Rattle.std.specs.List.{flat_map}
use Rattle.std.specs.Prelude.{map}
use Rattle.std.proofs.lemmas.Bool.{cases_lt}
use Rattle.termwiz_wire.specs.MoreBytes.{Goes}
use Rattle.std.proofs.lemmas.List.{take-append-drop, take-append-le, take_at}

abbrev value : {A E : Type 0} → A → Result A E
value x = Ok x

abbrev failed : {A E : Type 0} → E → Result A E
failed e = Err e

pub ok_is : {A E : Type 0} (x y : A) (r : Result A E) → r ≡ Ok x → r ≡ Ok y → x ≡ y
ok_is {A = A} {E = E} x y r a b = let same : value {A = A} {E = E} x ≡ value y = sym a ∙ b in cc

pub err_is : {A E : Type 0} (x y : E) (r : Result A E) → r ≡ Err x → r ≡ Err y → x ≡ y
err_is {A = A} {E = E} x y r a b = let same : failed {A = A} {E = E} x ≡ failed y = sym a ∙ b in cc

pub ok_or_err : {A E : Type 0} (x : A) (e : E) (r : Result A E) → r ≡ Ok x → r ≡ Err e → ⊥
ok_or_err x e r a b = cc

nil_front : (a b : List ℕ) → a ++ b ≡ [] → a ≡ []
nil_front [] b e = refl
nil_front (x ∷ a) b e = cc

module _ {T E : Type 0} (read : List ℕ → Result (T × List ℕ) E) where
  -- the bytes are decoded to these values, one after another, with these bytes left
  abbrev pub Decodes : List ℕ → List T → List ℕ → Type 0
  Decodes bytes [] rest = bytes ≡ rest
  Decodes bytes (x ∷ xs) rest = (next : List ℕ) × (read bytes ≡ Ok (x, next)) × Decodes next xs rest

module _ {T E : Type 0} (read : List ℕ → Result (T × List ℕ) E) (IsCut : E → Type 0) where
  module _ {G : Type 0} (encoded : G → List ℕ) (value_of : G → T) where
    -- the encoding of each is decoded again, whatever follows it
    abbrev pub AreAgain : List G → Type 0
    AreAgain [] = Unit {0}
    AreAgain (g ∷ gs) = ((rest : List ℕ) → read (encoded g ++ rest) ≡ Ok (value_of g, rest)) × AreAgain gs

    -- of these the first are given, and the bytes are those of the others
    pub record HasOthers (sent : List G) (given : List T) (bytes : List ℕ) : Type 0 where
      pub taken : List G
      pub others : List G
      pub all : sent ≡ taken ++ others
      pub values : map value_of taken ≡ given
      pub again : AreAgain others
      pub whole : bytes ≡ flat_map encoded others

    module _ (goes : Goes read IsCut) where
      first_is : (bytes future : List ℕ) (g : G) (gs : List G) (x : T) (next : List ℕ) → ((rest : List ℕ) → read (encoded g ++ rest) ≡ Ok (value_of g, rest)) → bytes ++ future ≡ flat_map encoded (g ∷ gs) → read bytes ≡ Ok (x, next)
          → ◌≡◌ {A = T × List ℕ} (value_of g, flat_map encoded gs) (x, next ++ future)
      first_is bytes future g gs x next again e is = ok_is (value_of g, flat_map encoded gs) (x, next ++ future) (read (bytes ++ future)) (ap read e ∙ again (flat_map encoded gs)) (goes.value bytes future x next is)

      pub others_of : (bytes future : List ℕ) (sent : List G) (given : List T) (left : List ℕ) → AreAgain sent → bytes ++ future ≡ flat_map encoded sent → Decodes read bytes given left → HasOthers sent given (left ++ future)
      others_of bytes future sent [] left again e d = record { taken = []; others = sent; all = refl; values = refl; again = again; whole = ap (λ (t : List ℕ). t ++ future) (sym d) ∙ e }
      others_of bytes future [] (x ∷ xs) left again e d = absurd (ok_or_err (x, d.0) goes.first (read []) (ap read (sym (nil_front bytes future e)) ∙ d.1) goes.starts)
      others_of bytes future (g ∷ gs) (x ∷ xs) left again e d =
          let same = first_is bytes future g gs x d.0 again.0 e d.1 in
          let h = others_of d.0 future gs xs left again.1 (sym (ap (λ (p : T × List ℕ). p.1) same)) d.2 in
          record {
            taken = g ∷ h.taken;
            others = h.others;
            all = ap (λ (t : List G). g ∷ t) h.all;
            values = ap (λ (v : T). v ∷ map value_of h.taken) (ap (λ (p : T × List ℕ). p.0) same) ∙ ap (λ (t : List T). x ∷ t) h.values;
            again = h.again;
            whole = h.whole;
          }

      -- a stream of answers has no fault
      pub no_fault : (left future : List ℕ) (others : List G) (e : E) → AreAgain others → left ++ future ≡ flat_map encoded others → read left ≡ Err e → (IsCut e → ⊥) → ⊥
      no_fault left future [] e again whole is settled = settled (let same : goes.first ≡ e = err_is goes.first e (read []) goes.starts (ap read (sym (nil_front left future whole)) ∙ is) in subst IsCut same goes.starts_cut)
      no_fault left future (g ∷ gs) e again whole is settled = ok_or_err (value_of g, flat_map encoded gs) e (read (left ++ future)) (ap read whole ∙ again.0 (flat_map encoded gs)) (goes.fault left future e is settled)

      -- what is cut is no whole answer
      pub none_whole : (left future : List ℕ) (g : G) (gs : List G) (e : E) → ((rest : List ℕ) → read (encoded g ++ rest) ≡ Ok (value_of g, rest)) → left ++ future ≡ flat_map encoded (g ∷ gs) → read left ≡ Err e → length left < length (encoded g)
      none_whole left future g gs e again whole is = elim (cases_lt (length left) (length (encoded g))) [
        | inl lt ↦ lt
        | inr le ↦
            let n : ℕ = length (encoded g) in
            let front : take n left ≡ encoded g = sym (take-append-le n left future le) ∙ ap (λ (t : List ℕ). take n t) whole ∙ take_at (encoded g) (flat_map encoded gs) n refl in
            let parts : left ≡ encoded g ++ drop n left = sym (take-append-drop n left) ∙ ap (λ (t : List ℕ). t ++ drop n left) front in
            absurd (ok_or_err (value_of g, drop n left) e (read left) (ap read parts ∙ again (drop n left)) is)
      ]
