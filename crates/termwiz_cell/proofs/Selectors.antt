-- The first selector of a text is where `find_map` stops.
use Rattle.std.proofs.Common.{◌≡◌, ℕ, suc, ◌+◌, ◌<◌, List, [], ◌∷◌, Option, Some, None, true, refl, ap, sym, subst, ◌∙◌, map-id}
use Rattle.std.specs.Prelude.{IsTrue, IfSome, MatchOption, slice_get}
use Rattle.std.specs.Fn.{Called}
use Rattle.std.specs.Option.{option_or}
use Rattle.std.specs.List.{FoldsTo}
use Rattle.std.specs.Iterator.{AlwaysYields, DrainsIf, FindsMapped, Yields}
use Rattle.std.specs.Iterator.Runs.{AllItemsGive, IsFirstToGive, Run, SomeRun, YieldsRun}
use Rattle.std.proofs.lemmas.Iterator.{YieldsList, items_from_drains}
use Rattle.termwiz_cell.specs.Width.{asked_by, variation_of}
use Rattle.termwiz_cell.specs.declared.emoji.Presentation.{Presentation}
use denote.Param.Members.{Mut}

none-asked : (cs : List ℕ) → ((i : ℕ) → IfSome (slice_get cs i) (λ x. None ≡ asked_by x)) → None ≡ variation_of cs
none-asked [] h = refl
none-asked (c ∷ cs) h = none-asked cs (λ i. h (suc i)) ∙ ap (λ o. option_or o (variation_of cs)) (h 0)

module _ {S F : Type 0} (steps : S → Option ℕ → S → Type 0) {g : Mut F (ℕ × Unit {0}) (Option Presentation)} (f : F) (asks : (x : ℕ) (r : Option Presentation) (q : F) → Called g f (x, tt) r q → (q ≡ f) × (r ≡ asked_by x)) where
  first-asked : (y : Presentation) (cs xs : List ℕ) (s t u : S) (o : Option ℕ) (j : F) → AlwaysYields steps (λ c. c) s cs → Yields steps s xs t → steps t o u → FoldsTo (λ p x q. Called g p (x, tt) None q) f xs j → MatchOption o (Some y ≡ None) (λ x. (h : F) × Called g j (x, tt) (Some y) h) → Some y ≡ variation_of cs
  first-asked y cs [] s t u None j a e p c h = cc
  first-asked y [] [] s t u (Some x) j a e p c h = absurd (a x u (subst (λ v. steps v (Some x) u) (sym e) p))
  first-asked y (b ∷ bs) [] s t u (Some x) j a e p c h =
      let here : Called g f (x, tt) (Some y) h.0 = subst (λ i. Called g i (x, tt) (Some y) h.0) (sym c) h.1 in
      let same : x ≡ b = (a.1 x u (subst (λ v. steps v (Some x) u) (sym e) p)).0 in
      ap (λ o. option_or o (variation_of bs)) ((asks x (Some y) h.0 here).1 ∙ ap asked_by same)
  first-asked y [] (x ∷ xs) s t u o j a e p c h = absurd (a x e.0 e.1)
  first-asked y (b ∷ bs) (x ∷ xs) s t u o j a e p c h =
      let next = a.1 x e.0 e.1 in
      let none = asks x None c.0 c.1 in
      first-asked y bs xs e.0 t u o j next.1 e.2 p (subst (λ i. FoldsTo {P = F} (λ p x q. Called g p (x, tt) None q) i xs j) none.0 c.2) h
      ∙ ap (λ o. option_or o (variation_of bs)) (none.1 ∙ ap asked_by next.0)

  answers-none : (o : Option ℕ) → IfSome o (λ x. Called g f (x, tt) None f) → IfSome o (λ x. None ≡ asked_by x)
  answers-none None h = tt
  answers-none (Some x) h = (asks x None f h).1

  whole-run : (cs : List ℕ) (s : S) (p : Run steps) → p.from ≡ s → p.whole ≡ true → AllItemsGive p g f None → YieldsList steps (λ c. c) s cs → None ≡ variation_of cs
  unfolding YieldsRun
  whole-run cs s p e w h y =
      let d : DrainsIf steps (Unit {0}) s p.items = subst (λ v. DrainsIf steps (Unit {0}) v p.items) e (p.gave.0.0, p.gave.0.1, λ _. p.gave.0.2 w) in
      let items : p.items ≡ cs = sym (map-id p.items) ∙ items_from_drains p.items d y in
      none-asked cs (λ i. subst (λ o. IfSome o (λ x. None ≡ asked_by x)) (p.gave.1 i ∙ ap (λ l. slice_get l i) items) (answers-none (p.at i) (h (λ a r q k. (asks a.0 r q k).0) i)))

  -- what `find_map` answers over the characters
  pub variation_of-find_map : (r : Option Presentation) (cs : List ℕ) (s u : S) → FindsMapped steps g s f r u
      → SomeRun steps s (λ p. MatchOption r (IsTrue p.whole × AllItemsGive p g f None) (λ y. (i : ℕ) × (i < p.len) × (p.len ≡ i + 1) × IsFirstToGive p g f (Some y) None i))
      → YieldsList steps (λ c. c) s cs → r ≡ variation_of cs
  variation_of-find_map None cs s u d run y = whole-run cs s run.0 run.1 run.2.0 run.2.1 y
  variation_of-find_map (Some v) cs s u d run y = first-asked v cs d.0 s d.3.0 u d.1 d.2 y.runs d.3.1 d.3.2 d.4 d.5
