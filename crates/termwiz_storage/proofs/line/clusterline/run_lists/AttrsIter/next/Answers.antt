use Rattle.std.proofs.Common.{◌≡◌, ℕ, suc, ◌-◌, List, [], ◌∷◌, ◌++◌, Option, Some, None, MatchOption, refl, sym, ◌∙◌, ap, arith}
use Rattle.std.specs.Borrow.{Bor}
use Rattle.std.specs.Slice.Iter.{iter_rest}
use Rattle.termwiz_cell.specs.Attributes.{Attributes}
use Rattle.termwiz_storage.specs.CellRuns.{attrs_of, same_attrs}
use Rattle.termwiz_storage.proofs.line.clusterline.run_lists.AttrsIter.next.Goals as goal

-- one cell of the run is walked over
one_less : (o : Option (Bor Attributes)) (n : ℕ) (rest now : List Attributes) → (n ≡ 0 → ⊥) → (o ≡ None → n ≡ 0) → same_attrs n o ++ rest ≡ now → MatchOption o ((now ≡ []) × (same_attrs (n - 1) o ++ rest ≡ [])) (λ a. now ≡ a.now ∷ (same_attrs (n - 1) o ++ rest))
one_less None n rest now z h e = absurd (z (h refl))
one_less (Some a) n rest now z h e =
    let m : n ≡ suc (n - 1) = omega arith in
    sym e ∙ ap (λ (k : ℕ). same_attrs k (Some a) ++ rest) m

pub returns : goal.returns
returns c =
    let s = c.loop-self.self-inside in
    one_less s.attrs s.left (attrs_of (iter_rest s.rest)) c.args.self.now c.loop-self-test.false c.loop-self.invariant.some (c.loop-self.invariant.same ∙ c.self.view_is)
