use Rattle.std.proofs.Common.{◌≡◌, ◌+◌, ◌∷◌, inl, inr, refl, sym, ap, ◌∙◌, subst}
use Rattle.std.specs.Slice.Iter.{iter_rest}
use Rattle.std.proofs.lemmas.Bool.{cases_Bool, false≢true}
use Rattle.termwiz_storage.specs.Stored.{visible_from}
use Rattle.termwiz_storage.specs.PlainCells.{begins_plain, is_plain_with, IsPlainFirst}
use Rattle.termwiz_storage.proofs.PlainCells.{plain_first}
use Rattle.termwiz_storage.proofs.line.vecstorage.walk.VecStorageIter.next_plain.Goals as goal

pub returns-in-Some : goal.returns-in-Some
returns-in-Some c =
    let a = c.args.attrs.now in
    let i = c.self.inside.idx in
    let first : iter_rest c.self.inside.cells ≡ c.in_ok-first.first.now ∷ c.in_ok-first.rest.now = sym c.as_slice.ensures.value ∙ c.in_ok-first.ensures.cases.0 in
    let walk : visible_from i 0 (c.in_ok-first.first.now ∷ c.in_ok-first.rest.now) ≡ c.args.self.now = ap (visible_from i 0) (sym first) ∙ c.self.view_is in
    let rest : visible_from (i + 1) 0 c.in_ok-first.rest.now ≡ visible_from (i + 1) 0 (iter_rest c.iter-self-inside.result) = ap (visible_from (i + 1) 0) (sym c.iter-self-inside.ensures.rest) in
    let found = plain_first a i c.in-Some.byte c.in_ok-first.first.now c.in_ok-first.rest.now (c.in-Some.ensures.plain.0 refl) c.in-Some.ensures.text in
    subst (λ l. IsPlainFirst a c.args.self.now c.in-Some.byte l) rest (subst (λ l. IsPlainFirst a l c.in-Some.byte (visible_from (i + 1) 0 c.in_ok-first.rest.now)) walk found)

pub returns-in-None : goal.returns-in-None
returns-in-None c =
    let a = c.args.attrs.now in
    let i = c.self.inside.idx in
    let first : iter_rest c.self.inside.cells ≡ c.in_ok-first.first.now ∷ c.in_ok-first.rest.now = sym c.as_slice.ensures.value ∙ c.in_ok-first.ensures.cases.0 in
    let walk : visible_from i 0 (c.in_ok-first.first.now ∷ c.in_ok-first.rest.now) ≡ c.args.self.now = ap (visible_from i 0) (sym first) ∙ c.self.view_is in
    elim (cases_Bool (is_plain_with a c.in_ok-first.first.now)) [
      | inl t ↦ absurd (false≢true (c.in-None.ensures.plain.1 t))
      | inr f ↦ (refl, ap (begins_plain a) (sym walk) ∙ f)
    ]
