use Rattle.std.proofs.Common.{◌≡◌, ◌↔◌, Bool, true, false, inl, inr, refl, sym, ap₂, ◌∙◌}
use Rattle.std.specs.Bool.{Decides, IsTrue}
use Rattle.std.proofs.lemmas.Bool.{cases_Bool, true≢false}
use Rattle.termwiz_storage.specs.CellLists.{cells_eq, cells_eq-Decides}
use Rattle.termwiz_storage.proofs.line.vecstorage.VecStoragePartialEq.eq.Goals as goal

-- two tests of one thing
agree : (r t : Bool) {P : Type 0} → (IsTrue r ↔ P) → Decides t P → r ≡ t
agree true t a d = sym (d.1 (a.0 refl))
agree false t a d = elim (cases_Bool t) [
  | inl e ↦ absurd (true≢false (sym (a.1 (d.0 e))))
  | inr e ↦ sym e
]

pub returns-then-len-clause-value : goal.returns-then-len-clause-value
returns-then-len-clause-value c =
    agree c.are_same.result (cells_eq c.as_slice.result.now c.as_slice-then-len.result.now) c.are_same.ensures (cells_eq-Decides c.as_slice.result.now c.as_slice-then-len.result.now)
    ∙ ap₂ cells_eq (c.as_slice.ensures.value ∙ c.self.view_is) (c.as_slice-then-len.ensures.value ∙ c.other.view_is)
