use Rattle.std.proofs.Common.{◌≡◌, ◌-◌, ◌∙◌, ℕ, List, [], ap, drop, eq-eqb, inr, length, sym, take}
use Rattle.std.proofs.lemmas.Bool.{true≢false}
use Rattle.termwiz_share.proofs.Taking.{slice_is}
use Rattle.termwiz_share.proofs.client.Client.end.Goals as goal
use Rattle.termwiz_share.proofs.client.Client.end.Goals.{in-Ok, in-Err-Fault, in-Err-Memory}

pub returns : goal.returns
returns g c = elim c.match-decode_answer.branch [
  | in-Ok w ↦
      let exact = rw (slice_is c.deref.result.now c.self.inside.start, c.deref.ensures.value, c.widths-widths.ensures, c.surface.ensures.value) at w.in-Ok.ensures.exact in
      rw (w.result-is, ← c.self.view_is) (inr (w.in-Ok.field-0.0, _, exact))
  | in-Err-Fault w ↦
      let exact = rw (w.in-Err-Fault.field-0-is, slice_is c.deref.result.now c.self.inside.start, c.deref.ensures.value, c.widths-widths.ensures, c.surface.ensures.value) at w.in-Err-Fault.ensures.exact in
      let start = c.self.inside.start in
      let bytes : List ℕ = c.deref.result.now in
      let some : drop start c.self.inside.bytes.items ≡ [] → ⊥ = λ none.
      let zero : length (take (length bytes - start) (drop start bytes)) ≡ 0 = ap length (slice_is bytes start ∙ ap (drop start) c.deref.ensures.value ∙ none) in
      true≢false (sym (eq-eqb (length (take (length bytes - start) (drop start bytes))) 0 zero) ∙ sym c.is_empty.ensures ∙ c.if-is_empty.false) in
      rw (w.result-is, ← c.self.view_is) (some, exact)
  | in-Err-Memory w ↦ rw w.result-is tt
]
