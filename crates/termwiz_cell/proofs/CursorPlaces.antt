-- Facts on where a sequence's cursor goes.
use Rattle.std.proofs.Common.{◌≡◌, ℕ, List, [], ◌∷◌, ◌++◌, sym, subst, ◌∙◌, Result, Ok, Err}
use Rattle.std.proofs.lemmas.List.Sums.{fold-append}
use Rattle.termwiz_cell.specs.ChangeValue.{ChangeValue}
use Rattle.termwiz_cell.specs.Sequence.{SequenceValue, AddsOne, AddsAll, RowFits, RowsFit, added, all_added}
use Rattle.termwiz_cell.specs.declared.change.sequence.SequenceError.{SequenceError}

module _ {W : Type 0} (f : List ℕ → ℕ) where
  -- one more row that can be told
  pub RowsFit-more : (s : SequenceValue W) (cs : List ChangeValue) (c : ChangeValue) → RowsFit f s cs → RowFits f (all_added f s cs) c → RowsFit f s (cs ++ c ∷ [])
  RowsFit-more s [] c h r = (r, tt)
  RowsFit-more s (b ∷ cs) c h r = (h.0, RowsFit-more (added f s b) cs c h.1 r)

  -- one more change is added
  pub adds_more : (s mid new : SequenceValue W) (cs : List ChangeValue) (c : ChangeValue) → mid ≡ all_added f s cs → RowsFit f s cs → AddsOne f mid c (Ok tt) new → AddsAll f s (cs ++ c ∷ []) (Ok tt) new
  adds_more s mid new cs c e h a =
      let here : AddsOne f (all_added f s cs) c (Ok tt) new = subst (λ (q : SequenceValue W). AddsOne f q c (Ok tt) new) e a in
      (RowsFit-more s cs c h here.0, here.1 ∙ sym (fold-append (added f) s cs (c ∷ [])))

  -- the next change is refused
  pub stops : (s mid new : SequenceValue W) (cs before behind : List ChangeValue) (c : ChangeValue) (e : SequenceError) (r : Result (Unit {0}) SequenceError) → before ++ c ∷ behind ≡ cs → mid ≡ all_added f s before
      → RowsFit f s before → AddsOne f mid c (Err e) new → r ≡ Err e → AddsAll f s cs r new
  stops s mid new cs before behind c e r is so_far h a told =
      subst (λ (q : Result (Unit {0}) SequenceError). AddsAll f s cs q new) (sym told) (record { before = before; refused = c; behind = behind; changes_are = sym is; fit = h; refuses = subst (λ (q : SequenceValue W). AddsOne f q c (Err e) new) so_far a })
