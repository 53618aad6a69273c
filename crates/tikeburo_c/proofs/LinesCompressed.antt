-- Lines that are compressed one after another.
use Rattle.std.proofs.Common.{◌≡◌, ℕ, ◌+◌, ◌<◌, ◌≤◌, inl, inr, List, length, get_or, set, arith, refl, sym, ◌∙◌, subst}
use Rattle.std.proofs.lemmas.Bool.{cases_eq}
use Rattle.std.proofs.lemmas.List.{get_or_default, get_or-set_other, get_or-set_same, length-set}
use Rattle.termwiz_line.specs.LineEq.{line_contents}
use Rattle.termwiz_line.specs.LineValue.{LineValue}
use Rattle.tikeburo_c.specs.LineLists.{AreCompressed, IsCompressed}

-- none is, up to the first one
pub none_compressed : (first : ℕ) (lines : List LineValue) → AreCompressed first first lines lines
none_compressed first lines = record { same_count = refl; compressed = λ i d l m. absurd (omega (arith, l, m)); others = λ i d apart. refl }

-- the line is the same in all but its form
pub same_contents : (old new : LineValue) → new.cells ≡ old.cells → new.seqno ≡ old.seqno → new.flags ≡ old.flags → line_contents new ≡ line_contents old
same_contents old new cells number flags = λ i. record { cells = cells i; seqno = number i; flags = flags i }

-- the next one is
pub one_compressed : (first i : ℕ) (old lines : List LineValue) (line new : LineValue) → first ≤ i → i < length lines → line ≡ get_or lines i line → IsCompressed line new → AreCompressed first i old lines → AreCompressed first (i + 1) old (set lines i new)
one_compressed first i old lines line new from inside is compressed are = record {
  same_count = length-set lines i new ∙ are.same_count;
  compressed = λ j d l m. elim (cases_eq j i) [
    | inl e ↦
        let was : line ≡ get_or old j d = is ∙ get_or_default lines i line d inside ∙ are.others i d (inr (omega arith)) ∙ rw e refl in
        let now : get_or (set lines i new) j d ≡ new = rw e (get_or-set_same lines i new d inside) in
        subst (λ (a : LineValue). IsCompressed a (get_or (set lines i new) j d)) was (subst (IsCompressed line) (sym now) compressed)
    | inr n ↦ subst (IsCompressed (get_or old j d)) (sym (get_or-set_other lines i j new d n)) (are.compressed j d l (omega (arith, m, n)))
  ];
  others = λ j d apart.
      let n : j ≡ i → ⊥ = λ e. elim apart [ inl l ↦ absurd (omega (arith, l, e, from)) | inr m ↦ absurd (omega (arith, m, e)) ] in
      get_or-set_other lines i j new d n ∙ are.others j d (elim apart [ inl l ↦ inl l | inr m ↦ inr (omega (arith, m)) ]);
}
