-- What a log forgets that keeps as many changes as an answer may lend changes no answer.
use Rattle.std.proofs.Common.{◌≡◌, ℕ, ◌+◌, ◌-◌, ◌≤◌, ◌<◌, true, false, inl, inr, length, refl, sym, ◌∙◌, arith, length-drop}
use Rattle.std.proofs.lemmas.Bool.{cases_Bool, cases_lt, true≢false, le-leb}
use Rattle.std.proofs.lemmas.Bool.Decides.{nat_tests}
use Rattle.termwiz_screen.specs.Log.{LogValue, due, reaches, is_known, next_number}
use Rattle.termwiz_screen.proofs.Logs.{reached, flushed_alike}
use Rattle.termwiz_surface.specs.Asking.{forgotten}
use Rattle.termwiz_surface.proofs.Following.{known_tells}

-- a number that is known has few changes due
known_few : (most : ℕ) (l : LogValue) (n : ℕ) → is_known most l n ≡ true → length (due l n) ≤ most
known_few most l n h = grind (arith, nat_tests)

known_reached : (most : ℕ) (l : LogValue) (n : ℕ) → is_known most l n ≡ true → reaches l n ≡ true
known_reached most l n h = grind (arith, nat_tests)

-- no number is known from which more changes are due
unknown : (most : ℕ) (l : LogValue) (n : ℕ) → n + most < next_number l → is_known most l n ≡ false
unknown most l n far = elim (cases_Bool (is_known most l n)) [
  | inr e ↦ e
  | inl e ↦
      let r = reached l n (known_reached most l n e) in
      absurd (omega (arith, r.0, r.1, known_few most l n e, length-drop (n - l.first) l.changes))
]

module _ (most : ℕ) (l : LogValue) where
  abbrev from : ℕ
  from = next_number l - most

  -- one that is forgotten is known neither before nor after
  forgotten_unknown : (n : ℕ) → n < from → is_known most (forgotten most l) n ≡ false
  forgotten_unknown n before = elim (cases_Bool (reaches l from)) [
    | inr e ↦ rw e (unknown most l n (omega arith))
    | inl e ↦ elim (cases_Bool (is_known most (forgotten most l) n)) [
      | inr f ↦ f
      | inl f ↦
          let tells = known_tells most (forgotten most l) n f in
          let at : from ≤ n = rw e at tells.1 in
          absurd (omega (arith, at))
    ]
  ]

  pub forgotten_alike : (n : ℕ) → (is_known most (forgotten most l) n ≡ is_known most l n) × (is_known most l n ≡ true → due (forgotten most l) n ≡ due l n)
  forgotten_alike n = elim (cases_lt n from) [
    | inr kept ↦ let same = flushed_alike l from n most kept in (same.0, λ e. same.1)
    | inl gone ↦
        let none : is_known most l n ≡ false = unknown most l n (omega arith) in
        (forgotten_unknown n gone ∙ sym none, λ e. absurd (true≢false (sym e ∙ none)))
  ]

  pub forgotten_few : length (forgotten most l).changes ≤ most
  forgotten_few = elim (cases_Bool (reaches l from)) [
    | inl e ↦ let r = reached l from e in rw e (omega (arith, r.0, r.1, length-drop (from - l.first) l.changes))
    | inr e ↦ elim (cases_lt from l.first) [
      | inl lt ↦ rw e (omega arith)
      | inr le ↦ absurd (true≢false (sym (rw (le-leb l.first from le, le-leb from (next_number l) (omega arith)) refl) ∙ e))
    ]
  ]
