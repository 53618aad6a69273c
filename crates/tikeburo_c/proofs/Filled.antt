-- How an array is filled from its front.
use Rattle.std.proofs.Common.{◌≡◌, ℕ, suc, ◌+◌, ◌≤◌, List, [], ◌∷◌, ◌++◌, length, take, drop, arith, append-nil, append_assoc, add-one, refl, sym, ap, ap₂, ◌∙◌}
use Rattle.std.proofs.lemmas.List.{drop-drop, drop_at, length-append, length-drop, length-take-le, set_split, take-append-drop, take_at}
use Rattle.tikeburo_c.specs.Rows.{at_front, overwritten}
use Rattle.std.specs.Prelude.{set}

-- of all these items, the first n stand at the front of an array that was this one, and these are to come
pub record Fills {A : Type 0} (n : ℕ) (rest all old now : List A) : Type 0 where
  pub within : n ≤ length now
  pub as_long : length now ≡ length old
  pub leads : take n now ++ rest ≡ all
  pub behind : drop n now ≡ drop n old

module _ {A : Type 0} where
  pub fills_first : (all old : List A) → Fills 0 all all old old
  fills_first all old = record { within = omega arith; as_long = refl; leads = refl; behind = refl }

  pub fills_room : (n : ℕ) (ys rest all old now : List A) → Fills n (ys ++ rest) all old now → length all ≤ length old → n + length ys ≤ length now
  fills_room n ys rest all old now f room =
      let whole : length (take n now ++ (ys ++ rest)) ≡ length all = ap length f.leads in
      omega (arith, whole, room, length-append (take n now) (ys ++ rest), length-append ys rest, length-take-le n now f.within, f.as_long)

  length-overwritten : (n : ℕ) (ys now : List A) → n + length ys ≤ length now → length (overwritten n ys now) ≡ length now
  length-overwritten n ys now l =
      let k : ℕ = n + length ys in
      let whole : length (take n now ++ (ys ++ drop k now)) ≡ length (take n now) + length (ys ++ drop k now) = length-append (take n now) (ys ++ drop k now) in
      omega (arith, whole, length-append ys (drop k now), length-drop k now, length-take-le n now (omega (arith, l)), l)

  front : (n : ℕ) (ys now : List A) → n + length ys ≤ length now → length (take n now ++ ys) ≡ n + length ys
  front n ys now l = length-append (take n now) ys ∙ ap (λ k. k + length ys) (length-take-le n now (omega (arith, l)))

  pub fills_more : (n : ℕ) (ys rest all old now : List A) → Fills n (ys ++ rest) all old now → length all ≤ length old → Fills (n + length ys) rest all old (overwritten n ys now)
  fills_more n ys rest all old now f room =
      let k : ℕ = n + length ys in
      let fits : k ≤ length now = fills_room n ys rest all old now f room in
      let apart : overwritten n ys now ≡ (take n now ++ ys) ++ drop k now = sym (append_assoc (take n now) ys (drop k now)) in
      record {
        within = omega (arith, fits, length-overwritten n ys now fits);
        as_long = length-overwritten n ys now fits ∙ f.as_long;
        leads =
            ap (λ xs. take k xs ++ rest) apart ∙ ap (λ xs. xs ++ rest) (take_at (take n now ++ ys) (drop k now) k (front n ys now fits))
            ∙ append_assoc (take n now) ys rest ∙ f.leads;
        behind =
            ap (drop k) apart ∙ drop_at (take n now ++ ys) (drop k now) k (front n ys now fits) ∙ sym (drop-drop (length ys) n now)
            ∙ ap (drop (length ys)) f.behind ∙ drop-drop (length ys) n old;
      }

  pub set_overwrites : (n : ℕ) (x : A) (now : List A) → suc n ≤ length now → set now n x ≡ overwritten n (x ∷ []) now
  set_overwrites n x now l = set_split now n x l ∙ ap (λ k. take n now ++ x ∷ drop k now) (sym (add-one n))

  pub fills_last : (n : ℕ) (all old now : List A) → Fills n [] all old now → now ≡ at_front all old
  fills_last n all old now f =
      let whole : take n now ≡ all = sym (append-nil (take n now)) ∙ f.leads in
      let far : n ≡ length all = sym (length-take-le n now f.within) ∙ ap length whole in
      sym (take-append-drop n now) ∙ ap₂ (λ xs ys. xs ++ ys) whole (f.behind ∙ ap (λ k. drop k old) far)
