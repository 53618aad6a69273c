-- The states of the walks that find the ends of a word.
use Rattle.std.proofs.Common.{◌≡◌, ◌≢◌, ℕ, ◌+◌, ◌<◌, ◌≤◌, Bool, true, false, List, [], ◌∷◌, ◌++◌, Option, Some, None, refl, sym, ◌∙◌, ap, subst, append_assoc, arith, nat_le}
use Rattle.termwiz_storage.specs.VisibleCell.{VisibleCell}
use Rattle.std.proofs.lemmas.List.{append-nil}
use Rattle.std.proofs.lemmas.Bool.Decides.{nat_tests}
use Rattle.std.specs.List.{All}
use Rattle.std.specs.Option.{is_some, unwrap_or}
use Rattle.std.proofs.lemmas.List.Elements.{All-nil, All-push, All-head}
use Rattle.termwiz_line.specs.Clicks.{IsWord, end_after, start_of, from_column, up_to_column, IsUpper, IsLower}
use Rattle.termwiz_line.proofs.Ends.{All-beginning, All-end, All-last, last_same, not_nil-append, nothing_more, split_last}
use Rattle.termwiz_line.proofs.Zoning.{last_index-push}

-- a cell of a word, and another one, by what a predicate answered for it
pub is_word : (word : List ℕ → Bool) (x : VisibleCell) {answer : Bool} → answer ≡ word x.cell.text → answer ≡ true → IsWord word x
is_word word x e t = sym e ∙ t

pub is_no_word : (word : List ℕ → Bool) (x : VisibleCell) {answer : Bool} → answer ≡ word x.cell.text → answer ≡ false → IsWord word x → ⊥
is_no_word word x e f w = cc

le_true : (a b : ℕ) → a ≤ b → nat_le a b ≡ true
le_true a b h = grind (arith, nat_tests)

le_false : (a b : ℕ) → b < a → nat_le a b ≡ false
le_false a b h = grind (arith, nat_tests)

from_here : (c : ℕ) (x : VisibleCell) (xs : List VisibleCell) → c ≤ x.column → from_column c (x ∷ xs) ≡ x ∷ from_column c xs
from_here c x xs h = rw (le_true c x.column h) refl

from_before : (c : ℕ) (x : VisibleCell) (xs : List VisibleCell) → x.column < c → from_column c (x ∷ xs) ≡ from_column c xs
from_before c x xs h = rw (le_false c x.column h) refl

up_to_here : (c : ℕ) (x : VisibleCell) (xs : List VisibleCell) → x.column ≤ c → up_to_column c (x ∷ xs) ≡ x ∷ up_to_column c xs
up_to_here c x xs h = rw (le_true x.column c h) refl

up_to_after : (c : ℕ) (x : VisibleCell) (xs : List VisibleCell) → c < x.column → up_to_column c (x ∷ xs) ≡ up_to_column c xs
up_to_after c x xs h = rw (le_false x.column c h) refl

end_after-push : (c : ℕ) (run : List VisibleCell) (x : VisibleCell) → end_after c (run ++ x ∷ []) ≡ x.column + 1
end_after-push c [] x = refl
end_after-push c (y ∷ ys) x = ap (λ z. z + 1) (last_index-push (y ∷ ys) x)

-- ---- upper

pub record IsUppering (word : List ℕ → Bool) (cells left : List VisibleCell) (c upper : ℕ) : Type 0 where
  pub run : List VisibleCell
  pub whole : from_column c cells ≡ run ++ from_column c left
  pub all : All (IsWord word) run
  pub upper_is : upper ≡ end_after c run

pub upper-start : (word : List ℕ → Bool) (cells : List VisibleCell) (c : ℕ) → IsUppering word cells cells c c
upper-start word cells c = record { run = []; whole = refl; all = All-nil (IsWord word); upper_is = refl }

pub upper-skip : (word : List ℕ → Bool) (cells left : List VisibleCell) (c upper : ℕ) (x : VisibleCell) → x.column < c → IsUppering word cells (x ∷ left) c upper → IsUppering word cells left c upper
upper-skip word cells left c upper x h u = record { run = u.run; whole = u.whole ∙ ap (λ z. u.run ++ z) (from_before c x left h); all = u.all; upper_is = u.upper_is }

pub upper-grows : (word : List ℕ → Bool) (cells left : List VisibleCell) (c upper : ℕ) (x : VisibleCell) → c ≤ x.column → IsWord word x → IsUppering word cells (x ∷ left) c upper → IsUppering word cells left c (x.column + 1)
upper-grows word cells left c upper x h w u = record {
  run = u.run ++ x ∷ [];
  whole = u.whole ∙ ap (λ z. u.run ++ z) (from_here c x left h) ∙ sym (append_assoc u.run (x ∷ []) (from_column c left));
  all = All-push (IsWord word) u.run x u.all w;
  upper_is = sym (end_after-push c u.run x);
}

not_longer : (word : List ℕ → Bool) (run : List VisibleCell) (x : VisibleCell) (xs more others : List VisibleCell) → (IsWord word x → ⊥) → x ∷ xs ≡ more ++ others → more ≢ [] → All (IsWord word) (run ++ more) → ⊥
not_longer word run x xs [] others n e m a = m refl
not_longer word run x xs (y ∷ ys) others n e m a =
    let s : y ≡ x = cc in
    n (subst (IsWord word) s (All-head (IsWord word) y ys (All-end (IsWord word) run (y ∷ ys) a)))

pub upper-stops : (word : List ℕ → Bool) (cells left : List VisibleCell) (c upper : ℕ) (x : VisibleCell) → c ≤ x.column → (IsWord word x → ⊥) → IsUppering word cells (x ∷ left) c upper → IsUpper word cells c upper
upper-stops word cells left c upper x h n u = record {
  run = u.run;
  is_longest = record {
    rest = x ∷ from_column c left;
    whole = u.whole ∙ ap (λ z. u.run ++ z) (from_here c x left h);
    all = u.all;
    longest = λ more others e m a. not_longer word u.run x (from_column c left) more others n e m a;
  };
  upper_is = u.upper_is;
}

pub upper-done : (word : List ℕ → Bool) (cells : List VisibleCell) (c upper : ℕ) → IsUppering word cells [] c upper → IsUpper word cells c upper
upper-done word cells c upper u = record {
  run = u.run;
  is_longest = record { rest = []; whole = u.whole; all = u.all; longest = λ more others e m a. nothing_more more others e m };
  upper_is = u.upper_is;
}

-- ---- lower

abbrev pub start_known : List VisibleCell → Option ℕ
start_known [] = None
start_known (x ∷ xs) = Some x.column

pub record IsLowering (word : List ℕ → Bool) (cells left : List VisibleCell) (c : ℕ) (start : Option ℕ) : Type 0 where
  pub rest : List VisibleCell
  pub run : List VisibleCell
  pub whole : up_to_column c cells ≡ (rest ++ run) ++ up_to_column c left
  pub all : All (IsWord word) run
  pub stopped : (others : List VisibleCell) (x : VisibleCell) → rest ≡ others ++ x ∷ [] → IsWord word x → ⊥
  pub start_is : start ≡ start_known run

begun : (run : List VisibleCell) (x : VisibleCell) → None ≡ start_known run → Some x.column ≡ start_known (run ++ x ∷ [])
begun [] x e = refl
begun (y ∷ ys) x e = cc

going_on : (s : ℕ) (run : List VisibleCell) (x : VisibleCell) → Some s ≡ start_known run → start_known run ≡ start_known (run ++ x ∷ [])
going_on s [] x e = cc
going_on s (y ∷ ys) x e = refl

not_before : (word : List ℕ → Bool) (rest run others more : List VisibleCell) → ((before : List VisibleCell) (x : VisibleCell) → rest ≡ before ++ x ∷ [] → IsWord word x → ⊥) → rest ≡ others ++ more → more ≢ [] → All (IsWord word) (more ++ run) → ⊥
not_before word rest run others [] n e m a = m refl
not_before word rest run others (y ∷ ys) n e m a =
    let l = split_last y ys in
    n (others ++ l.0) l.1 (e ∙ ap (λ z. others ++ z) l.2 ∙ sym (append_assoc others l.0 (l.1 ∷ []))) (All-last (IsWord word) l.0 l.1 (subst (λ (z : List VisibleCell). All (IsWord word) z) l.2 (All-beginning (IsWord word) (y ∷ ys) run a)))

abbrev pub or_click : ℕ → Option ℕ → ℕ
or_click c None = c
or_click c (Some s) = s

pub or_click_is : (s : Option ℕ) (c : ℕ) → unwrap_or s c ≡ or_click c s
or_click_is None c = refl
or_click_is (Some s) c = refl

pub none_is : (s : Option ℕ) → is_some s ≡ false → s ≡ None
none_is None e = refl
none_is (Some s) e = cc

pub some_is : (s : Option ℕ) → is_some s ≡ true → s ≡ None → ⊥
some_is None e h = cc
some_is (Some s) e h = cc

known_start : (c : ℕ) (run : List VisibleCell) → or_click c (start_known run) ≡ start_of c run
known_start c [] = refl
known_start c (x ∷ xs) = refl

pub lower-start : (word : List ℕ → Bool) (cells : List VisibleCell) (c : ℕ) → IsLowering word cells cells c None
lower-start word cells c = record { rest = []; run = []; whole = refl; all = All-nil (IsWord word); stopped = λ others x e w. not_nil-append others x [] (sym e); start_is = refl }

pub lower-skip : (word : List ℕ → Bool) (cells left : List VisibleCell) (c : ℕ) (start : Option ℕ) (x : VisibleCell) → c < x.column → IsLowering word cells (x ∷ left) c start → IsLowering word cells left c start
lower-skip word cells left c start x h u = record { rest = u.rest; run = u.run; whole = u.whole ∙ ap (λ z. (u.rest ++ u.run) ++ z) (up_to_after c x left h); all = u.all; stopped = u.stopped; start_is = u.start_is }

pub lower-resets : (word : List ℕ → Bool) (cells left : List VisibleCell) (c : ℕ) (start : Option ℕ) (x : VisibleCell) → x.column ≤ c → (IsWord word x → ⊥) → IsLowering word cells (x ∷ left) c start → IsLowering word cells left c None
lower-resets word cells left c start x h n u = record {
  rest = (u.rest ++ u.run) ++ x ∷ [];
  run = [];
  whole = u.whole ∙ ap (λ z. (u.rest ++ u.run) ++ z) (up_to_here c x left h) ∙ sym (append_assoc (u.rest ++ u.run) (x ∷ []) (up_to_column c left)) ∙ ap (λ z. z ++ up_to_column c left) (sym (append-nil ((u.rest ++ u.run) ++ x ∷ [])));
  all = All-nil (IsWord word);
  stopped = λ others y e w. n (subst (IsWord word) (sym (last_same (u.rest ++ u.run) others x y e)) w);
  start_is = refl;
}

lower_push : (c : ℕ) (rest run left : List VisibleCell) (x : VisibleCell) → x.column ≤ c → (rest ++ run) ++ up_to_column c (x ∷ left) ≡ (rest ++ (run ++ x ∷ [])) ++ up_to_column c left
lower_push c rest run left x h = ap (λ z. (rest ++ run) ++ z) (up_to_here c x left h) ∙ sym (append_assoc (rest ++ run) (x ∷ []) (up_to_column c left)) ∙ ap (λ z. z ++ up_to_column c left) (append_assoc rest run (x ∷ []))

pub lower-begins : (word : List ℕ → Bool) (cells left : List VisibleCell) (c : ℕ) (x : VisibleCell) → x.column ≤ c → IsWord word x → IsLowering word cells (x ∷ left) c None → IsLowering word cells left c (Some x.column)
lower-begins word cells left c x h w u = record {
  rest = u.rest;
  run = u.run ++ x ∷ [];
  whole = u.whole ∙ lower_push c u.rest u.run left x h;
  all = All-push (IsWord word) u.run x u.all w;
  stopped = u.stopped;
  start_is = begun u.run x u.start_is;
}

pub lower-grows : (word : List ℕ → Bool) (cells left : List VisibleCell) (c s : ℕ) (x : VisibleCell) → x.column ≤ c → IsWord word x → IsLowering word cells (x ∷ left) c (Some s) → IsLowering word cells left c (Some s)
lower-grows word cells left c s x h w u = record {
  rest = u.rest;
  run = u.run ++ x ∷ [];
  whole = u.whole ∙ lower_push c u.rest u.run left x h;
  all = All-push (IsWord word) u.run x u.all w;
  stopped = u.stopped;
  start_is = u.start_is ∙ going_on s u.run x u.start_is;
}

-- whether a start is known or not
pub lower-goes_on : (word : List ℕ → Bool) (cells left : List VisibleCell) (c : ℕ) (start : Option ℕ) (x : VisibleCell) → (start ≡ None → ⊥) → x.column ≤ c → IsWord word x → IsLowering word cells (x ∷ left) c start → IsLowering word cells left c start
lower-goes_on word cells left c None x n h w u = absurd (n refl)
lower-goes_on word cells left c (Some s) x n h w u = lower-grows word cells left c s x h w u

pub lower-done : (word : List ℕ → Bool) (cells : List VisibleCell) (c : ℕ) (start : Option ℕ) → IsLowering word cells [] c start → IsLower word cells c (or_click c start)
lower-done word cells c start u = record {
  run = u.run;
  is_longest = record {
    rest = u.rest;
    whole = u.whole ∙ append-nil (u.rest ++ u.run);
    all = u.all;
    longest = λ others more e m a. not_before word u.rest u.run others more u.stopped e m a;
  };
  lower_is = ap (or_click c) u.start_is ∙ known_start c u.run;
}
