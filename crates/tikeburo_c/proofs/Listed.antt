-- A loop over a list of changes: what is left of it decides what the whole list is.
use Rattle.std.proofs.Common.{◌≡◌, ℕ, ◌+◌, ◌<◌, ◌≤◌, ◌==◌, true, false, cond, List, [], ◌∷◌, ◌++◌, length, get_or, drop, Result, Ok, Err, refl, sym, ap, ◌∙◌, append-nil, append_assoc}
use Rattle.std.proofs.lemmas.List.{drop_all, drop_more, nil_from_length}
use Rattle.std.specs.Prelude.{IsUtf8}
use Rattle.cbor.specs.Decoding.{◌>>=◌}
use Rattle.core.proofs.str.Lossy.{IsUtf8-from_is_utf8, is_utf8-from_IsUtf8}
use Rattle.core.specs.Str.{is_utf8}
use Rattle.termwiz_cell.specs.ChangeValue.{ChangeValue}
use Rattle.tikeburo_c.specs.Lists.{first_change_in, listed_in, readable_text}
use Rattle.tikeburo_c.specs.declared.failure.Failure.{Failure}
use Rattle.tikeburo_c.specs.declared.failure.Failure.TheVariants.{Range, Unreadable}
use Rattle.tikeburo_c.specs.declared.lists.ChangeFields.{ChangeFields}

-- bytes that are a text, and bytes that are none
pub text_read : (text bytes : List ℕ) → text ≡ bytes → IsUtf8 bytes → readable_text bytes ≡ Ok text
text_read text bytes e u = rw (is_utf8-from_IsUtf8 bytes u) (ap (λ (t : List ℕ). Ok t) (sym e))

pub no_text : (bytes : List ℕ) → ¬ (IsUtf8 bytes) → readable_text bytes ≡ Err Unreadable
no_text bytes bad =
    elim (is_utf8 bytes) as (λ b. is_utf8 bytes ≡ b → cond b (Ok bytes) (Err Unreadable) ≡ Err Unreadable) [
      | true ↦ λ e. absurd (bad (IsUtf8-from_is_utf8 bytes e))
      | false ↦ λ e. refl
    ] refl

abbrev Listed : Type 0
Listed = Result (List ChangeValue) Failure

-- the changes so far, and those that are left
abbrev pub go_on : List ChangeValue → Listed → Listed
go_on done left = left >>= λ cs. Ok (done ++ cs)

-- before the first one
pub from_first : (r : Listed) → go_on [] r ≡ r
from_first (Ok cs) = refl
from_first (Err e) = refl

one_more : (done : List ChangeValue) (c : ChangeValue) (r : Listed) → go_on done (r >>= λ cs. Ok (c ∷ cs)) ≡ go_on (done ++ c ∷ []) r
one_more done c (Ok cs) = ap (λ (xs : List ChangeValue). Ok xs) (sym (append_assoc done (c ∷ []) cs))
one_more done c (Err e) = refl

listed_more : (f : ChangeFields) (fs : List ChangeFields) (texts : List ℕ) → listed_in (f ∷ fs) texts ≡ (first_change_in f texts >>= λ x. listed_in fs x.1 >>= λ cs. Ok (x.0 ∷ cs))
unfolding listed_in
listed_more f fs texts = refl

listed_none : listed_in [] [] ≡ Ok []
unfolding listed_in
listed_none = refl

listed_texts : (b : ℕ) (bs : List ℕ) → listed_in [] (b ∷ bs) ≡ Err Range
unfolding listed_in
listed_texts b bs = refl

at : (fs : List ChangeFields) (i : ℕ) (d : ChangeFields) (texts : List ℕ) → i < length fs → listed_in (drop i fs) texts ≡ (first_change_in (get_or fs i d) texts >>= λ x. listed_in (drop (i + 1) fs) x.1 >>= λ cs. Ok (x.0 ∷ cs))
at fs i d texts lt = ap (λ (xs : List ChangeFields). listed_in xs texts) (drop_more fs i d lt) ∙ listed_more (get_or fs i d) (drop (i + 1) fs) texts

-- the next change is read
pub goes_on : (fs : List ChangeFields) (i : ℕ) (d : ChangeFields) (done : List ChangeValue) (texts : List ℕ) (c : ChangeValue) (others : List ℕ) (total : Listed) → i < length fs → first_change_in (get_or fs i d) texts ≡ Ok (c, others) → go_on done (listed_in (drop i fs) texts) ≡ total → go_on (done ++ c ∷ []) (listed_in (drop (i + 1) fs) others) ≡ total
goes_on fs i d done texts c others total lt read so_far =
    sym (ap (go_on done) (at fs i d texts lt ∙ ap (λ (r : Result (ChangeValue × List ℕ) Failure). r >>= λ x. listed_in (drop (i + 1) fs) x.1 >>= λ cs. Ok (x.0 ∷ cs)) read) ∙ one_more done c (listed_in (drop (i + 1) fs) others)) ∙ so_far

-- or it has a fault
pub ends : (fs : List ChangeFields) (i : ℕ) (d : ChangeFields) (done : List ChangeValue) (texts : List ℕ) (e : Failure) (total : Listed) → i < length fs → first_change_in (get_or fs i d) texts ≡ Err e → go_on done (listed_in (drop i fs) texts) ≡ total → total ≡ Err e
ends fs i d done texts e total lt read so_far =
    sym so_far ∙ ap (go_on done) (at fs i d texts lt ∙ ap (λ (r : Result (ChangeValue × List ℕ) Failure). r >>= λ x. listed_in (drop (i + 1) fs) x.1 >>= λ cs. Ok (x.0 ∷ cs)) read)

-- no change is left, and no text
pub is_done : (fs : List ChangeFields) (i : ℕ) (done : List ChangeValue) (rest : List ℕ) (total : Listed) → length fs ≤ i → length rest ≡ 0 → go_on done (listed_in (drop i fs) rest) ≡ total → total ≡ Ok done
is_done fs i done rest total le none so_far =
    sym so_far ∙ ap (go_on done) (ap (λ (xs : List ChangeFields). listed_in xs rest) (drop_all i fs le) ∙ ap (listed_in []) (nil_from_length rest none) ∙ listed_none) ∙ ap (λ (xs : List ChangeValue). Ok xs) (append-nil done)

-- or texts are left
pub has_texts : (fs : List ChangeFields) (i : ℕ) (done : List ChangeValue) (rest : List ℕ) (total : Listed) → length fs ≤ i → (length rest == 0) ≡ false → go_on done (listed_in (drop i fs) rest) ≡ total → total ≡ Err Range
has_texts fs i done [] total le some so_far = absurd cc
has_texts fs i done (b ∷ bs) total le some so_far =
    sym so_far ∙ ap (go_on done) (ap (λ (xs : List ChangeFields). listed_in xs (b ∷ bs)) (drop_all i fs le) ∙ listed_texts b bs)
