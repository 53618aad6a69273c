-- Known bytes that are written piece by piece, of which the last one may be cut.
use Rattle.std.proofs.Common.{◌≡◌, ℕ, suc, ◌-◌, ◌<◌, ◌∙◌, List, length, [], ◌∷◌, ◌++◌, get_or, take, drop, refl, sym, ap, subst, append_assoc, append-nil, take-append-drop, arith, length-drop}
use Rattle.std.proofs.lemmas.List.{take_all}
use Rattle.std.specs.Prelude.{Option, None, Some, IfSome}
use Rattle.std.specs.Io.KnownBytes.{Appends, Keeps}
use Rattle.std.proofs.KnownBytes.{Appends-nil, Appends-trans, Appends-kept}
use Rattle.std.proofs.Math.Seq.{split_at}
use Rattle.std.proofs.lemmas.List.Concat.{flat_map-append}
use Rattle.sessions.specs.Sending.{bytes_sent, stream_sent}
use Rattle.sessions.specs.Writing.{AppendsSome}
use Rattle.sessions.specs.declared.send.runs.SendOutcome.{SendOutcome}

abbrev pub Known : Type 0
Known = Option (List ℕ)

-- nothing is written
pub some_none : (a : Known) (bs : List ℕ) → AppendsSome a a bs
some_none a bs = record { written = []; left = bs; parts = refl; appended = Appends-nil a }

-- all is
pub some_all : (a b : Known) (bs : List ℕ) → Appends a b bs → AppendsSome a b bs
some_all a b bs all = record { written = bs; left = []; parts = sym (append-nil bs); appended = all }

-- a beginning of what comes next is
pub some_next : (a b c : Known) (xs ys : List ℕ) → Appends a b xs → AppendsSome b c ys → AppendsSome a c (xs ++ ys)
some_next a b c xs ys all some = record {
  written = xs ++ some.written;
  left = some.left;
  parts = ap (λ (l : List ℕ). xs ++ l) some.parts ∙ sym (append_assoc xs some.written some.left);
  appended = Appends-trans a b c xs some.written all some.appended;
}

-- more was to be written
pub some_more : (a b : Known) (xs ys : List ℕ) → AppendsSome a b xs → AppendsSome a b (xs ++ ys)
some_more a b xs ys some = record {
  written = some.written;
  left = some.left ++ ys;
  parts = ap (λ (l : List ℕ). l ++ ys) some.parts ∙ append_assoc some.written some.left ys;
  appended = some.appended;
}

-- all before one are sent, and a beginning of that one
pub sent_some : (xs : List SendOutcome) (x : SendOutcome) (i : ℕ) (a b c : Known) → i < length xs → get_or xs i x ≡ x → Appends a b (stream_sent (take i xs)) → AppendsSome b c (bytes_sent x) → AppendsSome a c (stream_sent xs)
sent_some xs x i a b c within is before some =
    let later : List ℕ = stream_sent (drop (suc i) xs) in
    let split : xs ≡ take i xs ++ x ∷ drop (suc i) xs = split_at xs i x within ∙ ap (λ (y : SendOutcome). take i xs ++ y ∷ drop (suc i) xs) is in
    let parts : stream_sent xs ≡ stream_sent (take i xs) ++ (bytes_sent x ++ later) = ap stream_sent split ∙ flat_map-append bytes_sent (take i xs) (x ∷ drop (suc i) xs) in
    subst (λ (bs : List ℕ). AppendsSome a c bs) (sym parts) (some_next a b c (stream_sent (take i xs)) (bytes_sent x ++ later) before (some_more b c (bytes_sent x) later some))

-- where something is known
pub if_always : (known : Known) (P : List ℕ → Type 0) → ((bytes : List ℕ) → P bytes) → IfSome known P
if_always None P law = tt
if_always (Some bytes) P law = law bytes

-- ---- a loop over writes

-- all but these bytes at the end are written
pub record IsLeft (old now : Known) (all rest : List ℕ) : Type 0 where
  pub front : List ℕ
  pub parts : all ≡ front ++ rest
  pub appended : Appends old now front

pub left_on : (a b c : Known) (all rest : List ℕ) (n : ℕ) → IsLeft a b all rest → Appends b c (take n rest) → IsLeft a c all (take (length rest - n) (drop n rest))
left_on a b c all rest n left more =
    let is : take (length rest - n) (drop n rest) ≡ drop n rest = take_all (length rest - n) (drop n rest) (omega (arith, length-drop n rest)) in
    record {
      front = left.front ++ take n rest;
      parts = left.parts ∙ ap (λ (l : List ℕ). left.front ++ l) (sym (take-append-drop n rest)) ∙ sym (append_assoc left.front (take n rest) (drop n rest)) ∙ ap (λ (l : List ℕ). (left.front ++ take n rest) ++ l) (sym is);
      appended = Appends-trans a b c left.front (take n rest) left.appended more;
    }

pub left_kept : (a b c : Known) (all rest : List ℕ) → IsLeft a b all rest → Keeps b c → IsLeft a c all rest
left_kept a b c all rest left kept = record { front = left.front; parts = left.parts; appended = Appends-kept a b c left.front left.appended kept }
