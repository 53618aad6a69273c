-- The three bytes of a letter.
use Rattle.std.proofs.Common.{◌≡◌, ℕ, ◌+◌, ◌*◌, ◌/◌, ◌%◌, ◌<◌, ◌≤◌, true, false, ◌||◌, inl, inr, List, [], ◌∷◌, ◌++◌, length, get_or, take, drop, refl, sym, ap, ◌∙◌, arith}
use Rattle.std.proofs.lemmas.Bool.{cases_Bool, cases_lt, le-ltb, lt-ltb, ltb-true, true≢false}
use Rattle.std.proofs.lemmas.Str.{chars-nil, encodes-chars}
use Rattle.std.specs.Prelude.{encode_utf8, encode_utf8_all}
use Rattle.std.specs.List.{list_all}
use Rattle.std.specs.Str.{chars, IsUtf8}
use lib.Utf8.{encode}
use Rattle.termwiz_text.specs.Letter.{is_letter, is_narrow, begins_simple, begins_letter}
use Rattle.termwiz_text.specs.Plain.{begins_ascii}
use Rattle.termwiz_text.proofs.Ascii.{chars_ascii}
use Rattle.termwiz_text.proofs.LetterRuns.{letter_to, one_more}
use Rattle.termwiz_text.proofs.Letters.{letter_from}

-- ---- the bytes of a character

encode_one : (c : ℕ) → c < 0x80 → encode_utf8 c ≡ c ∷ []
unfolding encode
encode_one c l = rw (lt-ltb c 0x80 l) refl

encode_two : (c : ℕ) → 0x80 ≤ c → c < 0x800 → encode_utf8 c ≡ (192 + c / 64) ∷ ((128 + c % 64) ∷ [])
unfolding encode
encode_two c k l = rw (le-ltb c 0x80 k, lt-ltb c 0x800 l) refl

encode_three : (c : ℕ) → 0x800 ≤ c → c < 0x1_0000 → encode_utf8 c ≡ (224 + c / 4096) ∷ ((128 + c / 64 % 64) ∷ ((128 + c % 64) ∷ []))
unfolding encode
encode_three c k l = rw (le-ltb c 0x80 (omega arith), le-ltb c 0x800 k, lt-ltb c 0x1_0000 l) refl

encode_four : (c : ℕ) → 0x1_0000 ≤ c → encode_utf8 c ≡ (240 + c / 262144) ∷ ((128 + c / 4096 % 64) ∷ ((128 + c / 64 % 64) ∷ ((128 + c % 64) ∷ [])))
unfolding encode
encode_four c k = rw (le-ltb c 0x80 (omega arith), le-ltb c 0x800 (omega arith), le-ltb c 0x1_0000 k) refl

-- the number of a character of these three bytes
abbrev pub number_of : ℕ → ℕ → ℕ → ℕ
number_of x y z = x % 16 * 4096 + y % 64 * 64 + z % 64

number_back : (c : ℕ) → c < 0x1_0000 → number_of (224 + c / 4096) (128 + c / 64 % 64) (128 + c % 64) ≡ c
number_back c l = omega arith

-- a character whose first byte is one of these three has that number
number_is : (c x y z : ℕ) (more rest : List ℕ) → encode_utf8 c ++ more ≡ x ∷ (y ∷ (z ∷ rest)) → 0xE0 ≤ x → x ≤ 0xEF → number_of x y z ≡ c
number_is c x y z more rest e low high = elim (cases_lt c 0x80) [
  | inl l ↦
      let k : c ∷ more ≡ x ∷ (y ∷ (z ∷ rest)) = sym (ap (λ t. t ++ more) (encode_one c l)) ∙ e in
      let same : c ≡ x = cc in
      absurd (omega arith)
  | inr m ↦ elim (cases_lt c 0x800) [
    | inl l ↦
        let k : (192 + c / 64) ∷ ((128 + c % 64) ∷ more) ≡ x ∷ (y ∷ (z ∷ rest)) = sym (ap (λ t. t ++ more) (encode_two c m l)) ∙ e in
        let same : 192 + c / 64 ≡ x = cc in
        absurd (omega arith)
    | inr n ↦ elim (cases_lt c 0x1_0000) [
      | inl l ↦
          let k : (224 + c / 4096) ∷ ((128 + c / 64 % 64) ∷ ((128 + c % 64) ∷ more)) ≡ x ∷ (y ∷ (z ∷ rest)) = sym (ap (λ t. t ++ more) (encode_three c n l)) ∙ e in
          let first : 224 + c / 4096 ≡ x = cc in
          let second : 128 + c / 64 % 64 ≡ y = cc in
          let third : 128 + c % 64 ≡ z = cc in
          rw (sym first, sym second, sym third) (number_back c l)
      | inr o ↦
          let k : (240 + c / 262144) ∷ ((128 + c / 4096 % 64) ∷ ((128 + c / 64 % 64) ∷ ((128 + c % 64) ∷ more))) ≡ x ∷ (y ∷ (z ∷ rest)) = sym (ap (λ t. t ++ more) (encode_four c o)) ∙ e in
          let same : 240 + c / 262144 ≡ x = cc in
          absurd (omega arith)
    ]
  ]
]

-- ---- whether a text begins with a letter, by its bytes

pub letter_by_bytes : (bs : List ℕ) → IsUtf8 bs → 3 ≤ length bs → 0xE0 ≤ get_or bs 0 0 → get_or bs 0 0 ≤ 0xEF → is_letter (number_of (get_or bs 0 0) (get_or bs 1 0) (get_or bs 2 0)) ≡ begins_letter (chars bs)
letter_by_bytes [] u l low high = absurd (omega arith)
letter_by_bytes (x ∷ []) u l low high = absurd (omega arith)
letter_by_bytes (x ∷ (y ∷ [])) u l low high = absurd (omega arith)
letter_by_bytes (x ∷ (y ∷ (z ∷ rest))) u l low high = some (chars (x ∷ (y ∷ (z ∷ rest)))) (encodes-chars (x ∷ (y ∷ (z ∷ rest))) u)
  where
    some : (cs : List ℕ) → encode_utf8_all cs ≡ x ∷ (y ∷ (z ∷ rest)) → is_letter (number_of x y z) ≡ begins_letter cs
    some [] e = absurd cc
    some (c ∷ cs) e = ap is_letter (number_is c x y z (encode_utf8_all cs) rest e low high)

-- the text has three bytes and more, and the first one is that of a character of three
pub record HasThree (bs : List ℕ) : Type 0 where
  pub long : 3 ≤ length bs
  pub low : 0xE0 ≤ get_or bs 0 0
  pub high : get_or bs 0 0 ≤ 0xEF

pub three_from_letter : (bs : List ℕ) → IsUtf8 bs → begins_letter (chars bs) ≡ true → HasThree bs
three_from_letter bs u h = some (chars bs) (encodes-chars bs u) h
  where
    some : (cs : List ℕ) → encode_utf8_all cs ≡ bs → begins_letter cs ≡ true → HasThree bs
    some [] e k = absurd cc
    some (c ∷ cs) e k =
        let from : 0x3041 ≤ c = letter_from c k in
        let to : c ≤ 0x9FFF = letter_to c k in
        let whole : bs ≡ (224 + c / 4096) ∷ ((128 + c / 64 % 64) ∷ ((128 + c % 64) ∷ encode_utf8_all cs)) = sym e ∙ ap (λ t. t ++ encode_utf8_all cs) (encode_three c (omega arith) (omega arith)) in
        rw whole (record { long = omega arith; low = omega arith; high = omega arith })

pub none_by_bytes : (bs : List ℕ) → IsUtf8 bs → (HasThree bs → true ≡ false) → false ≡ begins_letter (chars bs)
none_by_bytes bs u never = elim (cases_Bool (begins_letter (chars bs))) [
  | inl t ↦ absurd (true≢false (never (three_from_letter bs u t)))
  | inr n ↦ sym n
]

-- a character of ASCII first is a simple one
pub ascii_begins_simple : (bs : List ℕ) → IsUtf8 bs → begins_ascii bs ≡ true → begins_simple (chars bs) ≡ true
ascii_begins_simple [] u h = ap begins_simple chars-nil
ascii_begins_simple (b ∷ bs) u h = ap begins_simple (chars_ascii b bs u (ltb-true b 0x80 h)) ∙ ap (λ a. a || is_letter b || is_narrow b) h

-- ---- counting

-- one more letter is counted
pub record IsCounted (cs : List ℕ) (n : ℕ) : Type 0 where
  pub inside : n ≤ length cs
  pub letters : list_all is_letter (take n cs) ≡ true

pub counted_more : (cs : List ℕ) (k : ℕ) → IsCounted cs k → begins_letter (drop k cs) ≡ true → IsCounted cs (k + 1)
counted_more cs k p h = some (drop k cs) refl h
  where
    some : (ds : List ℕ) → drop k cs ≡ ds → begins_letter ds ≡ true → IsCounted cs (k + 1)
    some [] e h = absurd cc
    some (c ∷ ds) e h = let more = one_more cs k c ds e p.letters h in record { inside = more.inside; letters = more.letters }
