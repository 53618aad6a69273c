-- Two facts that spare a measurement: printable ASCII is narrow, and the letters that need no table
-- are wide.
use Rattle.std.specs.Prelude.{◌≡◌, ℕ, ◌≤◌, true, List, [], ◌∷◌, encode_utf8}
use Rattle.termwiz_text.specs.Plain.{is_plain}
use Rattle.termwiz_text.specs.Letter.{is_letter}

-- each character of printable ASCII has one column at most
abbrev pub HasNarrowAscii : (List ℕ → ℕ) → Type 0
HasNarrowAscii measure = (c : ℕ) → is_plain c ≡ true → measure (c ∷ []) ≤ 1

-- each letter of kana, and each common ideograph, has two columns
abbrev pub HasWideLetters : (List ℕ → ℕ) → Type 0
HasWideLetters measure = (c : ℕ) → is_letter c ≡ true → measure (encode_utf8 c) ≡ 2
