-- Texts of two forms differ, since they differ in length; and clean texts of one byte are printable.
use Rattle.std.proofs.Common.{◌≡◌, ◌≢◌, ℕ, ◌<◌, ◌≤◌, Bool, true, false, inl, inr, List, [], ◌∷◌, ◌++◌, length, refl, ap, sym, subst, ◌∙◌, arith}
use Rattle.std.specs.Char.{len_utf8}
use Rattle.std.specs.Prelude.{IsUtf8, bytes_eq, encode_utf8, encode_utf8_all, nat_eq, slice_index_or, if◌then◌else◌}
use Rattle.std.specs.Cmp.Lexicographic.{bytes_decides}
use Rattle.std.proofs.lemmas.Bool.{cases_Bool}
use Rattle.std.proofs.lemmas.Bool.Decides.{same_from_decides, nat_tests}
use Rattle.std.proofs.lemmas.Str.{encode_ascii, len_utf8_bounds, length-encode}
use Rattle.std.proofs.lemmas.List.{length-append}
use Rattle.termwiz_text.specs.Plain.{is_one_plain, is_plain}
use Rattle.termwiz_cell.specs.CellValue.{clean, is_control, space}

pub short_differs_from_long : (a b : List ℕ) → length a ≤ 7 → 8 ≤ length b → bytes_eq a b ≡ false
short_differs_from_long a b ha hb = same_from_decides (bytes_eq a b) false (bytes_decides a b) (λ e. cc, λ e. absurd (let same = ap length e in omega arith))

pub long_differs_from_short : (a b : List ℕ) → 8 ≤ length a → length b ≤ 7 → bytes_eq a b ≡ false
long_differs_from_short a b ha hb = same_from_decides (bytes_eq a b) false (bytes_decides a b) (λ e. cc, λ e. absurd (let same = ap length e in omega arith))

-- a clean text of one byte of ASCII is printable
pub plain_one : (byte : ℕ) → byte < 128 → clean (byte ∷ []) ≡ byte ∷ [] → is_plain byte ≡ true
plain_one byte ascii h = elim (cases_Bool (is_control byte)) [
  | inl t ↦
      let same : 32 ∷ [] ≡ byte ∷ [] = sym (ap (λ (b : Bool). if b then space else byte ∷ []) t) ∙ h in
      let is : 32 ≡ byte = cc in
      subst (λ b. is_plain b ≡ true) is refl
  | inr f ↦ grind (arith, nat_tests, f, ascii)
]

-- a text of another length is not one such character
pub not_plain : (text : List ℕ) → length text ≢ 1 → is_one_plain text ≡ false
not_plain [] h = refl
not_plain (b ∷ []) h = absurd (h refl)
not_plain (b ∷ (c ∷ text)) h = refl

-- texts of two lengths differ
pub lengths_differ : (a b : List ℕ) → length a ≢ length b → bytes_eq a b ≡ false
lengths_differ a b h = same_from_decides (bytes_eq a b) false (bytes_decides a b) (λ e. cc, λ e. absurd (h (ap length e)))

-- one byte that is UTF-8 is a character of ASCII
ascii_byte : (byte : ℕ) → IsUtf8 (byte ∷ []) → byte < 128
ascii_byte byte utf8 = by utf8.0 utf8.1.1
  where
    short : (c : ℕ) → len_utf8 c ≡ 1 → c < 128
    short c h = grind (arith, nat_tests, h)

    by : (cs : List ℕ) → encode_utf8_all cs ≡ byte ∷ [] → byte < 128
    by [] e = absurd cc
    by (c ∷ cs) e =
        let one : len_utf8 c ≡ 1 = omega (arith, ap length e, length-append (encode_utf8 c) (encode_utf8_all cs), length-encode c, (len_utf8_bounds c).0) in
        let same : c ∷ encode_utf8_all cs ≡ byte ∷ [] = ap (λ t. t ++ encode_utf8_all cs) (sym (encode_ascii c (short c one))) ∙ e in
        let is : c ≡ byte = cc in
        subst (λ b. b < 128) is (short c one)

-- a text of one byte is that byte, a character of ASCII
pub one_ascii : (text : List ℕ) → length text ≡ 1 → IsUtf8 text → (slice_index_or text 0 0 < 128) × (text ≡ slice_index_or text 0 0 ∷ [])
one_ascii [] h utf8 = absurd cc
one_ascii (b ∷ []) h utf8 = (ascii_byte b utf8, refl)
one_ascii (b ∷ (c ∷ text)) h utf8 = absurd (omega (arith, h))

-- texts of one byte are the same where that byte is
pub one_byte_tells : (a b : List ℕ) → 1 ≤ length a → length a < 2 → length a ≡ length b → nat_eq (slice_index_or a 0 0) (slice_index_or b 0 0) ≡ bytes_eq a b
one_byte_tells [] b ha hb e = absurd (omega (arith, ha))
one_byte_tells (x ∷ (y ∷ a)) b ha hb e = absurd (omega (arith, hb))
one_byte_tells (x ∷ []) [] ha hb e = absurd (omega (arith, e))
one_byte_tells (x ∷ []) (y ∷ (z ∷ b)) ha hb e = absurd (omega (arith, e))
one_byte_tells (x ∷ []) (y ∷ []) ha hb e = elim (cases_Bool (nat_eq x y)) [ inl t ↦ grind (arith, nat_tests, t) | inr f ↦ grind (arith, nat_tests, f) ]

-- a clean text is not empty
pub clean_filled : (text : List ℕ) → clean text ≡ text → 1 ≤ length text
clean_filled [] h = absurd cc
clean_filled (b ∷ text) h = omega arith
