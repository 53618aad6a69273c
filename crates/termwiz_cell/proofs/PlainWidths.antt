-- The widths of the most common texts: one printable character of ASCII, one letter of kana or common ideograph, or one common narrow character.
use Rattle.std.proofs.Common.{◌≡◌, ℕ, ◌≤◌, inl, inr, Bool, true, false, cond, ◌==◌, ◌||◌, List, [], ◌∷◌, Some, None, unwrap_or, nat_lt, nat_le, refl, sym, ap, ap₂, ◌∙◌, min, ◌&&◌, arith, eqb-true, lt-ltb, le-ltb, le-leb, add-zero, rules, tests}
use Rattle.std.proofs.Math.Bool.{or-true}
use Rattle.std.proofs.lemmas.Bool.{or_cases}
use Rattle.std.proofs.lemmas.List.Sums.{sum_by-cons}
use Rattle.std.proofs.lemmas.Str.{chars-nil, IsUtf8-encode}
use Rattle.std.specs.Char.{IsScalar}
use Rattle.std.specs.Int.{is_in_range}
use Rattle.std.specs.Prelude.{encode_utf8}
use Rattle.std.specs.Str.{chars}
use Rattle.unicode_segmentation.proofs.TextLemmas.{chars-encode_utf8}
use Rattle.unicode_width.specs.Kind.{kind, kind_number}
use Rattle.unicode_width.specs.declared.kind.Kind.{Kind}
use Rattle.unicode_width.specs.Width.{str_width, char_width, alone, of_kind}
use Rattle.unicode_width.specs.declared.kind.Kind.TheVariants.{Narrow, Wide, Ambiguous}
use Rattle.unicode_width.proofs.Computing.{unicode_width}
use Rattle.unicode_width.proofs.KindLemmas.{kind_number_stepped, kind_from_number-kind_number}
use Rattle.unicode_width.proofs.Rules.{is_simple_kind, width_or_zero, str_width-printable, str_width-simple}
use Rattle.termwiz_text.specs.Plain.{is_one_plain}
use Rattle.termwiz_text.specs.Letter.{is_letter, is_narrow, only_char}
use Rattle.termwiz_text.proofs.Letters.{letters_stepped, Stepped-letters, letter_from, narrow_stepped, Stepped-narrow, narrow_from}
use Rattle.termwiz_text.proofs.Plain.{chars_plain, utf8_one}
use Rattle.termwiz_cell.specs.UsualWidths.{HasNarrowAscii, HasWideLetters}
use Rattle.termwiz_cell.specs.Width.{unicode_columns}

pub one_plain_width : (text : List ℕ) → is_one_plain text ≡ true → unicode_columns text ≡ 1
unfolding unicode_columns
one_plain_width [] h = absurd cc
one_plain_width (c ∷ []) h =
    ap (λ cs. min (str_width false cs) 2) (chars_plain c [] (utf8_one c h) h ∙ ap (λ t. c ∷ t) chars-nil)
    ∙ ap (λ n. min n 2) (str_width-printable false (c ∷ []) (ap (λ b. b && true) h))
one_plain_width (c ∷ (d ∷ text)) h = absurd cc

-- a character beyond ASCII of this kind
module _ (c : ℕ) (from : 0xA1 ≤ c) (k : Kind) (is : kind c ≡ k) where
  kind_width : width_or_zero false c ≡ (of_kind false c k).0
  unfolding char_width alone
  kind_width =
      ap₂ (λ low high. unwrap_or (cond low (cond (nat_le 0x20 c) (Some 1) None) (cond high (Some (of_kind false c (kind c)).0) None)) 0) (le-ltb c 0x7F (omega arith)) (le-leb 0xA0 c (omega arith))
      ∙ ap (λ k. (of_kind false c k).0) is

  kind_simple : is_simple_kind k ≡ true → (is_in_range 0x20 0x7E c || (nat_lt 0xA0 c && is_simple_kind (kind c))) ≡ true
  kind_simple h = ap₂ (λ low k. is_in_range 0x20 0x7E c || (low && k)) (lt-ltb 0xA0 c (omega arith)) (ap is_simple_kind is ∙ h) ∙ or-true (is_in_range 0x20 0x7E c)

  one_width : (text : List ℕ) → is_simple_kind k ≡ true → Some c ≡ only_char (chars text) → unicode_columns text ≡ min (of_kind false c k).0 2
  unfolding unicode_columns
  one_width text h only = ap (λ n. min n 2) (alone (chars text) only)
    where
      alone : (cs : List ℕ) → Some c ≡ only_char cs → str_width false cs ≡ (of_kind false c k).0
      alone [] e = absurd cc
      alone (d ∷ (x ∷ cs)) e = absurd cc
      alone (d ∷ []) e =
          let same : c ≡ d = cc in
          ap (λ x. str_width false (x ∷ [])) (sym same)
          ∙ str_width-simple false (c ∷ []) (ap (λ b. b && true) (kind_simple h)) ∙ sum_by-cons (width_or_zero false) c [] ∙ add-zero (width_or_zero false c) ∙ kind_width

letter_number : (c : ℕ) → is_letter c ≡ true → (kind_number c == 2) ≡ true
unfolding unicode_width kind_number_stepped letters_stepped
letter_number = Stepped-letters kind_number kind_number_stepped (λ n. n == 2) refl

letter_kind : (c : ℕ) → is_letter c ≡ true → kind c ≡ Wide
letter_kind c h = sym (kind_from_number-kind_number c 2 (sym (eqb-true (kind_number c) 2 (letter_number c h))))

pub one_letter_width : (text : List ℕ) (c : ℕ) → Some c ≡ only_char (chars text) → is_letter c ≡ true → unicode_columns text ≡ 2
one_letter_width text c only h = let from = letter_from c h in one_width c (omega arith) Wide (letter_kind c h) text refl only

narrow_number : (c : ℕ) → is_narrow c ≡ true → ((kind_number c == 1) || (kind_number c == 3)) ≡ true
unfolding unicode_width kind_number_stepped narrow_stepped
narrow_number = Stepped-narrow kind_number kind_number_stepped (λ n. (n == 1) || (n == 3)) refl

pub one_narrow_width : (text : List ℕ) (c : ℕ) → Some c ≡ only_char (chars text) → is_narrow c ≡ true → unicode_columns text ≡ 1
one_narrow_width text c only h = elim (or_cases (kind_number c == 1) (kind_number c == 3) (narrow_number c h)) [
  | inl one ↦ one_width c (narrow_from c h) Narrow (sym (kind_from_number-kind_number c 1 (sym (eqb-true (kind_number c) 1 one)))) text refl only
  | inr three ↦ one_width c (narrow_from c h) Ambiguous (sym (kind_from_number-kind_number c 3 (sym (eqb-true (kind_number c) 3 three)))) text refl only
]

-- no letter is a surrogate
letter_scalar : (c : ℕ) → is_letter c ≡ true → IsScalar c
letter_scalar c h = search (rules, tests)

-- by the Unicode tables printable ASCII is narrow, and letters are wide
pub unicode_narrow_ascii : HasNarrowAscii unicode_columns
unicode_narrow_ascii c h = search (rules, one_plain_width (c ∷ []) h)

pub unicode_wide_letters : HasWideLetters unicode_columns
unicode_wide_letters c h = one_letter_width (encode_utf8 c) c (sym (ap only_char (chars-encode_utf8 c (IsUtf8-encode c (letter_scalar c h))))) h
