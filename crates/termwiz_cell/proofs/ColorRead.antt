-- A colour's text is read by reading its parts.
use Rattle.std.proofs.Common.{◌≡◌, ◌≢◌, ℕ, suc, ◌+◌, ◌*◌, ◌<◌, ◌∷◌, ◌++◌, [], List, length, get_or, take, drop, Option, Some, None, refl, sym, ap, ◌∙◌, subst, arith, length-append, append_assoc, codes, zero, Bor, MatchOption}
use Rattle.std.proofs.lemmas.List.Elements.{All-append, All-get_or, All-from_get_or}
use Rattle.std.proofs.lemmas.Str.Pattern.{IsSplitOnceResult, split_after, split_parts}
use Rattle.std.proofs.Math.Seq.{take-append_seam, drop-append_seam}
use Rattle.std.proofs.lemmas.Slice.Eq.{text_from_reads}
use Rattle.std.specs.Option.{option_and}
use Rattle.termwiz_cell.specs.Rgb.{Rgb, rgb}
use Rattle.termwiz_cell.specs.Reads.{Reads}
use Rattle.termwiz_cell.proofs.Readers.{Reads-nothing, nothing_right, Reads-same}
use Rattle.termwiz_cell.specs.ColorText.{color_of, IsDigit, IsByte, IsPart, IsHexColor, IsX11Color, IsColorText, two_digits, two, four, three, six, parts, hex, x11}

-- three parts make a colour
pub Reads-three : {P Q S : ℕ → Type 0} (red green blue : Option ℕ) → Reads red P → Reads green Q → Reads blue S → Reads (color_of red green blue) (λ c. P c.red × Q c.green × S c.blue)
Reads-three None green blue r g b = Reads-nothing (λ c h. nothing_right r c.red h.0)
Reads-three (Some red) None blue r g b = Reads-nothing (λ c h. nothing_right g c.green h.1)
Reads-three (Some red) (Some green) None r g b = Reads-nothing (λ c h. nothing_right b c.blue h.2)
Reads-three (Some red) (Some green) (Some blue) r g b = record {
  found = (r.found, g.found, b.found);
  only = λ c h.
      let er : red ≡ c.red = cc (r.only c.red h.0) in
      let eg : green ≡ c.green = cc (g.only c.green h.1) in
      let eb : blue ≡ c.blue = cc (b.only c.blue h.2) in
      λ i. Some (rgb (er i) (eg i) (eb i));
}

-- the digits of a byte's text
record HasDigits (a b byte : ℕ) : Type 0 where
  pub high : ℕ
  pub low : ℕ
  pub is_high : IsDigit a high
  pub is_low : IsDigit b low
  pub value : byte ≡ 16 * high + low

IsByte-digits : (a b byte : ℕ) → IsByte (a ∷ b ∷ []) byte → HasDigits a b byte
IsByte-digits a b byte (two_digits c d high low e h l v) =
    let ea : c ≡ a = cc in
    let eb : d ≡ b = cc in
    record {
      high = high;
      low = low;
      is_high = subst (λ x. IsDigit x high) ea h;
      is_low = subst (λ x. IsDigit x low) eb l;
      value = v;
    }

-- a byte is read where both its digits are
pub Reads-byte : (a b high low : ℕ) → Reads (Some high) (IsDigit a) → Reads (Some low) (IsDigit b) → Reads (Some (16 * high + low)) (IsByte (a ∷ b ∷ []))
Reads-byte a b high low h l = record {
  found = two_digits a b high low refl h.found l.found refl;
  only = λ byte is.
      let d = IsByte-digits a b byte is in
      let eh = h.only d.high d.is_high in
      let el = l.only d.low d.is_low in
      cc d.value;
}

pub Reads-byte_no_high : (a b : ℕ) → Reads None (IsDigit a) → Reads None (IsByte (a ∷ b ∷ []))
Reads-byte_no_high a b h = Reads-nothing (λ byte is. let d = IsByte-digits a b byte is in nothing_right h d.high d.is_high)

pub Reads-byte_no_low : (a b : ℕ) → Reads None (IsDigit b) → Reads None (IsByte (a ∷ b ∷ []))
Reads-byte_no_low a b l = Reads-nothing (λ byte is. let d = IsByte-digits a b byte is in nothing_right l d.low d.is_low)

-- how long a byte's text is
length-byte : (text : List ℕ) (byte : ℕ) → IsByte text byte → length text ≡ 2
length-byte text byte (two_digits a b high low e h l v) = ap length e

-- a text's beginning of n bytes, and what follows it
front : (n : ℕ) (t xs ys : List ℕ) → t ≡ xs ++ ys → length xs ≡ n → take n t ≡ xs
front n t xs ys e h = rw (e, ← h) (take-append_seam xs ys)

back : (n : ℕ) (t xs ys : List ℕ) → t ≡ xs ++ ys → length xs ≡ n → drop n t ≡ ys
back n t xs ys e h = rw (e, ← h) (drop-append_seam xs ys)

-- Parts.

IsPart-two : (a b byte : ℕ) → IsPart (a ∷ b ∷ []) byte → IsByte (a ∷ b ∷ []) byte
IsPart-two a b byte (two h) = h
IsPart-two a b byte (four first second finer e h k) =
    absurd (omega (arith, ap length e, length-append first second, length-byte first byte h, length-byte second finer k))

pub Reads-part_two : (text : List ℕ) (result : Option ℕ) → length text ≡ 2 → Reads result (IsByte (get_or text 0 0 ∷ get_or text 1 0 ∷ [])) → Reads result (IsPart text)
Reads-part_two text result e r =
    let same : text ≡ get_or text 0 0 ∷ get_or text 1 0 ∷ [] = text_from_reads _ _ e (refl, (refl, tt)) in
    subst (λ t. Reads result (IsPart t)) (sym same) (Reads-same result (λ v. two) (λ v. IsPart-two _ _ v) r)

-- a part of four digits is two bytes
record IsFour (a b c d byte : ℕ) : Type 0 where
  pub finer : ℕ
  pub first : IsByte (a ∷ b ∷ []) byte
  pub second : IsByte (c ∷ d ∷ []) finer

IsPart-four : (a b c d byte : ℕ) → IsPart (a ∷ b ∷ c ∷ d ∷ []) byte → IsFour a b c d byte
IsPart-four a b c d byte (two h) = absurd (omega (arith, length-byte _ byte h))
IsPart-four a b c d byte (four first second finer e h k) = record {
  finer = finer;
  first = subst (λ t. IsByte t byte) (sym (front 2 _ first second e (length-byte first byte h))) h;
  second = subst (λ t. IsByte t finer) (sym (back 2 _ first second e (length-byte first byte h))) k;
}

four_of : (text : List ℕ) → length text ≡ 4 → text ≡ get_or text 0 0 ∷ get_or text 1 0 ∷ get_or text 2 0 ∷ get_or text 3 0 ∷ []
four_of text e = text_from_reads _ _ e (refl, (refl, (refl, (refl, tt))))

pub Reads-part_four : (text : List ℕ) (finer result : Option ℕ) → length text ≡ 4 → Reads finer (IsByte (get_or text 2 0 ∷ get_or text 3 0 ∷ [])) → Reads result (IsByte (get_or text 0 0 ∷ get_or text 1 0 ∷ [])) → Reads (option_and finer result) (IsPart text)
Reads-part_four text None result e k r =
    subst (λ t. Reads None (IsPart t)) (sym (four_of text e))
    (Reads-nothing (λ v h. let f = IsPart-four _ _ _ _ v h in nothing_right k f.finer f.second))
Reads-part_four text (Some finer) result e k r =
    subst (λ t. Reads result (IsPart t)) (sym (four_of text e))
    (Reads-same result (λ v h. four _ _ finer refl h k.found) (λ v h. (IsPart-four _ _ _ _ v h).first) r)

length-part : (text : List ℕ) (byte : ℕ) → IsPart text byte → length text ≢ 2 → length text ≢ 4 → ⊥
length-part text byte (two h) not_two not_four = not_two (length-byte text byte h)
length-part text byte (four first second finer e h k) not_two not_four =
    not_four (omega (arith, ap length e, length-append first second, length-byte first byte h, length-byte second finer k))

pub Reads-part_other : (text : List ℕ) → length text ≢ 2 → length text ≢ 4 → Reads None (IsPart text)
Reads-part_other text not_two not_four = Reads-nothing (λ v h. length-part text v h not_two not_four)

-- Digits after `#`.

-- the parts of three digits
record IsThree (a b c : ℕ) (color : Rgb) : Type 0 where
  pub red : IsByte (a ∷ codes "0") color.red
  pub green : IsByte (b ∷ codes "0") color.green
  pub blue : IsByte (c ∷ codes "0") color.blue

-- the text has three bytes, of six digits
length-six : (text a b c : List ℕ) (red green blue : ℕ) → text ≡ a ++ b ++ c → IsByte a red → IsByte b green → IsByte c blue → length text ≡ 6
length-six text a b c red green blue e hr hg hb =
    omega (arith, ap length e, length-append (a ++ b) c, length-append a b, length-byte a red hr, length-byte b green hg, length-byte c blue hb)

IsHexColor-three : (a b c : ℕ) (color : Rgb) → IsHexColor (a ∷ b ∷ c ∷ []) color → IsThree a b c color
IsHexColor-three a b c color (three d e f same r g h) =
    let ea : d ≡ a = cc in
    let eb : e ≡ b = cc in
    let ec : f ≡ c = cc in
    record {
      red = subst (λ x. IsByte (x ∷ codes "0") color.red) ea r;
      green = subst (λ x. IsByte (x ∷ codes "0") color.green) eb g;
      blue = subst (λ x. IsByte (x ∷ codes "0") color.blue) ec h;
    }
IsHexColor-three a b c color (six d e f same r g h) = absurd (omega (arith, length-six _ d e f _ _ _ same r g h))

pub Reads-hex_three : (text : List ℕ) (red green blue : Option ℕ) → length text ≡ 3 → Reads red (IsByte (get_or text 0 0 ∷ codes "0")) → Reads green (IsByte (get_or text 1 0 ∷ codes "0")) → Reads blue (IsByte (get_or text 2 0 ∷ codes "0")) → Reads (color_of red green blue) (IsHexColor text)
Reads-hex_three text red green blue e r g b =
    let same : text ≡ get_or text 0 0 ∷ get_or text 1 0 ∷ get_or text 2 0 ∷ [] = text_from_reads _ _ e (refl, (refl, (refl, tt))) in
    subst (λ t. Reads (color_of red green blue) (IsHexColor t)) (sym same)
    (Reads-same _ (λ c h. three _ _ _ refl h.0 h.1 h.2)
    (λ c h. let t = IsHexColor-three _ _ _ c h in (t.red, t.green, t.blue))
    (Reads-three red green blue r g b))

-- the parts of six digits
record IsSix (a b c d e f : ℕ) (color : Rgb) : Type 0 where
  pub red : IsByte (a ∷ b ∷ []) color.red
  pub green : IsByte (c ∷ d ∷ []) color.green
  pub blue : IsByte (e ∷ f ∷ []) color.blue

IsHexColor-six : (a b c d e f : ℕ) (color : Rgb) → IsHexColor (a ∷ b ∷ c ∷ d ∷ e ∷ f ∷ []) color → IsSix a b c d e f color
IsHexColor-six a b c d e f color (three x y z same r g h) = absurd (omega (arith, ap length same))
IsHexColor-six a b c d e f color (six x y z same r g h) =
    let nr = length-byte x _ r in
    let ng = length-byte y _ g in
    let both : length (x ++ y) ≡ 4 = omega (arith, length-append x y) in
    let xy : a ∷ b ∷ c ∷ d ∷ [] ≡ x ++ y = front 4 _ (x ++ y) z same both in
    record {
      red = subst (λ t. IsByte t color.red) (sym (front 2 _ x y xy nr)) r;
      green = subst (λ t. IsByte t color.green) (sym (back 2 _ x y xy nr)) g;
      blue = subst (λ t. IsByte t color.blue) (sym (back 4 _ (x ++ y) z same both)) h;
    }

pub Reads-hex_six : (text : List ℕ) (red green blue : Option ℕ) → length text ≡ 6 → Reads red (IsByte (get_or text 0 0 ∷ get_or text 1 0 ∷ [])) → Reads green (IsByte (get_or text 2 0 ∷ get_or text 3 0 ∷ [])) → Reads blue (IsByte (get_or text 4 0 ∷ get_or text 5 0 ∷ [])) → Reads (color_of red green blue) (IsHexColor text)
Reads-hex_six text red green blue e r g b =
    let same : text ≡ get_or text 0 0 ∷ get_or text 1 0 ∷ get_or text 2 0 ∷ get_or text 3 0 ∷ get_or text 4 0 ∷ get_or text 5 0 ∷ [] =
    text_from_reads _ _ e (refl, (refl, (refl, (refl, (refl, (refl, tt)))))) in
    subst (λ t. Reads (color_of red green blue) (IsHexColor t)) (sym same)
    (Reads-same _ (λ c h. six _ _ _ refl h.0 h.1 h.2)
    (λ c h. let s = IsHexColor-six _ _ _ _ _ _ c h in (s.red, s.green, s.blue))
    (Reads-three red green blue r g b))

length-hex : (text : List ℕ) (color : Rgb) → IsHexColor text color → length text ≢ 3 → length text ≢ 6 → ⊥
length-hex text color (three a b c e r g h) not_three not_six = not_three (ap length e)
length-hex text color (six a b c e r g h) not_three not_six = not_six (length-six text a b c _ _ _ e r g h)

pub Reads-hex_other : (text : List ℕ) → length text ≢ 3 → length text ≢ 6 → Reads None (IsHexColor text)
Reads-hex_other text not_three not_six = Reads-nothing (λ c h. length-hex text c h not_three not_six)

-- Parts with slashes between them.

digit-slash : (digit value : ℕ) → IsDigit digit value → digit ≢ 47
digit-slash digit value h = grind arith

-- no byte of the text is a slash
abbrev LacksSlash : List ℕ → Type 0
LacksSlash text = (i : ℕ) → i < length text → get_or text i 0 ≢ 47

LacksSlash-two : (a b : ℕ) → a ≢ 47 → b ≢ 47 → (i : ℕ) → i < 2 → get_or (a ∷ b ∷ []) i 0 ≢ 47
LacksSlash-two a b p q zero h = p
LacksSlash-two a b p q (suc zero) h = q
LacksSlash-two a b p q (suc (suc i)) h = absurd (omega arith)

LacksSlash-byte : (text : List ℕ) (byte : ℕ) → IsByte text byte → LacksSlash text
LacksSlash-byte text byte (two_digits a b high low e h l v) =
    subst LacksSlash (sym e) (LacksSlash-two a b (digit-slash a high h) (digit-slash b low l))

LacksSlash-part : (text : List ℕ) (byte : ℕ) → IsPart text byte → LacksSlash text
LacksSlash-part text byte (two h) = LacksSlash-byte text byte h
LacksSlash-part text byte (four first second finer e h k) =
    let p = All-from_get_or (λ b. b ≢ 47) first 0 (LacksSlash-byte first byte h) in
    let q = All-from_get_or (λ b. b ≢ 47) second 0 (LacksSlash-byte second finer k) in
    subst LacksSlash (sym e) (λ i lt. All-get_or (λ b. b ≢ 47) (first ++ second) i 0 lt (All-append (λ b. b ≢ 47) first second p q))

-- what stands after the first slash
data IsRest (text : List ℕ) (color : Rgb) : Type 0 where
  two_parts : (b c : List ℕ) → text ≡ b ++ (47 ∷ c) → IsPart b color.green → IsPart c color.blue → IsRest text color

-- the same text, grouped by its slashes
slashes : (a b c : List ℕ) → a ++ codes "/" ++ b ++ codes "/" ++ c ≡ a ++ (47 ∷ (b ++ (47 ∷ c)))
slashes a b c = simp append_assoc

-- where a text is cut at its first slash, and then what follows it
first_cut : (text : List ℕ) (color : Rgb) (result : Option (Bor (List ℕ) × Bor (List ℕ))) → IsSplitOnceResult 47 text result → IsX11Color text color → MatchOption result ⊥ (λ x. IsPart x.0.now color.red × IsRest x.1.now color)
first_cut text color None s (parts a b c e r g h) =
    split_after 47 text a (b ++ (47 ∷ c)) None s (omega arith) (e ∙ slashes a b c) (LacksSlash-part a _ r)
first_cut text color (Some x) s (parts a b c e r g h) =
    let cut = split_after 47 text a (b ++ (47 ∷ c)) (Some x) s (omega arith) (e ∙ slashes a b c) (LacksSlash-part a _ r) in
    (subst (λ t. IsPart t color.red) (sym cut.0) r, two_parts b c cut.1 g h)

second_cut : (text : List ℕ) (color : Rgb) (result : Option (Bor (List ℕ) × Bor (List ℕ))) → IsSplitOnceResult 47 text result → IsRest text color → MatchOption result ⊥ (λ x. IsPart x.0.now color.green × IsPart x.1.now color.blue)
second_cut text color None s (two_parts b c e g h) =
    split_after 47 text b c None s (omega arith) e (LacksSlash-part b _ g)
second_cut text color (Some x) s (two_parts b c e g h) =
    let cut = split_after 47 text b c (Some x) s (omega arith) e (LacksSlash-part b _ g) in
    (subst (λ t. IsPart t color.green) (sym cut.0) g, subst (λ t. IsPart t color.blue) (sym cut.1) h)

pub Reads-x11_no_slash : (text : List ℕ) → IsSplitOnceResult 47 text None → Reads None (IsX11Color text)
Reads-x11_no_slash text s = Reads-nothing (λ color h. first_cut text color None s h)

pub Reads-x11_one_slash : (text : List ℕ) (red rest : Bor (List ℕ)) → IsSplitOnceResult 47 text (Some (red, rest)) → IsSplitOnceResult 47 rest.now None → Reads None (IsX11Color text)
Reads-x11_one_slash text red rest s t =
    Reads-nothing (λ color h. second_cut rest.now color None t (first_cut text color (Some (red, rest)) s h).1)

pub Reads-x11 : (text : List ℕ) (red rest green blue : Bor (List ℕ)) (r g b : Option ℕ) → IsSplitOnceResult 47 text (Some (red, rest)) → IsSplitOnceResult 47 rest.now (Some (green, blue)) → Reads r (IsPart red.now) → Reads g (IsPart green.now) → Reads b (IsPart blue.now) → Reads (color_of r g b) (IsX11Color text)
Reads-x11 text red rest green blue r g b s t hr hg hb =
    let first = split_parts 47 text (Some (red, rest)) s (omega arith) in
    let second = split_parts 47 rest.now (Some (green, blue)) t (omega arith) in
    let spelled : text ≡ red.now ++ codes "/" ++ green.now ++ codes "/" ++ blue.now =
    first.0 ∙ ap (λ x. red.now ++ (47 ∷ x)) second.0 ∙ sym (slashes red.now green.now blue.now) in
    Reads-same _ (λ color h. parts _ _ _ spelled h.0 h.1 h.2)
    (λ color h.
    let cut = first_cut text color (Some (red, rest)) s h in
    let more = second_cut rest.now color (Some (green, blue)) t cut.1 in
    (cut.0, more.0, more.1))
    (Reads-three r g b hr hg hb)

-- Whole texts.

pub Reads-hex_text : (text digits : List ℕ) (result : Option Rgb) → text ≡ codes "#" ++ digits → Reads result (IsHexColor digits) → Reads result (IsColorText text)
Reads-hex_text text digits result e r = Reads-same result (λ color h. hex digits e h) (λ color h. only_hex color h) r
  where
    only_hex : (color : Rgb) → IsColorText text color → IsHexColor digits color
    only_hex color (hex others f h) = let same : others ≡ digits = cc in subst (λ t. IsHexColor t color) same h
    only_hex color (x11 others f h) = absurd (omega (arith, ap (λ t. get_or t 0 0) (sym e ∙ f)))

pub Reads-x11_text : (text rest : List ℕ) (result : Option Rgb) → text ≡ codes "rgb:" ++ rest → Reads result (IsX11Color rest) → Reads result (IsColorText text)
Reads-x11_text text rest result e r = Reads-same result (λ color h. x11 rest e h) (λ color h. only_x11 color h) r
  where
    only_x11 : (color : Rgb) → IsColorText text color → IsX11Color rest color
    only_x11 color (hex others f h) = absurd (omega (arith, ap (λ t. get_or t 0 0) (sym e ∙ f)))
    only_x11 color (x11 others f h) = let same : others ≡ rest = cc in subst (λ t. IsX11Color t color) same h

pub Reads-no_text : (text : List ℕ) → ((digits : List ℕ) → text ≢ codes "#" ++ digits) → ((rest : List ℕ) → text ≢ codes "rgb:" ++ rest) → Reads None (IsColorText text)
Reads-no_text text no_hex no_x11 = Reads-nothing neither
  where
    neither : (color : Rgb) → ¬ IsColorText text color
    neither color (hex digits e h) = no_hex digits e
    neither color (x11 rest e h) = no_x11 rest e
