-- Printable ASCII: each character is a grapheme by itself, where no mark follows it.
use Rattle.std.proofs.Common.{◌≡◌, ◌≢◌, ℕ, zero, suc, ◌+◌, ◌-◌, ◌*◌, ◌<◌, ◌≤◌, true, false, ◌&&◌, ◌||◌, ◌==◌, List, [], ◌∷◌, ◌++◌, map, length, get_or, take, drop, min, refl, sym, ap, ap₂, subst, ◌∙◌, arith, take-append-drop, length-take-le, append-nil, leb-true, lt-ltb}
use Rattle.std.proofs.lemmas.Bool.{and_parts, ne_eqb}
use Rattle.std.proofs.lemmas.List.Folds.{list_all-append}
use Rattle.std.proofs.lemmas.Str.{encode_ascii, IsUtf8-from_ascii, IsCharBoundary-from_take}
use Rattle.std.proofs.lemmas.Str.Ascii.{IsAscii-cons, IsAscii-nil}
use Rattle.std.proofs.Math.Seq.{take-add}
use Rattle.std.specs.Prelude.{nat_le, encode_utf8, encode_utf8_all}
use Rattle.std.specs.Char.{is_ascii}
use Rattle.std.specs.List.{list_all}
use Rattle.std.specs.Str.{chars, IsUtf8, IsAscii, IsCharBoundary}
use Rattle.unicode_segmentation.specs.Grapheme.{graphemes}
use Rattle.termwiz_text.specs.Plain.{is_plain, begins_alone, IsPlainRun}
use Rattle.termwiz_text.specs.Letter.{is_letter, is_narrow, is_simple, begins_simple}
use Rattle.termwiz_text.proofs.Simple.{simple_breaks}
use Rattle.termwiz_text.proofs.Ascii.{chars_ascii, IsUtf8-past_ascii, graphemes_ascii}
use Rattle.termwiz_text.proofs.Boundaries.{breaks, breaks-end}

plain_lt : (c : ℕ) → is_plain c ≡ true → c < 127
plain_lt c h = let le = leb-true c 0x7E (and_parts (nat_le 0x20 c) (nat_le c 0x7E) h).1 in omega arith

pub plain_ascii : (c : ℕ) → is_plain c ≡ true → c < 128
plain_ascii c h = let l = plain_lt c h in omega arith

pub plain_unmarked : (c : ℕ) → is_plain c ≡ true → is_ascii c ≡ true
plain_unmarked c h = lt-ltb c 128 (plain_ascii c h)

plain_not_cr : (p q : ℕ) → is_plain p ≡ true → (p == 13 && q == 10) ≡ false
plain_not_cr p q h = let le = leb-true 0x20 p (and_parts (nat_le 0x20 p) (nat_le p 0x7E) h).0 in ap (λ b. b && q == 10) (ne_eqb p 13 (omega arith))

pub ascii_simple : (c : ℕ) → is_ascii c ≡ true → is_simple c ≡ true
ascii_simple c h = ap (λ b. b || is_letter c || is_narrow c) h

pub plain_simple : (p : ℕ) → is_plain p ≡ true → is_simple p ≡ true
plain_simple p h = ascii_simple p (plain_unmarked p h)

-- between such a character and one of ASCII there is always a boundary
pub plain_breaks : (p : ℕ) (before : List ℕ) (q : ℕ) (after : List ℕ) → is_plain p ≡ true → is_ascii q ≡ true → breaks (p ∷ before) (q ∷ after) ≡ true
plain_breaks p before q after a b = simple_breaks p before q after (plain_simple p a) (ascii_simple q b) (plain_not_cr p q a)

pub chars_plain : (p : ℕ) (b : List ℕ) → IsUtf8 (p ∷ b) → is_plain p ≡ true → chars (p ∷ b) ≡ p ∷ chars b
chars_plain p b u h = chars_ascii p b u (plain_ascii p h)

pub IsUtf8-past_plain : (p : ℕ) (b : List ℕ) → IsUtf8 (p ∷ b) → is_plain p ≡ true → IsUtf8 b
IsUtf8-past_plain p b u h = IsUtf8-past_ascii p b u (plain_ascii p h)

pub encode_one : (p : ℕ) → is_plain p ≡ true → encode_utf8_all (p ∷ []) ≡ p ∷ []
encode_one p h = append-nil (encode_utf8 p) ∙ encode_ascii p (plain_ascii p h)

-- so where a simple character follows, or none
plain_ends : (p : ℕ) (cs : List ℕ) → is_plain p ≡ true → begins_simple cs ≡ true → breaks (p ∷ []) cs ≡ true
plain_ends p [] h k = breaks-end p []
plain_ends p (q ∷ cs) h k = simple_breaks p [] q cs (plain_simple p h) k (plain_not_cr p q h)

-- a printable character of ASCII that no mark follows is the first grapheme
pub graphemes_plain : (p : ℕ) (b : List ℕ) → IsUtf8 (p ∷ b) → is_plain p ≡ true → begins_simple (chars b) ≡ true → graphemes true (p ∷ b) ≡ (p ∷ []) ∷ graphemes true b
graphemes_plain p b u h k = graphemes_ascii p b u (plain_ascii p h) (plain_ends p (chars b) h k)

-- a run of printable ASCII that no mark follows: each character is a grapheme
pub graphemes_plain_run : (a b : List ℕ) → IsUtf8 (a ++ b) → list_all is_plain a ≡ true → (0 < length a → begins_simple (chars b) ≡ true) → graphemes true (a ++ b) ≡ map (λ c. c ∷ []) a ++ graphemes true b
graphemes_plain_run [] b u h k = refl
graphemes_plain_run (p ∷ []) b u h k = graphemes_plain p b u (and_parts (is_plain p) true h).0 (k (omega arith))
graphemes_plain_run (p ∷ (q ∷ a)) b u h k =
    let parts = and_parts (is_plain p) (is_plain q && list_all is_plain a) h in
    let next : is_plain q ≡ true = (and_parts (is_plain q) (list_all is_plain a) parts.1).0 in
    let later : IsUtf8 (q ∷ (a ++ b)) = IsUtf8-past_plain p _ u parts.0 in
    graphemes_plain p (q ∷ (a ++ b)) u parts.0 (ap begins_simple (chars_plain q (a ++ b) later next) ∙ plain_simple q next)
    ∙ ap (λ ps. (p ∷ []) ∷ ps) (graphemes_plain_run (q ∷ a) b later parts.1 (λ _. k (omega arith)))

pub utf8_one : (p : ℕ) → is_plain p ≡ true → IsUtf8 (p ∷ [])
utf8_one p h = let l = plain_lt p h in IsUtf8-from_ascii (p ∷ []) (IsAscii-cons p [] (omega arith) IsAscii-nil)

-- where the character that stands there is not printable ASCII, none stands alone
pub none_alone : (bs : List ℕ) (n : ℕ) → (n < length bs → is_plain (get_or bs n 0) ≡ false) → begins_alone (drop n bs) ≡ false
none_alone [] zero h = refl
none_alone [] (suc n) h = refl
none_alone (c ∷ bs) zero h = ap (λ b. b && begins_simple (chars bs)) (h (omega arith))
none_alone (c ∷ bs) (suc n) h = none_alone bs n (λ l. h (omega arith))

-- the last one of a run is left out, where a mark may follow it
pub record IsStepBack (rest : List ℕ) : Type 0 where
  pub unmarked : begins_simple (chars rest) ≡ true
  pub none_alone : begins_alone rest ≡ false

before_last : (bs : List ℕ) (k : ℕ) → IsUtf8 bs → suc k ≤ length bs → list_all is_plain (take (suc k) bs) ≡ true → begins_simple (chars (drop (suc k) bs)) ≡ false → IsStepBack (drop k bs)
before_last [] k u l h e = absurd (omega arith)
before_last (p ∷ bs) zero u l h e =
    let is : is_plain p ≡ true = (and_parts (is_plain p) true h).0 in
    record { unmarked = ap begins_simple (chars_plain p bs u is) ∙ plain_simple p is; none_alone = ap₂ ◌&&◌ is e }
before_last (p ∷ bs) (suc k) u l h e =
    let parts = and_parts (is_plain p) (list_all is_plain (take (suc k) bs)) h in
    before_last bs k (IsUtf8-past_plain p bs u parts.0) (omega arith) parts.1 e

pub step_back : (bs : List ℕ) (n : ℕ) → IsUtf8 bs → n ≢ 0 → n ≤ length bs → list_all is_plain (take n bs) ≡ true → begins_simple (chars (drop n bs)) ≡ false → IsStepBack (drop (n - 1) bs)
step_back bs zero u s l h e = absurd (s refl)
step_back bs (suc k) u s l h e = let less : k ≡ suc k - 1 = omega arith in subst (λ (i : ℕ). IsStepBack (drop i bs)) less (before_last bs k u l h e)

-- one more block of a run
pub block_more : (bs : List ℕ) (k : ℕ) → list_all is_plain (take (16 * k) bs) ≡ true → list_all is_plain (take (16 * k + 16 - 16 * k) (drop (16 * k) bs)) ≡ true → list_all is_plain (take (16 * (k + 1)) bs) ≡ true
block_more bs k h e =
    let at : ℕ = 16 * k in
    let next : 16 * (k + 1) ≡ at + 16 = omega arith in
    let block : at + 16 - at ≡ 16 = omega arith in
    ap (list_all is_plain) (ap (λ (n : ℕ). take n bs) next ∙ take-add at 16 bs)
    ∙ list_all-append is_plain (take at bs) (take 16 (drop at bs))
    ∙ ap₂ ◌&&◌ h (ap (λ (n : ℕ). list_all is_plain (take n (drop at bs))) (sym block) ∙ e)

ascii_run : (run : List ℕ) → list_all is_plain run ≡ true → IsAscii run
ascii_run [] h = IsAscii-nil
ascii_run (p ∷ run) h = let parts = and_parts (is_plain p) (list_all is_plain run) h in IsAscii-cons p run (plain_ascii p parts.0) (ascii_run run parts.1)

pub boundary_after_run : (text : List ℕ) (n : ℕ) → IsUtf8 text → n ≤ length text → list_all is_plain (take n text) ≡ true → IsCharBoundary text n
boundary_after_run text n u l h = IsCharBoundary-from_take text n u l (IsUtf8-from_ascii (take n text) (ascii_run (take n text) h))

pub plain_before_last : (n : ℕ) (text : List ℕ) → list_all is_plain (take n text) ≡ true → list_all is_plain (take (n - 1) text) ≡ true
plain_before_last zero text h = h
plain_before_last (suc k) text h = let less : k ≡ suc k - 1 = omega arith in subst (λ (i : ℕ). list_all is_plain (take i text) ≡ true) less (shorter k text h)
  where
    shorter : (k : ℕ) (text : List ℕ) → list_all is_plain (take (suc k) text) ≡ true → list_all is_plain (take k text) ≡ true
    shorter zero text h = refl
    shorter (suc k) [] h = refl
    shorter (suc k) (p ∷ text) h = let parts = and_parts (is_plain p) (list_all is_plain (take (suc k) text)) h in ap₂ ◌&&◌ parts.0 (shorter k text parts.1)

pub boundary_before_last : (text : List ℕ) (n : ℕ) → IsUtf8 text → n ≤ length text → list_all is_plain (take n text) ≡ true → IsCharBoundary text (n - 1)
boundary_before_last text n u l h = boundary_after_run text (n - 1) u (omega arith) (plain_before_last n text h)

-- a front of the text that ends where such a run ends, and the rest
pub run_of : (text run rest : List ℕ) (limit n : ℕ) → IsUtf8 text → run ≡ take n text → rest ≡ drop n text → n ≤ min limit (length text) → list_all is_plain (take n text) ≡ true
    → (0 < n → begins_simple (chars (drop n text)) ≡ true) → (n < limit → begins_alone (drop n text) ≡ false) → IsPlainRun text limit run rest
run_of text run rest limit n u front back within plain unmarked longest =
    let whole : take n text ++ drop n text ≡ text = take-append-drop n text in
    let count : length (take n text) ≡ n = length-take-le n text (omega arith) in
    rw (front, back) (record {
      whole = whole;
      plain = plain;
      within = omega arith;
      graphemes_are = ap (graphemes true) (sym whole) ∙ graphemes_plain_run (take n text) (drop n text) (subst IsUtf8 (sym whole) u) plain (λ some. unmarked (omega arith));
      longest = λ l. longest (omega arith);
    })
