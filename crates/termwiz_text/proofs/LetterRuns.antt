-- Runs of letters: each has three bytes, and is a grapheme by itself where no mark follows the last one.
use Rattle.std.proofs.Common.{◌≡◌, ◌≢◌, ℕ, zero, suc, ◌+◌, ◌-◌, ◌*◌, ◌<◌, ◌≤◌, true, false, ◌&&◌, ◌||◌, ◌==◌, inl, inr, List, [], ◌∷◌, ◌++◌, map, length, get_or, take, drop, min, refl, sym, ap, ap₂, subst, ◌∙◌, arith, take-append-drop, length-take-le, length-append, append-nil, append_assoc}
use Rattle.std.proofs.Math.Bool.{or-true}
use Rattle.std.proofs.Math.Seq.{take-append_seam, drop-append_seam}
use Rattle.std.proofs.lemmas.Bool.{and_parts, or_cases, ne_eqb, le-ltb, lt-ltb, leb-true}
use Rattle.std.proofs.lemmas.List.{drop_more}
use Rattle.std.proofs.lemmas.List.Folds.{list_all-append}
use Rattle.std.proofs.lemmas.List.Sums.{AllPass-from_list_all}
use Rattle.std.proofs.lemmas.Str.{chars-nil, chars_past_char, chars_from_encodes, encodes-chars, encodes-append, IsUtf8-encode, IsUtf8-past_char, IsCharBoundary-at_seam, length-encode}
use Rattle.std.specs.Prelude.{nat_le, encode_utf8, encode_utf8_all}
use Rattle.std.specs.Char.{is_ascii}
use Rattle.std.specs.Int.{is_in_range}
use Rattle.std.specs.List.{list_all}
use Rattle.std.specs.Str.{chars, IsUtf8, IsCharBoundary}
use Rattle.unicode_segmentation.specs.Grapheme.{graphemes}
use Rattle.unicode_segmentation.proofs.TextLemmas.{IsUtf8-before}
use Rattle.termwiz_text.specs.Letter.{is_letter, is_narrow, is_simple, begins_simple, begins_letter, begins_lone_letter, AreLetters, IsLetterRun}
use Rattle.termwiz_text.proofs.Boundaries.{breaks, breaks-end}
use Rattle.termwiz_text.proofs.First.{graphemes-nil}
use Rattle.termwiz_text.proofs.Letters.{letter_from}
use Rattle.termwiz_text.proofs.Pieces.{IsUtf8-past, graphemes_past_char}
use Rattle.termwiz_text.proofs.Simple.{simple_breaks}

pub letter_to : (c : ℕ) → is_letter c ≡ true → c ≤ 0x9FFF
letter_to c h = elim (or_cases (is_in_range 0x3041 0x3096 c || is_in_range 0x30A1 0x30FA c) (is_in_range 0x4E00 0x9FFF c) h) [
  | inl kana ↦ elim (or_cases (is_in_range 0x3041 0x3096 c) (is_in_range 0x30A1 0x30FA c) kana) [
    | inl x ↦ let l = highest 0x3041 0x3096 x in omega arith
    | inr x ↦ let l = highest 0x30A1 0x30FA x in omega arith
  ]
  | inr x ↦ highest 0x4E00 0x9FFF x
]
  where
    highest : (low high : ℕ) → is_in_range low high c ≡ true → c ≤ high
    highest low high x = leb-true c high (and_parts (nat_le low c) (nat_le c high) x).1

-- a letter has three bytes
pub letter_bytes : (c : ℕ) → is_letter c ≡ true → length (encode_utf8 c) ≡ 3
letter_bytes c h =
    let from : 0x3041 ≤ c = letter_from c h in
    let to : c ≤ 0x9FFF = letter_to c h in
    length-encode c ∙ rw (le-ltb c 0x80 (omega arith), le-ltb c 0x800 (omega arith), lt-ltb c 0x1_0000 (omega arith)) refl

pub letters_bytes : (ls : List ℕ) → list_all is_letter ls ≡ true → length (encode_utf8_all ls) ≡ 3 * length ls
letters_bytes [] h = refl
letters_bytes (c ∷ ls) h =
    let parts = and_parts (is_letter c) (list_all is_letter ls) h in
    omega (arith, length-append (encode_utf8 c) (encode_utf8_all ls), letter_bytes c parts.0, letters_bytes ls parts.1)

letter_simple : (c : ℕ) → is_letter c ≡ true → is_simple c ≡ true
letter_simple c h = ap (λ b. is_ascii c || b || is_narrow c) h ∙ ap (λ b. b || is_narrow c) (or-true (is_ascii c))

-- ---- a text cut after letters

-- a text whose first characters are these letters, with others after them
pub record IsCutBehind (text ls ms : List ℕ) : Type 0 where
  pub split : text ≡ encode_utf8_all ls ++ encode_utf8_all ms
  pub front_text : IsUtf8 (encode_utf8_all ls)
  pub rest_text : IsUtf8 (encode_utf8_all ms)
  pub front_chars : chars (encode_utf8_all ls) ≡ ls
  pub rest_chars : chars (encode_utf8_all ms) ≡ ms
  pub bytes : length (encode_utf8_all ls) ≡ 3 * length ls

pub cut_behind : (text ls ms : List ℕ) → IsUtf8 text → chars text ≡ ls ++ ms → list_all is_letter ls ≡ true → IsCutBehind text ls ms
cut_behind text ls ms u e h =
    let split : text ≡ encode_utf8_all ls ++ encode_utf8_all ms = sym (encodes-chars text u) ∙ ap encode_utf8_all e ∙ encodes-append ls ms in
    let back : IsUtf8 (encode_utf8_all ms) = IsUtf8-past ls (encode_utf8_all ms) (subst IsUtf8 split u) in
    let front : IsUtf8 (encode_utf8_all ls) = IsUtf8-before text (encode_utf8_all ls) (encode_utf8_all ms) u back split in
    record {
      split = split;
      front_text = front;
      rest_text = back;
      front_chars = sym (chars_from_encodes ls (encode_utf8_all ls) front refl);
      rest_chars = sym (chars_from_encodes ms (encode_utf8_all ms) back refl);
      bytes = letters_bytes ls h;
    }

module _ (text : List ℕ) (u : IsUtf8 text) (n : ℕ) (inside : n ≤ length (chars text)) (h : list_all is_letter (take n (chars text)) ≡ true) where
  abbrev front : List ℕ
  front = take n (chars text)

  abbrev behind : List ℕ
  behind = drop n (chars text)

  at : IsCutBehind text front behind
  at = cut_behind text front behind u (sym (take-append-drop n (chars text))) h

  bytes-front : length (encode_utf8_all front) ≡ 3 * n
  bytes-front = at.bytes ∙ ap (λ k. 3 * k) (length-take-le n (chars text) inside)

  -- the text may be cut after n letters
  pub boundary_after_letters : IsCharBoundary text (3 * n)
  boundary_after_letters = subst (IsCharBoundary text) bytes-front (IsCharBoundary-at_seam text (encode_utf8_all front) (encode_utf8_all behind) at.split at.rest_text)

  pub take-letters : take (3 * n) text ≡ encode_utf8_all (take n (chars text))
  take-letters = ap₂ take (sym bytes-front) at.split ∙ take-append_seam (encode_utf8_all front) (encode_utf8_all behind)

  pub drop-letters : drop (3 * n) text ≡ encode_utf8_all (drop n (chars text))
  drop-letters = ap₂ drop (sym bytes-front) at.split ∙ drop-append_seam (encode_utf8_all front) (encode_utf8_all behind)

  pub chars-take_letters : chars (take (3 * n) text) ≡ take n (chars text)
  chars-take_letters = ap chars take-letters ∙ at.front_chars

  pub chars-drop_letters : chars (drop (3 * n) text) ≡ drop n (chars text)
  chars-drop_letters = ap chars drop-letters ∙ at.rest_chars

-- ---- their graphemes

letter_ends : (c : ℕ) (cs : List ℕ) → is_letter c ≡ true → begins_simple cs ≡ true → breaks (c ∷ []) cs ≡ true
letter_ends c [] h k = breaks-end c []
letter_ends c (q ∷ cs) h k =
    let from : 0x3041 ≤ c = letter_from c h in
    simple_breaks c [] q cs (letter_simple c h) k (ap (λ b. b && q == 10) (ne_eqb c 13 (omega arith)))

next_simple : (ls rest : List ℕ) → IsUtf8 (encode_utf8_all ls ++ rest) → list_all is_letter ls ≡ true → begins_simple (chars rest) ≡ true → begins_simple (chars (encode_utf8_all ls ++ rest)) ≡ true
next_simple [] rest u h k = k
next_simple (c ∷ ls) rest u h k =
    ap begins_simple (chars_past_char _ (encode_utf8_all ls ++ rest) c u (append_assoc (encode_utf8 c) (encode_utf8_all ls) rest))
    ∙ letter_simple c (and_parts (is_letter c) (list_all is_letter ls) h).0

-- letters that no mark follows are graphemes by themselves
pub graphemes_letters : (ls rest : List ℕ) → IsUtf8 (encode_utf8_all ls ++ rest) → list_all is_letter ls ≡ true → (0 < length ls → begins_simple (chars rest) ≡ true)
    → graphemes true (encode_utf8_all ls ++ rest) ≡ map encode_utf8 ls ++ graphemes true rest
graphemes_letters [] rest u h k = refl
graphemes_letters (c ∷ ls) rest u h k =
    let parts = and_parts (is_letter c) (list_all is_letter ls) h in
    let more : List ℕ = encode_utf8_all ls ++ rest in
    let split : encode_utf8_all (c ∷ ls) ++ rest ≡ encode_utf8 c ++ more = append_assoc (encode_utf8 c) (encode_utf8_all ls) rest in
    let later : IsUtf8 more = IsUtf8-past_char _ more c u split in
    let simple : begins_simple (chars rest) ≡ true = k (omega arith) in
    graphemes_past_char (encode_utf8_all (c ∷ ls) ++ rest) more c u split (letter_ends c (chars more) parts.0 (next_simple ls rest later parts.1 simple))
    ∙ ap (λ gs. encode_utf8 c ∷ gs) (graphemes_letters ls rest later parts.1 (λ _. simple))

letter_text : (c : ℕ) → is_letter c ≡ true → IsUtf8 (encode_utf8 c)
letter_text c h = let to : c ≤ 0x9FFF = letter_to c h in IsUtf8-encode c (rw (lt-ltb c 0xD800 (omega arith)) refl)

pub alone_letter : (c : ℕ) → is_letter c ≡ true → graphemes true (encode_utf8 c) ≡ encode_utf8 c ∷ []
alone_letter c h =
    graphemes_past_char (encode_utf8 c) [] c (letter_text c h) (sym (append-nil (encode_utf8 c))) (ap (breaks (c ∷ [])) chars-nil ∙ breaks-end c [])
    ∙ ap (λ gs. encode_utf8 c ∷ gs) graphemes-nil

-- ---- counting

-- what stands after one more letter
pub record IsOneMore (cs : List ℕ) (n : ℕ) (rest : List ℕ) : Type 0 where
  pub inside : n ≤ length cs
  pub others : rest ≡ drop n cs
  pub letters : list_all is_letter (take n cs) ≡ true

behind_next : (cs : List ℕ) (k c : ℕ) (rest : List ℕ) → drop k cs ≡ c ∷ rest → list_all is_letter (take k cs) ≡ true → is_letter c ≡ true → IsOneMore cs (suc k) rest
behind_next [] zero c rest e h i = absurd cc
behind_next [] (suc k) c rest e h i = absurd cc
behind_next (d ∷ cs) zero c rest e h i =
    let same : c ≡ d = cc in
    let others : rest ≡ cs = cc in
    record { inside = omega arith; others = others; letters = ap₂ ◌&&◌ (ap is_letter (sym same) ∙ i) refl }
behind_next (d ∷ cs) (suc k) c rest e h i =
    let parts = and_parts (is_letter d) (list_all is_letter (take k cs)) h in
    let more : IsOneMore cs (suc k) rest = behind_next cs k c rest e parts.1 i in
    record { inside = omega (arith, more.inside); others = more.others; letters = ap₂ ◌&&◌ parts.0 more.letters }

pub one_more : (cs : List ℕ) (k c : ℕ) (rest : List ℕ) → drop k cs ≡ c ∷ rest → list_all is_letter (take k cs) ≡ true → is_letter c ≡ true → IsOneMore cs (k + 1) rest
one_more cs k c rest e h i = let next : suc k ≡ k + 1 = omega arith in subst (λ n. IsOneMore cs n rest) next (behind_next cs k c rest e h i)

-- a run of n letters, and the rest
pub run_of_letters : (text run rest : List ℕ) (limit n : ℕ) → IsUtf8 text → run ≡ take (3 * n) text → rest ≡ drop (3 * n) text → n ≤ min limit (length (chars text))
    → list_all is_letter (take n (chars text)) ≡ true → (0 < n → begins_simple (drop n (chars text)) ≡ true) → (n < limit → begins_lone_letter (drop n (chars text)) ≡ false) → IsLetterRun text limit run rest
run_of_letters text run rest limit n u a b l h unmarked longest =
    let inside : n ≤ length (chars text) = omega arith in
    let whole : take (3 * n) text ++ drop (3 * n) text ≡ text = take-append-drop (3 * n) text in
    let front : chars (take (3 * n) text) ≡ take n (chars text) = chars-take_letters text u n inside h in
    let back : chars (drop (3 * n) text) ≡ drop n (chars text) = chars-drop_letters text u n inside h in
    let count : length (take n (chars text)) ≡ n = length-take-le n (chars text) inside in
    let split : take (3 * n) text ++ drop (3 * n) text ≡ encode_utf8_all (take n (chars text)) ++ drop (3 * n) text = ap (λ t. t ++ drop (3 * n) text) (take-letters text u n inside h) in
    rw (a, b) (record {
      whole = whole;
      letters = ap (list_all is_letter) front ∙ h;
      within = omega (arith, ap length front);
      graphemes_are =
          ap (graphemes true) (sym whole ∙ split)
          ∙ graphemes_letters (take n (chars text)) (drop (3 * n) text) (subst IsUtf8 (sym whole ∙ split) u) h (λ some. ap begins_simple back ∙ unmarked (omega arith))
          ∙ ap (λ ls. map encode_utf8 ls ++ graphemes true (drop (3 * n) text)) (sym front);
      longest = λ s. ap begins_lone_letter back ∙ longest (omega (arith, ap length front));
    })

-- ---- one step back, where a mark may follow the last letter

pub begins_not_simple : (cs : List ℕ) → begins_letter cs ≡ false → begins_lone_letter cs ≡ false
begins_not_simple [] h = refl
begins_not_simple (c ∷ cs) h = ap (λ b. b && begins_simple cs) h

-- the last letter is left out
pub record IsStepBack (cs : List ℕ) (n : ℕ) : Type 0 where
  pub letters : list_all is_letter (take n cs) ≡ true
  pub unmarked : begins_simple (drop n cs) ≡ true
  pub none_lone : begins_lone_letter (drop n cs) ≡ false

before_last : (cs : List ℕ) (n : ℕ) → suc n ≤ length cs → list_all is_letter (take (suc n) cs) ≡ true → begins_simple (drop (suc n) cs) ≡ false → IsStepBack cs n
before_last [] n l h k = absurd (omega arith)
before_last (c ∷ cs) zero l h k =
    let is : is_letter c ≡ true = (and_parts (is_letter c) true h).0 in
    record { letters = refl; unmarked = letter_simple c is; none_lone = ap₂ ◌&&◌ is k }
before_last (c ∷ cs) (suc n) l h k =
    let parts = and_parts (is_letter c) (list_all is_letter (take (suc n) cs)) h in
    let more : IsStepBack cs n = before_last cs n (omega arith) parts.1 k in
    record { letters = ap₂ ◌&&◌ parts.0 more.letters; unmarked = more.unmarked; none_lone = more.none_lone }

step_back_letters : (cs : List ℕ) (n : ℕ) → n ≢ 0 → n ≤ length cs → list_all is_letter (take n cs) ≡ true → begins_simple (drop n cs) ≡ false → IsStepBack cs (n - 1)
step_back_letters cs zero s l h k = absurd (s refl)
step_back_letters cs (suc n) s l h k = let less : n ≡ suc n - 1 = omega arith in subst (IsStepBack cs) less (before_last cs n l h k)

pub marked_behind : (text rest : List ℕ) (n : ℕ) → IsUtf8 text → n ≢ 0 → n ≤ length (chars text) → list_all is_letter (take n (chars text)) ≡ true → rest ≡ drop (3 * n) text → begins_simple (chars rest) ≡ false → IsStepBack (chars text) (n - 1)
marked_behind text rest n u some inside h b k = step_back_letters (chars text) n some inside h (ap begins_simple (sym (ap chars b ∙ chars-drop_letters text u n inside h)) ∙ k)

-- ---- one letter of a run

module _ (run : List ℕ) (u : IsUtf8 run) (h : AreLetters run) where
  pub letters-take : (k : ℕ) → list_all is_letter (take k (chars run)) ≡ true
  letters-take k = (and_parts _ _ (sym (list_all-append is_letter (take k (chars run)) (drop k (chars run))) ∙ ap (list_all is_letter) (take-append-drop k (chars run)) ∙ h)).0

  pub length-letters : length run ≡ 3 * length (chars run)
  length-letters = sym (ap length (encodes-chars run u)) ∙ letters_bytes (chars run) h

  pub boundary_in_letters : (k : ℕ) → k ≤ length (chars run) → IsCharBoundary run (3 * k)
  boundary_in_letters k l = boundary_after_letters run u k l (letters-take k)

  pub letter_in_run : (k : ℕ) → k < length (chars run) → take (3 * k + 3 - 3 * k) (drop (3 * k) run) ≡ encode_utf8 (get_or (chars run) k 0)
  letter_in_run k l =
      let c : ℕ = get_or (chars run) k 0 in
      let more : List ℕ = drop (k + 1) (chars run) in
      let is : is_letter c ≡ true = AllPass-from_list_all is_letter (chars run) h k 0 l in
      let three : 3 * k + 3 - 3 * k ≡ length (encode_utf8 c) = omega (arith, letter_bytes c is) in
      let back : drop (3 * k) run ≡ encode_utf8 c ++ encode_utf8_all more = drop-letters run u k (omega arith) (letters-take k) ∙ ap encode_utf8_all (drop_more (chars run) k 0 l) in
      ap₂ take three back ∙ take-append_seam (encode_utf8 c) (encode_utf8_all more)
