-- The lines of a script as they are read one by one.
use Rattle.std.proofs.Common.{◌≡◌, ◌≢◌, ℕ, ◌+◌, ◌-◌, ◌<◌, ◌≤◌, ◌∙◌, Bool, true, false, not, cond, eqb, ltb, ◌&&◌, List, [], ◌∷◌, ◌++◌, All, length, take, drop, get_or, inl, inr, refl, sym, ap, subst, append-nil, arith, eqb-true, eq-eqb, ne_eqb, length-append}
use Rattle.std.specs.List.{before_first, after_first, position_or_len}
use Rattle.std.specs.Io.BufRead.{take_through, drop_through, strip_last, first_piece, ends_with_byte}
use Rattle.std.proofs.BufReadLemmas.{take_through-append, drop_through-append}
use Rattle.std.proofs.lemmas.Bool.{cases_Bool, true≢false, lt-ltb, ltb-true, ltb-false}
use Rattle.std.proofs.lemmas.List.{take_all, take_at, drop_all, get_or-append-add, get_or-take, length-take}
use Rattle.std.proofs.lemmas.List.Sums.{split_at_first, passes_at_first, fails_before_first, prefix_len-le-length}
use Rattle.sessions.specs.Lines.{is_newline, is_skipped, LineSays, Say, LastLine, FirstLine, SayFirst, OneMore}

abbrev pub Bytes : Type 0
Bytes = List ℕ

-- how a list ends that has some bytes
ends_with : (xs : Bytes) (b : Bool) → 0 < length xs → eqb (get_or xs (length xs - 1) 0) 10 ≡ b → ends_with_byte 10 xs ≡ b
ends_with xs b some is = ap (λ (t : Bool). t && eqb (get_or xs (length xs - 1) 0) 10) (lt-ltb 0 (length xs) some) ∙ is

stripped : (xs : Bytes) (b : Bool) → ends_with_byte 10 xs ≡ b → strip_last 10 xs ≡ cond b (take (length xs - 1) xs) xs
stripped xs b is = ap (λ (t : Bool). cond t (take (length xs - 1) xs) xs) is

-- a line without its end
strip_end : (front : Bytes) → strip_last 10 (front ++ 10 ∷ []) ≡ front
strip_end front =
    let long : length (front ++ 10 ∷ []) ≡ length front + 1 = length-append front (10 ∷ []) in
    let short : length (front ++ 10 ∷ []) - 1 ≡ length front + 0 = omega (arith, long) in
    let less : length front ≡ length (front ++ 10 ∷ []) - 1 = omega (arith, long) in
    let some : 0 < length (front ++ 10 ∷ []) = omega (arith, long) in
    let last : get_or (front ++ 10 ∷ []) (length (front ++ 10 ∷ []) - 1) 0 ≡ 10 = ap (λ (n : ℕ). get_or (front ++ 10 ∷ []) n 0) short ∙ get_or-append-add front (10 ∷ []) 0 0 in
    stripped (front ++ 10 ∷ []) true (ends_with (front ++ 10 ∷ []) true some (eq-eqb (get_or (front ++ 10 ∷ []) (length (front ++ 10 ∷ []) - 1) 0) 10 last))
    ∙ take_at front (10 ∷ []) (length (front ++ 10 ∷ []) - 1) less

last_of : (n : ℕ) → 0 < n → n - 1 < n
last_of n some = omega (arith, some)

-- and the last one, which has none
strip_none : (xs : Bytes) → All (λ (x : ℕ). x ≢ 10) xs → strip_last 10 xs ≡ xs
strip_none [] none = refl
strip_none (x ∷ xs) none =
    let some : 0 < length (x ∷ xs) = omega arith in
    let last : eqb (get_or (x ∷ xs) (length (x ∷ xs) - 1) 0) 10 ≡ false = ne_eqb (get_or (x ∷ xs) (length (x ∷ xs) - 1) 0) 10 (none (length (x ∷ xs) - 1) 0 (last_of (length (x ∷ xs)) some)) in
    stripped (x ∷ xs) false (ends_with (x ∷ xs) false some last)

inside : (n k : ℕ) (xs : Bytes) → k < length (take n xs) → k < n
inside n k xs short = omega (arith, short, length-take n xs)

-- the bytes in front of the first line break are none
before_break : (xs : Bytes) → All (λ (x : ℕ). x ≢ 10) (before_first is_newline xs)
before_break xs = λ k d short is.
    let within : k < position_or_len is_newline xs = inside (position_or_len is_newline xs) k xs short in
    let fails : eqb (get_or xs k d) 10 ≡ false = fails_before_first is_newline xs k d within in
    true≢false (sym (eq-eqb (get_or xs k d) 10 (sym (get_or-take (position_or_len is_newline xs) xs k d within) ∙ is)) ∙ fails)

-- a script with a line break, and one with none
record IsBroken (xs : Bytes) : Type 0 where
  pub line : first_piece 10 xs ≡ before_first is_newline xs
  pub left : drop_through 10 xs ≡ after_first is_newline xs

broken : (xs : Bytes) → position_or_len is_newline xs < length xs → IsBroken xs
broken xs some =
    let front : Bytes = before_first is_newline xs in
    let after : Bytes = after_first is_newline xs in
    let at : ℕ = get_or xs (position_or_len is_newline xs) 0 in
    let newline : at ≡ 10 = eqb-true at 10 (passes_at_first is_newline xs 0 some) in
    let split : xs ≡ front ++ 10 ∷ after = split_at_first is_newline xs 0 some ∙ ap (λ (b : ℕ). front ++ b ∷ after) newline in
    let none : All (λ (x : ℕ). x ≢ 10) front = before_break xs in
    let hit : eqb 10 10 ≡ true = eq-eqb 10 10 refl in
    record {
      line = ap (first_piece 10) split
          ∙ ap (strip_last 10) (take_through-append 10 front (10 ∷ after) none ∙ ap (λ (b : Bool). front ++ cond b (10 ∷ []) (10 ∷ take_through 10 after)) hit)
          ∙ strip_end front;
      left = ap (drop_through 10) split ∙ drop_through-append 10 front (10 ∷ after) none ∙ ap (λ (b : Bool). cond b after (drop_through 10 after)) hit;
    }

record IsWhole (xs : Bytes) : Type 0 where
  pub line : first_piece 10 xs ≡ xs
  pub left : drop_through 10 xs ≡ []

unbroken : (xs : Bytes) → position_or_len is_newline xs ≡ length xs → IsWhole xs
unbroken xs none =
    let front : before_first is_newline xs ≡ xs = ap (λ (n : ℕ). take n xs) none ∙ take_all (length xs) xs (omega arith) in
    let free : All (λ (x : ℕ). x ≢ 10) xs = subst (λ (ys : Bytes). All (λ (x : ℕ). x ≢ 10) ys) front (before_break xs) in
    let taken : take_through 10 xs ≡ xs = ap (take_through 10) (sym (append-nil xs)) ∙ take_through-append 10 xs [] free ∙ append-nil xs in
    record {
      line = ap (strip_last 10) taken ∙ strip_none xs free;
      left = ap (drop_through 10) (sym (append-nil xs)) ∙ drop_through-append 10 xs [] free;
    }

-- the first line of any script
parted : (xs : Bytes) → IsBroken xs
parted xs = elim (cases_Bool (ltb (position_or_len is_newline xs) (length xs))) [
  | inl some ↦ broken xs (ltb-true (position_or_len is_newline xs) (length xs) some)
  | inr none ↦
      let most : position_or_len is_newline xs ≤ length xs = prefix_len-le-length (λ (b : ℕ). not (is_newline b)) xs in
      let end : position_or_len is_newline xs ≡ length xs = omega (arith, ltb-false (position_or_len is_newline xs) (length xs) none, most) in
      let all = unbroken xs end in
      record {
        line = all.line ∙ sym (ap (λ (n : ℕ). take n xs) end ∙ take_all (length xs) xs (omega arith));
        left = all.left ∙ sym (drop_all (position_or_len is_newline xs + 1) xs (omega (arith, end)));
      }
]

module _ {C : Type 0} (says : Bytes → C → Type 0) where
  -- nothing says nothing
  pub nothing_says : (more : List C) → Say says [] more → more ≡ []
  nothing_says more (LastLine _ _ none (inl skipped)) = skipped.1
  nothing_says more (LastLine _ _ none (inr said)) = absurd (true≢false said.0)
  nothing_says more (FirstLine _ cs ds some said later) = let none : 0 < 0 = some in absurd (omega (arith, none))

  -- what the first line says, and the others
  pub line_says : (xs : Bytes) (commands more : List C) → LineSays says (first_piece 10 xs) commands → Say says (drop_through 10 xs) more → Say says xs (commands ++ more)
  line_says xs commands more said later = elim (cases_Bool (ltb (position_or_len is_newline xs) (length xs))) [
    | inl some ↦
        let cut = broken xs (ltb-true (position_or_len is_newline xs) (length xs) some) in
        FirstLine xs commands more (ltb-true (position_or_len is_newline xs) (length xs) some) (subst (λ (line : Bytes). LineSays says line commands) cut.line said) (subst (λ (left : Bytes). Say says left more) cut.left later)
    | inr none ↦
        let most : position_or_len is_newline xs ≤ length xs = prefix_len-le-length (λ (b : ℕ). not (is_newline b)) xs in
        let end : position_or_len is_newline xs ≡ length xs = omega (arith, ltb-false (position_or_len is_newline xs) (length xs) none, most) in
        let all = unbroken xs end in
        let nil : more ≡ [] = nothing_says more (subst (λ (left : Bytes). Say says left more) all.left later) in
        let alone : commands ++ more ≡ commands = ap (λ (l : List C). commands ++ l) nil ∙ append-nil commands in
        subst (λ (cs : List C). Say says xs cs) (sym alone) (LastLine xs commands end (subst (λ (line : Bytes). LineSays says line commands) all.line said))
  ]

  -- what the first line says, and some lines after it
  pub line_says_first : (xs : Bytes) (commands more : List C) → LineSays says (first_piece 10 xs) commands → SayFirst says (drop_through 10 xs) more → SayFirst says xs (commands ++ more)
  line_says_first xs commands more said later =
      let cut = parted xs in
      OneMore xs commands more (subst (λ (line : Bytes). LineSays says line commands) cut.line said) (subst (λ (left : Bytes). SayFirst says left more) cut.left later)
