-- What the words of an option ask for.
use Rattle.std.proofs.Common.{◌≡◌, ℕ, ◌-◌, ◌≤◌, true, List, [], ◌∷◌, length, take, drop, get_or, String, sym, ap, subst, ◌∙◌, arith}
use Rattle.std.specs.Prelude.{string_bytes, codes}
use Rattle.std.proofs.lemmas.List.{take_all, length-drop, get_or_read, drop_more}
use Rattle.std.specs.declared.alloc.Global.{Global}
use Rattle.sessions.specs.Number.{value_of}
use Rattle.sessions.specs.Words.{AskFor, Each, Cells, Bytes, IsPositive, IsWholeNumber}
use Rattle.sessions.specs.declared.words.WatchOptions.{WatchOptions}

abbrev Word : Type 0
Word = String Global

-- the words after the first n
behind : (n : ℕ) (words : List Word) → take (length words - n) (drop n words) ≡ drop n words
behind n words = take_all (length words - n) (drop n words) (omega (arith, length-drop n words))

pub each_asks : (o p : WatchOptions) (word : Word) (words : List Word) → 1 ≤ length words → word ≡ get_or words 0 word → string_bytes word ≡ codes "-a" → AskFor (record o { each = true }) (take (length words - 1) (drop 1 words)) p → AskFor o words p
each_asks o p word [] some first is asked = absurd (omega (arith, some))
each_asks o p word (w ∷ words) some first is asked =
    Each o p w words (ap (λ (x : Word). string_bytes x) (sym first) ∙ is) (subst (λ (ws : List Word). AskFor (record o { each = true }) ws p) (behind 1 (w ∷ words)) asked)

-- an option with a number after it, which are the first two words
pub record Given (IsValue : List ℕ → Type 0) (option : List ℕ) (words : List Word) (word number : Word) (value : ℕ) : Type 0 where
  pub some : 2 ≤ length words
  pub first : word ≡ get_or words 0 word
  pub second : number ≡ get_or words 1 number
  pub named : string_bytes word ≡ option
  pub whole : IsValue (string_bytes number)
  pub value_is : value ≡ value_of (string_bytes number)

pub cells_asks : (o p : WatchOptions) (word number : Word) (words : List Word) (cells : ℕ) → Given IsWholeNumber (codes "--cells") words word number cells
    → AskFor (record o { limits = record o.limits { cells = cells } }) (take (length words - 2) (drop 2 words)) p → AskFor o words p
cells_asks o p word number [] cells g asked = absurd (omega (arith, g.some))
cells_asks o p word number (w ∷ []) cells g asked = absurd (omega (arith, g.some))
cells_asks o p word number (w ∷ v ∷ words) cells g asked =
    let P : List Word → ℕ → Type 0 = λ ws n. AskFor (record o { limits = record o.limits { cells = n } }) ws p in
    let behind_is = subst (λ (ws : List Word). P ws cells) (behind 2 (w ∷ v ∷ words)) asked in
    Cells o p w v words (ap (λ (x : Word). string_bytes x) (sym g.first) ∙ g.named) (subst (λ (x : Word). IsWholeNumber (string_bytes x)) g.second g.whole)
    (subst (λ (n : ℕ). P words n) (g.value_is ∙ ap (λ (x : Word). value_of (string_bytes x)) g.second) behind_is)

pub bytes_asks : (o p : WatchOptions) (word number : Word) (words : List Word) (bytes : ℕ) → Given IsPositive (codes "--bytes") words word number bytes
    → AskFor (record o { limits = record o.limits { bytes = bytes } }) (take (length words - 2) (drop 2 words)) p → AskFor o words p
bytes_asks o p word number [] bytes g asked = absurd (omega (arith, g.some))
bytes_asks o p word number (w ∷ []) bytes g asked = absurd (omega (arith, g.some))
bytes_asks o p word number (w ∷ v ∷ words) bytes g asked =
    let P : List Word → ℕ → Type 0 = λ ws n. AskFor (record o { limits = record o.limits { bytes = n } }) ws p in
    let behind_is = subst (λ (ws : List Word). P ws bytes) (behind 2 (w ∷ v ∷ words)) asked in
    Bytes o p w v words (ap (λ (x : Word). string_bytes x) (sym g.first) ∙ g.named) (subst (λ (x : Word). IsPositive (string_bytes x)) g.second g.whole)
    (subst (λ (n : ℕ). P words n) (g.value_is ∙ ap (λ (x : Word). value_of (string_bytes x)) g.second) behind_is)
