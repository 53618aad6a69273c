-- The words of an ask.
use Rattle.std.proofs.Common.{◌≡◌, ℕ, ◌<◌, ◌∙◌, Bool, List, ◌∷◌, ◌++◌, length, get_or, refl, sym, ap, subst, eqb, eqb-true}
use Rattle.std.specs.List.{before_first, after_first, position_or_len}
use Rattle.std.proofs.lemmas.List.Sums.{split_at_first, passes_at_first}
use Rattle.sessions.specs.Number.{value_of}
use Rattle.termwiz_wire.specs.declared.sent.Ask.{Ask}
use Rattle.sessions.specs.Requests.{AreAskWords}
use Rattle.sessions.specs.Words.{IsWholeNumber}

abbrev is_space : ℕ → Bool
is_space b = eqb b 32

-- words that are parted at their first space
parted : (words : List ℕ) → position_or_len is_space words < length words → words ≡ before_first is_space words ++ 32 ∷ after_first is_space words
parted words some =
    let at : ℕ = get_or words (position_or_len is_space words) 0 in
    split_at_first is_space words 0 some ∙ ap (λ (b : ℕ). before_first is_space words ++ b ∷ after_first is_space words) (eqb-true at 32 (passes_at_first is_space words 0 some))

pub are_words : (words first second : List ℕ) (ask : Ask) → first ≡ before_first is_space words → second ≡ after_first is_space words → position_or_len is_space words < length words
    → IsWholeNumber first → ask.source ≡ value_of first → IsWholeNumber second → ask.number ≡ value_of second → AreAskWords words ask
are_words words first second ask before after some whole_source source whole_number number = record {
  source = first;
  number = second;
  parted =
      let P : List ℕ → Type 0 = λ front. words ≡ front ++ 32 ∷ second in
      let Q : List ℕ → Type 0 = λ back. words ≡ before_first is_space words ++ 32 ∷ back in
      subst P (sym before) (subst Q (sym after) (parted words some));
  is_source = whole_source;
  is_number = whole_number;
  source_is = source;
  number_is = number;
}
