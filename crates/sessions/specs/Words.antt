-- The words of the two programs.
use Rattle.std.specs.Prelude.{◌≡◌, ◌⊎◌, ◌<◌, ◌^◌, ℕ, true, false, List, [], ◌∷◌, drop, String, string_bytes, codes}
use Rattle.std.specs.Str.Parse.{IsNumeral}
use Rattle.sessions.specs.Number.{value_of}
use Rattle.sessions.specs.Size.{AreSizes, GiveSizes}
use Rattle.sessions.specs.declared.words.WatchOptions.{WatchOptions}

-- decimal digits, whose value fits 64 bits
pub record IsWholeNumber (word : List ℕ) : Type 0 where
  pub numeral : IsNumeral 10 word
  pub fits : value_of word < 2 ^ 64

pub record IsPositive (word : List ℕ) : Type 0 where
  pub whole : IsWholeNumber word
  pub some : 0 < value_of word

module _ {A : Type 0} where
  -- a size, after the number of the source where there is one
  abbrev pub AreSendWords : List (String A) → Type 0
  AreSendWords (option ∷ number ∷ width ∷ height ∷ []) =
      (string_bytes option ≡ codes "-s") × IsPositive (string_bytes number) ×
      AreSizes (width ∷ height ∷ [])
  AreSendWords words = AreSizes words

  -- the words give this source, which is 1 where they name none, this width and this height
  abbrev pub GiveSending : List (String A) → ℕ → ℕ → ℕ → Type 0
  GiveSending (option ∷ number ∷ width ∷ height ∷ []) source w h =
      (string_bytes option ≡ codes "-s") × IsPositive (string_bytes number) ×
      (source ≡ value_of (string_bytes number)) × GiveSizes (width ∷ height ∷ []) w h
  GiveSending words source w h = (source ≡ 1) × GiveSizes words w h

  -- the first word is `-i`
  abbrev pub IsInteractive : List (String A) → Type 0
  IsInteractive [] = ⊥
  IsInteractive (option ∷ words) = string_bytes option ≡ codes "-i"

  -- words as of `AreSendWords`, which may stand after `-i`
  abbrev pub AreRunWords : List (String A) → Type 0
  AreRunWords words = AreSendWords words ⊎ (IsInteractive words × AreSendWords (drop 1 words))

  -- the words ask for p, where o is asked for without them
  pub data AskFor : WatchOptions → List (String A) → WatchOptions → Type 0 where
    Asked : (o : WatchOptions) → AskFor o [] o
    Each :
        (o p : WatchOptions) (word : String A) (words : List (String A)) →
        string_bytes word ≡ codes "-a"
        → AskFor (record o { each = true }) words p → AskFor o (word ∷ words) p
    Cells :
        (o p : WatchOptions) (word number : String A) (words : List (String A)) →
        string_bytes word ≡ codes "--cells" → IsWholeNumber (string_bytes number)
        → AskFor
        (record o {
          limits =
              record o.limits { cells = value_of (string_bytes number) };
        })
        words p →
        AskFor o (word ∷ number ∷ words) p
    Bytes :
        (o p : WatchOptions) (word number : String A) (words : List (String A)) →
        string_bytes word ≡ codes "--bytes" → IsPositive (string_bytes number)
        → AskFor
        (record o {
          limits =
              record o.limits { bytes = value_of (string_bytes number) };
        })
        words p →
        AskFor o (word ∷ number ∷ words) p

-- the last view alone is asked for, within the limits that the vectors have
abbrev pub first_options : WatchOptions
first_options =
    record { each = false; limits = record { cells = 1048576; rows = 65536; bytes = 16777216 } }

abbrev pub AreWatchWords : {A : Type 0} → List (String A) → Type 0
AreWatchWords words = (p : WatchOptions) × AskFor first_options words p
