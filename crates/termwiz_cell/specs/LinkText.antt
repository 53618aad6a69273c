-- The texts of links, as the hyperlink sequence OSC 8 carries them. A params text is empty, or
-- pairs `key=value` between `:`, each cut at its first `=`. Where a key comes again, its last value
-- stands; a link keeps and prints its params in the order of their keys.
use Rattle.std.specs.Prelude.{◌≡◌, ◌≢◌, ℕ, ◌⊎◌, ◌==◌, false, List, [], ◌∷◌, ◌++◌, map, reverse, bytes_eq, codes}
use Rattle.std.specs.Cmp.Lexicographic.{slice_cmp}
use Rattle.std.specs.List.{All, AllZip, Contains, slice_split, join_with_byte}
use Rattle.std.specs.List.Sorted.{IsStrictlySortedBy}
use Rattle.std.specs.Map.{keys_of, lookup}
use Rattle.std.specs.Ordering.{nat_cmp}
use Rattle.termwiz_cell.specs.Link.{Link}

-- the bytes `:`, `=` and `;`
abbrev pub colon : ℕ
colon = 58

abbrev pub equals_sign : ℕ
equals_sign = 61

abbrev pub semicolon : ℕ
semicolon = 59

-- the text `key=value`, cut at its first `=`
pub record IsPair (text : List ℕ) (pair : List ℕ × List ℕ) : Type 0 where
  pub joined : text ≡ pair.0 ++ equals_sign ∷ pair.1
  pub first : ¬ Contains pair.0 equals_sign

-- the parts of a params text: none of the empty text, and else what stands between `:`
abbrev pub params_parts : List ℕ → List (List ℕ)
params_parts [] = []
params_parts (b ∷ bs) = slice_split (λ c. c == colon) (b ∷ bs)

-- a params text spells these pairs, in this order
abbrev pub SpellsPairs : List ℕ → List (List ℕ × List ℕ) → Type 0
SpellsPairs text pairs = AllZip IsPair (params_parts text) pairs

-- the params are in the order of their keys, and no key comes twice
abbrev pub AreInOrder : List (List ℕ × List ℕ) → Type 0
AreInOrder params = IsStrictlySortedBy (slice_cmp nat_cmp) (keys_of params)

-- the params that pairs make: each key of a pair, with the value of its last pair
pub record MakesParams (pairs params : List (List ℕ × List ℕ)) : Type 0 where
  pub ordered : AreInOrder params
  pub last : (key : List ℕ) → lookup (bytes_eq key) params ≡ lookup (bytes_eq key) (reverse pairs)

-- a params text and a uri spell the link
pub record SpellsLink (params uri : List ℕ) (link : Link) : Type 0 where
  pub pairs : List (List ℕ × List ℕ)
  pub spelled : SpellsPairs params pairs
  pub made : MakesParams pairs link.params
  pub target : link.uri ≡ uri
  pub explicit : link.implicit ≡ false

-- `key=value`
abbrev pub pair_text : List ℕ × List ℕ → List ℕ
pair_text pair = pair.0 ++ equals_sign ∷ pair.1

-- the params as a link prints them: `key=value`, with `:` between each two
abbrev pub params_text : List (List ℕ × List ℕ) → List ℕ
params_text params = join_with_byte colon (map pair_text params)

-- the link as it is printed: `8;`, its params, `;` and its uri
abbrev pub link_text : Link → List ℕ
link_text link = codes "8;" ++ params_text link.params ++ semicolon ∷ link.uri

-- a param that its own text gives back: no `=` in its key, and no `:` at all
pub record IsPlainParam (param : List ℕ × List ℕ) : Type 0 where
  pub no_equals : ¬ Contains param.0 equals_sign
  pub key_no_colon : ¬ Contains param.0 colon
  pub value_no_colon : ¬ Contains param.1 colon

-- a link that is read back from what it prints: no rule made it, it has params or a uri, and its
-- params are plain and in order
pub record IsReadable (link : Link) : Type 0 where
  pub explicit : link.implicit ≡ false
  pub some : (link.params ≢ []) ⊎ (link.uri ≢ [])
  pub plain : All IsPlainParam link.params
  pub ordered : AreInOrder link.params
