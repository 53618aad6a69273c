-- What the parts of a hyperlink sequence, OSC 8, say: one that is not looked at, a params text and
-- a uri.
use Rattle.std.specs.Prelude.{◌≡◌, ℕ, zero, suc, List, [], ◌∷◌, length, Option, Some, None, Result, Ok, Err, IsUtf8}
use Rattle.termwiz_cell.specs.Link.{Link}
use Rattle.termwiz_cell.specs.LinkText.{SpellsLink, SpellsPairs, params_text}
use Rattle.termwiz_cell.specs.declared.hyperlink.LinkError.{LinkError}
use Rattle.termwiz_cell.specs.declared.hyperlink.LinkError.TheVariants.{WrongParamCount, NotUtf8, BadParams, Memory}
use denote.Ref.{Bor}

-- the bytes of the part at a place, none past the last one
abbrev pub part : List (Bor (List ℕ)) → ℕ → List ℕ
part [] i = []
part (first ∷ others) zero = first.now
part (first ∷ others) (suc i) = part others i

-- a params text and a uri are empty
abbrev pub AreEmpty : List ℕ → List ℕ → Type 0
AreEmpty params uri = (params ≡ []) × (uri ≡ [])

-- both are UTF-8
abbrev pub AreTexts : List ℕ → List ℕ → Type 0
AreTexts params uri = IsUtf8 params × IsUtf8 uri

-- a params text spells pairs
abbrev pub HasPairs : List ℕ → Type 0
HasPairs text = (pairs : List (List ℕ × List ℕ)) × SpellsPairs text pairs

-- a params text and a uri spell this link, and no other
pub record SpellsOnly (params uri : List ℕ) (link : Link) : Type 0 where
  pub spelled : SpellsLink params uri link
  pub only : (other : Link) → SpellsLink params uri other → other ≡ link

-- a sequence has three parts, of which the second and the third are what the link prints, and UTF-8
pub record ArePrinted (osc : List (Bor (List ℕ))) (link : Link) : Type 0 where
  pub count : length osc ≡ 3
  pub params : part osc 1 ≡ params_text link.params
  pub uri : part osc 2 ≡ link.uri
  pub texts : AreTexts (part osc 1) (part osc 2)

-- what holds of a params text and a uri at each outcome of their reading
abbrev pub ReadsLink : List ℕ → List ℕ → Result (Option Link) LinkError → Type 0
ReadsLink params uri (Ok None) = AreEmpty params uri
ReadsLink params uri (Ok (Some link)) =
    ¬ (AreEmpty params uri) × AreTexts params uri × SpellsOnly params uri link
ReadsLink params uri (Err WrongParamCount) = ⊥
ReadsLink params uri (Err NotUtf8) = ¬ (AreTexts params uri)
ReadsLink params uri (Err BadParams) = AreTexts params uri × ¬ (HasPairs params)
ReadsLink params uri (Err Memory) = ¬ (AreEmpty params uri) × AreTexts params uri × HasPairs params
