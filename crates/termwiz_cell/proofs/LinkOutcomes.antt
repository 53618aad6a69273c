-- What each outcome of reading a params text and a uri says, and that what a link prints is read back.
use Rattle.std.proofs.Common.{◌≡◌, ◌<◌, ◌≤◌, ◌↔◌, ℕ, zero, suc, List, [], ◌∷◌, length, get_or, arith, Option, Some, None, Result, Ok, Err, refl, ap, sym, subst, ◌∙◌, ⊎_elim}
use Rattle.std.specs.Result.{MatchResult}
use Rattle.termwiz_cell.proofs.LinkGrammar.{spells-printed}
use Rattle.termwiz_cell.proofs.PairTexts.{none-from_text}
use Rattle.termwiz_cell.specs.Link.{Link}
use Rattle.termwiz_cell.specs.LinkParse.{AreEmpty, AreTexts, HasPairs, ReadsLink, part}
use Rattle.termwiz_cell.specs.LinkText.{IsReadable, SpellsLink, SpellsPairs, params_text}
use Rattle.termwiz_cell.specs.declared.hyperlink.LinkError.{LinkError}
use Rattle.termwiz_cell.specs.declared.hyperlink.LinkError.TheVariants.{WrongParamCount, NotUtf8, BadParams, Memory}
use denote.Ref.{Bor}

-- the empty text spells no pairs, and so it has them
pairs-from_empty : (params uri : List ℕ) → AreEmpty params uri → HasPairs params
pairs-from_empty params uri empty = ([], subst (λ text. SpellsPairs text []) (sym empty.0) tt)

pub reads-bad_params : (params uri : List ℕ) (r : Result (Option Link) LinkError) → ReadsLink params uri r → (r ≡ Err BadParams) ↔ (AreTexts params uri × ¬ (HasPairs params))
reads-bad_params params uri (Ok None) reads = ((λ e. cc), (λ bad. absurd (bad.1 (pairs-from_empty params uri reads))))
reads-bad_params params uri (Ok (Some link)) reads = ((λ e. cc), (λ bad. absurd (bad.1 (reads.2.spelled.pairs, reads.2.spelled.spelled))))
reads-bad_params params uri (Err WrongParamCount) reads = absurd reads
reads-bad_params params uri (Err NotUtf8) reads = ((λ e. cc), (λ bad. absurd (reads bad.0)))
reads-bad_params params uri (Err BadParams) reads = ((λ e. reads), (λ bad. refl))
reads-bad_params params uri (Err Memory) reads = ((λ e. cc), (λ bad. absurd (bad.1 reads.2)))

-- a readable link prints some text
some-printed : (params uri : List ℕ) (link : Link) → IsReadable link → params ≡ params_text link.params → uri ≡ link.uri → ¬ (AreEmpty params uri)
some-printed params uri link readable same_params same_uri = λ empty.
    ⊎_elim
    (λ some. some (none-from_text link.params (sym same_params ∙ empty.0)))
    (λ some. some (sym same_uri ∙ empty.1))
    readable.some

spelled-by : (params uri : List ℕ) (link : Link) → IsReadable link → params ≡ params_text link.params → uri ≡ link.uri → SpellsLink params uri link
spelled-by params uri link readable same_params same_uri =
    subst (λ p. SpellsLink p uri link) (sym same_params) (subst (λ u. SpellsLink (params_text link.params) u link) (sym same_uri) (spells-printed link readable))

pub reads-back : (params uri : List ℕ) (r : Result (Option Link) LinkError) (link : Link) → ReadsLink params uri r → IsReadable link → params ≡ params_text link.params → uri ≡ link.uri → AreTexts params uri → MatchResult r (λ found. found ≡ Some link) (λ e. e ≡ Memory)
reads-back params uri (Ok None) link reads readable p u texts = absurd (some-printed params uri link readable p u reads)
reads-back params uri (Ok (Some found)) link reads readable p u texts = ap Some (sym (reads.2.only link (spelled-by params uri link readable p u)))
reads-back params uri (Err WrongParamCount) link reads readable p u texts = absurd reads
reads-back params uri (Err NotUtf8) link reads readable p u texts = absurd (reads texts)
reads-back params uri (Err BadParams) link reads readable p u texts = let spelled = spelled-by params uri link readable p u in absurd (reads.1 (spelled.pairs, spelled.spelled))
reads-back params uri (Err Memory) link reads readable p u texts = refl

-- the part at a place that a list has
part-get_or : (osc : List (Bor (List ℕ))) (i : ℕ) (d : Bor (List ℕ)) → i < length osc → (get_or osc i d).now ≡ part osc i
part-get_or [] i d inside = absurd (omega arith)
part-get_or (first ∷ others) zero d inside = refl
part-get_or (first ∷ others) (suc i) d inside = part-get_or others i d (omega arith)

pub reads-parts : (osc : List (Bor (List ℕ))) (d : Bor (List ℕ)) (r : Result (Option Link) LinkError) → 3 ≤ length osc → ReadsLink (get_or osc 1 d).now (get_or osc 2 d).now r → ReadsLink (part osc 1) (part osc 2) r
reads-parts osc d r long reads =
    subst (λ params. ReadsLink params (part osc 2) r) (part-get_or osc 1 d (omega arith))
    (subst (λ uri. ReadsLink (get_or osc 1 d).now uri r) (part-get_or osc 2 d (omega arith)) reads)
