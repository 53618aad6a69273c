use Rattle.std.proofs.Common.{sym, ◌∙◌, false, true≢false}
use Rattle.std.proofs.lemmas.Result.{err_from_is_err_and}
use Rattle.termwiz_cell.proofs.LinkGrammar.{has_no_pairs, has_pairs, spells-only}
use Rattle.termwiz_cell.proofs.hyperlink.read_link.Goals as goal

pub returns-then-not-is_pairs : goal.returns-then-not-is_pairs
returns-then-not-is_pairs c = (
  (c.in_ok-params.ensures.1, c.in_ok-uri.ensures.1),
  has_no_pairs c.args.params.now c.in_ok-params.params.now c.in_ok-params.ensures.0 c.if-not-is_pairs.ensures,
)

pub returns-in_err-params-2 : goal.returns-in_err-params-2
returns-in_err-params-2 c =
    let refused = err_from_is_err_and c.from_residual-in_err-params-2.result c.from_residual-in_err-params-2.ensures.1 in
    rw (refused.1, refused.2) (
      (λ both. true≢false (sym (c.are_empty.ensures.1 both) ∙ c.if-are_empty.false)),
      (c.in_ok-params.ensures.1, c.in_ok-uri.ensures.1),
      has_pairs c.args.params.now c.in_ok-params.params.now c.in_ok-params.ensures.0 c.if-not-is_pairs.ensures,
    )

pub returns-in_err-uri-2 : goal.returns-in_err-uri-2
returns-in_err-uri-2 c =
    let refused = err_from_is_err_and c.from_residual-in_err-uri-2.result c.from_residual-in_err-uri-2.ensures.1 in
    rw (refused.1, refused.2) (
      (λ both. true≢false (sym (c.are_empty.ensures.1 both) ∙ c.if-are_empty.false)),
      (c.in_ok-params.ensures.1, c.in_ok-uri.ensures.1),
      has_pairs c.args.params.now c.in_ok-params.params.now c.in_ok-params.ensures.0 c.if-not-is_pairs.ensures,
    )

pub returns : goal.returns
returns c = (
  (λ both. true≢false (sym (c.are_empty.ensures.1 both) ∙ c.if-are_empty.false)),
  (c.in_ok-params.ensures.1, c.in_ok-uri.ensures.1),
  spells-only c.args.params.now c.in_ok-params.params.now c.args.uri.now c.new_with_params.result c.in_ok-params.ensures.0 c.if-not-is_pairs.ensures
      (c.new_with_params.ensures ∙ (λ i. record { uri = (c.in_ok-uri-2.ensures.ok ∙ c.in_ok-uri.ensures.0) i; params = c.in_ok-params-2.ensures i; implicit = false })),
)
