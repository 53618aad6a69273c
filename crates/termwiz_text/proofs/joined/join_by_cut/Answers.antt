use Rattle.std.proofs.Common.{◌≡◌, List, ℕ, true, false, length, ap, ◌∙◌, subst}
use Rattle.std.specs.Prelude.{string_bytes}
use Rattle.std.specs.Str.{IsUtf8}
use Rattle.std.proofs.lemmas.Str.{IsCharBoundary-at_seam}
use Rattle.termwiz_text.proofs.CutAt.{boundary_stays, joins_of}
use Rattle.termwiz_text.proofs.joined.join_by_cut.Goals as goal

pub split_at-requires : goal.split_at-requires
split_at-requires c =
    let old : List ℕ = string_bytes c.args.text.now in
    let utf8 : IsUtf8 old = subst IsUtf8 c.as_str-before.ensures.value c.as_str-before.utf8 in
    rw (c.as_str.ensures.value, c.in_ok-push_str.ensures.bytes) (boundary_stays old c.args.more.now c.args.last utf8 c.requires c.utf8.more)

pub returns-then-is_last_grapheme-clause-joins : goal.returns-then-is_last_grapheme-clause-joins
returns-then-is_last_grapheme-clause-joins c =
    let utf8 : IsUtf8 (string_bytes c.args.text.now) = subst IsUtf8 c.as_str-before.ensures.value c.as_str-before.utf8 in
    joins_of (string_bytes c.args.text.now) c.args.more.now c.args.last utf8 c.requires c.as_str.result.now c.split_at.result.1.now true
    (c.as_str.ensures.value ∙ c.in_ok-push_str.ensures.bytes) c.split_at.ensures.back c.if-is_last_grapheme.ensures

pub truncate-requires : goal.truncate-requires
truncate-requires c =
    λ _.
    let old : List ℕ = string_bytes c.args.text.now in
    let seam : length c.as_str-before.result.now ≡ length old = ap length c.as_str-before.ensures.value in
    let boundary = IsCharBoundary-at_seam (string_bytes c.push_str.new.self) old c.args.more.now c.in_ok-push_str.ensures.bytes c.utf8.more in
    rw seam (boundary.0, λ some. boundary.1)

pub returns-clause-joins : goal.returns-clause-joins
returns-clause-joins c =
    let utf8 : IsUtf8 (string_bytes c.args.text.now) = subst IsUtf8 c.as_str-before.ensures.value c.as_str-before.utf8 in
    joins_of (string_bytes c.args.text.now) c.args.more.now c.args.last utf8 c.requires c.as_str.result.now c.split_at.result.1.now false
    (c.as_str.ensures.value ∙ c.in_ok-push_str.ensures.bytes) c.split_at.ensures.back c.if-is_last_grapheme.ensures
