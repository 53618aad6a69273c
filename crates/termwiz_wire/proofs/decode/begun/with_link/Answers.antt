use Rattle.std.proofs.Common.{◌≡◌, ◌-◌, ◌++◌, ◌∷◌, [], ℕ, List, length, map, take, drop, Option, Result, Ok, Err, Some, refl, sym, subst, ap, ◌∙◌, arith}
use Rattle.std.proofs.lemmas.List.{length-map}
use Rattle.cbor.specs.Decoding.{allowed}
use Rattle.cbor.specs.declared.error.ReadError.{ReadError}
use Rattle.cbor.specs.declared.error.ReadError.TheVariants.{Truncated}
use Rattle.termwiz_cell.specs.ChangeValue.{ChangeValue, change_value}
use Rattle.termwiz_wire.specs.Answers.{error_of}
use Rattle.termwiz_wire.specs.CutLinks.{LinkPart, link_change, part_of}
use Rattle.termwiz_wire.specs.Resuming.{LeadsOn, ReadsOn, Resumes, begun_with}
use Rattle.termwiz_wire.specs.declared.decode.begun.Begun.{Begun}
use Rattle.termwiz_wire.specs.declared.decode.begun.BegunChange.TheVariants.{Link}
use Rattle.termwiz_wire.specs.declared.decode.begun.NoAnswer.TheVariants as no_answers
use Rattle.termwiz_wire.proofs.CutLinks.{read_failed}
use Rattle.termwiz_wire.proofs.Resuming.{link_cut, link_failed, link_whole, slice_from}
use Rattle.termwiz_wire.proofs.Within.{lens_of}
use Rattle.termwiz_wire.proofs.decode.begun.with_link.Goals as goal

abbrev some : Begun → Option Begun
some begun = Some begun

-- what is read from the bytes after those that were taken
reads_here : (r room : ℕ) (hand all : List ℕ) (taken : ℕ) (part : LinkPart) (result : Result Unit ReadError) (more : LinkPart) (left : ℕ) (rest : List ℕ) → r ≡ room → hand ≡ all → ReadsOn r part (take (length hand - taken) (drop taken hand)) result more left rest → ReadsOn room part (drop taken all) result more left rest
reads_here r room hand all taken part result more left rest r_is same reads =
    subst (λ (t : List ℕ). ReadsOn room part t result more left rest) (slice_from hand taken ∙ ap (drop taken) same)
    (subst (λ (n : ℕ). ReadsOn n part (take (length hand - taken) (drop taken hand)) result more left rest) r_is reads)

pub returns-in_ok-with_change-in-Ok : goal.returns-in_ok-with_change-in-Ok
returns-in_ok-with_change-in-Ok c = λ measure leads.
    let all : List ℕ = take c.args.limits.bytes c.args.bytes.now in
    let hand : c.rest-hand.result.now ≡ all = c.rest-hand.ensures.value ∙ c.with_limit-reader.ensures.bytes in
    let more : Begun = c.in_ok-with_change-in-Ok.field-0 in
    let made : List ChangeValue = map change_value c.args.begun.changes.items in
    let reads = reads_here c.with_limit-reader.result.room (c.args.limits.bytes - length c.args.bytes.now) c.rest-hand.result.now all c.args.begun.taken (part_of c.args.link) (Ok c.in-Ok.field-0) (part_of c.read_params.new.link) (allowed c.read_params.new.reader.room c.read_params.new.reader.bytes.now) c.read_params.new.reader.bytes.now c.with_limit-reader.ensures.room hand c.in-Ok.ensures.reads in
    let pushed : map change_value more.changes.items ≡ made ++ link_change (part_of c.read_params.new.link) (part_of c.read_params.new.link).params ∷ [] = c.in_ok-with_change-in-Ok.ensures.1 ∙ ap (λ (v : ChangeValue). made ++ v ∷ []) c.in_ok-change-in-Ok.ensures in (
      subst (λ (b : Begun). LeadsOn measure c.args.limits b c.args.bytes.now) (sym c.in_ok-with_change-in-Ok.ensures.0)
          (link_whole measure c.args.limits c.args.bytes.now (begun_with c.args.begun (Link c.args.link)) leads c.args.link refl (part_of c.read_params.new.link) c.read_params.new.reader.bytes.now more.changes c.saturating_sub-taken.result reads.0 reads.1 pushed
          (lens_of c.rest-hand.result.now all c.read_params.new.reader.bytes.now c.saturating_sub-taken.result c.saturating_sub-taken.ensures hand)),
      ap (λ (b : Begun). b.next) c.in_ok-with_change-in-Ok.ensures.0,
    )

pub returns-in-Truncated : goal.returns-in-Truncated
returns-in-Truncated c = λ measure leads.
    let all : List ℕ = take c.args.limits.bytes c.args.bytes.now in
    let hand : c.rest-hand.result.now ≡ all = c.rest-hand.ensures.value ∙ c.with_limit-reader.ensures.bytes in
    let first : List ℕ = take (length c.rest-hand.result.now - c.args.begun.taken) (drop c.args.begun.taken c.rest-hand.result.now) in
    let left : ℕ = allowed c.read_params.new.reader.room c.read_params.new.reader.bytes.now in
    let cut : ReadsOn c.with_limit-reader.result.room (part_of c.args.link) first (Err Truncated) (part_of c.read_params.new.link) left c.read_params.new.reader.bytes.now = subst (λ (e : ReadError). ReadsOn c.with_limit-reader.result.room (part_of c.args.link) first (Err e) (part_of c.read_params.new.link) left c.read_params.new.reader.bytes.now) c.in-Truncated.is c.in-Err.ensures.reads in
    let reads = reads_here c.with_limit-reader.result.room (c.args.limits.bytes - length c.args.bytes.now) c.rest-hand.result.now all c.args.begun.taken (part_of c.args.link) (Err Truncated) (part_of c.read_params.new.link) left c.read_params.new.reader.bytes.now c.with_limit-reader.ensures.room hand cut in
    subst (λ (b : Begun). Resumes measure c.args.limits c.args.bytes.now (Err (no_answers.Cut (some b)))) (sym c.up_to.ensures)
    (link_cut measure c.args.limits c.args.bytes.now (begun_with c.args.begun (Link c.args.link)) leads c.args.link refl c.read_params.new.link c.read_params.new.reader.bytes.now c.saturating_sub-taken-in-Truncated.result reads.0 reads.1
    (lens_of c.rest-hand.result.now all c.read_params.new.reader.bytes.now c.saturating_sub-taken-in-Truncated.result c.saturating_sub-taken-in-Truncated.ensures hand))

pub returns-in_default : goal.returns-in_default
returns-in_default c = λ measure leads.
    let all : List ℕ = take c.args.limits.bytes c.args.bytes.now in
    let room : ℕ = c.args.limits.bytes - length c.args.bytes.now in
    let hand : c.rest-hand.result.now ≡ all = c.rest-hand.ensures.value ∙ c.with_limit-reader.ensures.bytes in
    let left : ℕ = allowed c.read_params.new.reader.room c.read_params.new.reader.bytes.now in
    let reads = reads_here c.with_limit-reader.result.room room c.rest-hand.result.now all c.args.begun.taken (part_of c.args.link) (Err c.in-Err.error) (part_of c.read_params.new.link) left c.read_params.new.reader.bytes.now c.with_limit-reader.ensures.room hand c.in-Err.ensures.reads in
    let count : c.len.result ≡ length (map change_value c.args.begun.changes.items) = omega (arith, c.len.ensures, length-map c.args.begun.changes.items change_value) in
    link_failed measure c.args.limits c.args.bytes.now (begun_with c.args.begun (Link c.args.link)) leads c.args.link refl c.in-Err.error c.read_params.new.reader.bytes.now c.read_params.new.reader.room c.saturating_sub-at.result c.located.result c.in_default.not-Truncated (c.in-Err.ensures.room ∙ c.with_limit-reader.ensures.room)
    (read_failed room (part_of c.args.link) (drop c.args.begun.taken all) c.in-Err.error (part_of c.read_params.new.link) left c.read_params.new.reader.bytes.now c.in_default.not-Truncated reads)
    (lens_of c.rest-hand.result.now all c.read_params.new.reader.bytes.now c.saturating_sub-at.result c.saturating_sub-at.ensures hand)
    (c.located.ensures ∙ ap (λ (k : ℕ). error_of c.in-Err.error c.saturating_sub-at.result (Some k)) count)
