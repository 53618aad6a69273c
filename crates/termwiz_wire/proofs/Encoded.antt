-- How long the bytes of changes are.
use Rattle.std.proofs.Common.{◌≡◌, ℕ, ◌+◌, ◌-◌, ◌^◌, ◌<◌, ◌≤◌, true, false, List, ◌++◌, length, map, take, drop, refl, sym, ◌∙◌, ap, arith, append_assoc, length-append}
use Rattle.std.proofs.Math.Seq.{take-append_seam}
use Rattle.cbor.specs.Encoding.{Extends, array, unsigned}
use Rattle.termwiz_wire.specs.Encoding.{changes}
use Rattle.termwiz_wire.specs.Sent.{EncodesWithin, answer}
use Rattle.termwiz_wire.specs.declared.sent.SentAnswer.{SentAnswer}
use Rattle.std.specs.List.{flat_map}
use Rattle.std.proofs.lemmas.List.{map-append, take-append-drop}
use Rattle.std.proofs.lemmas.List.Concat.{flat_map-append}

-- the first of some values have no more bytes than all
pub part_fits : {X Y : Type 0} (view : X → Y) (bytes : Y → List ℕ) (xs : List X) (k : ℕ) → length (flat_map bytes (map view (take k xs))) ≤ length (flat_map bytes (map view xs))
part_fits view bytes xs k =
    let whole : flat_map bytes (map view xs) ≡ flat_map bytes (map view (take k xs)) ++ flat_map bytes (map view (drop k xs)) =
    ap (λ ys. flat_map bytes (map view ys)) (sym (take-append-drop k xs))
    ∙ ap (flat_map bytes) (map-append view (take k xs) (drop k xs))
    ∙ flat_map-append bytes (map view (take k xs)) (map view (drop k xs)) in
    omega (arith, ap length whole, length-append (flat_map bytes (map view (take k xs))) (flat_map bytes (map view (drop k xs))))

-- bytes that pass an end, of which the first do
pub past_all : {X Y : Type 0} (view : X → Y) (bytes : Y → List ℕ) (xs : List X) (k end : ℕ) (front out : List ℕ) → out ≡ front ++ flat_map bytes (map view (take k xs)) → end < length out → end < length (front ++ flat_map bytes (map view xs))
past_all view bytes xs k end front out is past =
    omega (arith, past, ap length is, part_fits view bytes xs k, length-append front (flat_map bytes (map view (take k xs))), length-append front (flat_map bytes (map view xs)))

-- ---- answers

-- what an answer has before its changes
abbrev pub head_bytes : SentAnswer → List ℕ
head_bytes s = array 7 ++ unsigned 2 ++ unsigned s.source ++ unsigned s.answer.width ++ unsigned s.answer.height ++ unsigned s.answer.base ++ unsigned s.answer.number

module _ (m : List ℕ → ℕ) (s : SentAnswer) (old head : List ℕ) (put : head ≡ old ++ array 7 ++ unsigned 2 ++ unsigned s.source ++ unsigned s.answer.width ++ unsigned s.answer.height ++ unsigned s.answer.base ++ unsigned s.answer.number) where
  is : head ≡ old ++ head_bytes s
  is = put ∙ simp append_assoc refl

  -- its changes follow that
  pub parts : head ++ changes m s.answer.changes ≡ old ++ answer m s
  unfolding answer
  parts = rw is (simp append_assoc refl)

  module _ (most end : ℕ) where
    -- all are there, up to the end
    pub within_all : (out : List ℕ) → end ≤ length old + most → out ≡ head ++ changes m s.answer.changes → length out ≤ end → EncodesWithin (answer m s) most old true out
    within_all out e whole fits =
        let all : out ≡ old ++ answer m s = whole ∙ parts in
        (all, omega (arith, ap length all, length-append old (answer m s), e, fits))

    -- they pass it, and what was appended goes
    pub within_none : (out after : List ℕ) → end ≡ length old + most → end < 2 ^ 64 - 1 → end < length (head ++ changes m s.answer.changes) → Extends head out → after ≡ take (length old) out → EncodesWithin (answer m s) most old false after
    within_none out after e few past extends cut =
        let begins = extends old (record { rest = head_bytes s; whole = is }) in (
          cut ∙ ap (take (length old)) begins.whole ∙ take-append_seam old begins.rest,
          omega (arith, ap length parts, length-append old (answer m s), e, past),
          omega (arith, e, few),
        )
