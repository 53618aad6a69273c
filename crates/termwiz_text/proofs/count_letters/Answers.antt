use Rattle.std.proofs.Common.{◌≡◌, ◌*◌, ◌-◌, List, ℕ, length, take, drop, sym, ap, ◌∙◌, arith}
use Rattle.std.proofs.lemmas.List.{take_rest}
use Rattle.std.proofs.lemmas.Str.{IsUtf8-drop}
use Rattle.std.specs.Str.{chars, IsUtf8}
use Rattle.termwiz_text.specs.Letter.{begins_letter}
use Rattle.termwiz_text.proofs.LetterBytes.{IsCounted, counted_more}
use Rattle.termwiz_text.proofs.LetterRuns.{boundary_after_letters, chars-drop_letters}
use Rattle.termwiz_text.proofs.count_letters.Goals as goal

-- what stands after the letters that are counted
behind : (text bytes : List ℕ) (k : ℕ) → bytes ≡ text → IsUtf8 text → IsCounted (chars text) k → begins_letter (drop k (chars text)) ≡ begins_letter (chars (take (length bytes - 3 * k) (drop (3 * k) bytes)))
behind text bytes k same u counted =
    ap begins_letter (sym (ap chars (take_rest bytes (3 * k) ∙ ap (drop (3 * k)) same) ∙ chars-drop_letters text u k counted.inside counted.letters))

pub overflow_mul-k : goal.overflow_mul-k
overflow_mul-k c =
    let counted = c.loop-k.invariant in
    let l = (boundary_after_letters c.args.text.now c.utf8.text c.loop-k.k counted.inside counted.letters).0 in
    omega (arith, l)

pub slice_bounds-bytes_begin_letter-count : goal.slice_bounds-bytes_begin_letter-count
slice_bounds-bytes_begin_letter-count c =
    let counted = c.loop-k.invariant in
    let l = (boundary_after_letters c.args.text.now c.utf8.text c.loop-k.k counted.inside counted.letters).0 in
    omega (arith, l, ap length c.as_bytes-bytes.ensures.value)

pub slice_bounds-bytes_begin_letter-start : goal.slice_bounds-bytes_begin_letter-start
slice_bounds-bytes_begin_letter-start c =
    let counted = c.loop-k.invariant in
    let l = (boundary_after_letters c.args.text.now c.utf8.text c.loop-k.k counted.inside counted.letters).0 in
    omega (arith, l, ap length c.as_bytes-bytes.ensures.value)

pub bytes_begin_letter-requires : goal.bytes_begin_letter-requires
bytes_begin_letter-requires c =
    let counted = c.loop-k.invariant in
    let boundary = boundary_after_letters c.args.text.now c.utf8.text c.loop-k.k counted.inside counted.letters in
    rw (c.as_bytes-bytes.ensures.value, take_rest c.args.text.now (3 * c.loop-k.k)) (IsUtf8-drop c.args.text.now (3 * c.loop-k.k) c.utf8.text boundary)

pub returns-then-not-bytes_begin_letter-clause-stops : goal.returns-then-not-bytes_begin_letter-clause-stops
returns-then-not-bytes_begin_letter-clause-stops c =
    let rest = behind c.args.text.now c.as_bytes-bytes.result.now c.loop-k.k c.as_bytes-bytes.ensures.value c.utf8.text c.loop-k.invariant in
    λ _. rest ∙ sym c.bytes_begin_letter.ensures ∙ c.if-not-bytes_begin_letter.true

pub loop-k-preserved : goal.loop-k-preserved
loop-k-preserved c =
    let rest = behind c.args.text.now c.as_bytes-bytes.result.now c.loop-k.k c.as_bytes-bytes.ensures.value c.utf8.text c.loop-k.invariant in
    counted_more (chars c.args.text.now) c.loop-k.k c.loop-k.invariant (rest ∙ sym c.bytes_begin_letter.ensures ∙ c.if-not-bytes_begin_letter.false)
