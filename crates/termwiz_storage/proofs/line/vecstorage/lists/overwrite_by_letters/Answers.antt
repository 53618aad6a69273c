use Rattle.std.proofs.Common.{◌≡◌, ℕ, ◌+◌, ◌*◌, ◌∙◌, List, true, length, get_or, sym, ap, ap₂, arith}
use Rattle.std.proofs.lemmas.List.{at_drop_more}
use Rattle.std.proofs.lemmas.List.Sums.{AllPass-from_list_all}
use Rattle.std.specs.Str.{chars}
use Rattle.termwiz_text.specs.Letter.{is_letter}
use Rattle.termwiz_text.proofs.LetterRuns.{letter_bytes}
use Rattle.termwiz_cell.specs.Attributes.{Attributes}
use Rattle.termwiz_cell.specs.CellValue.{blank_of, cell_of}
use Rattle.termwiz_cell.proofs.Cleaned.{length_clean}
use Rattle.termwiz_storage.specs.Letters.{letter_cell, put_letters}
use Rattle.termwiz_storage.proofs.Owned.{nothing_set, unowned_letter}
use Rattle.termwiz_storage.proofs.line.vecstorage.lists.overwrite_by_letters.Goals as goal

pub unwrap-cell-requires : goal.unwrap-cell-requires
unwrap-cell-requires c =
    let letter : ℕ = get_or (chars c.args.run.now) c.loop-k.k 0 in
    let is : is_letter letter ≡ true = AllPass-from_list_all is_letter (chars c.args.run.now) c.requires.letters c.loop-k.k 0 (omega arith) in
    let text : List ℕ = c.letter_at.result.now in
    let three : length text ≡ 3 = ap length c.letter_at.ensures ∙ letter_bytes letter is in
    c.new_grapheme_with_width.ensures.succeeds (omega (arith, length_clean text))

pub loop-k-preserved : goal.loop-k-preserved
loop-k-preserved c =
    let at : ℕ = 2 * c.loop-k.k in
    let next : 2 * (c.loop-k.k + 1) ≡ at + 2 = omega arith in
    let letter : ℕ = get_or (chars c.args.run.now) c.loop-k.k 0 in
    let is : is_letter letter ≡ true = AllPass-from_list_all is_letter (chars c.args.run.now) c.requires.letters c.loop-k.k 0 (omega arith) in
    let own : c.unwrap-own.result ≡ c.args.attrs.now = rw c.unwrap-own.ensures at c.unboxed_copy.ensures.same in
    let first : c.unwrap-copy.result ≡ c.unwrap-own.result = rw c.unwrap-copy.ensures at c.unboxed_copy-in-loop-k.ensures.same in
    let second : c.unwrap-copy-in-loop-k.result ≡ c.unwrap-own.result = rw c.unwrap-copy-in-loop-k.ensures at c.unboxed_copy-in-loop-k-2.ensures.same in
    let made : c.unwrap-cell.result ≡ cell_of c.letter_at.result.now 2 c.unwrap-copy.result = rw c.unwrap-cell.ensures at c.new_grapheme_with_width.ensures.ok in
    let cell : c.unwrap-cell.result ≡ letter_cell (get_or (chars c.args.run.now) c.loop-k.k 0) c.args.attrs.now = made ∙ ap₂ (λ (t : List ℕ) (a : Attributes). cell_of t 2 a) c.letter_at.ensures (first ∙ own) in
    let half : c.blank_with_attrs.result ≡ blank_of c.args.attrs.now = c.blank_with_attrs.ensures ∙ ap blank_of (second ∙ own) in
    let first_at : c.overwrite.new.place ≡ blank_of c.args.attrs.now = c.overwrite.ensures ∙ half in
    let second_at : c.overwrite-in-loop-k.new.place ≡ letter_cell letter c.args.attrs.now = c.overwrite-in-loop-k.ensures ∙ cell in
    rw (next, first_at, second_at) (record {
      written = sym (at_drop_more (λ (ls : List ℕ). put_letters at ls c.args.attrs.now c.loop-k.cells) (chars c.args.run.now) c.loop-k.k 0 (omega arith)) ∙ c.loop-k.invariant.written;
      unowned = λ h. nothing_set _ at (letter_cell letter c.args.attrs.now) (unowned_letter letter c.args.attrs.now is c.requires.unboxed) (nothing_set c.loop-k.cells (at + 1) (blank_of c.args.attrs.now) c.requires.unboxed (c.loop-k.invariant.unowned h));
    })
