use Rattle.std.proofs.Common.{◌≡◌, ◌+◌, ◌*◌, ◌∙◌, List, length, ap, arith}
use Rattle.std.specs.Str.{chars}
use Rattle.termwiz_text.proofs.LetterRuns.{length-letters}
use Rattle.termwiz_cell.specs.CellValue.{CellValue}
use Rattle.termwiz_storage.specs.Letters.{put_letters}
use Rattle.termwiz_storage.proofs.LetterRuns.{put_letters-torn}
use Rattle.termwiz_storage.proofs.line.vecstorage.VecStorage.set_letters.Goals as goal

pub overflow_mul-letter_count : goal.overflow_mul-letter_count
overflow_mul-letter_count c = omega (arith, length-letters c.args.run.now c.utf8.run c.requires.letters)

pub returns-in_ok-make_room-clause-ok : goal.returns-in_ok-make_room-clause-ok
returns-in_ok-make_room-clause-ok c =
    let end : c.in_ok-end.end ≡ c.args.i + 2 * length (chars c.args.run.now) = c.in_ok-end.ensures ∙ ap (λ n. c.args.i + 2 * n) c.letter_count.ensures in
    c.put_letters.ensures
    ∙ ap (λ (cs : List CellValue). put_letters c.args.i (chars c.args.run.now) c.args.attrs.now cs) c.in_ok-make_room.ensures.ok
    ∙ put_letters-torn c.args.i c.in_ok-end.end (chars c.args.run.now) c.args.attrs.now c.args.self.now c.if-i-end.true end
