use Rattle.std.proofs.Common.{sym, ◌∙◌}
use Rattle.termwiz_text.proofs.LetterBytes.{ascii_begins_simple}
use Rattle.termwiz_text.proofs.begins_simple.Goals as goal

pub returns-then-begins_ascii : goal.returns-then-begins_ascii
returns-then-begins_ascii c =
    let ascii = sym c.begins_ascii.ensures ∙ c.if-begins_ascii.true in
    c.if-begins_ascii.true ∙ sym (ascii_begins_simple c.args.text.now c.utf8.text ascii)
