-- Answers whose texts are borrowed.
use Rattle.std.specs.Prelude.{map}
use Rattle.termwiz_surface.specs.Unlogged.{lent_value}
use Rattle.termwiz_wire.specs.declared.sent.LentAnswer.{LentAnswer}
use Rattle.termwiz_wire.specs.declared.sent.SentAnswer.{SentAnswer}

-- the answer that this is, whatever its texts are borrowed from
abbrev pub lent_answer : LentAnswer → SentAnswer
lent_answer a =
    record {
      source = a.source;
      answer =
          record {
            width = a.width;
            height = a.height;
            base = a.base;
            number = a.number;
            changes = map lent_value a.changes.items;
          };
    }
