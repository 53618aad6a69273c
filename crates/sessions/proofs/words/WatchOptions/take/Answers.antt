use Rattle.std.proofs.Common.{ℕ, List, subst, rules}
use Rattle.sessions.specs.Words.{IsWholeNumber}
use Rattle.sessions.proofs.Asking.{each_asks, cells_asks, bytes_asks}
use Rattle.sessions.proofs.words.WatchOptions.take.Goals as goal

pub returns-in-len1-up-clause-asked : goal.returns-in-len1-up-clause-asked
returns-in-len1-up-clause-asked c = λ p asked.
    each_asks c.args.self.now p c.word-item.result c.args.words.now c.in-len1-up.len_at_least c.word-item.is (search rules) asked

pub returns-in_ok-self-in-len2-up-clause-asked : goal.returns-in_ok-self-in-len2-up-clause-asked
returns-in_ok-self-in-len2-up-clause-asked c = λ p asked.
    cells_asks c.args.self.now p c.word-item-2.result c.number-item.result c.args.words.now c.in_ok-self-in-len2-up.field-0
    (record {
      some = c.in-len2-up.len_at_least;
      first = c.word-item-2.is;
      second = c.number-item.is;
      named = search rules;
      whole = search rules;
      value_is = search rules;
    }) asked

pub returns-in_ok-self-in-len2-up-2-clause-asked : goal.returns-in_ok-self-in-len2-up-2-clause-asked
returns-in_ok-self-in-len2-up-2-clause-asked c = λ p asked.
    bytes_asks c.args.self.now p c.word-item-3.result c.number-item-2.result c.args.words.now c.in_ok-self-in-len2-up-2.field-0
    (record {
      some = c.in-len2-up.len_at_least;
      first = c.word-item-3.is;
      second = c.number-item-2.is;
      named = search rules;
      whole = search rules;
      value_is = search rules;
    }) asked
