use Rattle.std.proofs.Common.{◌≡◌, List, [], String, subst, sym, rules, tests}
use Rattle.std.proofs.lemmas.List.{nil_from_length}
use Rattle.std.specs.declared.alloc.Global.{Global}
use Rattle.sessions.specs.Words.{AskFor, Asked}
use Rattle.sessions.proofs.words.watch_options.Goals as goal

pub returns-clause-asked : goal.returns-clause-asked
returns-clause-asked c =
    let at = c.loop-rest in
    let none : at.rest.now ≡ [] = nil_from_length at.rest.now (search (rules, tests)) in
    at.invariant.asks at.options (subst (λ (words : List (String Global)). AskFor at.options words at.options) (sym none) (Asked at.options))
