use Rattle.std.proofs.Common.{◌<◌, length}
use Rattle.sessions.specs.Words.{AskFor, first_options}
use Rattle.sessions.specs.declared.words.WatchOptions.{WatchOptions}
use Rattle.sessions.proofs.words.watch_options.Given as goal

-- what the words that are left ask for all of them ask for
abbrev pub invariant-loop-rest : goal.invariant-loop-rest
invariant-loop-rest l = record {
  asks : (p : WatchOptions) → AskFor l.options l.rest p → AskFor first_options l.fn.args p;
  some : 0 < l.options.limits.bytes;
}

abbrev pub decreases-loop-rest : goal.decreases-loop-rest
decreases-loop-rest l = length l.rest
