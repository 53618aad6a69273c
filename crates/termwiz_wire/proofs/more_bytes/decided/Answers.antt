use Rattle.termwiz_wire.proofs.Prefixes.{change_reads, changes_reads, answer_reads, ask_reads}
use Rattle.termwiz_wire.proofs.more_bytes.decided.Goals as goal

pub returns-clause-change : goal.returns-clause-change
returns-clause-change c = change_reads

pub returns-clause-changes : goal.returns-clause-changes
returns-clause-changes c = changes_reads

pub returns-clause-answer : goal.returns-clause-answer
returns-clause-answer c = answer_reads

pub returns-clause-ask : goal.returns-clause-ask
returns-clause-ask c = ask_reads
