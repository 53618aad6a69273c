use Rattle.termwiz_wire.proofs.AnswerHeads.{answer_head_stays}
use Rattle.termwiz_wire.proofs.MoreBytes.{answer_stays, ask_stays, change_stays, changes_stay}
use Rattle.termwiz_wire.proofs.more_bytes.stays.Goals as goal

pub returns-clause-change : goal.returns-clause-change
returns-clause-change c = change_stays

pub returns-clause-changes : goal.returns-clause-changes
returns-clause-changes c = changes_stay

pub returns-clause-answer : goal.returns-clause-answer
returns-clause-answer c = answer_stays

pub returns-clause-head : goal.returns-clause-head
returns-clause-head c = answer_head_stays

pub returns-clause-ask : goal.returns-clause-ask
returns-clause-ask c = ask_stays
