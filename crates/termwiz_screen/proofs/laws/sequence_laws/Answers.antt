use Rattle.termwiz_screen.proofs.RowChanges.CursorColumns.{texts_alike, moves_lead}
use Rattle.termwiz_screen.proofs.laws.sequence_laws.Goals as goal

pub returns : goal.returns
returns c = record { texts = texts_alike; moves = moves_lead }
