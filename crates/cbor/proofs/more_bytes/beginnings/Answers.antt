use Rattle.cbor.proofs.Prefixes.{unsigned_beginnings, array_beginnings, signed_beginnings, boolean_beginnings, text_beginnings}
use Rattle.cbor.proofs.more_bytes.beginnings.Goals as goal

pub returns-clause-unsigned : goal.returns-clause-unsigned
returns-clause-unsigned c = unsigned_beginnings

pub returns-clause-signed : goal.returns-clause-signed
returns-clause-signed c = signed_beginnings

pub returns-clause-boolean : goal.returns-clause-boolean
returns-clause-boolean c = boolean_beginnings

pub returns-clause-text : goal.returns-clause-text
returns-clause-text c = text_beginnings

pub returns-clause-array : goal.returns-clause-array
returns-clause-array c = array_beginnings
