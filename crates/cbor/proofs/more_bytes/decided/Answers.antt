use Rattle.cbor.proofs.Prefixes.{unsigned_reads, array_reads, list_reads, below_reads, signed_reads, boolean_reads, null_reads, text_reads, array_of_reads, kind_reads}
use Rattle.cbor.proofs.more_bytes.decided.Goals as goal

pub returns-clause-unsigned : goal.returns-clause-unsigned
returns-clause-unsigned c = unsigned_reads

pub returns-clause-below : goal.returns-clause-below
returns-clause-below c = below_reads

pub returns-clause-signed : goal.returns-clause-signed
returns-clause-signed c = signed_reads

pub returns-clause-boolean : goal.returns-clause-boolean
returns-clause-boolean c = boolean_reads

pub returns-clause-null : goal.returns-clause-null
returns-clause-null c = null_reads

pub returns-clause-text : goal.returns-clause-text
returns-clause-text c = text_reads

pub returns-clause-array : goal.returns-clause-array
returns-clause-array c = array_reads

pub returns-clause-array_of : goal.returns-clause-array_of
returns-clause-array_of c = array_of_reads

pub returns-clause-kind : goal.returns-clause-kind
returns-clause-kind c = kind_reads

pub returns-clause-list : goal.returns-clause-list
returns-clause-list c = list_reads
