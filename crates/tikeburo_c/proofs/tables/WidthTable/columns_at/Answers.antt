use Rattle.std.proofs.Common.{rules, ltb, sym}
use Rattle.std.proofs.lemmas.List.Sorted.{IsPartitionPoint-from_clause, IsPartitionedBy-ltb}
use Rattle.tikeburo_c.proofs.WidthTables.{columns_found, table_rises}
use Rattle.tikeburo_c.proofs.tables.WidthTable.columns_at.Goals as goal

pub returns : goal.returns
returns c =
    let ranges = c.args.self.now.ranges.now in
    let rises = c.args.self.now.rises in
    let parted = IsPartitionedBy-ltb (λ r. r.last) ranges c.args.c (table_rises 0 ranges rises) in
    let point = IsPartitionPoint-from_clause (λ r. ltb r.last c.args.c) ranges c.partition_point-place.result c.partition_point-place.ensures.partitioned parted (λ a r q k. search rules) in
    let found = columns_found c.args.c 0 ranges c.partition_point-place.result rises point in
    rw (c.given_by.ensures, c.range_at.ensures, c.from-c.ensures) (sym found)
