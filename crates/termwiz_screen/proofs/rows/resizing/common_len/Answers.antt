use Rattle.std.proofs.Common.{rules}
use Rattle.std.proofs.lemmas.List.Sums.{list_all-from_AllPass}
use Rattle.termwiz_screen.specs.Resized.{is_vector_of}
use Rattle.termwiz_screen.proofs.rows.resizing.common_len.Goals as goal

pub returns-then-all : goal.returns-then-all
returns-then-all c = list_all-from_AllPass (is_vector_of c.len-len.result) c.args.rows.now (search rules)
