use Rattle.termwiz_storage.proofs.Used.{blanked-all}
use Rattle.termwiz_storage.proofs.line.vecstorage.VecStorage.blank_out.Goals as goal

pub returns-clause-ok : goal.returns-clause-ok
returns-clause-ok c = blanked-all c.args.len c.fit.new.self c.blank_between.new.self c.in_ok-fit.ensures.ok c.blank_between.ensures
