use Rattle.std.proofs.Common.{◌≡◌, ◌∙◌, ap, length, arith}
use Rattle.termwiz_storage.specs.Stored.{padded}
use Rattle.termwiz_storage.proofs.Halves.{length-torn, length-padded}
use Rattle.termwiz_storage.proofs.line.vecstorage.VecStorage.make_room.Goals as goal

pub returns-clause-room : goal.returns-clause-room
returns-clause-room c =
    let len : length c.tear.new.self ≡ length (padded c.args.end c.args.self.now) = ap length c.tear.ensures ∙ length-torn c.args.i c.pad.new.self ∙ ap length c.in_ok-pad.ensures.ok in
    omega (arith, (length-padded c.args.end c.args.self.now).0)
