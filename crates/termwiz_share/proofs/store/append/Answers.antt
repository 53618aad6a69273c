use Rattle.std.proofs.Common.{refl}
use Rattle.std.proofs.lemmas.List.{drop-append-le}
use Rattle.termwiz_share.proofs.store.append.Goals as goal

pub returns-clause-added : goal.returns-clause-added
returns-clause-added c = rw (c.in_ok-extend_from_slice.ensures.items, drop-append-le c.make_room.new.start c.make_room.new.bytes.items c.args.piece.now c.make_room.ensures.within, c.make_room.ensures.same) refl
