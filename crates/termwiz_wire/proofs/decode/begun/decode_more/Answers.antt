use Rattle.termwiz_wire.proofs.decode.begun.decode_more.Goals as goal

pub resume-requires : goal.resume-requires
resume-requires g c = c.requires.leads c.in-Some.begun c.in-Some.is
