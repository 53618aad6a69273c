use Rattle.termwiz_share.proofs.Answering.{begins}
use Rattle.termwiz_share.proofs.client.Client.encode_ask.Goals as goal

pub returns-clause-begins : goal.returns-clause-begins
returns-clause-begins g c = begins c.encode_ask.result c.args.out.now.items c.encode_ask.new.out.items c.encode_ask.ensures.kept
