use Rattle.std.proofs.Common.{◌++◌}
use Rattle.cbor.specs.Encoding.{array}
use Rattle.cbor.specs.Decoding.{allowed, list_in, list_at}
use Rattle.cbor.proofs.Items.{list_again, list_takes}
use Rattle.cbor.proofs.Calls.{gives_of, again_pair, found_pair}
use Rattle.cbor.proofs.reader.Reader.list.Goals as goal

pub returns-clause-exact : goal.returns-clause-exact
unfolding list_at
returns-clause-exact c = gives_of (λ x. (x, c.any_list.new.self.bytes.now)) c.any_list.result (list_in c.args.self.now.room c.args.self.now.bytes.now) c.args.self.now.room c.any_list.new.self.room c.args.self.now.bytes.now c.any_list.new.self.bytes.now c.any_list.ensures.room c.any_list.ensures.left c.any_list.ensures.value

pub returns-clause-again : goal.returns-clause-again
returns-clause-again c = λ n rest lt fits e. again_pair (allowed c.any_list.new.self.room c.any_list.new.self.bytes.now) (λ x. x) c.any_list.result c.any_list.new.self.bytes.now (list_at c.args.self.now.room) c.args.self.now.bytes.now (array n ++ rest) n rest e (list_again c.args.self.now.room n rest lt fits) (returns-clause-exact c)

pub returns-clause-found : goal.returns-clause-found
returns-clause-found c = found_pair (allowed c.any_list.new.self.room c.any_list.new.self.bytes.now) (λ x. x) c.any_list.result c.any_list.new.self.bytes.now (list_at c.args.self.now.room) c.args.self.now.bytes.now array (λ x e. (list_takes c.args.self.now.room c.args.self.now.bytes.now (x, c.any_list.new.self.bytes.now) c.are_bytes.ensures e).0.parts) (returns-clause-exact c)
