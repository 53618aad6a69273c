use Rattle.std.proofs.Common.{inr}
use Rattle.tikeburo_c.proofs.getting.give_all.Goals as goal

pub returns : goal.returns
returns c = inr (record {
  list = c.in_ok-made.made.list.items;
  texts = c.in_ok-made.made.texts.items;
  is_list = c.in_ok-made.ensures;
  gives = c.give_list.ensures;
})
