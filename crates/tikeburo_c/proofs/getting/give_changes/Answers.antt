use Rattle.std.proofs.Common.{ℕ, List, inl, inr, map, subst, ap, ◌∙◌}
use Rattle.termwiz_cell.specs.ChangeValue.{ChangeValue, change_value}
use Rattle.tikeburo_c.specs.Getting.{GivesList, list_place}
use Rattle.tikeburo_c.specs.Listing.{IsListOf}
use Rattle.tikeburo_c.proofs.getting.give_changes.Goals as goal

pub returns : goal.returns
returns c =
    let old = list_place c.args.list.now c.args.texts.now c.args.counts.now in
    let new = list_place c.give_all.new.list c.give_all.new.texts c.give_all.new.counts in
    let lacks = ap (map change_value) c.deref.ensures.value ∙ c.in_ok-number.ensures.changes in
    elim c.give_all.ensures [
      | inl refused ↦ inl refused
      | inr all ↦ inr (record {
        list = all.list;
        texts = all.texts;
        is_list = subst (λ (cs : List ChangeValue). IsListOf cs all.list all.texts) lacks all.is_list;
        gives = subst (λ (n : ℕ). GivesList all.list all.texts n old c.give_all.result new) c.in_ok-number.ensures.number all.gives;
      })
    ]
