use Rattle.std.proofs.Common.{◌≡◌, ◌+◌, ℕ, List, [], ◌∷◌, ◌++◌, map, take, refl, sym, ap, ◌∙◌}
use Rattle.std.proofs.lemmas.List.{map-append, take_all, take_more}
use Rattle.termwiz_cell.specs.ChangeValue.{change_value}
use Rattle.termwiz_cell.specs.declared.change.Change.{Change}
use Rattle.tikeburo_c.specs.Listing.{struct_of, text_of}
use Rattle.tikeburo_c.specs.declared.lists.ChangeFields.{ChangeFields}
use Rattle.tikeburo_c.proofs.ReadBack.{is_list, one_written, same_written}
use Rattle.tikeburo_c.proofs.listing.list_of.Goals as goal

pub loop-change-preserved : goal.loop-change-preserved
loop-change-preserved c =
    let xs = c.args.changes.now in
    let l = c.loop-change in
    let x = c.change-item.result in
    let done = map change_value (take l.change-index xs) in
    let cut : take (l.change-index + 1) xs ≡ take l.change-index xs ++ x ∷ [] = take_more xs l.change-index x c.loop-change-test.true ∙ ap (λ (y : Change). take l.change-index xs ++ y ∷ []) (sym c.change-item.is) in
    let more : map change_value (take (l.change-index + 1) xs) ≡ done ++ change_value x ∷ [] = ap (map change_value) cut ∙ map-append change_value (take l.change-index xs) (x ∷ []) in
    let items : c.push.new.self.items ≡ l.list.items ++ struct_of (change_value x) ∷ [] = c.in_ok-push.ensures.items ∙ ap (λ (f : ChangeFields). l.list.items ++ f ∷ []) c.struct_of.ensures in
    let bytes : c.extend_from_slice.new.self.items ≡ l.texts.items ++ text_of (change_value x) = c.in_ok-extend_from_slice.ensures.items ∙ ap (λ (t : List ℕ). l.texts.items ++ t) (c.as_bytes.ensures.value ∙ c.text_of.ensures.text) in
    same_written _ _ _ _ _ _ more items bytes (one_written done (change_value x) l.list.items l.texts.items l.invariant c.text_of.ensures.listable)

pub returns : goal.returns
returns c =
    let xs = c.args.changes.now in
    let l = c.loop-change in
    is_list (map change_value xs) l.list.items l.texts.items (same_written _ _ _ _ _ _ (ap (map change_value) (sym (take_all l.change-index xs c.loop-change-test.false))) refl refl l.invariant)
