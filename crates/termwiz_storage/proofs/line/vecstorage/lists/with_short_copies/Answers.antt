use Rattle.std.proofs.Common.{◌≡◌, ◌≤◌, List, [], ◌∷◌, ◌++◌, append_assoc, arith, drop, get_or, length, length-drop, ◌∙◌}
use Rattle.std.proofs.lemmas.List.{take_rest}
use Rattle.std.proofs.lemmas.List.Elements.{All-drop}
use Rattle.termwiz_storage.proofs.Owned.{Unowned}
use Rattle.termwiz_storage.proofs.line.vecstorage.lists.with_short_copies.Goals as goal

-- four elements go from the front of a list to the end of another
four_behind : {A : Type 0} (s xs : List A) (a b c d : A) → 4 ≤ length xs → a ≡ get_or xs 0 a → b ≡ get_or xs 1 b → c ≡ get_or xs 2 c → d ≡ get_or xs 3 d → ((((s ++ a ∷ []) ++ b ∷ []) ++ c ∷ []) ++ d ∷ []) ++ drop 4 xs ≡ s ++ xs
four_behind s [] a b c d l p q r t = absurd (omega arith)
four_behind s (w ∷ []) a b c d l p q r t = absurd (omega arith)
four_behind s (w ∷ x ∷ []) a b c d l p q r t = absurd (omega arith)
four_behind s (w ∷ x ∷ y ∷ []) a b c d l p q r t = absurd (omega arith)
four_behind s (w ∷ x ∷ y ∷ z ∷ more) a b c d l p q r t = simp append_assoc (cc)

pub fours-preserved : goal.fours-preserved
fours-preserved c =
    let s = c.fours.list.items in
    let xs = c.fours.rest.now in
    let moved = four_behind s xs c.a-item.result c.b-item.result c.c-item.result c.d-item.result c.in-len4-up.len_at_least c.a-item.is c.b-item.is c.c-item.is c.d-item.is in
    record {
      items = rw (take_rest xs 4, c.with_short_copy-list-in-len4-up-3.ensures.items, c.with_short_copy-list-in-len4-up-2.ensures.items, c.with_short_copy-list-in-len4-up.ensures.items, c.with_short_copy-list.ensures.items) (moved ∙ c.fours.invariant.items);
      unowned = rw (take_rest xs 4) (All-drop Unowned 4 xs c.fours.invariant.unowned);
      room = rw (take_rest xs 4) (omega (arith, length-drop 4 xs));
    }
