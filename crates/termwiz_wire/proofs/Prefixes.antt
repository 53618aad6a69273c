-- What bytes of changes and answers decide, when more may follow them.
use Rattle.std.proofs.Common.{◌≡◌, ◌≢◌, ℕ, zero, suc, ◌+◌, ◌*◌, ◌/◌, ◌%◌, ◌^◌, Bool, true, false, not, ◌&&◌, ◌||◌, cond, ltb, eqb, List, [], ◌∷◌, ◌++◌, length, drop, Option, Some, None, Result, Ok, Err, refl, ap, subst, ◌∙◌, arith, inl, inr}
use Rattle.std.proofs.lemmas.List.{length-append}
use Rattle.std.specs.Str.{chars}
use Rattle.cbor.specs.declared.error.FaultKind.{FaultKind}
use Rattle.cbor.specs.declared.error.FaultKind.TheVariants.{Truncated}
use Rattle.cbor.specs.declared.error.FaultKind.TheVariants as faults
use Rattle.cbor.specs.declared.kind.Kind.{Kind}
use Rattle.cbor.specs.declared.kind.Kind.TheVariants as kinds
use Rattle.cbor.specs.Decoding.{◌>>=◌, Stop, ok, allowed, unsigned_at, array_at, list_at, text_at}
use Rattle.cbor.specs.Prefixes.{left, rest_with, fault, StaysDecoded, Decides, DecodesPrefixes}
use Rattle.cbor.proofs.Prefixes.{chain, bind, bind_rest, look, choose, done, done_rest, fails, unsigned_reads, array_reads, list_reads, below_reads, signed_reads, boolean_reads, null_reads, text_reads, array_of_reads, kind_reads}
use Rattle.termwiz_cell.specs.Attributes.{Attributes}
use Rattle.termwiz_cell.specs.ChangeValue.{ChangeValue}
use Rattle.termwiz_cell.specs.ChangeValue as changed
use Rattle.termwiz_wire.specs.Encoding.{fields}
use Rattle.termwiz_wire.specs.Pieces.{runs, stands_out, needs_pieces}
use Rattle.termwiz_wire.specs.Cuts.{refused, is_rest_at, is_run_at, are_at, same_at, is_count, are_characters, are_columns, kept_at, run_at, no_run, runs_at, threes_at, cut_at, others_at, pieces_at, pieces_by}
use Rattle.termwiz_wire.specs.Decoding.{which_at, palette_at, rgb_item_at, rgb_palette_at, color_by, color_item_at, split, are_small, style_limit, style_item_at, ascends, key_at, param_item_at, params_at, link_at, optional_link_by, optional_link_at, attributes_at, attribute_change_by, attribute_change_at, position_by, position_at, place_at, is_on, region_size_at, scroll_at, printed_at, change_by, count_at, has_count, change_kind_at, change_at}
use Rattle.termwiz_wire.specs.CutLinks.{LinkPart, before_link_at, before_link_by, link_alone_at, link_begun_at, link_item_at, link_item_by, link_part_at, param_key_at}
use Rattle.termwiz_wire.specs.CutTexts.{with_pieces_at}
use Rattle.termwiz_wire.specs.Answers.{version_at, body_at, opened_at, source_at, size_at, height_at, based_number_at, asked_at, ask_in, head_at, halted, next_at, each_at, changes_in, answer_in}
use Rattle.termwiz_wire.specs.MoreBytes.{halt}
use Rattle.termwiz_wire.specs.Screens.{is_past}
use Rattle.termwiz_wire.specs.Work.{bears, head_rows, spent_on}
use Rattle.termwiz_wire.specs.declared.decode.heads.Head.{Head}
use Rattle.termwiz_wire.specs.declared.fault.Limits.{Limits}
use Rattle.termwiz_wire.specs.declared.pieces.Run.{Run}

abbrev stop_at : {Z : Type 0} → FaultKind → ℕ → Result Z Stop
stop_at f place = Err (record { fault = f; left = place })

-- ---- the place of an item

-- what is allowed from an item on is the same with more bytes after it
here : {Z : Type 0} {gz : Z → List ℕ → Z} (f : ℕ → ℕ → List ℕ → Result Z Stop) → ((place : ℕ) → DecodesPrefixes fault gz (f place)) → DecodesPrefixes fault gz (λ room bytes. f (allowed room bytes) room bytes)
here {gz = gz} f each = record {
  stays = λ room bytes more.
      let same : allowed (length more + room) bytes ≡ allowed room (bytes ++ more) = omega (arith, length-append bytes more) in
      subst (λ (place : ℕ). StaysDecoded fault gz more (f (allowed (length more + room) bytes) (length more + room) bytes) (f place room (bytes ++ more))) same ((each (allowed (length more + room) bytes)).stays room bytes more);
  ends = λ bytes. (each (allowed 0 bytes)).ends bytes;
}

refused_reads : {Z : Type 0} {gz : Z → List ℕ → Z} (f : FaultKind) → f ≢ Truncated → DecodesPrefixes fault gz (λ room bytes. refused f room bytes)
refused_reads f other = here (λ place room bytes. stop_at f place) (λ place. fails other)

-- a value that keeps a rule
kept : {A : Type 0} {read : ℕ → List ℕ → Result (A × List ℕ) Stop} (f : FaultKind) → f ≢ Truncated → (rule : A → Bool) → DecodesPrefixes fault left read → DecodesPrefixes fault left (λ room bytes. read room bytes >>= λ n. cond (rule n.0) (Ok n) (refused f room bytes))
kept {read = read} f other rule first = here (λ place room bytes. read room bytes >>= λ n. cond (rule n.0) (Ok n) (stop_at f place)) (λ place. bind _ first (λ a. choose (rule a) _ _ done (fails other)))

-- a value that breaks no rule
unless : {A : Type 0} {read : ℕ → List ℕ → Result (A × List ℕ) Stop} (f : FaultKind) → f ≢ Truncated → (rule : A → Bool) → DecodesPrefixes fault left read → DecodesPrefixes fault left (λ room bytes. read room bytes >>= λ n. cond (rule n.0) (refused f room bytes) (Ok n))
unless {read = read} f other rule first = here (λ place room bytes. read room bytes >>= λ n. cond (rule n.0) (stop_at f place) (Ok n)) (λ place. bind _ first (λ a. choose (rule a) _ _ (fails other) done))

-- by a value, from its beginning on
over : {A Z E : Type 0} {fe : E → FaultKind} {gz : Z → List ℕ → Z} {read : ℕ → List ℕ → Result (A × List ℕ) E} (f : A → ℕ → List ℕ → Result Z E) → DecodesPrefixes fe left read → ((a : A) → DecodesPrefixes fe gz (f a)) → DecodesPrefixes fe gz (λ room bytes. read room bytes >>= λ y. f y.0 room bytes)
over f first then = chain left (λ room y bytes. f y.0 room bytes) first (λ y room bytes more. (then y.0).stays room bytes more) (λ y bytes. (then y.0).ends bytes)

-- by a test of a value: from its beginning on, or after it
fork : {A Z E : Type 0} {fe : E → FaultKind} {gz : Z → List ℕ → Z} {read : ℕ → List ℕ → Result (A × List ℕ) E} (c : A → Bool) (f g : A → ℕ → List ℕ → Result Z E) → DecodesPrefixes fe left read → ((a : A) → DecodesPrefixes fe gz (f a)) → ((a : A) → DecodesPrefixes fe gz (g a)) → DecodesPrefixes fe gz (λ room bytes. read room bytes >>= λ y. cond (c y.0) (f y.0 room bytes) (g y.0 room y.1))
fork {fe = fe} {gz = gz} c f g first there after =
    chain left (λ room y bytes. cond (c y.0) (f y.0 room bytes) (g y.0 room y.1)) first
    (λ y room bytes more. elim (c y.0) as (λ b. StaysDecoded fe gz more (cond b (f y.0 (length more + room) bytes) (g y.0 (length more + room) y.1)) (cond b (f y.0 room (bytes ++ more)) (g y.0 room (y.1 ++ more)))) [
      | true ↦ (there y.0).stays room bytes more
      | false ↦ (after y.0).stays room y.1 more
    ])
    (λ y bytes. elim (c y.0) as (λ b. Decides fe (cond b (f y.0 0 bytes) (g y.0 0 y.1))) [
      | true ↦ (there y.0).ends bytes
      | false ↦ (after y.0).ends y.1
    ])

-- ---- colours

which_reads : (limit : ℕ) → DecodesPrefixes fault left (λ room bytes. which_at room limit bytes)
unfolding which_at
which_reads limit = kept faults.Type (λ is. cc) (λ n. ltb n limit) unsigned_reads

palette_reads : DecodesPrefixes fault left palette_at
unfolding palette_at
palette_reads = bind _ (below_reads 256) (λ index. done)

rgb_reads : DecodesPrefixes fault left rgb_item_at
unfolding rgb_item_at
rgb_reads = bind _ (below_reads 256) (λ r. bind _ (below_reads 256) (λ g. bind _ (below_reads 256) (λ b. done)))

rgb_palette_reads : DecodesPrefixes fault left rgb_palette_at
unfolding rgb_palette_at
rgb_palette_reads = bind _ (below_reads 256) (λ r. bind _ (below_reads 256) (λ g. bind _ (below_reads 256) (λ b. bind _ (below_reads 256) (λ index. done))))

color_array_reads : DecodesPrefixes fault left (λ room bytes. color_by room kinds.Array bytes)
color_array_reads = here (λ place room bytes. array_at room bytes >>= λ n. cond (eqb n.0 3) (rgb_item_at room n.1) (cond (eqb n.0 4) (rgb_palette_at room n.1) (stop_at faults.Type place))) (λ place. bind _ array_reads (λ n. choose (eqb n 3) _ _ rgb_reads (choose (eqb n 4) _ _ rgb_palette_reads (fails (λ is. cc)))))

color_by_reads : (kind : Kind) → DecodesPrefixes fault left (λ room bytes. color_by room kind bytes)
color_by_reads kinds.Null = bind_rest _ null_reads done
color_by_reads kinds.Unsigned = palette_reads
color_by_reads kinds.Array = color_array_reads
color_by_reads _ = refused_reads faults.Type (λ is. cc)

color_reads : DecodesPrefixes fault left color_item_at
unfolding color_item_at
color_reads = look _ kind_reads color_by_reads

-- ---- attributes and links

style_reads : DecodesPrefixes fault left style_item_at
unfolding style_item_at
style_reads = kept faults.Range (λ is. cc) (λ n. are_small (split fields n)) (below_reads style_limit)

key_reads : (made : List (List ℕ × List ℕ)) → DecodesPrefixes fault left (λ room bytes. key_at room made bytes)
unfolding key_at
key_reads made = kept faults.Range (λ is. cc) (λ key. ascends made key) text_reads

param_reads : (made : List (List ℕ × List ℕ)) → DecodesPrefixes fault left (λ room bytes. param_item_at room made bytes)
unfolding param_item_at
param_reads made = bind_rest _ (array_of_reads 2) (bind _ (key_reads made) (λ key. bind _ text_reads (λ value. done)))

params_reads : (made : List (List ℕ × List ℕ)) (n : ℕ) → DecodesPrefixes fault left (λ room bytes. params_at room made n bytes)
unfolding params_at
params_reads made zero = done
params_reads made (suc n) = bind _ (param_reads made) (λ first. params_reads (made ++ first ∷ []) n)

link_reads : DecodesPrefixes fault left link_at
unfolding link_at
link_reads = bind_rest _ (array_of_reads 3) (bind _ text_reads (λ uri. bind _ boolean_reads (λ implicit. bind _ list_reads (λ count. bind _ (params_reads [] count) (λ params. done)))))

optional_link_by_reads : (kind : Kind) → DecodesPrefixes fault left (λ room bytes. optional_link_by room kind bytes)
optional_link_by_reads kinds.Null = bind_rest _ null_reads done
optional_link_by_reads kinds.Array = bind _ link_reads (λ l. done)
optional_link_by_reads _ = refused_reads faults.Type (λ is. cc)

optional_link_reads : DecodesPrefixes fault left optional_link_at
unfolding optional_link_at
optional_link_reads = look _ kind_reads optional_link_by_reads

attributes_reads : DecodesPrefixes fault left attributes_at
unfolding attributes_at
attributes_reads = bind_rest _ (array_of_reads 5) (bind _ style_reads (λ n. bind _ color_reads (λ f. bind _ color_reads (λ b. bind _ color_reads (λ u. bind _ optional_link_reads (λ l. done))))))

attribute_change_by_reads : (kind : ℕ) → DecodesPrefixes fault left (λ room rest. attribute_change_by room kind rest)
attribute_change_by_reads kind =
    choose (eqb kind 0) _ _ (bind _ (below_reads 3) (λ v. done))
    (choose (eqb kind 1) _ _ (bind _ (below_reads 6) (λ v. done))
    (choose (eqb kind 2) _ _ (bind _ boolean_reads (λ v. done))
    (choose (eqb kind 3) _ _ (bind _ (below_reads 3) (λ v. done))
    (choose (eqb kind 4) _ _ (bind _ boolean_reads (λ v. done))
    (choose (eqb kind 5) _ _ (bind _ boolean_reads (λ v. done))
    (choose (eqb kind 6) _ _ (bind _ boolean_reads (λ v. done))
    (choose (eqb kind 7) _ _ (bind _ color_reads (λ v. done))
    (choose (eqb kind 8) _ _ (bind _ color_reads (λ v. done))
    (choose (eqb kind 9) _ _ (bind _ optional_link_reads (λ v. done)) (refused_reads faults.Type (λ is. cc)))))))))))

attribute_change_reads : DecodesPrefixes fault left attribute_change_at
unfolding attribute_change_at
attribute_change_reads = bind_rest _ (array_of_reads 2) (bind _ (which_reads 10) attribute_change_by_reads)

-- ---- pieces

is_rest_reads : (r : Run) → DecodesPrefixes fault left (λ room bytes. is_rest_at room r bytes)
unfolding is_rest_at
is_rest_reads r = bind _ unsigned_reads (λ size. choose (eqb size r.characters) _ _ (bind _ unsigned_reads (λ columns. done)) done)

pub is_run_reads : (r : Run) → DecodesPrefixes fault left (λ room bytes. is_run_at room r bytes)
unfolding is_run_at
is_run_reads r = bind _ unsigned_reads (λ count. choose (eqb count r.count) _ _ (is_rest_reads r) done)

pub are_reads : (rs : List Run) → DecodesPrefixes fault left (λ room bytes. are_at room rs bytes)
unfolding are_at
are_reads [] = done
are_reads (r ∷ rs) = bind _ (is_run_reads r) (λ is. choose is _ _ (are_reads rs) done)

same_reads : (rs : List Run) → DecodesPrefixes fault left (λ room bytes. same_at room rs bytes)
unfolding same_at
same_reads rs = fork (λ n. eqb n (3 * length rs)) (λ n room bytes. list_at room bytes >>= λ m. are_at room rs m.1) (λ n room rest. ok false rest) array_reads (λ n. bind _ list_reads (λ m. are_reads rs)) (λ n. done)

kept_reads : (rule : ℕ → Bool) → DecodesPrefixes fault left (λ room bytes. kept_at room rule bytes)
kept_reads rule = kept faults.Range (λ is. cc) rule unsigned_reads

pub run_reads : (last : Run) (cs : List ℕ) → DecodesPrefixes fault left (λ room bytes. run_at room last cs bytes)
unfolding run_at
run_reads last cs = bind _ (kept_reads (is_count cs)) (λ count. bind _ (kept_reads (are_characters cs count)) (λ size. bind _ (kept_reads (are_columns last cs count size)) (λ columns. done)))

pub runs_reads : (last : Run) (needed : Bool) (cs : List ℕ) (n : ℕ) → DecodesPrefixes fault left (λ room bytes. runs_at room last needed cs n bytes)
unfolding runs_at
runs_reads last needed cs zero = done
runs_reads last needed cs (suc n) = bind _ (run_reads last cs) (λ r. runs_reads r (needed || stands_out r) (drop (r.count * r.characters) cs) n)

pub threes_reads : DecodesPrefixes fault left threes_at
unfolding threes_at
threes_reads = over (λ n room bytes. cond (eqb (n % 3) 0) (list_at room bytes) (refused faults.Type room bytes)) array_reads (λ n. choose (eqb (n % 3) 0) _ _ list_reads (refused_reads faults.Type (λ is. cc)))

cut_reads : (text : List ℕ) → DecodesPrefixes fault rest_with (λ room bytes. cut_at room text bytes)
unfolding cut_at
cut_reads text = here (λ place room bytes. threes_at room bytes >>= λ n. runs_at room no_run false (chars text) (n.0 / 3) n.1 >>= λ all. cond all.0 (Ok all.1) (stop_at faults.Range place)) (λ place. bind _ threes_reads (λ n. bind _ (runs_reads no_run false (chars text) (n / 3)) (λ all. choose all _ _ done_rest (fails (λ is. cc)))))

others_reads : (place : ℕ) (text : List ℕ) → DecodesPrefixes fault rest_with (λ room bytes. others_at room place text bytes)
unfolding others_at
others_reads place text = bind_rest _ (cut_reads text) (fails (λ is. cc))

same_or_others : (place : ℕ) (text : List ℕ) (rs : List Run) → DecodesPrefixes fault rest_with (λ room bytes. same_at room rs bytes >>= λ same. cond same.0 (Ok same.1) (others_at room place text bytes))
same_or_others place text rs =
    chain left (λ room same bytes. cond same.0 (Ok same.1) (others_at room place text bytes)) (same_reads rs)
    (λ y room bytes more. elim y.0 as (λ b. StaysDecoded fault rest_with more (cond b (Ok y.1) (others_at (length more + room) place text bytes)) (cond b (Ok (y.1 ++ more)) (others_at room place text (bytes ++ more)))) [
      | true ↦ refl
      | false ↦ (others_reads place text).stays room bytes more
    ])
    (λ y bytes. elim y.0 as (λ b. Decides fault (cond b (Ok y.1) (others_at 0 place text bytes))) [
      | true ↦ tt
      | false ↦ (others_reads place text).ends bytes
    ])

pieces_reads : (place : ℕ) (text : List ℕ) (rs : List Run) → DecodesPrefixes fault rest_with (λ room bytes. pieces_at room place text rs bytes)
unfolding pieces_at
pieces_reads place text rs = choose (needs_pieces rs) _ _ (same_or_others place text rs) (others_reads place text)

pieces_by_reads : (place count : ℕ) (text : List ℕ) (rs : List Run) → DecodesPrefixes fault rest_with (λ room bytes. pieces_by room place count text rs bytes)
unfolding pieces_by
pieces_by_reads place count text rs = choose (eqb count 3) _ _ (pieces_reads place text rs) (choose (needs_pieces rs) _ _ (fails (λ is. cc)) done_rest)

-- ---- changes

position_by_reads : (kind : ℕ) → DecodesPrefixes fault left (λ room rest. position_by room kind rest)
position_by_reads kind =
    choose (eqb kind 0) _ _ (bind _ signed_reads (λ n. done))
    (choose (eqb kind 1) _ _ (bind _ unsigned_reads (λ n. done))
    (choose (eqb kind 2) _ _ (bind _ unsigned_reads (λ n. done)) (refused_reads faults.Type (λ is. cc))))

position_reads : DecodesPrefixes fault left position_at
unfolding position_at
position_reads = bind_rest _ (array_of_reads 2) (bind _ (which_reads 3) position_by_reads)

place_reads : DecodesPrefixes fault left place_at
unfolding place_at
place_reads = bind _ position_reads (λ x. bind _ position_reads (λ y. done))

region_size_reads : (rows : Option ℕ) (first : ℕ) → DecodesPrefixes fault left (λ room bytes. region_size_at room rows first bytes)
unfolding region_size_at
region_size_reads rows first = kept faults.Region (λ is. cc) (λ n. is_on rows first n) unsigned_reads

scroll_reads : (rows : Option ℕ) (scroll : ℕ → ℕ → ℕ → ChangeValue) → DecodesPrefixes fault left (λ room bytes. scroll_at room rows scroll bytes)
unfolding scroll_at
scroll_reads rows scroll = bind _ unsigned_reads (λ first. bind _ (region_size_reads rows first) (λ size. bind _ unsigned_reads (λ count. done)))

printed_reads : (measure : List ℕ → ℕ) (count : ℕ) → DecodesPrefixes fault left (λ room bytes. printed_at measure room count bytes)
unfolding printed_at
printed_reads measure count = here (λ place room bytes. text_at room bytes >>= λ t. pieces_by room place count t.0 (runs measure t.0) t.1 >>= λ rest. ok (changed.Text t.0) rest) (λ place. bind _ text_reads (λ t. bind_rest _ (pieces_by_reads place count t (runs measure t)) done))

change_by_reads : (measure : List ℕ → ℕ) (rows : Option ℕ) (count kind : ℕ) → DecodesPrefixes fault left (λ room rest. change_by measure room rows count kind rest)
change_by_reads measure rows count kind =
    choose (eqb kind 0) _ _ (bind _ attribute_change_reads (λ v. done))
    (choose (eqb kind 1) _ _ (bind _ attributes_reads (λ v. done))
    (choose (eqb kind 2) _ _ (printed_reads measure count)
    (choose (eqb kind 3) _ _ (bind _ color_reads (λ v. done))
    (choose (eqb kind 4) _ _ (bind _ color_reads (λ v. done))
    (choose (eqb kind 5) _ _ (bind _ color_reads (λ v. done))
    (choose (eqb kind 6) _ _ place_reads
    (choose (eqb kind 7) _ _ (bind _ color_reads (λ v. done))
    (choose (eqb kind 8) _ _ (bind _ (below_reads 7) (λ v. done))
    (choose (eqb kind 9) _ _ (bind _ boolean_reads (λ v. done))
    (choose (eqb kind 10) _ _ (scroll_reads rows _)
    (choose (eqb kind 11) _ _ (scroll_reads rows _)
    (choose (eqb kind 12) _ _ (bind _ text_reads (λ v. done))
    (choose (eqb kind 13) _ _ (bind _ (below_reads 4) (λ v. done)) (refused_reads faults.Type (λ is. cc)))))))))))))))

count_reads : DecodesPrefixes fault left count_at
unfolding count_at
count_reads = kept faults.Type (λ is. cc) (λ n. ltb 1 n && ltb n 5) array_reads

change_kind_reads : (count : ℕ) → DecodesPrefixes fault left (λ room bytes. change_kind_at room count bytes)
unfolding change_kind_at
change_kind_reads count = kept faults.Type (λ is. cc) (λ kind. has_count kind count) unsigned_reads

pub change_reads : (measure : List ℕ → ℕ) (rows : Option ℕ) → DecodesPrefixes fault left (λ room bytes. change_at measure room rows bytes)
unfolding change_at
change_reads measure rows = bind _ count_reads (λ count. bind _ (change_kind_reads count) (λ kind. change_by_reads measure rows count kind))

-- ---- links that are cut

link_alone_reads : DecodesPrefixes fault left link_alone_at
unfolding link_alone_at
link_alone_reads = bind_rest _ (array_of_reads 2) (bind _ (which_reads 10) (λ kind. choose (eqb kind 9) _ _ done (refused_reads faults.Type (λ is. cc))))

before_link_reads : DecodesPrefixes fault left before_link_at
unfolding before_link_at
before_link_reads = bind_rest _ (array_of_reads 5) (bind _ style_reads (λ n. bind _ color_reads (λ f. bind _ color_reads (λ b. bind _ color_reads (λ u. done)))))

before_link_by_reads : (kind : ℕ) → DecodesPrefixes fault left (λ room rest. before_link_by room kind rest)
before_link_by_reads kind = choose (eqb kind 0) _ _ link_alone_reads (choose (eqb kind 1) _ _ before_link_reads (refused_reads faults.Type (λ is. cc)))

link_part_reads : (attributes : Option Attributes) → DecodesPrefixes fault left (λ room bytes. link_part_at room attributes bytes)
unfolding link_part_at
link_part_reads attributes = bind_rest _ (array_of_reads 3) (bind _ text_reads (λ uri. bind _ boolean_reads (λ implicit. bind _ list_reads (λ count. done))))

pub link_begun_reads : DecodesPrefixes fault left link_begun_at
unfolding link_begun_at
link_begun_reads = bind _ count_reads (λ count. bind _ (change_kind_reads count) (λ kind. bind _ (before_link_by_reads kind) link_part_reads))

param_key_reads : (made : List (List ℕ × List ℕ)) → DecodesPrefixes fault left (λ room bytes. param_key_at room made bytes)
unfolding param_key_at
param_key_reads made = bind_rest _ (array_of_reads 2) (key_reads made)

link_item_by_reads : (part : LinkPart) (key : Option (List ℕ)) → DecodesPrefixes fault left (λ room bytes. link_item_by room part key bytes)
link_item_by_reads part None = bind _ (param_key_reads part.params) (λ key. done)
link_item_by_reads part (Some key) = bind _ text_reads (λ value. done)

pub link_item_reads : (part : LinkPart) → DecodesPrefixes fault left (λ room bytes. link_item_at room part bytes)
link_item_reads part = link_item_by_reads part part.key

-- ---- texts that are cut

pub with_pieces_reads : DecodesPrefixes fault rest_with with_pieces_at
unfolding with_pieces_at
with_pieces_reads = bind _ count_reads (λ count. bind _ (change_kind_reads count) (λ kind. choose (eqb kind 2 && eqb count 3) _ _ done_rest (refused_reads faults.Type (λ is. cc))))

-- ---- the heads of answers

version_reads : DecodesPrefixes fault rest_with version_at
unfolding version_at
version_reads = here (λ place room bytes. unsigned_at room bytes >>= λ version. cond (eqb version.0 2) (Ok version.1) (stop_at faults.Version place)) (λ place. bind _ unsigned_reads (λ version. choose (eqb version 2) _ _ done_rest (fails (λ is. cc))))

opened_reads : (items : ℕ) → DecodesPrefixes fault rest_with (λ room bytes. opened_at room items bytes)
unfolding opened_at body_at
opened_reads items = here (λ place room bytes. array_at room bytes >>= λ count. cond (eqb count.0 0) (stop_at faults.Type place) (version_at room count.1) >>= λ body. cond (eqb count.0 items) (Ok body) (stop_at faults.Type place)) (λ place. bind _ array_reads (λ count. bind_rest _ (choose (eqb count 0) _ _ (fails (λ is. cc)) version_reads) (choose (eqb count items) _ _ done_rest (fails (λ is. cc)))))

source_reads : DecodesPrefixes fault left source_at
unfolding source_at
source_reads = unless faults.Range (λ is. cc) (λ n. eqb n 0) unsigned_reads

size_reads : DecodesPrefixes fault left size_at
unfolding size_at
size_reads = unless faults.Range (λ is. cc) (λ n. eqb n 0) (below_reads (2 ^ 32))

height_reads : (limits : Limits) (width : ℕ) → DecodesPrefixes fault left (λ room bytes. height_at room limits width bytes)
unfolding height_at
height_reads limits width = unless faults.Limit (λ is. cc) (λ n. is_past limits width n) size_reads

number_reads : (base : ℕ) → DecodesPrefixes fault left (λ room bytes. based_number_at room base bytes)
unfolding based_number_at
number_reads base = unless faults.Range (λ is. cc) (λ n. ltb n base) unsigned_reads

asked_reads : (source : ℕ) → DecodesPrefixes fault left (λ room bytes. asked_at room source bytes)
unfolding asked_at
asked_reads source = unless faults.Range (λ is. cc) (λ n. eqb source 0 && not (eqb n 0)) unsigned_reads

pub ask_reads : DecodesPrefixes fault left ask_in
unfolding ask_in
ask_reads = bind_rest _ (opened_reads 3) (bind _ unsigned_reads (λ source. bind _ (asked_reads source) (λ number. done)))

pub head_reads : (limits : Limits) → DecodesPrefixes fault left (λ room bytes. head_at room limits bytes)
unfolding head_at
head_reads limits = bind_rest _ (opened_reads 7) (bind _ source_reads (λ s. bind _ size_reads (λ w. bind _ (height_reads limits w) (λ h. bind _ unsigned_reads (λ b. bind _ (number_reads b) (λ n. bind _ list_reads (λ c. done)))))))

-- ---- answers

halted_stays : {Y : Type 0} (gy : Y → List ℕ → Y) (change : Option ℕ) (more : List ℕ) (r later : Result Y Stop) → StaysDecoded fault gy more r later → StaysDecoded halt gy more (halted change r) (halted change later)
halted_stays gy change more (Ok y) later stay = ap (halted change) stay
halted_stays gy change more (Err e) later (inl want) = inl want
halted_stays gy change more (Err e) later (inr same) = inr (ap (halted change) same)

halted_ends : {Y : Type 0} (change : Option ℕ) (r : Result Y Stop) → Decides fault r → Decides halt (halted change r)
halted_ends change (Ok y) is = tt
halted_ends change (Err e) is = is

pub halted_reads : {Y : Type 0} {gy : Y → List ℕ → Y} {read : ℕ → List ℕ → Result Y Stop} (change : Option ℕ) → DecodesPrefixes fault gy read → DecodesPrefixes halt gy (λ room bytes. halted change (read room bytes))
halted_reads {gy = gy} {read = read} change reads = record {
  stays = λ room bytes more. halted_stays gy change more (read (length more + room) bytes) (read room (bytes ++ more)) (reads.stays room bytes more);
  ends = λ bytes. halted_ends change (read 0 bytes) (reads.ends bytes);
}

pub next_reads : (measure : List ℕ → ℕ) (head : Option Head) (spent : ℕ) → DecodesPrefixes fault left (λ room bytes. next_at measure room head spent bytes)
unfolding next_at
next_reads measure head spent = kept faults.Limit (λ is. cc) (λ c. bears head spent c) (change_reads measure (head_rows head))

each_reads : (measure : List ℕ → ℕ) (head : Option Head) (made : List ChangeValue) (n : ℕ) → DecodesPrefixes halt left (λ room bytes. each_at measure room head made n bytes)
unfolding each_at
each_reads measure head made zero = done
each_reads measure head made (suc n) = bind _ (halted_reads (Some (length made)) (next_reads measure head (spent_on head made))) (λ first. each_reads measure head (made ++ first ∷ []) n)

pub changes_reads : (measure : List ℕ → ℕ) (head : Option Head) → DecodesPrefixes halt left (λ room bytes. changes_in measure room head bytes)
unfolding changes_in
changes_reads measure head = bind _ (halted_reads None list_reads) (λ n. each_reads measure head [] n)

pub answer_reads : (measure : List ℕ → ℕ) (limits : Limits) → DecodesPrefixes halt left (λ room bytes. answer_in measure room limits bytes)
unfolding answer_in
answer_reads measure limits = bind _ (halted_reads None (head_reads limits)) (λ head. bind _ (each_reads measure (Some head) [] head.count) (λ changes. done))

-- ---- what was decoded

stays_ok : {Y E : Type 0} (fe : E → FaultKind) (grow : Y → List ℕ → Y) (more : List ℕ) (r later : Result Y E) (y : Y) → r ≡ Ok y → StaysDecoded fe grow more r later → later ≡ Ok (grow y more)
stays_ok fe grow more r later y is stays = subst (λ (s : Result _ _). StaysDecoded fe grow more s later) is stays

-- a value that was decoded is there still, with the bytes that follow
pub still : {A : Type 0} {read : ℕ → List ℕ → Result (A × List ℕ) Stop} → DecodesPrefixes fault left read → (room later : ℕ) (bytes near : List ℕ) (x : A × List ℕ) → length near + later ≡ room → read room bytes ≡ Ok x → read later (bytes ++ near) ≡ Ok (x.0, x.1 ++ near)
still {read = read} reads room later bytes near x all is =
    stays_ok fault left near (read (length near + later) bytes) (read later (bytes ++ near)) x (ap (λ (n : ℕ). read n bytes) all ∙ is) (reads.stays later bytes near)

-- the bytes after what has no value are there still
pub still_behind : {read : ℕ → List ℕ → Result (List ℕ) Stop} → DecodesPrefixes fault rest_with read → (room later : ℕ) (bytes near rest : List ℕ) → length near + later ≡ room → read room bytes ≡ Ok rest → read later (bytes ++ near) ≡ Ok (rest ++ near)
still_behind {read = read} reads room later bytes near rest all is =
    stays_ok fault rest_with near (read (length near + later) bytes) (read later (bytes ++ near)) rest (ap (λ (n : ℕ). read n bytes) all ∙ is) (reads.stays later bytes near)
