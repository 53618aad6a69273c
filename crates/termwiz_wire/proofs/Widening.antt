-- A decoding of changes and answers gives the same with more room, but for the fault of what is past the limit.
use Rattle.std.proofs.Common.{ℕ, zero, suc, ◌*◌, ◌/◌, ◌%◌, ◌^◌, Bool, false, ◌&&◌, ◌||◌, ltb, eqb, List, [], ◌∷◌, ◌++◌, length, drop, Option, Some, None, Result, Ok, Err, refl, ap, inl, inr}
use Rattle.std.specs.Str.{chars}
use Rattle.cbor.specs.declared.error.FaultKind.{FaultKind}
use Rattle.cbor.specs.declared.error.FaultKind.TheVariants as faults
use Rattle.cbor.specs.declared.kind.Kind.{Kind}
use Rattle.cbor.specs.declared.kind.Kind.TheVariants as kinds
use Rattle.cbor.specs.Decoding.{Stop, allowed}
use Rattle.cbor.specs.Prefixes.{fault, FailsBy}
use Rattle.cbor.proofs.Widening.{Wider, Widens, steps, either, gives, stops, unsigned_widens, array_widens, list_widens, below_widens, signed_widens, boolean_widens, null_widens, text_widens, array_of_widens, kind_widens}
use Rattle.termwiz_cell.specs.ChangeValue.{ChangeValue}
use Rattle.termwiz_wire.specs.Encoding.{fields}
use Rattle.termwiz_wire.specs.Pieces.{runs, stands_out, needs_pieces}
use Rattle.termwiz_wire.specs.Cuts.{is_rest_at, is_run_at, are_at, same_at, is_count, are_characters, are_columns, kept_at, run_at, no_run, runs_at, threes_at, cut_at, others_at, pieces_at, pieces_by}
use Rattle.termwiz_wire.specs.Decoding.{which_at, palette_at, rgb_item_at, rgb_palette_at, color_by, color_item_at, split, are_small, style_limit, style_item_at, ascends, key_at, param_item_at, params_at, link_at, optional_link_by, optional_link_at, attributes_at, attribute_change_by, attribute_change_at, position_by, position_at, place_at, is_on, region_size_at, scroll_at, printed_at, change_by, count_at, has_count, change_kind_at, change_at}
use Rattle.termwiz_wire.specs.Answers.{version_at, body_at, opened_at, source_at, size_at, height_at, based_number_at, head_at, halted, next_at, each_at, answer_in}
use Rattle.termwiz_wire.specs.MoreBytes.{halt}
use Rattle.termwiz_wire.specs.Screens.{is_past}
use Rattle.termwiz_wire.specs.Work.{bears, head_rows, spent_on}
use Rattle.termwiz_wire.specs.declared.decode.heads.Head.{Head}
use Rattle.termwiz_wire.specs.declared.fault.Limits.{Limits}
use Rattle.termwiz_wire.specs.declared.pieces.Run.{Run}

bad_at : {Z : Type 0} (f : FaultKind) (place : ℕ → ℕ) → Widens {Y = Z} fault (λ room. Err (record { fault = f; left = place room }))
bad_at f place = stops (λ room. record { fault = f; left = place room }) (λ a b. refl)

-- ---- colours

which_widens : (limit : ℕ) (bytes : List ℕ) → Widens fault (λ room. which_at room limit bytes)
unfolding which_at
which_widens limit bytes = steps _ (unsigned_widens bytes) (λ n. either (ltb n.0 limit) _ _ gives (stops _ (λ a b. refl)))

palette_widens : (bytes : List ℕ) → Widens fault (λ room. palette_at room bytes)
unfolding palette_at
palette_widens bytes = steps _ (below_widens 256 bytes) (λ index. gives)

rgb_widens : (bytes : List ℕ) → Widens fault (λ room. rgb_item_at room bytes)
unfolding rgb_item_at
rgb_widens bytes = steps _ (below_widens 256 bytes) (λ r. steps _ (below_widens 256 r.1) (λ g. steps _ (below_widens 256 g.1) (λ b. gives)))

rgb_palette_widens : (bytes : List ℕ) → Widens fault (λ room. rgb_palette_at room bytes)
unfolding rgb_palette_at
rgb_palette_widens bytes = steps _ (below_widens 256 bytes) (λ r. steps _ (below_widens 256 r.1) (λ g. steps _ (below_widens 256 g.1) (λ b. steps _ (below_widens 256 b.1) (λ index. gives))))

color_by_widens : (kind : Kind) (bytes : List ℕ) → Widens fault (λ room. color_by room kind bytes)
color_by_widens kinds.Null bytes = steps _ (null_widens bytes) (λ rest. gives)
color_by_widens kinds.Unsigned bytes = palette_widens bytes
color_by_widens kinds.Array bytes = steps _ (array_widens bytes) (λ n. either (eqb n.0 3) _ _ (rgb_widens n.1) (either (eqb n.0 4) _ _ (rgb_palette_widens n.1) (stops _ (λ a b. refl))))
color_by_widens _ bytes = (stops _ (λ a b. refl))

color_widens : (bytes : List ℕ) → Widens fault (λ room. color_item_at room bytes)
unfolding color_item_at
color_widens bytes = steps _ (kind_widens bytes) (λ kind. color_by_widens kind bytes)

-- ---- attributes and links

style_widens : (bytes : List ℕ) → Widens fault (λ room. style_item_at room bytes)
unfolding style_item_at
style_widens bytes = steps _ (below_widens style_limit bytes) (λ n. either (are_small (split fields n.0)) _ _ gives (stops _ (λ a b. refl)))

key_widens : (made : List (List ℕ × List ℕ)) (bytes : List ℕ) → Widens fault (λ room. key_at room made bytes)
unfolding key_at
key_widens made bytes = steps _ (text_widens bytes) (λ key. either (ascends made key.0) _ _ gives (stops _ (λ a b. refl)))

param_widens : (made : List (List ℕ × List ℕ)) (bytes : List ℕ) → Widens fault (λ room. param_item_at room made bytes)
unfolding param_item_at
param_widens made bytes = steps _ (array_of_widens 2 bytes) (λ start. steps _ (key_widens made start) (λ key. steps _ (text_widens key.1) (λ value. gives)))

params_widens : (made : List (List ℕ × List ℕ)) (n : ℕ) (bytes : List ℕ) → Widens fault (λ room. params_at room made n bytes)
unfolding params_at
params_widens made zero bytes = gives
params_widens made (suc n) bytes = steps _ (param_widens made bytes) (λ first. params_widens (made ++ first.0 ∷ []) n first.1)

link_widens : (bytes : List ℕ) → Widens fault (λ room. link_at room bytes)
unfolding link_at
link_widens bytes = steps _ (array_of_widens 3 bytes) (λ start. steps _ (text_widens start) (λ uri. steps _ (boolean_widens uri.1) (λ implicit. steps _ (list_widens implicit.1) (λ count. steps _ (params_widens [] count.0 count.1) (λ params. gives)))))

optional_link_by_widens : (kind : Kind) (bytes : List ℕ) → Widens fault (λ room. optional_link_by room kind bytes)
optional_link_by_widens kinds.Null bytes = steps _ (null_widens bytes) (λ rest. gives)
optional_link_by_widens kinds.Array bytes = steps _ (link_widens bytes) (λ l. gives)
optional_link_by_widens _ bytes = (stops _ (λ a b. refl))

optional_link_widens : (bytes : List ℕ) → Widens fault (λ room. optional_link_at room bytes)
unfolding optional_link_at
optional_link_widens bytes = steps _ (kind_widens bytes) (λ kind. optional_link_by_widens kind bytes)

attributes_widens : (bytes : List ℕ) → Widens fault (λ room. attributes_at room bytes)
unfolding attributes_at
attributes_widens bytes = steps _ (array_of_widens 5 bytes) (λ start. steps _ (style_widens start) (λ n. steps _ (color_widens n.1) (λ f. steps _ (color_widens f.1) (λ b. steps _ (color_widens b.1) (λ u. steps _ (optional_link_widens u.1) (λ l. gives))))))

attribute_change_by_widens : (kind : ℕ) (rest : List ℕ) → Widens fault (λ room. attribute_change_by room kind rest)
attribute_change_by_widens kind rest =
    either (eqb kind 0) _ _ (steps _ (below_widens 3 rest) (λ v. gives))
    (either (eqb kind 1) _ _ (steps _ (below_widens 6 rest) (λ v. gives))
    (either (eqb kind 2) _ _ (steps _ (boolean_widens rest) (λ v. gives))
    (either (eqb kind 3) _ _ (steps _ (below_widens 3 rest) (λ v. gives))
    (either (eqb kind 4) _ _ (steps _ (boolean_widens rest) (λ v. gives))
    (either (eqb kind 5) _ _ (steps _ (boolean_widens rest) (λ v. gives))
    (either (eqb kind 6) _ _ (steps _ (boolean_widens rest) (λ v. gives))
    (either (eqb kind 7) _ _ (steps _ (color_widens rest) (λ v. gives))
    (either (eqb kind 8) _ _ (steps _ (color_widens rest) (λ v. gives))
    (either (eqb kind 9) _ _ (steps _ (optional_link_widens rest) (λ v. gives)) (stops _ (λ a b. refl)))))))))))

attribute_change_widens : (bytes : List ℕ) → Widens fault (λ room. attribute_change_at room bytes)
unfolding attribute_change_at
attribute_change_widens bytes = steps _ (array_of_widens 2 bytes) (λ start. steps _ (which_widens 10 start) (λ kind. attribute_change_by_widens kind.0 kind.1))

-- ---- pieces

is_rest_widens : (r : Run) (bytes : List ℕ) → Widens fault (λ room. is_rest_at room r bytes)
unfolding is_rest_at
is_rest_widens r bytes = steps _ (unsigned_widens bytes) (λ size. either (eqb size.0 r.characters) _ _ (steps _ (unsigned_widens size.1) (λ columns. gives)) gives)

is_run_widens : (r : Run) (bytes : List ℕ) → Widens fault (λ room. is_run_at room r bytes)
unfolding is_run_at
is_run_widens r bytes = steps _ (unsigned_widens bytes) (λ count. either (eqb count.0 r.count) _ _ (is_rest_widens r count.1) gives)

are_widens : (rs : List Run) (bytes : List ℕ) → Widens fault (λ room. are_at room rs bytes)
unfolding are_at
are_widens [] bytes = gives
are_widens (r ∷ rs) bytes = steps _ (is_run_widens r bytes) (λ is. either is.0 _ _ (are_widens rs is.1) gives)

same_widens : (rs : List Run) (bytes : List ℕ) → Widens fault (λ room. same_at room rs bytes)
unfolding same_at
same_widens rs bytes = steps _ (array_widens bytes) (λ n. either (eqb n.0 (3 * length rs)) _ _ (steps _ (list_widens bytes) (λ m. are_widens rs m.1)) gives)

kept_widens : (rule : ℕ → Bool) (bytes : List ℕ) → Widens fault (λ room. kept_at room rule bytes)
kept_widens rule bytes = steps _ (unsigned_widens bytes) (λ n. either (rule n.0) _ _ gives (stops _ (λ a b. refl)))

run_widens : (last : Run) (cs bytes : List ℕ) → Widens fault (λ room. run_at room last cs bytes)
unfolding run_at
run_widens last cs bytes = steps _ (kept_widens (is_count cs) bytes) (λ count. steps _ (kept_widens (are_characters cs count.0) count.1) (λ size. steps _ (kept_widens (are_columns last cs count.0 size.0) size.1) (λ columns. gives)))

runs_widens : (last : Run) (needed : Bool) (cs : List ℕ) (n : ℕ) (bytes : List ℕ) → Widens fault (λ room. runs_at room last needed cs n bytes)
unfolding runs_at
runs_widens last needed cs zero bytes = gives
runs_widens last needed cs (suc n) bytes = steps _ (run_widens last cs bytes) (λ r. runs_widens r.0 (needed || stands_out r.0) (drop (r.0.count * r.0.characters) cs) n r.1)

threes_widens : (bytes : List ℕ) → Widens fault (λ room. threes_at room bytes)
unfolding threes_at
threes_widens bytes = steps _ (array_widens bytes) (λ n. either (eqb (n.0 % 3) 0) _ _ (list_widens bytes) (stops _ (λ a b. refl)))

cut_widens : (text bytes : List ℕ) → Widens fault (λ room. cut_at room text bytes)
unfolding cut_at
cut_widens text bytes = steps _ (threes_widens bytes) (λ n. steps _ (runs_widens no_run false (chars text) (n.0 / 3) n.1) (λ all. either all.0 _ _ gives (stops _ (λ a b. refl))))

others_widens : (place : ℕ → ℕ) (text bytes : List ℕ) → Widens fault (λ room. others_at room (place room) text bytes)
unfolding others_at
others_widens place text bytes = steps _ (cut_widens text bytes) (λ rest. bad_at faults.Measure place)

pieces_widens : (place : ℕ → ℕ) (text : List ℕ) (rs : List Run) (bytes : List ℕ) → Widens fault (λ room. pieces_at room (place room) text rs bytes)
unfolding pieces_at
pieces_widens place text rs bytes = either (needs_pieces rs) _ _ (steps _ (same_widens rs bytes) (λ same. either same.0 _ _ gives (others_widens place text bytes))) (others_widens place text bytes)

pieces_by_widens : (place : ℕ → ℕ) (count : ℕ) (text : List ℕ) (rs : List Run) (bytes : List ℕ) → Widens fault (λ room. pieces_by room (place room) count text rs bytes)
unfolding pieces_by
pieces_by_widens place count text rs bytes = either (eqb count 3) _ _ (pieces_widens place text rs bytes) (either (needs_pieces rs) _ _ (bad_at faults.Measure place) gives)

-- ---- changes

position_by_widens : (kind : ℕ) (rest : List ℕ) → Widens fault (λ room. position_by room kind rest)
position_by_widens kind rest =
    either (eqb kind 0) _ _ (steps _ (signed_widens rest) (λ n. gives))
    (either (eqb kind 1) _ _ (steps _ (unsigned_widens rest) (λ n. gives))
    (either (eqb kind 2) _ _ (steps _ (unsigned_widens rest) (λ n. gives)) (stops _ (λ a b. refl))))

position_widens : (bytes : List ℕ) → Widens fault (λ room. position_at room bytes)
unfolding position_at
position_widens bytes = steps _ (array_of_widens 2 bytes) (λ start. steps _ (which_widens 3 start) (λ kind. position_by_widens kind.0 kind.1))

place_widens : (bytes : List ℕ) → Widens fault (λ room. place_at room bytes)
unfolding place_at
place_widens bytes = steps _ (position_widens bytes) (λ x. steps _ (position_widens x.1) (λ y. gives))

region_size_widens : (rows : Option ℕ) (first : ℕ) (bytes : List ℕ) → Widens fault (λ room. region_size_at room rows first bytes)
unfolding region_size_at
region_size_widens rows first bytes = steps _ (unsigned_widens bytes) (λ n. either (is_on rows first n.0) _ _ gives (stops _ (λ a b. refl)))

scroll_widens : (rows : Option ℕ) (scroll : ℕ → ℕ → ℕ → ChangeValue) (bytes : List ℕ) → Widens fault (λ room. scroll_at room rows scroll bytes)
unfolding scroll_at
scroll_widens rows scroll bytes = steps _ (unsigned_widens bytes) (λ first. steps _ (region_size_widens rows first.0 first.1) (λ size. steps _ (unsigned_widens size.1) (λ count. gives)))

printed_widens : (measure : List ℕ → ℕ) (count : ℕ) (bytes : List ℕ) → Widens fault (λ room. printed_at measure room count bytes)
unfolding printed_at
printed_widens measure count bytes = steps _ (text_widens bytes) (λ t. steps _ (pieces_by_widens (λ room. allowed room bytes) count t.0 (runs measure t.0) t.1) (λ rest. gives))

change_by_widens : (measure : List ℕ → ℕ) (rows : Option ℕ) (count kind : ℕ) (rest : List ℕ) → Widens fault (λ room. change_by measure room rows count kind rest)
change_by_widens measure rows count kind rest =
    either (eqb kind 0) _ _ (steps _ (attribute_change_widens rest) (λ v. gives))
    (either (eqb kind 1) _ _ (steps _ (attributes_widens rest) (λ v. gives))
    (either (eqb kind 2) _ _ (printed_widens measure count rest)
    (either (eqb kind 3) _ _ (steps _ (color_widens rest) (λ v. gives))
    (either (eqb kind 4) _ _ (steps _ (color_widens rest) (λ v. gives))
    (either (eqb kind 5) _ _ (steps _ (color_widens rest) (λ v. gives))
    (either (eqb kind 6) _ _ (place_widens rest)
    (either (eqb kind 7) _ _ (steps _ (color_widens rest) (λ v. gives))
    (either (eqb kind 8) _ _ (steps _ (below_widens 7 rest) (λ v. gives))
    (either (eqb kind 9) _ _ (steps _ (boolean_widens rest) (λ v. gives))
    (either (eqb kind 10) _ _ (scroll_widens rows _ rest)
    (either (eqb kind 11) _ _ (scroll_widens rows _ rest)
    (either (eqb kind 12) _ _ (steps _ (text_widens rest) (λ v. gives))
    (either (eqb kind 13) _ _ (steps _ (below_widens 4 rest) (λ v. gives)) (stops _ (λ a b. refl)))))))))))))))

count_widens : (bytes : List ℕ) → Widens fault (λ room. count_at room bytes)
unfolding count_at
count_widens bytes = steps _ (array_widens bytes) (λ n. either (ltb 1 n.0 && ltb n.0 5) _ _ gives (stops _ (λ a b. refl)))

change_kind_widens : (count : ℕ) (bytes : List ℕ) → Widens fault (λ room. change_kind_at room count bytes)
unfolding change_kind_at
change_kind_widens count bytes = steps _ (unsigned_widens bytes) (λ kind. either (has_count kind.0 count) _ _ gives (stops _ (λ a b. refl)))

change_widens : (measure : List ℕ → ℕ) (rows : Option ℕ) (bytes : List ℕ) → Widens fault (λ room. change_at measure room rows bytes)
unfolding change_at
change_widens measure rows bytes = steps _ (count_widens bytes) (λ count. steps _ (change_kind_widens count.0 count.1) (λ kind. change_by_widens measure rows count.0 kind.0 kind.1))

-- ---- the heads of answers

version_widens : (bytes : List ℕ) → Widens fault (λ room. version_at room bytes)
unfolding version_at
version_widens bytes = steps _ (unsigned_widens bytes) (λ version. either (eqb version.0 2) _ _ gives (stops _ (λ a b. refl)))

body_widens : (count : ℕ) (start bytes : List ℕ) → Widens fault (λ room. body_at room count start bytes)
unfolding body_at
body_widens count start bytes = either (eqb count 0) _ _ (stops _ (λ a b. refl)) (version_widens bytes)

opened_widens : (items : ℕ) (bytes : List ℕ) → Widens fault (λ room. opened_at room items bytes)
unfolding opened_at
opened_widens items bytes = steps _ (array_widens bytes) (λ count. steps _ (body_widens count.0 bytes count.1) (λ body. either (eqb count.0 items) _ _ gives (stops _ (λ a b. refl))))

source_widens : (bytes : List ℕ) → Widens fault (λ room. source_at room bytes)
unfolding source_at
source_widens bytes = steps _ (unsigned_widens bytes) (λ n. either (eqb n.0 0) _ _ (stops _ (λ a b. refl)) gives)

size_widens : (bytes : List ℕ) → Widens fault (λ room. size_at room bytes)
unfolding size_at
size_widens bytes = steps _ (below_widens (2 ^ 32) bytes) (λ n. either (eqb n.0 0) _ _ (stops _ (λ a b. refl)) gives)

height_widens : (limits : Limits) (width : ℕ) (bytes : List ℕ) → Widens fault (λ room. height_at room limits width bytes)
unfolding height_at
height_widens limits width bytes = steps _ (size_widens bytes) (λ n. either (is_past limits width n.0) _ _ (stops _ (λ a b. refl)) gives)

number_widens : (base : ℕ) (bytes : List ℕ) → Widens fault (λ room. based_number_at room base bytes)
unfolding based_number_at
number_widens base bytes = steps _ (unsigned_widens bytes) (λ n. either (ltb n.0 base) _ _ (stops _ (λ a b. refl)) gives)

head_widens : (limits : Limits) (bytes : List ℕ) → Widens fault (λ room. head_at room limits bytes)
unfolding head_at
head_widens limits bytes = steps _ (opened_widens 7 bytes) (λ body. steps _ (source_widens body) (λ s. steps _ (size_widens s.1) (λ w. steps _ (height_widens limits w.0 w.1) (λ h. steps _ (unsigned_widens h.1) (λ b. steps _ (number_widens b.0 b.1) (λ n. steps _ (list_widens n.1) (λ c. gives)))))))

-- ---- answers

halted_fails : {Y : Type 0} (change : Option ℕ) (f : FaultKind) (r : Result Y Stop) → FailsBy fault f r → FailsBy halt f (halted change r)
halted_fails change f (Ok y) fails = fails
halted_fails change f (Err e) fails = fails

halted_wider : {Y : Type 0} (change : Option ℕ) (r later : Result Y Stop) → Wider fault r later → Wider halt (halted change r) (halted change later)
halted_wider change (Ok y) later wider = ap (halted change) wider
halted_wider change (Err e) later (inl limit) = inl limit
halted_wider change (Err e) later (inr fails) = inr (halted_fails change e.fault later fails)

halted_widens : {Y : Type 0} {read : ℕ → Result Y Stop} (change : Option ℕ) → Widens fault read → Widens halt (λ room. halted change (read room))
halted_widens {read = read} change widens = record {
  wider = λ small large le. halted_wider change (read small) (read large) (widens.wider small large le);
}

next_widens : (measure : List ℕ → ℕ) (head : Option Head) (spent : ℕ) (bytes : List ℕ) → Widens fault (λ room. next_at measure room head spent bytes)
unfolding next_at
next_widens measure head spent bytes = steps _ (change_widens measure (head_rows head) bytes) (λ c. either (bears head spent c.0) _ _ gives (stops _ (λ a b. refl)))

each_widens : (measure : List ℕ → ℕ) (head : Option Head) (made : List ChangeValue) (n : ℕ) (bytes : List ℕ) → Widens halt (λ room. each_at measure room head made n bytes)
unfolding each_at
each_widens measure head made zero bytes = gives
each_widens measure head made (suc n) bytes = steps _ (halted_widens (Some (length made)) (next_widens measure head (spent_on head made) bytes)) (λ first. each_widens measure head (made ++ first.0 ∷ []) n first.1)

pub answer_widens : (measure : List ℕ → ℕ) (limits : Limits) (bytes : List ℕ) → Widens halt (λ room. answer_in measure room limits bytes)
unfolding answer_in
answer_widens measure limits bytes = steps _ (halted_widens None (head_widens limits bytes)) (λ head. steps _ (each_widens measure (Some head.0) [] head.0.count head.1) (λ changes. gives))
