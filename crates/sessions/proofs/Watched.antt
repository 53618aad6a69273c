-- What is taken of a stream, and what is shown of it.
use Rattle.std.proofs.Common.{◌≡◌, ℕ, ◌+◌, ◌-◌, ◌∙◌, Bool, true, false, List, [], ◌∷◌, ◌++◌, inl, inr, length, map, drop, refl, sym, ap, subst, append-nil, append_assoc, arith}
use Rattle.std.specs.List.{All}
use Rattle.std.specs.Io.KnownBytes.{prepend_known}
use Rattle.std.specs.Prelude.{Option, None, Some, IfSome, Result, Ok, Err, if◌then◌else◌}
use Rattle.std.proofs.lemmas.Bool.{cases_Bool}
use Rattle.std.proofs.lemmas.List.{length-append, map-append}
use Rattle.std.proofs.lemmas.List.Elements.{All-nil, All-push}
use Rattle.std.proofs.Math.Seq.{drop-append_seam}
use Rattle.termwiz_cell.specs.Width.{unicode_columns}
use Rattle.termwiz_share.specs.Client.{Shown, fits, shown_after, shown_by, stale_place}
use Rattle.termwiz_share.specs.Feeding.{TakesAll}
use Rattle.termwiz_share.specs.declared.error.ClientError.{ClientError}
use Rattle.termwiz_share.specs.declared.taken.Taken.{Taken}
use Rattle.termwiz_share.specs.declared.taken.Taken.TheVariants as outcomes
use Rattle.termwiz_share.proofs.Fed.{TakesAll-push}
use Rattle.termwiz_share.proofs.Taking.{none_taken}
use Rattle.termwiz_surface.specs.Schedule.{HasUnmarkedRows}
use Rattle.termwiz_wire.specs.declared.fault.Limits.{Limits}
use Rattle.termwiz_wire.specs.declared.sent.SentAnswer.{SentAnswer}
use Rattle.sessions.specs.Frames.{first_shown}
use Rattle.sessions.specs.Taking.{TakesComing, TakesAnswer, coming, taken_as}
use Rattle.sessions.specs.Watching.{EndsAt, IsWatched, KeepsOne, KeepsOutcome, TakesUpTo, kept, shown_each, shown_one, stale_each, stale_one, viewed}
use Rattle.sessions.specs.declared.watch.runs.View.{View}
use Rattle.sessions.specs.declared.watch.runs.Watched.{Watched}
use Rattle.sessions.specs.declared.watch.stream.StreamError.{StreamError}
use Rattle.sessions.specs.declared.watch.stream.StreamError.TheVariants.{Answer, Session}
use Rattle.sessions.proofs.Coming.{Bytes, Viewer, if_known, if_some}

-- ---- lists of what is shown and of what is stale

-- the last one alone
last_alone : (xs : List Shown) (x : Shown) → drop (length (xs ++ x ∷ []) - 1) (xs ++ x ∷ []) ≡ x ∷ []
last_alone xs x =
    let at : length (xs ++ x ∷ []) - 1 ≡ length xs = omega (arith, length-append xs (x ∷ [])) in
    rw at (drop-append_seam xs (x ∷ []))

pub kept_last : (xs : List Shown) (x : Shown) → kept false (xs ++ x ∷ []) ≡ x ∷ []
kept_last xs x = last_alone xs x

pub kept_none : (each : Bool) → [] ≡ kept each []
kept_none true = refl
kept_none false = refl

-- a view more is kept
pub kept-push : (each : Bool) (old new : List View) (shown : List Shown) (x : Shown) → map viewed old ≡ kept each shown → KeepsOne each old x new → map viewed new ≡ kept each (shown ++ x ∷ [])
kept-push true old new shown x e k = ap (map viewed) k.kept ∙ map-append viewed old (k.view ∷ []) ∙ (λ i. e i ++ k.shows i ∷ [])
kept-push false old new shown x e k = ap (map viewed) k.kept ∙ (λ i. k.shows i ∷ []) ∙ sym (last_alone shown x)

abbrev pub IsUnmarked : View → Type 0
IsUnmarked view = HasUnmarkedRows view.screen.screen

pub unmarked-push : (each : Bool) (old new : List View) (x : Shown) → All IsUnmarked old → KeepsOne each old x new → All IsUnmarked new
unmarked-push true old new x all k = subst (λ (views : List View). All IsUnmarked views) (sym k.kept) (All-push IsUnmarked old k.view all k.unmarked)
unmarked-push false old new x all k = subst (λ (views : List View). All IsUnmarked views) (sym k.kept) (All-push IsUnmarked [] k.view (All-nil IsUnmarked) k.unmarked)

-- what an outcome shows, and what is stale by it
abbrev pub shown_by_one : Taken → Shown → List Shown
shown_by_one outcomes.Shown s = s ∷ []
shown_by_one (outcomes.Stale at) s = []

abbrev pub stale_by_one : Taken → ℕ → List (ℕ × ℕ)
stale_by_one outcomes.Shown n = []
stale_by_one (outcomes.Stale at) n = (n, at) ∷ []

abbrev made_by : Shown → SentAnswer → Bool → Taken
made_by s a b = if b then outcomes.Shown else outcomes.Stale (stale_place s a)

shows_one : (s u : Shown) (a : SentAnswer) (t : Taken) → t ≡ taken_as s a → u ≡ shown_after unicode_columns s a → shown_one s a ≡ shown_by_one t u
shows_one s u a t is shows = elim (cases_Bool (fits s a)) [
  | inl fit ↦ lines fit ∙ ap (λ (v : Shown). v ∷ []) (sym shows) ∙ ap (λ (x : Taken). shown_by_one x u) (sym (is ∙ ap (made_by s a) fit))
  | inr unfit ↦ lines unfit ∙ ap (λ (x : Taken). shown_by_one x u) (sym (is ∙ ap (made_by s a) unfit))
]
  where
    lines : {b : Bool} → fits s a ≡ b → shown_one s a ≡ (if b then shown_after unicode_columns s a ∷ [] else [])
    lines e = ap (λ (b : Bool). if b then shown_after unicode_columns s a ∷ [] else []) e

-- what is stale changes nothing
abbrev pub StaysBy : Taken → Shown → Shown → Type 0
StaysBy outcomes.Shown s u = Unit {0}
StaysBy (outcomes.Stale at) s u = u ≡ s

stays_one : (s u : Shown) (a : SentAnswer) (t : Taken) → t ≡ taken_as s a → u ≡ shown_after unicode_columns s a → StaysBy t s u
stays_one s u a outcomes.Shown is shows = tt
stays_one s u a (outcomes.Stale at) is shows = elim (cases_Bool (fits s a)) [
  | inl fit ↦ absurd (let bad : outcomes.Stale at ≡ outcomes.Shown = is ∙ ap (made_by s a) fit in let no_way : ⊥ = cc in no_way)
  | inr unfit ↦ shows ∙ none_taken unicode_columns s a unfit
]

stales_one : (n : ℕ) (s : Shown) (a : SentAnswer) (t : Taken) → t ≡ taken_as s a → stale_one n s a ≡ stale_by_one t n
stales_one n s a t is = elim (cases_Bool (fits s a)) [
  | inl fit ↦ places fit ∙ ap (λ (x : Taken). stale_by_one x n) (sym (is ∙ ap (made_by s a) fit))
  | inr unfit ↦ places unfit ∙ ap (λ (x : Taken). stale_by_one x n) (sym (is ∙ ap (made_by s a) unfit))
]
  where
    places : {b : Bool} → fits s a ≡ b → stale_one n s a ≡ (if b then [] else (n, stale_place s a) ∷ [])
    places e = ap (λ (b : Bool). if b then [] else (n, stale_place s a) ∷ []) e

module _ (limits : Limits) where
  shown_push : (s t : Shown) (bytes rest : Bytes) (given : List SentAnswer) (a : SentAnswer) → TakesAll unicode_columns limits s bytes given t rest → shown_each s (given ++ a ∷ []) ≡ shown_each s given ++ shown_one t a
  shown_push s t bytes rest [] a d = append-nil (shown_one s a) ∙ ap (λ (v : Shown). shown_one v a) (sym d.1)
  shown_push s t bytes rest (b ∷ more) a d =
      ap (λ (l : List Shown). shown_one s b ++ l) (shown_push (shown_after unicode_columns s b) t d.0 rest more a d.3)
      ∙ sym (append_assoc (shown_one s b) (shown_each (shown_after unicode_columns s b) more) (shown_one t a))

  stale_push : (n : ℕ) (s t : Shown) (bytes rest : Bytes) (given : List SentAnswer) (a : SentAnswer) → TakesAll unicode_columns limits s bytes given t rest → stale_each n s (given ++ a ∷ []) ≡ stale_each n s given ++ stale_one (n + length given) t a
  stale_push n s t bytes rest [] a d =
      let at : n + length {A = SentAnswer} [] ≡ n = omega arith in
      append-nil (stale_one n s a) ∙ ap (λ (v : Shown). stale_one n v a) (sym d.1) ∙ ap (λ (k : ℕ). stale_one k t a) (sym at)
  stale_push n s t bytes rest (b ∷ more) a d =
      let at : (n + 1) + length more ≡ n + length (b ∷ more) = omega arith in
      ap (λ (l : List (ℕ × ℕ)). stale_one n s b ++ l) (stale_push (n + 1) (shown_after unicode_columns s b) t d.0 rest more a d.3)
      ∙ sym (append_assoc (stale_one n s b) (stale_each (n + 1) (shown_after unicode_columns s b) more) (stale_one ((n + 1) + length more) t a))
      ∙ ap (λ (k : ℕ). (stale_one n s b ++ stale_each (n + 1) (shown_after unicode_columns s b) more) ++ stale_one k t a) at

-- ---- what is taken so far

-- of these bytes `count` answers are taken, and the others are still to come
pub record HasCome (limits : Limits) (bytes : Bytes) (count : ℕ) (now : Viewer) (later : Option Bytes) : Type 0 where
  pub given : List SentAnswer
  pub counted : count ≡ length given
  pub left : Bytes
  pub left_is : coming now later ≡ Some left
  pub takes : TakesAll unicode_columns limits first_shown bytes given (shown_by now) left

-- none is yet
abbrev pub come_first : (limits : Limits) (now : Viewer) (bytes : Bytes) → shown_by now ≡ first_shown → now.kept ≡ [] → HasCome limits bytes 0 now (Some bytes)
come_first limits now bytes shows none = record {
  given = [];
  counted = refl;
  left = bytes;
  left_is = ap (λ (k : Bytes). prepend_known k (Some bytes)) none;
  takes = (refl, shows);
}

at_some : (known : Option Bytes) (bytes : Bytes) (P : Bytes → Type 0) → known ≡ Some bytes → IfSome known P → P bytes
at_some None bytes P is p = cc
at_some (Some x) bytes P is p = let same : x ≡ bytes = cc in subst P same p

module _ (limits : Limits) (bytes : Bytes) (count : ℕ) (now new : Viewer) (later after : Option Bytes) (before : HasCome limits bytes count now later) where
  abbrev pub Takes : Result (Option Taken) StreamError → Type 0
  Takes result = IfSome (coming now later) (λ all. TakesComing limits (shown_by now) all result (shown_by new) (coming new after))

  of_left : (result : Result (Option Taken) StreamError) → Takes result → TakesComing limits (shown_by now) before.left result (shown_by new) (coming new after)
  of_left result takes = at_some (coming now later) before.left (λ all. TakesComing limits (shown_by now) all result (shown_by new) (coming new after)) before.left_is takes

  -- the next one is taken
  pub record HasNext (t : Taken) : Type 0 where
    pub come : HasCome limits bytes (count + 1) new after
    pub shown : shown_each first_shown come.given ≡ shown_each first_shown before.given ++ shown_by_one t (shown_by new)
    pub stale : stale_each 1 first_shown come.given ≡ stale_each 1 first_shown before.given ++ stale_by_one t (count + 1)
    pub stays : StaysBy t (shown_by now) (shown_by new)

  next_is : (t : Taken) (left : Bytes) → coming new after ≡ Some left → TakesAnswer limits (shown_by now) before.left t (shown_by new) left → HasNext t
  next_is t left left_is one = record {
    come = record {
      given = before.given ++ one.sent ∷ [];
      counted = omega (arith, before.counted, length-append before.given (one.sent ∷ []));
      left = left;
      left_is = left_is;
      takes = subst (λ (v : Shown). TakesAll unicode_columns limits first_shown bytes (before.given ++ one.sent ∷ []) v left) (sym one.shows)
          (TakesAll-push unicode_columns limits first_shown bytes before.given (shown_by now) before.left one.sent left before.takes one.decoded one.size);
    };
    shown = shown_push limits first_shown (shown_by now) bytes before.left before.given one.sent before.takes
        ∙ ap (λ (l : List Shown). shown_each first_shown before.given ++ l) (shows_one (shown_by now) (shown_by new) one.sent t one.outcome one.shows);
    stale =
        let at : 1 + length before.given ≡ count + 1 = omega (arith, before.counted) in
        stale_push limits 1 first_shown (shown_by now) bytes before.left before.given one.sent before.takes
        ∙ ap (λ (l : List (ℕ × ℕ)). stale_each 1 first_shown before.given ++ l) (ap (λ (k : ℕ). stale_one k (shown_by now) one.sent) at ∙ stales_one (count + 1) (shown_by now) one.sent t one.outcome);
    stays = stays_one (shown_by now) (shown_by new) one.sent t one.outcome one.shows;
  }

  pub has_next : (t : Taken) → Takes (Ok (Some t)) → HasNext t
  has_next t takes = let one = of_left (Ok (Some t)) takes in next_is t one.0 one.1 one.2

  -- none is left
  pub all_come : Takes (Ok None) → TakesUpTo limits bytes before.given None × (shown_by new ≡ shown_by now)
  all_come takes =
      let end = of_left (Ok None) takes in
      (record { last = shown_by now; rest = before.left; takes = before.takes; ends = end.0 }, end.1)

  -- the next one isn't taken
  pub fault_come : (error : ClientError) → Takes (Err (Answer error)) → TakesUpTo limits bytes before.given (Some (count + 1, error)) × (shown_by new ≡ shown_by now)
  fault_come error takes =
      let end = of_left (Err (Answer error)) takes in
      (record { last = shown_by now; rest = before.left; takes = before.takes; ends = (end.0, ap (λ (k : ℕ). k + 1) before.counted, end.1) }, end.2)

-- ---- what is kept of it

pub record IsKept (limits : Limits) (each : Bool) (bytes : Bytes) (count : ℕ) (now : Viewer) (later : Option Bytes) (views : List View) (stale : List (ℕ × ℕ)) : Type 0 where
  pub come : HasCome limits bytes count now later
  pub views_are : map viewed views ≡ kept each (shown_each first_shown come.given)
  pub unmarked : All IsUnmarked views
  pub stale_are : stale ≡ stale_each 1 first_shown come.given

pub kept_first : (limits : Limits) (each : Bool) (now : Viewer) (known : Option Bytes) (views : List View) (stale : List (ℕ × ℕ)) → shown_by now ≡ first_shown → now.kept ≡ [] → views ≡ [] → stale ≡ [] → IfSome known (λ bytes. IsKept limits each bytes 0 now known views stale)
kept_first limits each now known views stale shows none no_views no_stale = if_known known (λ bytes. IsKept limits each bytes 0 now known views stale) (λ bytes is.
    subst (λ (later : Option Bytes). IsKept limits each bytes 0 now later views stale) (sym is) (record {
      come = come_first limits now bytes shows none;
      views_are = rw no_views (kept_none each);
      unmarked = rw no_views (All-nil IsUnmarked);
      stale_are = no_stale;
    }))

module _ (limits : Limits) (each : Bool) (bytes : Bytes) (count : ℕ) (now new : Viewer) (later after : Option Bytes) (views : List View) (stale : List (ℕ × ℕ)) (so_far : IsKept limits each bytes count now later views stale) where
  abbrev TakesHere : Result (Option Taken) StreamError → Type 0
  TakesHere result = Takes limits bytes count now new later after so_far.come result

  pub kept_shown : (more : List View) → TakesHere (Ok (Some outcomes.Shown)) → KeepsOne each views (shown_by new) more → IsKept limits each bytes (count + 1) new after more stale
  kept_shown more takes keeps =
      let next = has_next limits bytes count now new later after so_far.come outcomes.Shown takes in
      record {
        come = next.come;
        views_are = kept-push each views more (shown_each first_shown so_far.come.given) (shown_by new) so_far.views_are keeps ∙ ap (kept each) (sym next.shown);
        unmarked = unmarked-push each views more (shown_by new) so_far.unmarked keeps;
        stale_are = so_far.stale_are ∙ sym (append-nil (stale_each 1 first_shown so_far.come.given)) ∙ sym next.stale;
      }

  pub kept_stale : (at : ℕ) (more : List (ℕ × ℕ)) → TakesHere (Ok (Some (outcomes.Stale at))) → more ≡ stale ++ (count + 1, at) ∷ [] → IsKept limits each bytes (count + 1) new after views more
  kept_stale at more takes is =
      let next = has_next limits bytes count now new later after so_far.come (outcomes.Stale at) takes in
      record {
        come = next.come;
        views_are = so_far.views_are ∙ ap (kept each) (sym (append-nil (shown_each first_shown so_far.come.given)) ∙ sym next.shown);
        unmarked = so_far.unmarked;
        stale_are = is ∙ ap (λ (l : List (ℕ × ℕ)). l ++ (count + 1, at) ∷ []) so_far.stale_are ∙ sym next.stale;
      }

-- what a call says of the bytes that come, within the limits of the client
abbrev pub Says : Viewer → Option Bytes → Result (Option Taken) StreamError → Viewer → Option Bytes → Type 0
Says now later result new after = IfSome (coming now later) (λ all. TakesComing now.limits (shown_by now) all result (shown_by new) (coming new after))

module _ (limits : Limits) (each : Bool) (known : Option Bytes) (count : ℕ) (now new : Viewer) (later after : Option Bytes) (old : Watched) (same : now.limits ≡ limits) (none : old.fault ≡ None) (so_far : IfSome known (λ bytes. IsKept limits each bytes count now later old.views.items old.stale.items)) where
  within : (result : Result (Option Taken) StreamError) → Says now later result new after → IfSome (coming now later) (λ all. TakesComing limits (shown_by now) all result (shown_by new) (coming new after))
  within result says = subst (λ (l : Limits). IfSome (coming now later) (λ all. TakesComing l (shown_by now) all result (shown_by new) (coming new after))) same says

  pub next_kept : (t : Taken) (more : Watched) → Says now later (Ok (Some t)) new after → KeepsOutcome each (shown_by new) (count + 1) t old more → (more.fault ≡ None) × IfSome known (λ bytes. IsKept limits each bytes (count + 1) new after more.views.items more.stale.items)
  next_kept outcomes.Shown more says keeps =
      let stale : more.stale ≡ old.stale = ap (λ (w : Watched). w.stale) keeps.1 in (
        ap (λ (w : Watched). w.fault) keeps.1 ∙ none,
        if_some known (λ bytes. IsKept limits each bytes count now later old.views.items old.stale.items) (λ bytes. IsKept limits each bytes (count + 1) new after more.views.items more.stale.items)
            (λ bytes here. rw stale (kept_shown limits each bytes count now new later after old.views.items old.stale.items here more.views.items (within (Ok (Some outcomes.Shown)) says) keeps.0)) so_far,
      )
  next_kept (outcomes.Stale at) more says keeps =
      let views : more.views ≡ old.views = ap (λ (w : Watched). w.views) keeps.1 in (
        ap (λ (w : Watched). w.fault) keeps.1 ∙ none,
        if_some known (λ bytes. IsKept limits each bytes count now later old.views.items old.stale.items) (λ bytes. IsKept limits each bytes (count + 1) new after more.views.items more.stale.items)
            (λ bytes here. rw views (kept_stale limits each bytes count now new later after old.views.items old.stale.items here at more.stale.items (within (Ok (Some (outcomes.Stale at))) says) keeps.0)) so_far,
      )

  watched : (fault : Option (ℕ × ClientError)) (bytes : Bytes) (here : IsKept limits each bytes count now later old.views.items old.stale.items) → TakesUpTo limits bytes here.come.given fault → IsWatched limits bytes each (record { views = old.views; stale = old.stale; fault = fault })
  watched fault bytes here takes = record { given = here.come.given; takes = takes; views = here.views_are; unmarked = here.unmarked; stale = here.stale_are }

  pub whole_kept : Says now later (Ok None) new after → IfSome known (λ bytes. IsWatched limits bytes each old)
  whole_kept says = if_some known (λ bytes. IsKept limits each bytes count now later old.views.items old.stale.items) (λ bytes. IsWatched limits bytes each old)
      (λ bytes here. subst (λ (f : Option (ℕ × ClientError)). IsWatched limits bytes each (record { views = old.views; stale = old.stale; fault = f })) (sym none)
      (watched None bytes here (all_come limits bytes count now new later after here.come (within (Ok None) says)).0)) so_far

  pub fault_kept : (error : ClientError) → Says now later (Err (Answer error)) new after → IfSome known (λ bytes. IsWatched limits bytes each (record { views = old.views; stale = old.stale; fault = Some (count + 1, error) }))
  fault_kept error says = if_some known (λ bytes. IsKept limits each bytes count now later old.views.items old.stale.items) (λ bytes. IsWatched limits bytes each (record { views = old.views; stale = old.stale; fault = Some (count + 1, error) }))
      (λ bytes here. watched (Some (count + 1, error)) bytes here (fault_come limits bytes count now new later after here.come error (within (Err (Answer error)) says)).0) so_far
