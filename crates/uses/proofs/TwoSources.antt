-- The answers of two sources, which come to one client late, twice and in the wrong order.
use Rattle.std.proofs.Common.{◌≡◌, ◌⊎◌, ℕ, ◌+◌, ◌<◌, ◌≤◌, ◌^◌, true, List, [], ◌∷◌, ◌++◌, length, length-append, append-nil, refl, sym, ap, subst, ◌∙◌, arith, inl, inr}
use Rattle.std.proofs.lemmas.Bool.{eq-eqb, ne_eqb}
use Rattle.std.specs.Prelude.{None, ◌==◌, if◌then◌else◌, Result, Ok, Err, OnOk}
use Rattle.termwiz_share.specs.{ClientValue, IsResponse, ShowsSource, SourceValue, ask_of, fits, shown_by}
use Rattle.termwiz_share.specs.Client.{Shown}
use Rattle.termwiz_share.specs.Histories.{ClientFollows, Given, IsGenuine, after_all}
use Rattle.termwiz_share.specs.declared.error.ClientError.{ClientError}
use Rattle.termwiz_share.specs.declared.error.ClientError.TheVariants as errors
use Rattle.termwiz_surface.specs.{ChangeValue, FullScreen, IsPastOf, KeepsNames, SurfaceValue, full_of, full_screens, next_number}
use Rattle.termwiz_wire.specs.Sent.{answer}
use Rattle.termwiz_wire.specs.declared.fault.Limits.{Limits}
use Rattle.termwiz_wire.specs.declared.sent.Ask.{Ask}
use Rattle.uses.specs.Streams.{FailsToAnswer, FailsToAnswerBoth, FeedsBoth, FeedsInTwo, IsStreamOfBoth, HasNoFault, ShowsLast, TakesBoth, blank_client, greatest_limits}
use Rattle.uses.specs.declared.serving.ShareError.{ShareError}
use Rattle.uses.specs.declared.serving.ShareError.TheVariants.{Refused, Unserved}
use Rattle.uses.proofs.Streams.{genuine_in, given_by}

-- what the numbers of a source named they name still, after two calls
module _ {W : Type 0} (f : W → List ℕ → ℕ) where
  pub past_on : (s t : SurfaceValue W) → t.widths ≡ s.widths → KeepsNames (f s.widths) s t → (past : ℕ → FullScreen) → IsPastOf full_screens f past s → (later : ℕ → FullScreen) × ((k : ℕ) → k ≤ next_number s.log → later k ≡ past k) × IsPastOf full_screens f later t × (next_number s.log ≤ next_number t.log)
  past_on s t same keeps past is_past =
      let on = keeps.full past is_past in
      (on.later, on.alike, rw same on.is_past, on.grows)

  pub past_after : (s t u : SurfaceValue W) → t.widths ≡ s.widths → KeepsNames (f s.widths) s t → u.widths ≡ t.widths → KeepsNames (f t.widths) t u → (past : ℕ → FullScreen) → IsPastOf full_screens f past s → (later : ℕ → FullScreen) × ((k : ℕ) → k ≤ next_number s.log → later k ≡ past k) × IsPastOf full_screens f later u
  past_after s t u same keeps more_same more_keeps past is_past =
      let one = past_on s t same keeps past is_past in
      let two = past_on t u more_same more_keeps one.0 one.2 in
      (two.0, λ k le. two.1 k (omega (arith, le, one.3)) ∙ one.1 k le, two.2)

-- the client shows the source, or wants memory or numbers
abbrev pub ShowsOrWants : {W : Type 0} → SourceValue W → Result (Unit {0}) ClientError → ClientValue W → Type 0
ShowsOrWants s (Ok u) new = ShowsSource s new
ShowsOrWants s (Err errors.Memory) new = Unit {0}
ShowsOrWants s (Err errors.Numbers) new = Unit {0}
ShowsOrWants s (Err _) new = ⊥

abbrev pub in_turn : List ℕ → List ℕ → List ℕ → List ℕ
in_turn late early other = late ++ (early ++ (late ++ (late ++ (other ++ []))))

pub lengths_in_turn : (late early other : List ℕ) → (length late ≤ length (in_turn late early other)) × (length early ≤ length (in_turn late early other)) × (length other ≤ length (in_turn late early other))
lengths_in_turn late early other =
    let all : length (in_turn late early other) ≡ length late + (length early + (length late + (length late + length other))) =
    omega (arith, length-append late (early ++ (late ++ (late ++ (other ++ [])))), length-append early (late ++ (late ++ (other ++ []))), length-append late (late ++ (other ++ [])), length-append late (other ++ []), ap length (append-nil other)) in
    (omega (arith, all), omega (arith, all), omega (arith, all))

module _ {W : Type 0} (f : W → List ℕ → ℕ) (client : ClientValue W) (a b c : SourceValue W) (ask asked : Ask) (early late other : List ℕ)
    (first : IsResponse f a ask early) (second : IsResponse f b asked late) (last : IsResponse f c (ask_of client) other) where
  abbrev m : List ℕ → ℕ
  m = f client.surface.widths

  abbrev g : Given
  g = given_by f a ask early first

  abbrev h : Given
  h = given_by f b asked late second

  abbrev k : Given
  k = given_by f c (ask_of client) other last

  -- the later answer, the earlier one, the later one twice again, and the other source's
  abbrev pub sent_in_turn : List Given
  sent_in_turn = h ∷ g ∷ h ∷ h ∷ k ∷ []

  module _ (same : a.number ≡ b.number) (apart : b.number ≡ c.number → ⊥)
      (one : m ≡ f a.surface.widths) (one_later : m ≡ f b.surface.widths) (one_other : m ≡ f c.surface.widths)
      (past later other_past : ℕ → FullScreen)
      (is_past : IsPastOf full_screens f past a.surface) (is_later : IsPastOf full_screens f later b.surface) (is_other : IsPastOf full_screens f other_past c.surface)
      (alike : (n : ℕ) → n ≤ next_number a.surface.log → later n ≡ past n) where
    -- what the numbers of both name
    abbrev pub histories : ℕ → ℕ → FullScreen
    histories n = if n == b.number then later else other_past

    of_first : histories a.number ≡ later
    of_first = rw (eq-eqb a.number b.number same) refl

    of_later : histories b.number ≡ later
    of_later = rw (eq-eqb b.number b.number refl) refl

    of_other : histories c.number ≡ other_past
    of_other = rw (ne_eqb c.number b.number (λ e. apart (sym e))) refl

    module _ (limits : Limits) (cells : 2 ^ 64 ≤ limits.cells + 1) (rows : 2 ^ 64 ≤ limits.rows + 1) (few : length early ≤ limits.bytes) (few_later : length late ≤ limits.bytes) (few_other : length other ≤ limits.bytes)
        (is_limits : client.limits ≡ limits) (reading : client.stopped ≡ None) (kept : client.kept ≡ []) (no_source : client.source ≡ 0) (no_number : client.number ≡ 0) where
      genuine_early : IsGenuine m client.limits histories g
      genuine_early = rw is_limits (genuine_in f a ask early first past later is_past alike limits cells rows few m one histories of_first)

      genuine_late : IsGenuine m client.limits histories h
      genuine_late = rw is_limits (genuine_in f b asked late second later later is_later (λ n le. refl) limits cells rows few_later m one_later histories of_later)

      genuine_other : IsGenuine m client.limits histories k
      genuine_other = rw is_limits (genuine_in f c (ask_of client) other last other_past other_past is_other (λ n le. refl) limits cells rows few_other m one_other histories of_other)

      encoded_first : early ≡ answer m g.sent
      encoded_first = first.encoded ∙ ap (λ (v : List ℕ → ℕ). answer v g.sent) (sym one)

      encoded_later : late ≡ answer m h.sent
      encoded_later = second.encoded ∙ ap (λ (v : List ℕ → ℕ). answer v h.sent) (sym one_later)

      encoded_other : other ≡ answer m k.sent
      encoded_other = last.encoded ∙ ap (λ (v : List ℕ → ℕ). answer v k.sent) (sym one_other)

      pub follows_both : (bytes : List ℕ) → bytes ≡ late ++ (early ++ (late ++ (late ++ (other ++ [])))) → ClientFollows f histories sent_in_turn client bytes
      follows_both bytes is = record {
        reading = reading;
        genuine = (genuine_late, (genuine_early, (genuine_late, (genuine_late, (genuine_other, tt)))));
        whole = rw kept (is ∙ (λ i. encoded_later i ++ (encoded_first i ++ (encoded_later i ++ (encoded_later i ++ (encoded_other i ++ []))))));
        named = record { named = λ some. absurd (some no_number) };
      }

      -- the other source's answer is a repaint, since the client's ask names none
      last_fits : (s : Shown) → fits s k.sent ≡ true
      last_fits s = is last.from
        where
          is : (last.given.base ≡ 0) ⊎ ((client.source ≡ c.number) × (last.given.base ≡ client.number)) → fits s k.sent ≡ true
          is (inl none) = rw (eq-eqb last.given.base 0 none) refl
          is (inr from) = absurd (omega (arith, last.is_sent.some_source, from.0, no_source))

      pub shows_last_of_both : (new : ClientValue W) → shown_by new ≡ after_all (shown_by client) sent_in_turn → ShowsSource c new
      shows_last_of_both new shows =
          let is : shown_by new ≡ record { picture = full_of c.surface; source = c.number; number = last.given.number } =
          shows ∙ (rw (last_fits (after_all (shown_by client) (h ∷ g ∷ h ∷ h ∷ []))) refl) in
          record { picture = ap (λ (s : Shown). s.picture) is; source = ap (λ (s : Shown). s.source) is; number = ap (λ (s : Shown). s.number) is ∙ last.number }

      -- a client that is fed that shows the other source, or wants memory or numbers
      pub ends_both : (bytes : List ℕ) → bytes ≡ in_turn late early other → (r : Result (Unit {0}) ClientError) (new : ClientValue W) → ((names : ℕ → ℕ → FullScreen) (sent : List Given) → ClientFollows f names sent client bytes → ShowsLast f names sent client r new) → ShowsOrWants c r new
      ends_both bytes is r new shows = ended r new (shows histories sent_in_turn (follows_both bytes is))
        where
          ended : (r : Result (Unit {0}) ClientError) (new : ClientValue W) → ShowsLast f histories sent_in_turn client r new → ShowsOrWants c r new
          ended (Ok u) new shows = shows_last_of_both new shows
          ended (Err errors.Memory) new stops = tt
          ended (Err errors.Numbers) new stops = tt
          ended (Err (errors.Fault x)) new stops = stops
          ended (Err (errors.Size at)) new stops = stops

-- a new client is fed what two sources answer
module _ {W : Type 0} (f : W → List ℕ → ℕ) (first second later other : SourceValue W) (change : ChangeValue) (cut : ℕ)
    (apart : first.number ≡ second.number → ⊥) (one_measure : f first.surface.widths ≡ f second.surface.widths)
    (past second_past : ℕ → FullScreen) (is_past : IsPastOf full_screens f past first.surface) (is_other : IsPastOf full_screens f second_past second.surface) where
  abbrev client : ClientValue W
  client = blank_client first.surface.widths

  takes_both : (r : Result (Unit {0}) ClientError) (new : ClientValue W) → TakesBoth f first second change cut client r later other new → ShowsOrWants other r new
  takes_both r new takes =
      let both = takes.answered in
      let answers = both.answers in
      let early = answers.then in
      -- what the numbers of both name in the end
      let one = past_on f first.surface early.surface answers.widths answers.names past is_past in
      let changed_widths : answers.changed.widths ≡ early.surface.widths = answers.changed_widths ∙ sym answers.widths in
      let later_widths : later.surface.widths ≡ answers.changed.widths = answers.later_widths ∙ sym answers.changed_widths in
      let later_names = subst (λ (w : W). KeepsNames (f w) early.surface answers.changed) (sym answers.widths) answers.later_names in
      let last_names = subst (λ (w : W). KeepsNames (f w) answers.changed later.surface) (sym answers.changed_widths) answers.last_names in
      let two = past_after f early.surface answers.changed later.surface changed_widths later_names later_widths last_names one.0 one.2 in
      let three = past_on f second.surface other.surface both.widths both.names second_past is_other in
      let lengths = lengths_in_turn both.late both.early both.other in
      let few = ap length both.is in
      ends_both f client early later other (ask_of client) answers.asked both.early both.late both.other answers.first answers.second both.response
      (answers.number ∙ sym answers.same) (λ e. apart (sym answers.same ∙ e ∙ both.number))
      (ap f (sym answers.widths)) (ap f (sym answers.later_widths)) (one_measure ∙ ap f (sym both.widths))
      one.0 two.0 three.0 one.2 two.2 three.2 two.1
      greatest_limits (omega arith) (omega arith) (omega (arith, few, takes.few, lengths.1)) (omega (arith, few, takes.few, lengths.0)) (omega (arith, few, takes.few, lengths.2))
      refl refl refl refl refl
      takes.stream both.is r new takes.shows

  pub shows_second : (r : Result (Unit {0}) ShareError) (new : ClientValue W) → FeedsBoth f first second change cut client r later other new → OnOk r (ShowsSource other new)
  shows_second (Ok u) new takes = takes_both (Ok u) new takes
  shows_second (Err e) new fails = tt

  pub no_fault : (e : ShareError) (new : ClientValue W) → FeedsBoth f first second change cut client (Err e) later other new → HasNoFault e
  no_fault (Refused e) new fails = tt
  no_fault (Unserved errors.Memory) new fails = tt
  no_fault (Unserved errors.Numbers) new fails = tt
  no_fault (Unserved (errors.Fault x)) new (inl none) = let same : errors.Fault x ≡ errors.Memory = none.0 in absurd (let bad : ⊥ = cc in bad)
  no_fault (Unserved (errors.Fault x)) new (inr takes) = takes_both (Err (errors.Fault x)) new takes
  no_fault (Unserved (errors.Size at)) new (inl none) = let same : errors.Size at ≡ errors.Memory = none.0 in absurd (let bad : ⊥ = cc in bad)
  no_fault (Unserved (errors.Size at)) new (inr takes) = takes_both (Err (errors.Size at)) new takes

module _ {W : Type 0} (f : W → List ℕ → ℕ) (first second : SourceValue W) where
  -- where the first source doesn't answer, the second one is as it was
  pub fails_first : (later : SourceValue W) (change : ChangeValue) (e : ShareError) → FailsToAnswer f first change e later → FailsToAnswerBoth f first second change e later second
  fails_first later change (Refused e) fails = (fails, refl)
  fails_first later change (Unserved e) fails = fails

  module _ (later other : SourceValue W) (change : ChangeValue) (cut : ℕ) (client : ClientValue W) where
    -- nothing is fed where there is no stream
    pub no_stream : (e : ShareError) → FailsToAnswerBoth f first second change e later other → FeedsBoth f first second change cut client (Err e) later other client
    no_stream (Refused e) fails = fails
    no_stream (Unserved e) fails = inl fails

    -- and else the whole of it
    pub fed : (new : ClientValue W) (ask : Ask) (stream piece : List ℕ) → ask ≡ ask_of client → piece ≡ stream → length stream < 2 ^ 64 → IsStreamOfBoth f first second change ask stream later other → (r : Result (Unit {0}) ClientError) → FeedsInTwo f client piece cut r new
        → ((names : ℕ → ℕ → FullScreen) (sent : List Given) → ClientFollows f names sent client piece → ShowsLast f names sent client r new) → TakesBoth f first second change cut client r later other new
    fed new ask stream piece asked same few answered r feeds shows = record {
      stream = stream;
      answered = subst (λ (a : Ask). IsStreamOfBoth f first second change a stream later other) asked answered;
      few = few;
      feeds = subst (λ (b : List ℕ). FeedsInTwo f client b cut r new) same feeds;
      shows = λ names sent follows. shows names sent (subst (λ (b : List ℕ). ClientFollows f names sent client b) (sym same) follows);
    }
