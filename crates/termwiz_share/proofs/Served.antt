-- A source keeps serving its clients, whatever happens to either.
use Rattle.std.proofs.Common.{◌≡◌, ◌⊎◌, ℕ, ◌*◌, true, List, [], ◌∷◌, ◌++◌, length, Option, Result, Ok, Err, refl, sym, ap, subst, ◌∙◌, arith, inl, inr}
use Rattle.std.specs.Prelude.{◌==◌, false, None, Some, OnOk, if◌then◌else◌}
use Rattle.std.proofs.lemmas.Bool.{cases_Bool, cases_lt, eqb-true, eq-eqb, true≢false}
use Rattle.std.proofs.lemmas.List.{append-nil}
use Rattle.cbor.specs.declared.error.FaultKind.TheVariants.{Limit, Truncated}
use Rattle.termwiz_screen.specs.FullScreen.{FullScreen}
use Rattle.termwiz_screen.specs.Log.{next_number}
use Rattle.termwiz_screen.specs.Picture.{full_screens}
use Rattle.termwiz_surface.specs.Answer.{AnswerValue, Carries}
use Rattle.termwiz_surface.specs.Following.{KeepsViewers}
use Rattle.termwiz_surface.specs.History.{KeepsNames, Names}
use Rattle.termwiz_surface.specs.Preserving.{Preserves}
use Rattle.termwiz_surface.specs.Surface.{SurfaceValue, full_of}
use Rattle.termwiz_surface.proofs.Preserving.{same-measure}
use Rattle.termwiz_surface.proofs.Remembering.{past-first}
use Rattle.termwiz_wire.specs.Answers.{answer_at}
use Rattle.termwiz_wire.proofs.Bounds.{past_or_fits}
use Rattle.termwiz_wire.specs.Within.{IsBeyond, IsWithinLimits}
use Rattle.termwiz_wire.specs.Sent.{answer}
use Rattle.termwiz_wire.specs.declared.fault.Fault.{Fault}
use Rattle.termwiz_wire.specs.declared.fault.Limits.{Limits}
use Rattle.termwiz_wire.specs.declared.sent.SentAnswer.{SentAnswer}
use Rattle.termwiz_share.specs.declared.error.ClientError.{ClientError}
use Rattle.termwiz_share.specs.declared.error.ClientError.TheVariants as errors
use Rattle.termwiz_share.specs.declared.taken.Taken.{Taken}
use Rattle.termwiz_share.specs.declared.taken.Taken.TheVariants as outcomes
use Rattle.termwiz_share.specs.Client.{ClientValue, IsReady, SameSettings, Shown, ask_of, fits, has_other_size, shown_after, shown_by}
use Rattle.termwiz_share.specs.Feeding.{EndsAfter, Feeds, TakesNextOrNone, TakesAll, TakesNext, with_bytes}
use Rattle.termwiz_share.specs.Histories.{ClientFollows, FollowsNext, ClientFollowsTo, Given, ClientHasFollowed, HasKept, HasMore, HasStopped, IsGenuine, IsPictureNamed, after, after_all, stream}
use Rattle.termwiz_share.specs.Serving.{KeepsClients, PreservesServing, Serves, ShowsSource}
use Rattle.termwiz_share.specs.Source.{IsResponse, SourceValue, sent_by, source_of}
use Rattle.termwiz_wire.specs.MoreBytes.{Laws}
use Rattle.termwiz_share.proofs.Fed.{follows_next, follows_to, taken_as}
use Rattle.termwiz_share.proofs.Streams.{err_is, ok_or_err}

module _ {W : Type 0} (f : W → List ℕ → ℕ) where
  -- a surface that never changed has any past
  pub serves_first : (s : SourceValue W) (c : ClientValue W) → s.surface.log ≡ record { first = 0; changes = [] } → f c.surface.widths ≡ f s.surface.widths → (c.source ≡ s.number → ⊥) → Serves f s c
  serves_first s c fresh one other = record {
    past = λ n. full_of s.surface;
    is_past = rw fresh (past-first full_screens (f s.surface.widths) (λ n. full_of s.surface) (full_of s.surface));
    one_measure = one;
    not_ahead = λ e. absurd (other e);
    named = λ e. absurd (other e);
  }

  -- a client of no source is served by one that has a client
  pub serves_next : (s : SourceValue W) (other c : ClientValue W) → Serves f s other → f c.surface.widths ≡ f s.surface.widths → c.number ≡ 0 → Serves f s c
  serves_next s other c serves one none = record {
    past = serves.past;
    is_past = serves.is_past;
    one_measure = one;
    not_ahead = λ e. omega (arith, none);
    named = λ e. record { named = λ some. absurd (some none) };
  }

  -- whatever keeps a surface's viewers, and what its numbers name, keeps a source's clients
  pub keeps_clients : (s t : SourceValue W) → t.number ≡ s.number → KeepsViewers f s.surface t.surface → KeepsNames (f s.surface.widths) s.surface t.surface → KeepsClients f s t
  keeps_clients s t number viewers names c serves =
      let same : f s.surface.widths ≡ f t.surface.widths = same-measure f s.surface t.surface viewers in
      let on = names.full serves.past serves.is_past in
      record {
        past = on.later;
        is_past = rw (← same) on.is_past;
        one_measure = serves.one_measure ∙ same;
        not_ahead = λ e. omega (arith, serves.not_ahead (e ∙ number), on.grows);
        named = λ e. record { named = λ some. on.alike c.number (serves.not_ahead (e ∙ number)) ∙ (serves.named (e ∙ number)).named some };
      }

  -- a source whose surface preserves what it has to
  pub serves_on : (n : ℕ) (s t : SurfaceValue W) → Preserves f s t → PreservesServing f (source_of n s) (source_of n t)
  serves_on n s t p = record {
    number = refl;
    clients = keeps_clients (source_of n s) (source_of n t) refl p.viewers p.names;
    surface = p;
  }

  module _ (s : SourceValue W) (c new : ClientValue W) (serves : Serves f s c) (widths : new.surface.widths ≡ c.surface.widths) where
    measured : f new.surface.widths ≡ f s.surface.widths
    measured = ap f widths ∙ serves.one_measure

    -- a client that shows as it did
    pub serves_same : shown_by new ≡ shown_by c → Serves f s new
    serves_same same =
        let source = ap (λ (v : Shown). v.source) same in
        let number = ap (λ (v : Shown). v.number) same in
        record {
          past = serves.past;
          is_past = serves.is_past;
          one_measure = measured;
          not_ahead = λ e. omega (arith, number, serves.not_ahead (sym source ∙ e));
          named = λ e. rw (number, ap (λ (v : Shown). v.picture) same) (serves.named (sym source ∙ e));
        }

    -- one whose picture has no number
    pub serves_none : new.number ≡ 0 → Serves f s new
    serves_none none = record {
      past = serves.past;
      is_past = serves.is_past;
      one_measure = measured;
      not_ahead = λ e. omega (arith, none);
      named = λ e. record { named = λ some. absurd (some none) };
    }

    -- and one that shows what the source shows, with its number
    pub serves_shown : full_of new.surface ≡ full_of s.surface → new.number ≡ next_number s.surface.log → Names serves.past (next_number s.surface.log) (full_of s.surface) → Serves f s new
    serves_shown same number names = record {
      past = serves.past;
      is_past = serves.is_past;
      one_measure = measured;
      not_ahead = λ e. omega (arith, number);
      named = λ e. rw (number, same) names;
    }

-- it takes more bytes after a success
abbrev pub IsOpen : {W : Type 0} → Result ℕ ClientError → ClientValue W → Type 0
IsOpen result new = (Unit {0} → OnOk result (new.stopped ≡ None))

-- a client keeps its width value, and takes more bytes after a success
module _ {W : Type 0} (f : W → List ℕ → ℕ) (old mid : ClientValue W) where
  ends_settings : (count : ℕ) (result : Result ℕ ClientError) (new : ClientValue W) → mid.surface.widths ≡ old.surface.widths → mid.stopped ≡ None → EndsAfter f mid count result new → (new.surface.widths ≡ old.surface.widths) × IsOpen result new
  ends_settings count (Ok n) new widths reading ends = (ap (λ (c : ClientValue W). c.surface.widths) ends.1.1 ∙ widths, λ t. ap (λ (c : ClientValue W). c.stopped) ends.1.1 ∙ reading)
  ends_settings count (Err (errors.Fault x)) new widths reading ends = (ap (λ (c : ClientValue W). c.surface.widths) ends.2 ∙ widths, λ t. tt)
  ends_settings count (Err (errors.Size at)) new widths reading ends = (ap (λ (c : ClientValue W). c.surface.widths) ends.5 ∙ widths, λ t. tt)
  ends_settings count (Err errors.Numbers) new widths reading ends = (ap (λ (c : ClientValue W). c.surface.widths) ends.4 ∙ widths, λ t. tt)
  ends_settings count (Err errors.Memory) new widths reading (inl ends) = (ap (λ (c : ClientValue W). c.surface.widths) ends ∙ widths, λ t. tt)
  ends_settings count (Err errors.Memory) new widths reading (inr ends) = (ends.settings.widths ∙ widths, λ t. tt)

module _ {W : Type 0} (f : W → List ℕ → ℕ) (old : ClientValue W) (bytes : List ℕ) (result : Result ℕ ClientError) (new : ClientValue W) where
  feeds_settings : Feeds f old bytes result new → (new.surface.widths ≡ old.surface.widths) × IsOpen result new
  feeds_settings (inl stopped) = (ap (λ (c : ClientValue W). c.surface.widths) stopped.3, λ t. rw (stopped.2) tt)
  feeds_settings (inr (inl none)) = (ap (λ (c : ClientValue W). c.surface.widths) none.2, λ t. rw (none.1) tt)
  feeds_settings (inr (inr reads)) = let settings = reads.1.has_taken.settings in ends_settings f old reads.1.mid (length reads.1.has_taken.given) result new settings.widths (settings.stopped ∙ reads.0) reads.1.ends

  pub feeds_widths : Feeds f old bytes result new → new.surface.widths ≡ old.surface.widths
  feeds_widths feeds = (feeds_settings feeds).0

  pub feeds_open : Feeds f old bytes result new → IsOpen result new
  feeds_open feeds = (feeds_settings feeds).1

-- nor does a step change its width value
step_widths : {W : Type 0} (f : W → List ℕ → ℕ) (old : ClientValue W) (result : Result (Option Taken) ClientError) (new : ClientValue W) → TakesNextOrNone f old result new → new.surface.widths ≡ old.surface.widths
step_widths f old (Ok (Some outcomes.Shown)) new t = t.5.widths
step_widths {W = W} f old (Ok (Some (outcomes.Stale at))) new t = ap (λ (c : ClientValue W). c.surface.widths) t.4
step_widths {W = W} f old (Ok None) new t = ap (λ (c : ClientValue W). c.surface.widths) t.1
step_widths {W = W} f old (Err (errors.Fault x)) new t = ap (λ (c : ClientValue W). c.surface.widths) t.2
step_widths {W = W} f old (Err (errors.Size at)) new t = ap (λ (c : ClientValue W). c.surface.widths) t.5
step_widths {W = W} f old (Err errors.Numbers) new t = ap (λ (c : ClientValue W). c.surface.widths) t.4
step_widths {W = W} f old (Err errors.Memory) new (inl t) = ap (λ (c : ClientValue W). c.surface.widths) t
step_widths f old (Err errors.Memory) new (inr t) = t.settings.widths

-- a client takes the response to its ask
module _ {W : Type 0} (f : W → List ℕ → ℕ) (s : SourceValue W) (c : ClientValue W) (serves : Serves f s c) (bytes : List ℕ) (response : IsResponse f s (ask_of c) bytes) where
  abbrev given : AnswerValue
  given = response.given

  abbrev g : Given
  g = record { sent = sent_by s.number given; shown = full_of s.surface }

  abbrev m : List ℕ → ℕ
  m = f c.surface.widths

  -- what the numbers of the source name, and those of any other one
  histories : ℕ → ℕ → FullScreen
  histories k = if k == s.number then serves.past else (λ n. full_of c.surface)

  own_history : histories s.number ≡ serves.past
  unfolding histories
  own_history = rw (eq-eqb s.number s.number refl) refl

  named : IsPictureNamed histories (shown_by c)
  unfolding histories
  named = elim (cases_Bool (c.source == s.number)) [
    | inl own ↦ rw own (serves.named (eqb-true c.source s.number own))
    | inr other ↦ rw other (record { named = λ some. refl })
  ]

  carries : Carries full_screens m (histories s.number) given (full_of s.surface)
  carries = rw (own_history, serves.one_measure) (response.carries serves.past serves.is_past)

  fits_it : fits (shown_by c) g.sent ≡ true
  fits_it = is response.from
    where
      is : (given.base ≡ 0) ⊎ ((c.source ≡ s.number) × (given.base ≡ c.number)) → fits (shown_by c) g.sent ≡ true
      is (inl none) = rw (eq-eqb given.base 0 none) refl
      is (inr from) = elim (cases_Bool (given.base == 0)) [
        | inl none ↦ rw none refl
        | inr some ↦ rw (some, eq-eqb s.number c.source (sym from.0), eq-eqb given.base c.number from.1) refl
      ]

  pub names_now : Names serves.past (next_number s.surface.log) (full_of s.surface)
  names_now = rw (← response.number) (response.carries serves.past serves.is_past).named

  shows_after : (new : ClientValue W) → shown_by new ≡ after (shown_by c) g → ShowsSource s new
  shows_after new is =
      let taken : shown_by new ≡ record { picture = full_of s.surface; source = s.number; number = given.number } = is ∙ rw fits_it refl in
      record { picture = ap (λ (v : Shown). v.picture) taken; source = ap (λ (v : Shown). v.source) taken; number = ap (λ (v : Shown). v.number) taken ∙ response.number }

  -- whatever else it shows, the response leads from there to what the source shows
  pub response_taken : (fits (shown_by c) g.sent ≡ true) × (has_other_size (shown_by c) g.sent ≡ false) × (shown_after m (shown_by c) g.sent ≡ record { picture = full_of s.surface; source = s.number; number = given.number })
  response_taken =
      let limits : Limits = record { cells = given.width * given.height; rows = given.height; bytes = length (answer m (sent_by s.number given)) } in
      let fits : IsWithinLimits m limits (sent_by s.number given) = record { screen = record { cells = omega arith; rows = omega arith }; bytes = omega arith; borne = response.borne } in
      let genuine : IsGenuine m limits histories g = record { is_sent = rw serves.one_measure response.is_sent; within = fits; sized = response.sized; carries = carries } in
      let given_as = taken_as m limits histories (shown_by c) g named genuine in
      (fits_it, given_as.1, given_as.0 ∙ rw fits_it refl)

  -- the limits allow it, or it is past them
  verdict : (limits : Limits) → IsBeyond m limits (sent_by s.number given) ⊎ IsWithinLimits m limits (sent_by s.number given)
  verdict limits = elim (past_or_fits limits given.width given.height) [
    | inl many ↦ inl (inl many)
    | inr screen ↦ elim (cases_lt limits.bytes (length (answer m (sent_by s.number given)))) [
      | inl long ↦ inl (inr (inl long))
      | inr few ↦ inr (record { screen = screen; bytes = few; borne = response.borne })
    ]
  ]

  nothing_left : (kept : List ℕ) → kept ++ [] ≡ [] → kept ≡ []
  nothing_left kept e = sym (append-nil kept) ∙ e

  -- of one answer all are taken, or none is
  one_of : (given others : List Given) → g ∷ [] ≡ given ++ others → ((given ≡ []) × (others ≡ g ∷ [])) ⊎ ((given ≡ g ∷ []) × (others ≡ []))
  one_of [] others e = inl (refl, sym e)
  one_of (x ∷ []) others e = inr (let same : g ≡ x = cc in ap (λ (v : Given). v ∷ []) (sym same), let rest : [] ≡ others = cc in sym rest)
  one_of (x ∷ y ∷ more) others e = absurd (let bad : ⊥ = cc in bad)

  module _ (laws : Laws m c.limits) (ready : IsReady c) where
    encoded : bytes ≡ answer m (sent_by s.number given)
    encoded = rw serves.one_measure response.encoded

    -- within the limits
    module _ (allowed : IsWithinLimits m c.limits (sent_by s.number given)) where
      genuine : IsGenuine m c.limits histories g
      genuine = record { is_sent = rw serves.one_measure response.is_sent; within = allowed; sized = response.sized; carries = carries }

      follows : ClientFollows f histories (g ∷ []) c (bytes ++ [])
      follows = record {
        reading = ready.reading;
        genuine = (genuine, tt);
        whole = rw ready.kept (ap (λ (t : List ℕ). t ++ []) encoded);
        named = named;
      }

      pub within : (result : Result ℕ ClientError) (new : ClientValue W) → new.surface.widths ≡ c.surface.widths → Feeds f c bytes result new → OnOk result (ShowsSource s new × IsReady new) × Serves f s new
      within result new widths feeds = by result (follows_to f histories (g ∷ []) [] c bytes laws result new feeds follows) (feeds_open f c bytes result new feeds)
        where
          -- no whole answer is kept
          whole_kept : (n : ℕ) (h : ClientHasFollowed f histories (g ∷ []) [] n c new) → h.others ≡ g ∷ [] → ⊥
          whole_kept n h all =
              let few : HasMore (f new.surface.widths) (g ∷ []) new.kept = subst (λ (v : List Given). HasMore (f new.surface.widths) v new.kept) all h.no_whole in
              let kept : new.kept ++ [] ≡ answer (f new.surface.widths) g.sent ++ [] = h.left ∙ ap (stream (f new.surface.widths)) all in
              let same : new.kept ≡ answer (f new.surface.widths) g.sent = sym (append-nil new.kept) ∙ kept ∙ append-nil (answer (f new.surface.widths) g.sent) in
              omega (arith, few, ap length same)

          ok_by : (n : ℕ) → ClientHasFollowed f histories (g ∷ []) [] n c new → new.stopped ≡ None → ShowsSource s new × IsReady new
          ok_by n h reading = elim (one_of h.given h.others h.all) [
            | inl none ↦ absurd (whole_kept n h none.1)
            | inr all ↦ (shows_after new (h.shows ∙ ap (after_all (shown_by c)) all.0), record { kept = nothing_left new.kept (h.left ∙ ap (stream (f new.surface.widths)) all.1); reading = reading })
          ]

          stopped_by : HasStopped f histories (g ∷ []) c new → Serves f s new
          stopped_by h = elim h.shows [
            | inr none ↦ serves_none f s c new serves widths none
            | inl shows ↦ elim (one_of h.given h.others h.all) [
              | inl none ↦ serves_same f s c new serves widths (shows ∙ ap (after_all (shown_by c)) none.0)
              | inr all ↦
                  let now = shows_after new (shows ∙ ap (after_all (shown_by c)) all.0) in
                  serves_shown f s c new serves widths now.picture now.number names_now
            ]
          ]

          by : (result : Result ℕ ClientError) → ClientFollowsTo f histories (g ∷ []) [] c result new → IsOpen result new → OnOk result (ShowsSource s new × IsReady new) × Serves f s new
          by (Ok n) h reading = let shows = ok_by n h (reading tt) in (shows, serves_shown f s c new serves widths shows.0.picture shows.0.number names_now)
          by (Err errors.Numbers) h reading = (tt, stopped_by h)
          by (Err errors.Memory) h reading = (tt, stopped_by h)
          by (Err (errors.Fault x)) h reading = absurd h
          by (Err (errors.Size at)) h reading = absurd h

    -- an answer that is past the limits is a fault, and changes nothing that is shown
    module _ (past : IsBeyond m c.limits (sent_by s.number given)) where
      refusal : (x : Fault) × (answer_at m c.limits (c.kept ++ bytes) ≡ Err x) × (x.kind ≡ Limit)
      refusal =
          let r = laws.limited (sent_by s.number given) [] (rw serves.one_measure response.is_sent) past in
          let same : c.kept ++ bytes ≡ answer m (sent_by s.number given) ++ [] = rw ready.kept (encoded ∙ sym (append-nil (answer m (sent_by s.number given)))) in
          (r.0, ap (answer_at m c.limits) same ∙ r.1, r.2)

      none_read : (a : SentAnswer) (rest : List ℕ) → answer_at m c.limits (c.kept ++ bytes) ≡ Ok (a, rest) → ⊥
      none_read a rest is = ok_or_err (a, rest) refusal.0 (answer_at m c.limits (c.kept ++ bytes)) is refusal.1

      -- nothing is taken
      not_taken : (given : List SentAnswer) (t : Shown) (rest : List ℕ) → TakesAll m c.limits (shown_by c) (c.kept ++ bytes) given t rest → (t ≡ shown_by c) × (rest ≡ c.kept ++ bytes)
      not_taken [] t rest takes = (takes.1, sym takes.0)
      not_taken (a ∷ more) t rest takes = absurd (none_read a takes.0 takes.1)

      module _ (mid new : ClientValue W) (settings : SameSettings (with_bytes c bytes) mid) (same : shown_by mid ≡ shown_by c) (rest : mid.kept ≡ c.kept ++ bytes) (widths : new.surface.widths ≡ c.surface.widths) where
        read_mid : answer_at (f mid.surface.widths) mid.limits mid.kept ≡ answer_at m c.limits (c.kept ++ bytes)
        read_mid = rw (ap f settings.widths, settings.limits, rest) refl

        still : shown_by new ≡ shown_by mid → Serves f s new
        still is = serves_same f s c new serves widths (is ∙ same)

        refused_end : (count : ℕ) (result : Result ℕ ClientError) → EndsAfter f mid count result new → OnOk result (ShowsSource s new × IsReady new) × Serves f s new
        refused_end count (Ok n) ends =
            let x : ends.1.0.fault ≡ refusal.0 = err_is ends.1.0.fault refusal.0 (answer_at m c.limits (c.kept ++ bytes)) (sym read_mid ∙ ends.1.0.is) refusal.1 in
            let bad : Truncated ≡ Limit = sym ends.1.0.cut ∙ ap (λ (v : Fault). v.kind) x ∙ refusal.2 in
            absurd (let no_way : ⊥ = cc in no_way)
        refused_end count (Err (errors.Fault x)) ends = (tt, still (ap shown_by ends.2))
        refused_end count (Err (errors.Size at)) ends = absurd (none_read ends.0 ends.1 (sym read_mid ∙ ends.2))
        refused_end count (Err errors.Numbers) ends = absurd (none_read ends.0 ends.1 (sym read_mid ∙ ends.2))
        refused_end count (Err errors.Memory) (inl ends) = (tt, still (ap shown_by ends))
        refused_end count (Err errors.Memory) (inr ends) = (tt, serves_none f s c new serves widths ends.number)

      no_stop : (e : ClientError) → c.stopped ≡ Some e → ⊥
      no_stop e is = let bad : Some e ≡ None = sym is ∙ ready.reading in cc

      pub beyond : (result : Result ℕ ClientError) (new : ClientValue W) → new.surface.widths ≡ c.surface.widths → Feeds f c bytes result new → OnOk result (ShowsSource s new × IsReady new) × Serves f s new
      beyond result new widths (inl stopped) = absurd (no_stop stopped.0 stopped.1)
      beyond result new widths (inr (inl none)) = rw none.1 (tt, serves_same f s c new serves widths (ap shown_by none.2))
      beyond result new widths (inr (inr reads)) =
          let t = reads.1.has_taken in
          let none = not_taken t.given (shown_by reads.1.mid) reads.1.mid.kept t.takes in
          refused_end reads.1.mid new t.settings none.0 none.1 widths (length t.given) result reads.1.ends

    -- a client that takes the response shows what the source shows, and is served by it, also after an error
    pub responded : (result : Result ℕ ClientError) (new : ClientValue W) → Feeds f c bytes result new → OnOk result (ShowsSource s new × IsReady new) × Serves f s new
    responded result new feeds =
        let widths = feeds_widths f c bytes result new feeds in
        elim (verdict c.limits) [
          | inl past ↦ beyond past result new widths feeds
          | inr allowed ↦ within allowed result new widths feeds
        ]

  -- one that has it among the bytes that it keeps
  module _ (laws : Laws m c.limits) (reading : c.stopped ≡ None) (kept : c.kept ≡ bytes) where
    abbrev Answered : Result (Option Taken) ClientError → ClientValue W → Type 0
    Answered result new = OnOk result ((result ≡ Ok (Some outcomes.Shown)) × ShowsSource s new × IsReady new) × Serves f s new

    kept_encoded : c.kept ≡ answer m (sent_by s.number given)
    kept_encoded = kept ∙ rw serves.one_measure response.encoded

    open_next : (result : Result (Option Taken) ClientError) (new : ClientValue W) → TakesNext f c result new → TakesNextOrNone f c result new
    open_next result new (inl stopped) = absurd (let bad : Some stopped.0 ≡ None = sym stopped.1 ∙ reading in let no_way : ⊥ = cc in no_way)
    open_next result new (inr t) = t.1

    module _ (allowed : IsWithinLimits m c.limits (sent_by s.number given)) where
      follows_kept : ClientFollows f histories (g ∷ []) c []
      follows_kept = record {
        reading = reading;
        genuine = (record { is_sent = rw serves.one_measure response.is_sent; within = allowed; sized = response.sized; carries = carries }, tt);
        whole = ap (λ (t : List ℕ). t ++ []) kept_encoded;
        named = named;
      }

      is_given : (first : Given) (others : List Given) → g ∷ [] ≡ first ∷ others → (first ≡ g) × (others ≡ [])
      is_given first others e = (let same : g ≡ first = cc in sym same, let rest : [] ≡ others = cc in sym rest)

      next_kept : (new : ClientValue W) → new.surface.widths ≡ c.surface.widths → HasKept f histories (g ∷ []) c new → Serves f s new
      next_kept new widths h = elim h.shows [
        | inl same ↦ serves_same f s c new serves widths same
        | inr none ↦ serves_none f s c new serves widths none
      ]

      next_within : (result : Result (Option Taken) ClientError) (new : ClientValue W) → new.surface.widths ≡ c.surface.widths → FollowsNext f histories (g ∷ []) [] c result new → Answered result new
      next_within (Ok (Some outcomes.Shown)) new widths h =
          let only = is_given h.0.first h.0.others h.0.all in
          let shown = shows_after new (h.2 ∙ ap (after (shown_by c)) only.0) in
          let none : new.kept ≡ [] = nothing_left new.kept (h.0.follows.whole ∙ ap (stream (f new.surface.widths)) only.1) in
          ((refl, shown, record { kept = none; reading = h.0.follows.reading }), serves_shown f s c new serves widths shown.picture shown.number names_now)
      next_within (Ok (Some (outcomes.Stale at))) new widths h = absurd (true≢false (sym fits_it ∙ ap (λ (x : Given). fits (shown_by c) x.sent) (sym (is_given h.0.first h.0.others h.0.all).0) ∙ h.1))
      next_within (Ok None) new widths h = absurd (omega (arith, h.0, ap length kept_encoded))
      next_within (Err errors.Numbers) new widths h = (tt, next_kept new widths h)
      next_within (Err errors.Memory) new widths h = (tt, next_kept new widths h)
      next_within (Err (errors.Fault x)) new widths h = absurd h
      next_within (Err (errors.Size at)) new widths h = absurd h

    -- past the limits it is a fault
    module _ (past : IsBeyond m c.limits (sent_by s.number given)) where
      kept_refusal : (x : Fault) × (answer_at m c.limits c.kept ≡ Err x) × (x.kind ≡ Limit)
      kept_refusal =
          let r = laws.limited (sent_by s.number given) [] (rw serves.one_measure response.is_sent) past in
          let same : c.kept ≡ answer m (sent_by s.number given) ++ [] = kept_encoded ∙ sym (append-nil (answer m (sent_by s.number given))) in
          (r.0, ap (answer_at m c.limits) same ∙ r.1, r.2)

      none_kept : (a : SentAnswer) (rest : List ℕ) → answer_at m c.limits c.kept ≡ Ok (a, rest) → ⊥
      none_kept a rest is = ok_or_err (a, rest) kept_refusal.0 (answer_at m c.limits c.kept) is kept_refusal.1

      next_beyond : (result : Result (Option Taken) ClientError) (new : ClientValue W) → TakesNextOrNone f c result new → Answered result new
      next_beyond (Ok (Some outcomes.Shown)) new t = absurd (none_kept t.0 new.kept t.1)
      next_beyond (Ok (Some (outcomes.Stale at))) new t = absurd (none_kept t.0 new.kept t.1)
      next_beyond (Ok None) new t =
          let x : t.0.fault ≡ kept_refusal.0 = err_is t.0.fault kept_refusal.0 (answer_at m c.limits c.kept) t.0.is kept_refusal.1 in
          let bad : Truncated ≡ Limit = sym t.0.cut ∙ ap (λ (v : Fault). v.kind) x ∙ kept_refusal.2 in
          absurd (let no_way : ⊥ = cc in no_way)
      next_beyond (Err (errors.Fault x)) new t = (tt, serves_same f s c new serves (ap (λ (v : ClientValue W). v.surface.widths) t.2) (ap shown_by t.2))
      next_beyond (Err (errors.Size at)) new t = absurd (none_kept t.0 t.1 t.2)
      next_beyond (Err errors.Numbers) new t = absurd (none_kept t.0 t.1 t.2)
      next_beyond (Err errors.Memory) new (inl t) = (tt, serves_same f s c new serves (ap (λ (v : ClientValue W). v.surface.widths) t) (ap shown_by t))
      next_beyond (Err errors.Memory) new (inr t) = (tt, serves_none f s c new serves t.settings.widths t.number)

    pub responded_next : (result : Result (Option Taken) ClientError) (new : ClientValue W) → TakesNext f c result new → Answered result new
    responded_next result new t =
        let step = open_next result new t in
        elim (verdict c.limits) [
          | inl past ↦ next_beyond past result new step
          | inr allowed ↦ next_within allowed result new (step_widths f c result new step) (follows_next f histories (g ∷ []) [] c laws (follows_kept allowed) result new t)
        ]
