-- What a client shows of a stream of answers: what the last one that fits was given for.
use Rattle.std.proofs.Common.{◌≡◌, ℕ, ◌<◌, true, false, List, [], ◌∷◌, ◌++◌, length, Option, Result, Ok, Err, refl, sym, ap, subst, ◌∙◌, append_assoc, arith, inl, inr}
use Rattle.std.specs.Prelude.{map, ◌==◌, fold, None, Some, if◌then◌else◌}
use Rattle.std.specs.List.{AllByRecursion}
use Rattle.std.proofs.lemmas.Bool.{cases_Bool, eqb-true, eq-eqb, true≢false}
use Rattle.std.proofs.lemmas.List.{get_or-map, length-map, length-replicate}
use Rattle.cbor.specs.declared.error.FaultKind.TheVariants.{Truncated}
use Rattle.std.proofs.Common.{replicate}
use Rattle.termwiz_cell.specs.CellValue.{CellValue, blank}
use Rattle.termwiz_cell.specs.ChangeValue.{ChangeValue}
use Rattle.termwiz_line.specs.LineFlags.{no_flags}
use Rattle.termwiz_line.specs.Row.{row_of}
use Rattle.termwiz_line.proofs.RowOf.{length-row_of}
use Rattle.termwiz_screen.specs.FullScreen.{FullScreen, HasFullSize, full_step, line_attribute}
use Rattle.termwiz_screen.specs.Screen.{row_at}
use Rattle.termwiz_surface.proofs.Remembering.{full_screens_keep}
use Rattle.termwiz_screen.specs.Picture.{full_screens, played}
use Rattle.termwiz_surface.specs.Answer.{AnswerValue, suits}
use Rattle.termwiz_wire.specs.Answers.{answer_at}
use Rattle.termwiz_wire.specs.Sent.{answer}
use Rattle.termwiz_wire.specs.declared.fault.Fault.{Fault}
use Rattle.termwiz_wire.specs.declared.fault.Limits.{Limits}
use Rattle.termwiz_wire.specs.declared.sent.SentAnswer.{SentAnswer}
use Rattle.termwiz_share.specs.declared.error.ClientError.{ClientError}
use Rattle.termwiz_share.specs.declared.error.ClientError.TheVariants as errors
use Rattle.termwiz_share.specs.declared.taken.Taken.{Taken}
use Rattle.termwiz_share.specs.declared.taken.Taken.TheVariants as shows
use Rattle.termwiz_share.specs.Client.{ClientValue, SameSettings, Shown, blank_screen, fits, has_other_size, shown_after, shown_by, stale_place}
use Rattle.termwiz_share.specs.Feeding.{AreCut, EndsAfter, Feeds, HasTaken, TakesNextOrNone, TakesAll, TakesNext, with_bytes}
use Rattle.termwiz_wire.specs.MoreBytes.{IsTruncated, Laws}
use Rattle.termwiz_share.specs.Histories.{ClientFollows, FollowsNext, ClientFollowsTo, Given, ClientHasFollowed, HasKept, HasMore, HasStopped, HasTakenFirst, IsGenuine, IsPictureNamed, after, after_all, stream}
use Rattle.termwiz_share.proofs.Streams.{AreAgain, Decodes, no_fault, none_whole, others_of}

-- one more answer at the end
pub TakesAll-push : (m : List ℕ → ℕ) (limits : Limits) (s : Shown) (bytes : List ℕ) (given : List SentAnswer) (t : Shown) (rest : List ℕ) (a : SentAnswer) (next : List ℕ) → TakesAll m limits s bytes given t rest → answer_at m limits rest ≡ Ok (a, next) → has_other_size t a ≡ false → TakesAll m limits s bytes (given ++ a ∷ []) (shown_after m t a) next
TakesAll-push m limits s bytes [] t rest a next d is size = (next, ap (answer_at m limits) d.0 ∙ is, subst (λ (v : Shown). has_other_size v a ≡ false) d.1 size, (refl, ap (λ (v : Shown). shown_after m v a) d.1))
TakesAll-push m limits s bytes (b ∷ more) t rest a next d is size = (d.0, d.1, d.2, TakesAll-push m limits (shown_after m s b) d.0 more t rest a next d.3 is size)

-- what is decoded on the way, and what is shown at the end
pub decoded : (m : List ℕ → ℕ) (limits : Limits) (s : Shown) (bytes : List ℕ) (given : List SentAnswer) (t : Shown) (rest : List ℕ) → TakesAll m limits s bytes given t rest → Decodes (answer_at m limits) bytes given rest
decoded m limits s bytes [] t rest d = d.0
decoded m limits s bytes (a ∷ more) t rest d = (d.0, d.1, decoded m limits (shown_after m s a) d.0 more t rest d.3)

pub shown_last : (m : List ℕ → ℕ) (limits : Limits) (s : Shown) (bytes : List ℕ) (given : List SentAnswer) (t : Shown) (rest : List ℕ) → TakesAll m limits s bytes given t rest → t ≡ fold (shown_after m) s given
shown_last m limits s bytes [] t rest d = d.1
shown_last m limits s bytes (a ∷ more) t rest d = shown_last m limits (shown_after m s a) d.0 more t rest d.3

-- a blank screen has its size
blank_sized : (w h : ℕ) → HasFullSize w h (blank_screen w h)
blank_sized w h =
    let rows : List (List CellValue) = replicate h (replicate w blank) in
    record {
      screen = record {
        width = refl;
        height = refl;
        full = length-map rows (row_of w) ∙ length-replicate h (replicate w blank);
        row_length = λ j lt.
            let inside : j < length rows = omega (arith, lt, length-replicate h (replicate w blank)) in
            ap length (get_or-map (row_of w) rows j [] [] inside) ∙ length-row_of w (row_at rows j);
      };
      lines = length-map (replicate h no_flags) line_attribute ∙ length-replicate h no_flags;
    }

-- a full screen keeps its size
played_size : (m : List ℕ → ℕ) (p : FullScreen) (cs : List ChangeValue) → ((played full_screens m p cs).screen.width ≡ p.screen.width) × ((played full_screens m p cs).screen.height ≡ p.screen.height)
played_size m p [] = (refl, refl)
played_size m p (c ∷ cs) =
    let one = (full_screens_keep m).same p c in
    let rest = played_size m (full_step m p c) cs in
    (rest.0 ∙ one.width, rest.1 ∙ one.height)

module _ (m : List ℕ → ℕ) (limits : Limits) (histories : ℕ → ℕ → FullScreen) where
  module _ (s : Shown) (g : Given) (named : IsPictureNamed histories s) (is : IsGenuine m limits histories g) where
    abbrev a : AnswerValue
    a = g.sent.answer

    -- a repaint is taken from blanks
    repaints : a.base ≡ 0 → played full_screens m (blank_screen a.width a.height) a.changes ≡ g.shown
    repaints zero = is.carries.repaint zero (blank_screen a.width a.height) (blank_sized a.width a.height)

    -- a delta that fits is taken from what its base names
    from_base : (a.base ≡ 0 → ⊥) → g.sent.source ≡ s.source → a.base ≡ s.number → histories g.sent.source a.base ≡ s.picture
    from_base some source base = ap (λ (n : ℕ). histories n a.base) source ∙ ap (histories s.source) base ∙ named.named (λ z. some (base ∙ z))

    leads : (a.base ≡ 0 → ⊥) → g.sent.source ≡ s.source → a.base ≡ s.number → played full_screens m s.picture a.changes ≡ g.shown
    leads some source base = ap (λ (p : FullScreen). played full_screens m p a.changes) (sym (from_base some source base)) ∙ (is.carries.delta some).1

    suits_it : (a.base ≡ 0 → ⊥) → g.sent.source ≡ s.source → a.base ≡ s.number → suits s.picture.screen.width s.picture.screen.height a ≡ true
    suits_it some source base =
        let size = played_size m s.picture a.changes in
        let width : s.picture.screen.width ≡ a.width = sym size.0 ∙ ap (λ (p : FullScreen). p.screen.width) (leads some source base) ∙ is.sized.screen.width in
        let height : s.picture.screen.height ≡ a.height = sym size.1 ∙ ap (λ (p : FullScreen). p.screen.height) (leads some source base) ∙ is.sized.screen.height in
        rw (eq-eqb s.picture.screen.width a.width width, eq-eqb s.picture.screen.height a.height height) refl

    some_base : (a.base == 0) ≡ false → a.base ≡ 0 → ⊥
    some_base e z = true≢false (sym (ap (λ k. k == 0) z) ∙ e)

    -- a genuine answer is taken as what it was given for
    pub taken_as : (shown_after m s g.sent ≡ after s g) × (has_other_size s g.sent ≡ false)
    taken_as = elim (cases_Bool (a.base == 0)) [
      | inl none ↦ rw none (ap (λ (p : FullScreen). record { picture = p; source = g.sent.source; number = a.number }) (repaints (eqb-true a.base 0 none)), refl)
      | inr some ↦ elim (cases_Bool (g.sent.source == s.source)) [
        | inr other ↦ rw (some, other) (refl, refl)
        | inl source ↦ elim (cases_Bool (a.base == s.number)) [
          | inr other ↦ rw (some, source, other) (refl, refl)
          | inl base ↦
              let ne : a.base ≡ 0 → ⊥ = some_base some in
              let is_source = eqb-true g.sent.source s.source source in
              let is_base = eqb-true a.base s.number base in
              rw (some, source, base, suits_it ne is_source is_base) (ap (λ (p : FullScreen). record { picture = p; source = g.sent.source; number = a.number }) (leads ne is_source is_base), refl)
        ]
      ]
    ]

    pub named_after : IsPictureNamed histories (after s g)
    named_after = elim (fits s g.sent) as (λ b. IsPictureNamed histories (if b then record { picture = g.shown; source = g.sent.source; number = a.number } else s)) [
      | true ↦ is.carries.named
      | false ↦ named
    ]

  -- all answers of a list are taken so
  pub all_taken : (s : Shown) (given : List Given) → IsPictureNamed histories s → AllByRecursion (IsGenuine m limits histories) given → (fold (shown_after m) s (map (λ (g : Given). g.sent) given) ≡ after_all s given) × IsPictureNamed histories (after_all s given)
  all_taken s [] named each = (refl, named)
  all_taken s (g ∷ gs) named each =
      let one = taken_as s g named each.0 in
      let rest = all_taken (after s g) gs (named_after s g named each.0) each.1 in
      (ap (λ (v : Shown). fold (shown_after m) v (map (λ (x : Given). x.sent) gs)) one.0 ∙ rest.0, rest.1)

module _ (m : List ℕ → ℕ) (limits : Limits) (histories : ℕ → ℕ → FullScreen) (laws : Laws m limits) where
  abbrev bytes_of : Given → List ℕ
  bytes_of g = answer m g.sent

  abbrev sent_of : Given → SentAnswer
  sent_of g = g.sent

  again_of : (g : Given) → IsGenuine m limits histories g → (rest : List ℕ) → answer_at m limits (bytes_of g ++ rest) ≡ Ok (g.sent, rest)
  again_of g is rest = laws.again g.sent rest is.is_sent is.within

  are_again : (gs : List Given) → AllByRecursion (IsGenuine m limits histories) gs → AreAgain (answer_at m limits) IsTruncated bytes_of sent_of gs
  are_again [] each = tt
  are_again (g ∷ gs) each = (again_of g each.0, are_again gs each.1)

  front_genuine : (taken others : List Given) → AllByRecursion (IsGenuine m limits histories) (taken ++ others) → AllByRecursion (IsGenuine m limits histories) taken × AllByRecursion (IsGenuine m limits histories) others
  front_genuine [] others each = (tt, each)
  front_genuine (g ∷ gs) others each = let rest = front_genuine gs others each.1 in ((each.0, rest.0), rest.1)

  -- what a stream is, once some answers of it are taken
  pub record IsTaken (sent : List Given) (count : ℕ) (s t : Shown) (left : List ℕ) : Type 0 where
    pub given : List Given
    pub counted : length given ≡ count
    pub others : List Given
    pub all : sent ≡ given ++ others
    pub genuine : AllByRecursion (IsGenuine m limits histories) others
    pub whole : left ≡ stream m others
    pub shows : t ≡ after_all s given
    pub named : IsPictureNamed histories t

  pub is_taken : (sent : List Given) (s t : Shown) (bytes future rest : List ℕ) (given : List SentAnswer) → AllByRecursion (IsGenuine m limits histories) sent → bytes ++ future ≡ stream m sent → IsPictureNamed histories s → TakesAll m limits s bytes given t rest → IsTaken sent (length given) s t (rest ++ future)
  is_taken sent s t bytes future rest given each whole named takes =
      let h = others_of (answer_at m limits) IsTruncated bytes_of sent_of laws.goes bytes future sent given rest (are_again sent each) whole (decoded m limits s bytes given t rest takes) in
      let parts = front_genuine h.taken h.others (subst (AllByRecursion (IsGenuine m limits histories)) h.all each) in
      let all = all_taken m limits histories s h.taken named parts.0 in
      let shows : t ≡ after_all s h.taken = shown_last m limits s bytes given t rest takes ∙ ap (λ (v : List SentAnswer). fold (shown_after m) s v) (sym h.values) ∙ all.0 in
      record {
        given = h.taken;
        counted = sym (length-map h.taken sent_of) ∙ ap length h.values;
        others = h.others;
        all = h.all;
        genuine = parts.1;
        whole = h.whole;
        shows = shows;
        named = subst (IsPictureNamed histories) (sym shows) all.1;
      }

  pub has_more : (others : List Given) (left future : List ℕ) → AllByRecursion (IsGenuine m limits histories) others → left ++ future ≡ stream m others → AreCut m limits left → HasMore m others left
  has_more [] left future each whole cut = tt
  has_more (g ∷ gs) left future each whole cut = none_whole (answer_at m limits) IsTruncated bytes_of sent_of laws.goes left future g gs cut.fault (again_of g each.0) whole cut.is

  -- its next answer has no fault,
  pub no_bad : (others : List Given) (left future : List ℕ) (f : Fault) → AllByRecursion (IsGenuine m limits histories) others → left ++ future ≡ stream m others → answer_at m limits left ≡ Err f → (f.kind ≡ Truncated → ⊥) → ⊥
  no_bad others left future f each whole is other = no_fault (answer_at m limits) IsTruncated bytes_of sent_of laws.goes left future others f (are_again others each) whole is other

  -- an answer that is read is the first of a stream
  pub record IsFirst (sent : List Given) (a : SentAnswer) (left : List ℕ) : Type 0 where
    pub first : Given
    pub others : List Given
    pub all : sent ≡ first ∷ others
    pub same : first.sent ≡ a
    pub genuine : IsGenuine m limits histories first
    pub rest_genuine : AllByRecursion (IsGenuine m limits histories) others
    pub whole : left ≡ stream m others

  pub first_of : (sent : List Given) (left future : List ℕ) (a : SentAnswer) (rest : List ℕ) → AllByRecursion (IsGenuine m limits histories) sent → left ++ future ≡ stream m sent → answer_at m limits left ≡ Ok (a, rest) → IsFirst sent a (rest ++ future)
  first_of sent left future a rest each whole is =
      let one = others_of (answer_at m limits) IsTruncated bytes_of sent_of laws.goes left future sent (a ∷ []) rest (are_again sent each) whole (rest, is, refl) in
      with_first one.taken one.others one.values one.all one.whole
    where
      with_first : (taken others : List Given) → map sent_of taken ≡ a ∷ [] → sent ≡ taken ++ others → rest ++ future ≡ stream m others → IsFirst sent a (rest ++ future)
      with_first [] others values all left = cc
      with_first (g ∷ h ∷ more) others values all left = cc
      with_first (g ∷ []) others values all left =
          let parts = front_genuine (g ∷ []) others (subst (AllByRecursion (IsGenuine m limits histories)) all each) in
          record { first = g; others = others; all = all; same = (let same : g.sent ≡ a = cc in same); genuine = parts.0.0; rest_genuine = parts.1; whole = left }

  -- it has the size of what is shown, where it fits
  pub no_other_size : (others : List Given) (left future : List ℕ) (t : Shown) (a : SentAnswer) (rest : List ℕ) → AllByRecursion (IsGenuine m limits histories) others → left ++ future ≡ stream m others → IsPictureNamed histories t → answer_at m limits left ≡ Ok (a, rest) → has_other_size t a ≡ true → ⊥
  no_other_size others left future t a rest each whole named is other =
      let one = first_of others left future a rest each whole is in
      true≢false (sym other ∙ ap (has_other_size t) (sym one.same) ∙ (taken_as m limits histories t one.first named one.genuine).1)

-- what a client makes of a stream whose answers it has taken up to mid
module _ {W : Type 0} (f : W → List ℕ → ℕ) (histories : ℕ → ℕ → FullScreen) (sent : List Given) (future : List ℕ) (old : ClientValue W) (piece : List ℕ) (laws : Laws (f old.surface.widths) old.limits) (follows : ClientFollows f histories sent old (piece ++ future)) (mid : ClientValue W) (taken_all : HasTaken f (with_bytes old piece) mid) where
  abbrev m : List ℕ → ℕ
  m = f old.surface.widths

  it : IsTaken m old.limits histories laws sent (length taken_all.given) (shown_by old) (shown_by mid) (mid.kept ++ future)
  it = is_taken m old.limits histories laws sent (shown_by old) (shown_by mid) (old.kept ++ piece) future mid.kept taken_all.given follows.genuine (append_assoc old.kept piece future ∙ follows.whole) follows.named taken_all.takes

  same : f mid.surface.widths ≡ m
  same = ap f taken_all.settings.widths

  read_same : answer_at (f mid.surface.widths) mid.limits mid.kept ≡ answer_at m old.limits mid.kept
  read_same = rw (same, taken_all.settings.limits) refl

  stopped_as : (new : ClientValue W) → shown_by new ≡ shown_by mid → HasStopped f histories sent old new
  stopped_as new same = record { given = it.given; others = it.others; all = it.all; shows = inl (same ∙ it.shows); named = subst (IsPictureNamed histories) (sym same) it.named }

  forgotten : (new : ClientValue W) → new.number ≡ 0 → HasStopped f histories sent old new
  forgotten new none = record { given = it.given; others = it.others; all = it.all; shows = inr none; named = record { named = λ some. absurd (some none) } }

  cut_same : AreCut (f mid.surface.widths) mid.limits mid.kept → AreCut m old.limits mid.kept
  cut_same cut = record { fault = cut.fault; is = sym read_same ∙ cut.is; cut = cut.cut }

  waits_on : (count : ℕ) → count ≡ length taken_all.given → AreCut (f mid.surface.widths) mid.limits mid.kept → ClientHasFollowed f histories sent future count old mid
  waits_on count all cut = record {
    given = it.given;
    counted = all ∙ sym it.counted;
    others = it.others;
    all = it.all;
    left = rw same it.whole;
    no_whole = rw same (has_more m old.limits histories laws it.others mid.kept future it.genuine it.whole (cut_same cut));
    shows = it.shows;
    named = it.named;
  }

  ended : (result : Result ℕ ClientError) (new : ClientValue W) → EndsAfter f mid (length taken_all.given) result new → ClientFollowsTo f histories sent future old result new
  ended (Ok n) new ends = subst (ClientHasFollowed f histories sent future n old) (sym ends.1.1) (waits_on n ends.0 ends.1.0)
  ended (Err (errors.Fault x)) new ends = no_bad m old.limits histories laws it.others mid.kept future x it.genuine it.whole (sym read_same ∙ ends.0) ends.1
  ended (Err (errors.Size at)) new ends = no_other_size m old.limits histories laws it.others mid.kept future (shown_by mid) ends.0 ends.1 it.genuine it.whole it.named (sym read_same ∙ ends.2) ends.3
  ended (Err errors.Numbers) new ends = forgotten new (ap (λ (c : ClientValue W). c.number) ends.4)
  ended (Err errors.Memory) new (inl ends) = stopped_as new (ap shown_by ends)
  ended (Err errors.Memory) new (inr ends) = forgotten new ends.number

-- what it makes of bytes that are fed
module _ {W : Type 0} (f : W → List ℕ → ℕ) (histories : ℕ → ℕ → FullScreen) (sent : List Given) (future : List ℕ) (old : ClientValue W) (piece : List ℕ) (laws : Laws (f old.surface.widths) old.limits) where
  some_error : (e : ClientError) → old.stopped ≡ Some e → old.stopped ≡ None → ⊥
  some_error e a b = let bad : Some e ≡ None = sym a ∙ b in cc

  refused : {new : ClientValue W} → shown_by new ≡ shown_by old → IsPictureNamed histories (shown_by old) → HasStopped f histories sent old new
  refused same named = record { given = []; others = sent; all = refl; shows = inl same; named = subst (IsPictureNamed histories) (sym same) named }

  pub follows_to : (result : Result ℕ ClientError) (new : ClientValue W) → Feeds f old piece result new → ClientFollows f histories sent old (piece ++ future) → ClientFollowsTo f histories sent future old result new
  follows_to result new (inl stopped) follows = absurd (some_error stopped.0 stopped.1 follows.reading)
  follows_to result new (inr (inl none)) follows = subst (λ (r : Result ℕ ClientError). ClientFollowsTo f histories sent future old r new) (sym none.1) (refused (ap shown_by none.2) follows.named)
  follows_to result new (inr (inr reads)) follows = ended f histories sent future old piece laws follows reads.1.mid reads.1.has_taken result new reads.1.ends

-- what it makes of the next answer of the bytes that it keeps
module _ {W : Type 0} (f : W → List ℕ → ℕ) (histories : ℕ → ℕ → FullScreen) (sent : List Given) (future : List ℕ) (old : ClientValue W) (laws : Laws (f old.surface.widths) old.limits) (follows : ClientFollows f histories sent old future) where
  abbrev m_now : List ℕ → ℕ
  m_now = f old.surface.widths

  module _ (new : ClientValue W) (a : SentAnswer) (read : answer_at m_now old.limits old.kept ≡ Ok (a, new.kept)) (settings : SameSettings old new) where
    one : IsFirst m_now old.limits histories laws sent a (new.kept ++ future)
    one = first_of m_now old.limits histories laws sent old.kept future a new.kept follows.genuine follows.whole read

    as_given : shown_after m_now (shown_by old) a ≡ after (shown_by old) one.first
    as_given = ap (shown_after m_now (shown_by old)) (sym one.same) ∙ (taken_as m_now old.limits histories (shown_by old) one.first follows.named one.genuine).0

    abbrev first_taken : IsPictureNamed histories (shown_by new) → HasTakenFirst f histories sent future new
    first_taken named = record {
      first = one.first;
      others = one.others;
      all = one.all;
      follows = record {
        reading = settings.stopped ∙ follows.reading;
        genuine = subst (λ (l : Limits). AllByRecursion (IsGenuine (f new.surface.widths) l histories) one.others) (sym settings.limits)
            (subst (λ (k : List ℕ → ℕ). AllByRecursion (IsGenuine k old.limits histories) one.others) (sym (ap f settings.widths)) one.rest_genuine);
        whole = subst (λ (k : List ℕ → ℕ). new.kept ++ future ≡ stream k one.others) (sym (ap f settings.widths)) one.whole;
        named = named;
      };
    }

    taken_next : fits (shown_by old) a ≡ true → shown_by new ≡ shown_after m_now (shown_by old) a → FollowsNext f histories sent future old (Ok (Some shows.Shown)) new
    taken_next fit is =
        let shown : shown_by new ≡ after (shown_by old) one.first = is ∙ as_given in
        let named : IsPictureNamed histories (after (shown_by old) one.first) = named_after m_now old.limits histories (shown_by old) one.first follows.named one.genuine in
        (first_taken (subst (IsPictureNamed histories) (sym shown) named), ap (fits (shown_by old)) one.same ∙ fit, shown)

    stale_next : (at : ℕ) → fits (shown_by old) a ≡ false → at ≡ stale_place (shown_by old) a → shown_by new ≡ shown_by old → FollowsNext f histories sent future old (Ok (Some (shows.Stale at))) new
    stale_next at unfit place same =
        (first_taken (subst (IsPictureNamed histories) (sym same) follows.named), ap (fits (shown_by old)) one.same ∙ unfit, place ∙ ap (stale_place (shown_by old)) (sym one.same), same)

  kept_as : (new : ClientValue W) → shown_by new ≡ shown_by old → HasKept f histories sent old new
  kept_as new same = record { shows = inl same; named = subst (IsPictureNamed histories) (sym same) follows.named }

  kept_none : (new : ClientValue W) → new.number ≡ 0 → HasKept f histories sent old new
  kept_none new none = record { shows = inr none; named = record { named = λ some. absurd (some none) } }

  next_of : (result : Result (Option Taken) ClientError) (new : ClientValue W) → TakesNextOrNone f old result new → FollowsNext f histories sent future old result new
  next_of (Ok (Some shows.Shown)) new s = taken_next new s.0 s.1 s.5 s.2 s.4
  next_of (Ok (Some (shows.Stale at))) new s =
      let settings : SameSettings old new = record { widths = ap (λ (c : ClientValue W). c.surface.widths) s.4; limits = ap (λ (c : ClientValue W). c.limits) s.4; stopped = ap (λ (c : ClientValue W). c.stopped) s.4 } in
      stale_next new s.0 s.1 settings at s.2 s.3 (ap shown_by s.4)
  next_of (Ok None) new s = (has_more m_now old.limits histories laws sent old.kept future follows.genuine follows.whole s.0, s.1)
  next_of (Err (errors.Fault x)) new s = no_bad m_now old.limits histories laws sent old.kept future x follows.genuine follows.whole s.0 s.1
  next_of (Err (errors.Size at)) new s = no_other_size m_now old.limits histories laws sent old.kept future (shown_by old) s.0 s.1 follows.genuine follows.whole follows.named s.2 s.3
  next_of (Err errors.Numbers) new s = kept_none new (ap (λ (c : ClientValue W). c.number) s.4)
  next_of (Err errors.Memory) new (inl s) = kept_as new (ap shown_by s)
  next_of (Err errors.Memory) new (inr s) = kept_none new s.number

  open_next : (result : Result (Option Taken) ClientError) (new : ClientValue W) → TakesNext f old result new → TakesNextOrNone f old result new
  open_next result new (inl stopped) = absurd (let bad : Some stopped.0 ≡ None = sym stopped.1 ∙ follows.reading in let no_way : ⊥ = cc in no_way)
  open_next result new (inr s) = s.1

  pub follows_next : (result : Result (Option Taken) ClientError) (new : ClientValue W) → TakesNext f old result new → FollowsNext f histories sent future old result new
  follows_next result new t = next_of result new (open_next result new t)
