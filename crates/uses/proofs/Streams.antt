-- A stream that comes in two pieces, and answers that stay genuine while their source goes on.
use Rattle.std.proofs.Common.{◌≡◌, ◌⊎◌, ℕ, ◌+◌, ◌-◌, ◌≤◌, ◌^◌, List, [], ◌∷◌, ◌++◌, length, length-append, append_assoc, append-nil, refl, sym, ap, subst, ◌∙◌, arith, inl, inr}
use Rattle.std.proofs.lemmas.Nat.{mul-le}
use Rattle.std.specs.List.{AllByRecursion}
use Rattle.std.specs.Prelude.{Result, Ok, Err}
use Rattle.termwiz_share.specs.Client.{ClientValue, SameSettings, Shown, shown_by}
use Rattle.termwiz_share.specs.Feeding.{Feeds}
use Rattle.termwiz_share.specs.Histories.{ClientFollows, ClientFollowsTo, Given, ClientHasFollowed, HasMore, HasStopped, IsGenuine, after, after_all, stream}
use Rattle.termwiz_share.specs.Source.{IsResponse, SourceValue, sent_by}
use Rattle.termwiz_share.specs.declared.error.ClientError.{ClientError}
use Rattle.termwiz_share.specs.declared.error.ClientError.TheVariants as errors
use Rattle.termwiz_surface.specs.{Carries, FullScreen, IsPastOf, full_of, full_screens, next_number}
use Rattle.termwiz_wire.specs.Sent.{answer}
use Rattle.termwiz_wire.specs.Within.{IsWithinLimits}
use Rattle.termwiz_wire.specs.declared.fault.Limits.{Limits}
use Rattle.termwiz_wire.specs.declared.sent.Ask.{Ask}
use Rattle.uses.specs.Streams.{ShowsLast}

-- ---- one part of a list of answers after another

pub after_append : (s : Shown) (given more : List Given) → after_all s (given ++ more) ≡ after_all (after_all s given) more
after_append s [] more = refl
after_append s (g ∷ given) more = after_append (after s g) given more

all_right : (P : Given → Type 0) (xs ys : List Given) → AllByRecursion P (xs ++ ys) → AllByRecursion P ys
all_right P [] ys all = all
all_right P (x ∷ xs) ys all = all_right P xs ys all.1

-- ---- one piece of a stream after another

-- how it ended, without the count
abbrev pub done : Result ℕ ClientError → Result (Unit {0}) ClientError
done (Ok n) = Ok tt
done (Err e) = Err e

module _ {W : Type 0} (f : W → List ℕ → ℕ) (histories : ℕ → ℕ → FullScreen) where
  -- a client that reads its bytes goes on with the settings that it had
  reads_on : (old new : ClientValue W) (piece : List ℕ) (n : ℕ) → Feeds f old piece (Ok n) new → SameSettings old new
  reads_on old new piece n (inl stopped) = let is : Ok n ≡ Err stopped.0 = stopped.2 in absurd (let bad : ⊥ = cc in bad)
  reads_on old new piece n (inr (inl none)) = let is : Ok n ≡ Err errors.Memory = none.1 in absurd (let bad : ⊥ = cc in bad)
  reads_on old new piece n (inr (inr reads)) =
      let settings = reads.1.has_taken.settings in
      let same : new ≡ reads.1.mid = reads.1.ends.1.1 in
      record {
        widths = ap (λ (c : ClientValue W). c.surface.widths) same ∙ settings.widths;
        limits = ap (λ (c : ClientValue W). c.limits) same ∙ settings.limits;
        stopped = ap (λ (c : ClientValue W). c.stopped) same ∙ settings.stopped;
      }

  module _ (sent : List Given) (old mid : ClientValue W) where
    -- it follows the answers that are left
    followed_on : (future piece : List ℕ) (n : ℕ) → ClientFollows f histories sent old (piece ++ future) → Feeds f old piece (Ok n) mid → (h : ClientHasFollowed f histories sent future n old mid) → ClientFollows f histories h.others mid future
    followed_on future piece n follows feeds h =
        let same = reads_on old mid piece n feeds in
        let genuine : AllByRecursion (IsGenuine (f old.surface.widths) old.limits histories) (h.given ++ h.others) = subst (AllByRecursion (IsGenuine (f old.surface.widths) old.limits histories)) h.all follows.genuine in
        record {
          reading = same.stopped ∙ follows.reading;
          genuine = subst (λ (w : W). AllByRecursion (IsGenuine (f w) mid.limits histories) h.others) (sym same.widths)
              (subst (λ (l : Limits). AllByRecursion (IsGenuine (f old.surface.widths) l histories) h.others) (sym same.limits)
              (all_right (IsGenuine (f old.surface.widths) old.limits histories) h.given h.others genuine));
          whole = h.left;
          named = h.named;
        }

    -- no answer of a whole stream is left
    none_left : (m : List ℕ → ℕ) (others : List Given) (kept : List ℕ) → kept ++ [] ≡ stream m others → HasMore m others kept → others ≡ []
    none_left m [] kept left few = refl
    none_left m (g ∷ others) kept left few = absurd (omega (arith, few, ap length left, length-append kept [], length-append (answer m g.sent) (stream m others)))

    module _ (future : List ℕ) (n : ℕ) (h : ClientHasFollowed f histories sent future n old mid) (new : ClientValue W) where
      shows_last : (k : ℕ) → ClientHasFollowed f histories h.others [] k mid new → shown_by new ≡ after_all (shown_by old) sent
      shows_last k more =
          let none : more.others ≡ [] = none_left (f new.surface.widths) more.others new.kept more.left more.no_whole in
          let rest : more.given ≡ h.others = sym (append-nil more.given) ∙ ap (λ (l : List Given). more.given ++ l) (sym none) ∙ sym more.all in
          more.shows
          ∙ ap (λ (s : Shown). after_all s more.given) h.shows
          ∙ sym (after_append (shown_by old) h.given more.given)
          ∙ ap (λ (l : List Given). after_all (shown_by old) (h.given ++ l)) rest
          ∙ ap (after_all (shown_by old)) (sym h.all)

      stopped_later : HasStopped f histories h.others mid new → HasStopped f histories sent old new
      stopped_later stopped = record {
        given = h.given ++ stopped.given;
        others = stopped.others;
        all = h.all ∙ ap (λ (l : List Given). h.given ++ l) stopped.all ∙ sym (append_assoc h.given stopped.given stopped.others);
        shows = shows stopped.shows;
        named = stopped.named;
      }
        where
          shows : (shown_by new ≡ after_all (shown_by mid) stopped.given) ⊎ (new.number ≡ 0) → (shown_by new ≡ after_all (shown_by old) (h.given ++ stopped.given)) ⊎ (new.number ≡ 0)
          shows (inl is) = inl (is ∙ ap (λ (s : Shown). after_all s stopped.given) h.shows ∙ sym (after_append (shown_by old) h.given stopped.given))
          shows (inr none) = inr none

      stops_later : (e : ClientError) → ClientFollowsTo f histories h.others [] mid (Err e) new → ShowsLast f histories sent old (Err e) new
      stops_later errors.Memory stopped = stopped_later stopped
      stops_later errors.Numbers stopped = stopped_later stopped
      stops_later (errors.Fault x) stopped = stopped
      stops_later (errors.Size at) stopped = stopped

    -- what the two pieces of a stream make of a client
    module _ (front back stream : List ℕ) (parts : front ++ back ≡ stream) (n : ℕ) (feeds : Feeds f old front (Ok n) mid)
        (takes : ClientFollows f histories sent old (front ++ back) → ClientFollowsTo f histories sent back old (Ok n) mid)
        (follows : ClientFollows f histories sent old stream) where
      first : ClientFollows f histories sent old (front ++ back)
      first = subst (λ (b : List ℕ). ClientFollows f histories sent old b) (sym parts) follows

      taken : ClientHasFollowed f histories sent back n old mid
      taken = takes first

      last : ClientFollows f histories taken.others mid (back ++ [])
      last = subst (λ (b : List ℕ). ClientFollows f histories taken.others mid b) (sym (append-nil back)) (followed_on back front n first feeds taken)

      pub ends_last : (r : Result ℕ ClientError) (new : ClientValue W) → ((others : List Given) → ClientFollows f histories others mid (back ++ []) → ClientFollowsTo f histories others [] mid r new) → ShowsLast f histories sent old (done r) new
      ends_last (Ok k) new later = shows_last back n taken new k (later taken.others last)
      ends_last (Err e) new later = stops_later back n taken new e (later taken.others last)

-- ---- what a source gave is genuine while it goes on

module _ {W : Type 0} (f : W → List ℕ → ℕ) (s : SourceValue W) (ask : Ask) (bytes : List ℕ) (response : IsResponse f s ask bytes) where
  abbrev pub given_by : Given
  given_by = record { sent = sent_by s.number response.given; shown = full_of s.surface }

  module _ (past later : ℕ → FullScreen) (is_past : IsPastOf full_screens f past s.surface) (alike : (k : ℕ) → k ≤ next_number s.surface.log → later k ≡ past k) where
    carries : Carries full_screens (f s.surface.widths) later response.given (full_of s.surface)
    carries =
        let now = response.carries past is_past in
        record {
          named = record { named = λ some. alike response.given.number (omega (arith, response.number)) ∙ now.named.named some };
          repaint = now.repaint;
          delta = λ some.
              let from = now.delta some in
              (from.0, rw (alike response.given.base (omega (arith, from.0, response.number))) from.1);
        }

    module _ (limits : Limits) (cells : 2 ^ 64 ≤ limits.cells + 1) (rows : 2 ^ 64 ≤ limits.rows + 1) (few : length bytes ≤ limits.bytes) where
      allowed : IsWithinLimits (f s.surface.widths) limits (sent_by s.number response.given)
      allowed =
          let form = response.is_sent.well_formed in
          record {
            screen = record {
              cells = omega (arith, cells, mul-le response.given.width response.given.height (2 ^ 32 - 1) (2 ^ 32 - 1) (omega (arith, form.fits)) (omega (arith, form.fits_height)));
              rows = omega (arith, rows, form.fits_height);
            };
            bytes = omega (arith, few, ap length response.encoded);
            borne = response.borne;
          }

      pub genuine_in : (m : List ℕ → ℕ) → m ≡ f s.surface.widths → (histories : ℕ → ℕ → FullScreen) → histories s.number ≡ later → IsGenuine m limits histories given_by
      genuine_in m one histories is =
          let same : Carries full_screens (f s.surface.widths) (histories s.number) response.given (full_of s.surface) = subst (λ (names : ℕ → FullScreen). Carries full_screens (f s.surface.widths) names response.given (full_of s.surface)) (sym is) carries in
          subst (λ (v : List ℕ → ℕ). IsGenuine v limits histories given_by) (sym one) (record { is_sent = response.is_sent; within = allowed; sized = response.sized; carries = same })
