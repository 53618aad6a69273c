-- What a client makes of the bytes that it is fed.
use Rattle.std.specs.Prelude.{◌≡◌, ◌≢◌, ◌⊎◌, ℕ, ◌+◌, ◌≤◌, ◌^◌, true, false, Option, Some, None, IfSome, List, [], ◌∷◌, ◌++◌, drop, length, Result, Ok, Err, if◌then◌else◌}
use Rattle.cbor.specs.declared.error.FaultKind.TheVariants.{Truncated}
use Rattle.termwiz_screen.specs.Log.{next_number}
use Rattle.termwiz_surface.specs.Answer.{is_repaint}
use Rattle.termwiz_wire.specs.Answers.{answer_at}
use Rattle.termwiz_wire.specs.Lent.{lent_answer}
use Rattle.termwiz_wire.specs.Resuming.{HasBegun, LeadsOn}
use Rattle.termwiz_wire.specs.declared.decode.begun.Begun.{Begun}
use Rattle.termwiz_wire.specs.declared.fault.Fault.{Fault}
use Rattle.termwiz_wire.specs.declared.fault.Limits.{Limits}
use Rattle.termwiz_wire.specs.declared.fault.WireError.{WireError}
use Rattle.termwiz_wire.specs.declared.fault.WireError.TheVariants as wire_errors
use Rattle.termwiz_wire.specs.declared.sent.LentAnswer.{LentAnswer}
use Rattle.termwiz_wire.specs.declared.sent.SentAnswer.{SentAnswer}
use Rattle.termwiz_share.specs.Client.{ClientValue, DisplayValue, SameSettings, Shown, display_of, fits, has_other_size, shown_after, shown_by, shown_on, size_place, stale_place}
use Rattle.termwiz_share.specs.declared.error.ClientError.{ClientError}
use Rattle.termwiz_share.specs.declared.error.ClientError.TheVariants as errors
use Rattle.termwiz_share.specs.declared.taken.Taken.{Taken}
use Rattle.termwiz_share.specs.declared.taken.Taken.TheVariants as shows

module _ (measure : List ℕ → ℕ) (limits : Limits) where
  -- a client that shows s takes the answers that are decoded from the front of the bytes, one after
  -- another, each in its size; t is shown then, and these bytes are left
  abbrev pub TakesAll : Shown → List ℕ → List SentAnswer → Shown → List ℕ → Type 0
  TakesAll s bytes [] t rest = (bytes ≡ rest) × (t ≡ s)
  TakesAll s bytes (a ∷ more) t rest =
      (next : List ℕ) × (answer_at measure limits bytes ≡ Ok (a, next)) ×
      (has_other_size s a ≡ false) × TakesAll (shown_after measure s a) next more t rest

  -- more bytes may make an answer
  pub record AreCut (bytes : List ℕ) : Type 0 where
    pub fault : Fault
    pub is : answer_at measure limits bytes ≡ Err fault
    pub cut : fault.kind ≡ Truncated

  -- an answer is decoded, or the bytes make no whole one, or it has a fault, or memory is refused
  abbrev pub DecodesNext : List ℕ → Result (Option (LentAnswer × ℕ)) WireError → Type 0
  DecodesNext bytes (Ok (Some x)) =
      answer_at measure limits bytes ≡ Ok (lent_answer x.0, drop x.1 bytes)
  DecodesNext bytes (Ok None) = AreCut bytes
  DecodesNext bytes (Err (wire_errors.Fault f)) =
      (answer_at measure limits bytes ≡ Err f) × (f.kind ≢ Truncated)
  DecodesNext bytes (Err wire_errors.Memory) = Unit {0}

  -- where they make no whole one, all that they have whole is begun, and leads on, and else nothing
  -- is
  abbrev pub HasBegunNext :
      List ℕ → Result (Option (LentAnswer × ℕ)) WireError → Option Begun → Type 0
  HasBegunNext bytes (Ok None) begun =
      IfSome begun (λ b. LeadsOn measure limits b bytes) × HasBegun measure limits begun bytes
  HasBegunNext bytes _ begun = begun ≡ None

-- an answer of another size stops a client
abbrev pub refusal : Option ClientError → ClientError → Option ClientError
refusal stopped (errors.Size at) = Some (errors.Size at)
refusal stopped e = stopped

module _ {W : Type 0} where
  -- the client takes no more bytes, for this reason
  abbrev pub stopped_by : ClientValue W → ClientError → ClientValue W
  stopped_by c e = record c { stopped = Some e }

  -- it has these bytes after those that it had
  abbrev pub with_bytes : ClientValue W → List ℕ → ClientValue W
  with_bytes c piece = record c { kept = c.kept ++ piece }

  -- bytes are kept, or it takes none: it has stopped before, or stops for want of memory
  abbrev pub KeepsPiece :
      ClientValue W → List ℕ → Result (Unit {0}) ClientError → ClientValue W → Type 0
  KeepsPiece old piece (Ok u) new = (old.stopped ≡ None) × (new ≡ with_bytes old piece)
  KeepsPiece old piece (Err e) new =
      ((old.stopped ≡ Some e) × (new ≡ old)) ⊎
      ((old.stopped ≡ None) × (e ≡ errors.Memory) × (new ≡ stopped_by old errors.Memory))

  -- it shows what it showed, and that has no source and no number
  abbrev pub unnamed : ClientValue W → ClientValue W
  unnamed c = record c { source = 0; number = 0 }

  abbrev pub nameless : DisplayValue W → DisplayValue W
  nameless d = record d { source = 0; number = 0 }

  -- a display may show anything, which has no source and no number
  pub record IsNameless (old new : DisplayValue W) : Type 0 where
    pub source : new.source ≡ 0
    pub number : new.number ≡ 0
    pub widths : new.surface.widths ≡ old.surface.widths

  -- it may show anything, which has no source and no number
  pub record HasForgotten (old new : ClientValue W) : Type 0 where
    pub source : new.source ≡ 0
    pub number : new.number ≡ 0
    pub kept : new.kept ≡ old.kept
    pub settings : SameSettings old new

  -- the changes of an answer would pass the greatest number of the client's own surface, of which
  -- a repaint takes one more
  pub record LacksNumbers (d : DisplayValue W) (a : SentAnswer) : Type 0 where
    pub fits : fits (shown_on d) a ≡ true
    pub passes :
        2 ^ 64 ≤
        next_number d.surface.log + length a.answer.changes +
        (if is_repaint a.answer then 1 else 0)

  module _ (measure_of : W → List ℕ → ℕ) where
    -- a display takes an answer, or leaves one that doesn't fit
    abbrev pub DisplayTakes :
        DisplayValue W → SentAnswer → Result Taken ClientError → DisplayValue W → Type 0
    DisplayTakes old a (Ok shows.Shown) new =
        (fits (shown_on old) a ≡ true) × (has_other_size (shown_on old) a ≡ false) ×
        (shown_on new ≡ shown_after (measure_of old.surface.widths) (shown_on old) a) ×
        (new.surface.widths ≡ old.surface.widths)
    DisplayTakes old a (Ok (shows.Stale at)) new =
        (fits (shown_on old) a ≡ false) × (at ≡ stale_place (shown_on old) a) × (new ≡ old)
    DisplayTakes old a (Err (errors.Fault f)) new = ⊥
    DisplayTakes old a (Err (errors.Size at)) new =
        (has_other_size (shown_on old) a ≡ true) × (at ≡ size_place (shown_on old) a) × (new ≡ old)
    DisplayTakes old a (Err errors.Numbers) new = LacksNumbers old a × (new ≡ nameless old)
    DisplayTakes old a (Err errors.Memory) new = (new ≡ old) ⊎ IsNameless old new

    -- what its bytes begin with
    abbrev pub read_of : ClientValue W → Result (SentAnswer × List ℕ) Fault
    read_of c = answer_at (measure_of c.surface.widths) c.limits c.kept

    -- the client takes the next answer, or leaves one that doesn't fit, or there is none
    abbrev pub TakesNextOrNone :
        ClientValue W → Result (Option Taken) ClientError → ClientValue W → Type 0
    TakesNextOrNone old (Ok (Some shows.Shown)) new =
        (a : SentAnswer) × (read_of old ≡ Ok (a, new.kept)) × (fits (shown_by old) a ≡ true) ×
        (has_other_size (shown_by old) a ≡ false) ×
        (shown_by new ≡ shown_after (measure_of old.surface.widths) (shown_by old) a) ×
        SameSettings old new
    TakesNextOrNone old (Ok (Some (shows.Stale at))) new =
        (a : SentAnswer) × (read_of old ≡ Ok (a, new.kept)) × (fits (shown_by old) a ≡ false) ×
        (at ≡ stale_place (shown_by old) a) × (new ≡ record old { kept = new.kept })
    TakesNextOrNone old (Ok None) new =
        AreCut (measure_of old.surface.widths) old.limits old.kept × (new ≡ old)
    TakesNextOrNone old (Err (errors.Fault f)) new =
        (read_of old ≡ Err f) × (f.kind ≢ Truncated) × (new ≡ stopped_by old (errors.Fault f))
    TakesNextOrNone old (Err (errors.Size at)) new =
        (a : SentAnswer) × (rest : List ℕ) × (read_of old ≡ Ok (a, rest)) ×
        (has_other_size (shown_by old) a ≡ true) × (at ≡ size_place (shown_by old) a) ×
        (new ≡ stopped_by old (errors.Size at))
    TakesNextOrNone old (Err errors.Numbers) new =
        (a : SentAnswer) × (rest : List ℕ) × (read_of old ≡ Ok (a, rest)) ×
        LacksNumbers (display_of old) a ×
        (new ≡ unnamed old)
    TakesNextOrNone old (Err errors.Memory) new = (new ≡ old) ⊎ HasForgotten old new

    -- it has taken the answers of its bytes, up to those that are left
    pub record HasTaken (old new : ClientValue W) : Type 0 where
      pub given : List SentAnswer
      pub takes :
          TakesAll (measure_of old.surface.widths) old.limits (shown_by old) old.kept given
          (shown_by new) new.kept
      pub settings : SameSettings old new

    -- how it ends after `count` answers, where there is no next one, or that isn't taken
    abbrev pub EndsAfter : ClientValue W → ℕ → Result ℕ ClientError → ClientValue W → Type 0
    EndsAfter old count (Ok n) new = (n ≡ count) × TakesNextOrNone old (Ok None) new
    EndsAfter old count (Err e) new = TakesNextOrNone old (Err e) new

    -- it takes all answers of its bytes, or stops before one
    pub record TakesWholeOnes (old : ClientValue W) (result : Result ℕ ClientError)
        (new : ClientValue W) : Type 0 where
      pub mid : ClientValue W
      pub has_taken : HasTaken old mid
      pub ends : EndsAfter mid (length has_taken.given) result new

    -- bytes are fed to the client
    abbrev pub Feeds : ClientValue W → List ℕ → Result ℕ ClientError → ClientValue W → Type 0
    Feeds old piece result new =
        -- it takes none, since it has stopped before
        ((e : ClientError) × (old.stopped ≡ Some e) × (result ≡ Err e) × (new ≡ old))
        -- there is no memory for them, so that it stops
        ⊎
        ((old.stopped ≡ None) × (result ≡ Err errors.Memory) ×
        (new ≡ stopped_by old errors.Memory))
        -- or it reads them
        ⊎ ((old.stopped ≡ None) × TakesWholeOnes (with_bytes old piece) result new)

    -- the client takes at most one answer of the bytes that it keeps
    abbrev pub TakesNext :
        ClientValue W → Result (Option Taken) ClientError → ClientValue W → Type 0
    TakesNext old result new =
        -- it takes none, since it has stopped before
        ((e : ClientError) × (old.stopped ≡ Some e) × (result ≡ Err e) × (new ≡ old))
        -- or it reads them
        ⊎ ((old.stopped ≡ None) × TakesNextOrNone old result new)

    -- what comes of a stream that ends here: the client keeps nothing, or a whole answer, or the
    -- bytes make none
    abbrev pub EndsHere : ClientValue W → Result (Unit {0}) ClientError → Type 0
    EndsHere c (Ok u) =
        (c.kept ≡ []) ⊎ ((a : SentAnswer) × (rest : List ℕ) × (read_of c ≡ Ok (a, rest)))
    EndsHere c (Err (errors.Fault f)) = (c.kept ≢ []) × (read_of c ≡ Err f)
    EndsHere c (Err errors.Memory) = Unit {0}
    EndsHere c (Err _) = ⊥
