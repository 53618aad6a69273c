-- What a source keeps of the answers that it gave.
use Rattle.std.specs.Prelude.{◌≡◌, ◌⊎◌, ℕ, ◌-◌, ◌^◌, Bool, true, false, List, [], min}
use Rattle.termwiz_share.specs.Source.{PutsDelta, SourceValue, bytes_of, most_bytes, repaint_answer, sent_by}
use Rattle.termwiz_share.specs.declared.responses.Responses.{Responses}
use Rattle.termwiz_wire.specs.Sent.{IsSent}

-- the bytes that are kept of the delta, or of the repaint
abbrev pub chosen : Responses → Bool → List ℕ
chosen r true = r.delta.items
chosen r false = r.repaint.items

-- the bytes that are kept of the delta, or none of the repaint
abbrev pub delta_part : Responses → Bool → List ℕ
delta_part r true = r.delta.items
delta_part r false = []

module _ {W : Type 0} (measure_of : W → List ℕ → ℕ) where
  -- no bytes, or those of the delta from this number on
  abbrev pub HasDelta : SourceValue W → ℕ → List ℕ → Type 0
  HasDelta s n bytes =
      (bytes ≡ []) ⊎
      PutsDelta measure_of s n (min (most_bytes s.surface.width s.surface.height) (2 ^ 64 - 1))
      [] true bytes

  -- no bytes, or those of its repaint
  abbrev pub HasRepaint : SourceValue W → List ℕ → Type 0
  HasRepaint s bytes =
      (bytes ≡ []) ⊎
      ((bytes ≡ bytes_of measure_of s (repaint_answer s.surface)) ×
      IsSent (measure_of s.surface.widths) (sent_by s.number (repaint_answer s.surface)))

  -- what is kept are answers of the source as it is
  abbrev pub HasResponses : SourceValue W → Responses → Type 0
  HasResponses s r =
      HasDelta s r.from r.delta.items × HasRepaint s r.repaint.items
