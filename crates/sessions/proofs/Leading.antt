-- What a source answers leads on each client that it serves.
use Rattle.std.proofs.Common.{◌≡◌, ◌⊎◌, ℕ, ◌<◌, ◌∙◌, inl, inr, true, List, [], refl, sym, ap, subst, arith}
use Rattle.std.specs.Prelude.{◌==◌, None}
use Rattle.std.proofs.lemmas.Bool.{cases_Bool, eqb-true, true≢false}
use Rattle.termwiz_cell.specs.declared.emoji.UnicodeWidths.{UnicodeWidths}
use Rattle.termwiz_screen.specs.Log.{next_number}
use Rattle.termwiz_share.specs.Client.{ClientValue, Shown, ask_of, shown_by}
use Rattle.termwiz_share.specs.Serving.{KeepsClients, Serves}
use Rattle.termwiz_share.specs.Source.{IsResponse}
use Rattle.termwiz_share.proofs.Served.{names_now, response_taken}
use Rattle.termwiz_surface.specs.Surface.{blank_surface}
use Rattle.termwiz_wire.specs.declared.sent.Ask.{Ask}
use Rattle.sessions.specs.Frames.{TakesFrame, first_shown, shown_with}
use Rattle.sessions.specs.SendSteps.{HasNamed}
use Rattle.sessions.specs.Sending.{Sender, frame_of, unicode_measure}
use Rattle.sessions.specs.ViewRun.{unicode}

abbrev pub Viewer : Type 0
Viewer = ClientValue UnicodeWidths

-- one that has taken no answer
abbrev pub nobody : Viewer
nobody = record { surface = blank_surface unicode 1 1 true; source = 0; number = 0; kept = []; limits = record { cells = 0; rows = 0; bytes = 0 }; stopped = None }

-- a response to what was sent last is one to what the client asks
module _ (s : Sender) (n : ℕ) (v : Shown) (named : HasNamed s n v) where
  number_is : named.client.number ≡ n
  number_is = ap (λ (x : Shown). x.number) named.shows ∙ named.number

  source_is : (n ≡ 0 → ⊥) → named.client.source ≡ s.number
  source_is some = ap (λ (x : Shown). x.source) named.shows ∙ named.own some

  from_asked : (ask : Ask) → ask.number ≡ n → (base : ℕ) → (base ≡ 0) ⊎ ((ask.source ≡ s.number) × (base ≡ ask.number)) → (base ≡ 0) ⊎ ((named.client.source ≡ s.number) × (base ≡ named.client.number))
  from_asked ask asks base (inl none) = inl none
  from_asked ask asks base (inr from) = elim (cases_Bool (n == 0)) [
    | inl zero ↦ inl (from.1 ∙ asks ∙ eqb-true n 0 zero)
    | inr some ↦ inr (source_is (λ z. true≢false (sym (ap (λ (k : ℕ). k == 0) z) ∙ some)), from.1 ∙ asks ∙ sym number_is)
  ]

  abbrev as_asked : (ask : Ask) → ask.number ≡ n → (bytes : List ℕ) → IsResponse unicode_measure s ask bytes → IsResponse unicode_measure s (ask_of named.client) bytes
  as_asked ask asks bytes r = record {
    given = r.given;
    encoded = r.encoded;
    is_sent = r.is_sent;
    width = r.width;
    height = r.height;
    sized = r.sized;
    number = r.number;
    from = from_asked ask asks r.given.base r.from;
    carries = r.carries;
    few = r.few;
    borne = r.borne;
  }

module _ (s : Sender) (n : ℕ) (v : Shown) (named : HasNamed s n v) (ask : Ask) (asks : ask.number ≡ n) (bytes : List ℕ) (r : IsResponse unicode_measure s ask bytes) where
  pub given_leads : TakesFrame v (frame_of s ask bytes r)
  given_leads =
      let took = response_taken unicode_measure s named.client named.serves bytes (as_asked s n v named ask asks bytes r) in
      subst (λ (x : Shown). TakesFrame x (frame_of s ask bytes r)) named.shows (record { form = r.is_sent; borne = r.borne; fresh = took.0; size = took.1; leads = took.2 })

  -- its number names what the source shows
  pub given_named : HasNamed s (next_number s.surface.log) (shown_with (frame_of s ask bytes r))
  given_named = record {
    client = record { surface = s.surface; source = s.number; number = next_number s.surface.log; kept = []; limits = record { cells = 0; rows = 0; bytes = 0 }; stopped = None };
    shows = ap (λ (k : ℕ). record { picture = (frame_of s ask bytes r).shown; source = s.number; number = k }) (sym r.number);
    serves = record {
      past = named.serves.past;
      is_past = named.serves.is_past;
      one_measure = refl;
      not_ahead = λ own. omega arith;
      named = λ own. names_now unicode_measure s named.client named.serves bytes (as_asked s n v named ask asks bytes r);
    };
    number = r.number;
    own = λ some. refl;
  }

-- what was named stays so
pub still_named : (s t : Sender) (n : ℕ) (v : Shown) → t.number ≡ s.number → KeepsClients unicode_measure s t → HasNamed s n v → HasNamed t n v
still_named s t n v same keeps named = record {
  client = named.client;
  shows = named.shows;
  serves = keeps named.client named.serves;
  number = named.number;
  own = λ some. named.own some ∙ sym same;
}

-- a client that has taken no answer shows what no number names
pub first_named : (s : Sender) → Serves unicode_measure s nobody → HasNamed s 0 first_shown
first_named s serves = record { client = nobody; shows = refl; serves = serves; number = refl; own = λ some. absurd (some refl) }
