-- The state of a walk that finds zones.
use Rattle.std.proofs.Common.{◌≡◌, ◌≢◌, List, [], ◌∷◌, ◌++◌, map, refl, sym, ◌∙◌, ap}
use Rattle.std.proofs.lemmas.List.{map-append}
use Rattle.termwiz_storage.specs.Wrapped.{last_index}
use Rattle.termwiz_storage.specs.VisibleCell.{VisibleCell}
use Rattle.termwiz_line.specs.declared.line.line.zones.ZoneRange.{ZoneRange}
use Rattle.termwiz_line.specs.Pieces.{AreEqualBy}
use Rattle.termwiz_line.specs.Zones.{semantic, zone_of, semantic_of, first_index, AreZonesOf}
use Rattle.termwiz_line.proofs.EqualBy.{AreEqualBy-closed, AreEqualBy-takes, AreEqualBy-refuses}
use Rattle.termwiz_line.proofs.Ends.{not_nil-append}
use Rattle.termwiz_line.proofs.Cuts.{IsUnderWay, under_way-start, under_way-grows, under_way-ends, under_way-done}

pub last_index-push : (p : List VisibleCell) (x : VisibleCell) → last_index (p ++ x ∷ []) ≡ x.column
last_index-push [] x = refl
last_index-push (c ∷ []) x = refl
last_index-push (c ∷ d ∷ ds) x = last_index-push (d ∷ ds) x

zone_of-push : (p : List VisibleCell) (x : VisibleCell) → p ≢ [] → zone_of (p ++ x ∷ []) ≡ record { semantic_type = semantic_of p; range = record { start = first_index p; end = x.column } }
zone_of-push [] x s = absurd (s refl)
zone_of-push (c ∷ cs) x s = rw (last_index-push (c ∷ cs) x) refl

-- the state of the loop: zones that are done, and one that may grow
pub record IsZoning (first : VisibleCell) (rest left : List VisibleCell) (zones : List ZoneRange) (zone : ZoneRange) : Type 0 where
  pub before : List (List VisibleCell)
  pub now : List VisibleCell
  pub some : now ≢ []
  pub under_way : IsUnderWay (AreEqualBy semantic) first rest before now left
  pub zones_are : zones ≡ map zone_of before
  pub zone_is : zone ≡ zone_of now

pub zoning-start : (first : VisibleCell) (rest : List VisibleCell) → IsZoning first rest rest [] (zone_of (first ∷ []))
zoning-start first rest = record { before = []; now = first ∷ []; some = λ e. cc; under_way = under_way-start (AreEqualBy semantic) (AreEqualBy-closed semantic) first rest; zones_are = refl; zone_is = refl }

pub zoning-grows : (first : VisibleCell) (rest left : List VisibleCell) (zones : List ZoneRange) (zone : ZoneRange) (x : VisibleCell) → x.cell.attrs.semantic_type ≡ zone.semantic_type → IsZoning first rest (x ∷ left) zones zone → IsZoning first rest left zones (record { semantic_type = zone.semantic_type; range = record { start = zone.range.start; end = x.column } })
zoning-grows first rest left zones zone x e z = record {
  before = z.before;
  now = z.now ++ x ∷ [];
  some = not_nil-append z.now x [];
  under_way = under_way-grows (AreEqualBy semantic) first rest z.before z.now left x (AreEqualBy-takes semantic semantic_of (λ c cs. refl) z.now x z.some (e ∙ ap (λ (r : ZoneRange). r.semantic_type) z.zone_is) z.under_way.piece) z.under_way;
  zones_are = z.zones_are;
  zone_is = rw z.zone_is (sym (zone_of-push z.now x z.some));
}

pub zoning-ends : (first : VisibleCell) (rest left : List VisibleCell) (zones : List ZoneRange) (zone : ZoneRange) (x : VisibleCell) → (x.cell.attrs.semantic_type ≡ zone.semantic_type → ⊥) → IsZoning first rest (x ∷ left) zones zone → IsZoning first rest left (zones ++ zone ∷ []) (zone_of (x ∷ []))
zoning-ends first rest left zones zone x n z = record {
  before = z.before ++ z.now ∷ [];
  now = x ∷ [];
  some = λ e. cc;
  under_way = under_way-ends (AreEqualBy semantic) (AreEqualBy-closed semantic) first rest z.before z.now left x (AreEqualBy-refuses semantic semantic_of (λ c cs. refl) z.now x z.some (λ e. n (e ∙ sym (ap (λ (r : ZoneRange). r.semantic_type) z.zone_is)))) z.under_way;
  zones_are = rw (z.zones_are, z.zone_is) (sym (map-append zone_of z.before (z.now ∷ [])));
  zone_is = refl;
}

pub zoning-done : (first : VisibleCell) (rest : List VisibleCell) (zones : List ZoneRange) (zone : ZoneRange) → IsZoning first rest [] zones zone → AreZonesOf (first ∷ rest) (zones ++ zone ∷ [])
zoning-done first rest zones zone z = record {
  pieces = z.before ++ z.now ∷ [];
  cut = under_way-done (AreEqualBy semantic) (AreEqualBy-closed semantic) first rest z.before z.now z.under_way;
  zones_are = rw (z.zones_are, z.zone_is) (sym (map-append zone_of z.before (z.now ∷ [])));
}
