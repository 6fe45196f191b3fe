-- Documents that are appended to a layer take nothing away from what URIs mean.
use Rattle.std.proofs.Common.{◌≡◌, ℕ, Bool, true, false, not, cond, List, [], ◌∷◌, ◌++◌, filter, flat_map, Option, Some, None, is_some, refl, sym, ap, ◌∙◌, ◌⊎◌, inl, inr, ⊎_elim, true≢false, bytes_eq}
use Rattle.std.specs.Option.{option_map_or}
use Rattle.std.specs.List.{All}
use Rattle.std.specs.Prelude.{slice_index_or}
use Rattle.std.proofs.lemmas.List.Elements.{All-nil, All-cons}
use Rattle.std.proofs.lemmas.Bool.{not-false}
use Rattle.std.proofs.lemmas.Slice.Eq.{bytes_eq-Decides}
use Rattle.std.proofs.lemmas.List.Elements.{filter-append}
use Rattle.std.proofs.lemmas.Grind.{flat_map-append}
use Rattle.ref_definitions.proofs.Last.{last_there, last_stays, last_after}
use Rattle.ref_definitions.specs.World.{Document, Layer, World}
use Rattle.ref_definitions.specs.Places.{Place, places, root}
use Rattle.ref_definitions.specs.Resources.{last_under, resource_of, resources_in, resources, meant_place}
use Rattle.ref_definitions.specs.Wants.{Want, wants_at, wants, is_open, open_wants}

under_stays : (layer more : Layer) (uri : List ℕ) → is_some (last_under uri (resources layer)) ≡ true → is_some (last_under uri (resources (layer ++ more))) ≡ true
under_stays layer more uri there =
    rw (flat_map-append resources_in layer more, filter-append (λ (e : List ℕ × Place). bytes_eq e.0 uri) (resources layer) (resources more))
    (last_stays (filter (λ (e : List ℕ × Place). bytes_eq e.0 uri) (resources layer)) (filter (λ (e : List ℕ × Place). bytes_eq e.0 uri) (resources more)) there)

under_after : (front layer : Layer) (uri : List ℕ) → is_some (last_under uri (resources layer)) ≡ true → is_some (last_under uri (resources (front ++ layer))) ≡ true
under_after front layer uri there =
    rw (flat_map-append resources_in front layer, filter-append (λ (e : List ℕ × Place). bytes_eq e.0 uri) (resources front) (resources layer))
    (last_after (filter (λ (e : List ℕ × Place). bytes_eq e.0 uri) (resources front)) (filter (λ (e : List ℕ × Place). bytes_eq e.0 uri) (resources layer)) there)

-- of an entry and what is after it, one is there
abbrev place_or : Option (List ℕ × Place) → Option Place → Option Place
place_or entry behind = option_map_or (λ e. Some e.1) entry behind

one_of : (entry : Option (List ℕ × Place)) (behind : Option Place) → is_some (place_or entry behind) ≡ true → (is_some entry ≡ true) ⊎ (is_some behind ≡ true)
one_of None behind there = inr there
one_of (Some e) behind there = inl refl

by_entry : (entry : Option (List ℕ × Place)) (behind : Option Place) → is_some entry ≡ true → is_some (place_or entry behind) ≡ true
by_entry None behind there = absurd (true≢false (sym there))
by_entry (Some e) behind there = refl

by_after : (entry : Option (List ℕ × Place)) (behind : Option Place) → is_some behind ≡ true → is_some (place_or entry behind) ≡ true
by_after None behind there = there
by_after (Some e) behind there = refl

pub meanings_stay : (layer more : Layer) (parents : World) (uri : List ℕ) → is_some (meant_place (layer ∷ parents) uri) ≡ true → is_some (meant_place ((layer ++ more) ∷ parents) uri) ≡ true
meanings_stay layer more parents uri there =
    ⊎_elim (λ entry. by_entry (last_under uri (resources (layer ++ more))) (meant_place parents uri) (under_stays layer more uri entry))
    (λ behind. by_after (last_under uri (resources (layer ++ more))) (meant_place parents uri) behind)
    (one_of (last_under uri (resources layer)) (meant_place parents uri) there)

pub meanings_stay_below : (layer : Layer) (parents : World) (uri : List ℕ) → is_some (meant_place parents uri) ≡ true → is_some (meant_place (layer ∷ parents) uri) ≡ true
meanings_stay_below layer parents uri there = by_after (last_under uri (resources layer)) (meant_place parents uri) there

-- the root of each document is under its URI
own_step : (uri : List ℕ) (e : List ℕ × Place) (es : List (List ℕ × Place)) (b : Bool) → bytes_eq e.0 uri ≡ b → b ≡ true → is_some (last_under uri (e ∷ es)) ≡ true
own_step uri e es true is own = rw is (last_there e (filter (λ (f : List ℕ × Place). bytes_eq f.0 uri) es))
own_step uri e es false is own = absurd (true≢false (sym own))

own_under : (d : Document) (ds : Layer) → is_some (last_under d.uri (resources (d ∷ ds))) ≡ true
own_under d ds = own_step d.uri (d.uri, root d) (flat_map resource_of (places d) ++ resources ds) (bytes_eq d.uri d.uri) refl ((bytes_eq-Decides d.uri d.uri).1 refl)

all_under : (ds : Layer) → All (λ d. is_some (last_under d.uri (resources ds)) ≡ true) ds
all_under [] = All-nil _
all_under (d ∷ ds) =
    All-cons (λ e. is_some (last_under e.uri (resources (d ∷ ds))) ≡ true) d ds (own_under d ds)
    (λ k e within. under_after (d ∷ []) ds (slice_index_or ds k e).uri (all_under ds k e within))

pub all_mean : (front ds : Layer) (parents : World) → All (λ d. is_some (meant_place ((front ++ ds) ∷ parents) d.uri) ≡ true) ds
all_mean front ds parents = λ k e within.
    by_entry (last_under (slice_index_or ds k e).uri (resources (front ++ ds))) (meant_place parents (slice_index_or ds k e).uri)
    (under_after front ds (slice_index_or ds k e).uri (all_under ds k e within))

pub met_wants_stay : (layer more : Layer) (parents : World) (want : Want) → is_open (layer ∷ parents) want ≡ false → is_open ((layer ++ more) ∷ parents) want ≡ false
met_wants_stay layer more parents want met =
    ap not (meanings_stay layer more parents want.uri (not-false (is_some (meant_place (layer ∷ parents) want.uri)) met))

-- a filter by a test that a weaker one already made
filter_step : (p q : Want → Bool) (w : Want) (ws : List Want) → (p w ≡ false → q w ≡ false) → filter q ws ≡ filter q (filter p ws) → (b : Bool) → p w ≡ b → filter q (w ∷ ws) ≡ filter q (cond b (w ∷ filter p ws) (filter p ws))
filter_step p q w ws weaker later true e = ap (λ rest. cond (q w) (w ∷ rest) rest) later
filter_step p q w ws weaker later false e = rw (weaker e) later

filter_again : (p q : Want → Bool) → ((want : Want) → p want ≡ false → q want ≡ false) → (ws : List Want) → filter q ws ≡ filter q (filter p ws)
filter_again p q weaker [] = refl
filter_again p q weaker (w ∷ ws) = filter_step p q w ws (weaker w) (filter_again p q weaker ws) (p w) refl

pub open_wants_after : (layer more : Layer) (parents : World)
    → open_wants ((layer ++ more) ∷ parents) (layer ++ more)
    ≡ filter (is_open ((layer ++ more) ∷ parents)) (open_wants (layer ∷ parents) layer) ++ open_wants ((layer ++ more) ∷ parents) more
open_wants_after layer more parents =
    ap (filter (is_open ((layer ++ more) ∷ parents))) (flat_map-append (λ (d : Document). flat_map (λ p. wants_at p.base p.value) (places d)) layer more)
    ∙ filter-append (is_open ((layer ++ more) ∷ parents)) (wants layer) (wants more)
    ∙ ap (λ front. front ++ open_wants ((layer ++ more) ∷ parents) more) (filter_again (is_open (layer ∷ parents)) (is_open ((layer ++ more) ∷ parents)) (met_wants_stay layer more parents) (wants layer))
