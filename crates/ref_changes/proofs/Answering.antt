-- What a reference leads to by a dynamic scope.
use Rattle.std.proofs.Common.{◌≡◌, ℕ, Bool, true, false, ◌&&◌, ◌||◌, not, cond, eqb, List, [], ◌∷◌, ◌++◌, map, flat_map, filter, length, codes, Option, Some, None, option_map, option_and_then, Result, Ok, Err, bytes_eq, refl, sym, ap, subst, ◌∙◌}
use Rattle.std.specs.List.{last_or, list_any}
use Rattle.std.specs.Option.{unwrap_or, ok_or}
use Rattle.std.specs.Result.{result_ok}
use Rattle.std.proofs.lemmas.Slice.Eq.{bytes_eq-Decides}
use Rattle.serde_json.specs.Data.{Data}
use Rattle.ref_draft.specs.declared.draft.Draft.{Draft}
use Rattle.ref_draft.specs.Anchors.{Kind, Plain, Dynamic}
use Rattle.ref_draft.specs.Schema.{identifier}
use Rattle.ref_uri.specs.Targets.{Refusal, target, fragment_part}
use Rattle.ref_definitions.specs.Results.{◌>>=◌}
use Rattle.ref_definitions.specs.World.{World}
use Rattle.ref_definitions.specs.Places.{Place, base_within}
use Rattle.ref_definitions.specs.Resources.{meant_place}
use Rattle.ref_definitions.specs.Anchors.{Named, anchor, not_named}
use Rattle.ref_definitions.specs.Fault.{Fault, InvalidUri, InvalidAnchor, NoSuchAnchor, as_invalid_uri, not_retrieved}
use Rattle.ref_definitions.specs.Bases.{Along}
use Rattle.ref_definitions.specs.Pointers.{pointed_value}
use Rattle.ref_definitions.specs.Lookup.{Resolver, Found, lookup, moved_resolver, at_fragment, named_found, in_subresource, pointer_found, is_dynamic, in_scope, fault_of, entry_of, entry_found, outermost, by_scope, unless_fault}
use Rattle.ref_index.specs.Spots.{Spot}
use Rattle.ref_resolver.specs.Locations.{lookup_location, fragment_spot, uri_spot, pointer_spot, anchor_spot, naming_uri}
use Rattle.ref_resolver.proofs.Lookups.{lookup_absent, lookup_present}
use Rattle.ref_resolver.proofs.Faults.{ends, goes_on}
use Rattle.ref_resolver.proofs.Fragments.{dynamic_scope, plain_there}
use Rattle.ref_resolver.proofs.Spotting.{located_at, plainly, naming_scope}
use Rattle.ref_resolver.proofs.Naming.{anchor_has}
use Rattle.ref_changes.specs.Answers.{Answer, Leads, Fails, fault_name, entered, answer_by, answer_from, answer, at_base, has_dynamic, dynamic_in, dynamic_name, name_of, named}
use Rattle.ref_changes.proofs.Blocks.{seen_kind}

-- ---- answers, by the look-up and where it leads

abbrev pub from : List ℕ → List (List ℕ) → Resolver
from base scope = record { base = base; scope = scope }

abbrev pub found : Data → Draft → List ℕ → List (List ℕ) → Found
found value draft base scope = record { value = value; draft = draft; resolver = from base scope }

same_base : (o : Result (List ℕ) Refusal) (r q : Resolver)
    → option_map (λ (x : Resolver). x.base) (result_ok (o >>= λ base. Ok (record r { base = base }))) ≡ option_map (λ (x : Resolver). x.base) (result_ok (o >>= λ base. Ok (record q { base = base })))
same_base (Ok base) r q = refl
same_base (Err refusal) r q = refl

-- the base once a value is entered doesn't depend on the scope
entered_alike : (value : Data) (draft : Draft) (base : List ℕ) (s t : List (List ℕ)) → entered (found value draft base s) ≡ entered (found value draft base t)
entered_alike value draft base s t = same_base (base_within base (identifier draft value)) (from base s) (from base t)

pub led_alike : (at : Option (ℕ × Spot)) (value : Data) (draft : Draft) (base : List ℕ) (s t : List (List ℕ)) → answer_by at (Ok (found value draft base s)) ≡ answer_by at (Ok (found value draft base t))
led_alike at value draft base s t = ap (λ b. Leads (record { at = at; value = value; draft = draft; base = b })) (entered_alike value draft base s t)

pub fails : (w : World) (r : Resolver) (text : List ℕ) (f : Fault) → lookup w r text ≡ Err f → answer_from w r text ≡ Fails (fault_name f)
fails w r text f is = ap (answer_by (lookup_location w r text)) is

pub leads : (w : World) (r : Resolver) (text : List ℕ) (at : Option (ℕ × Spot)) (a : Result Found Fault) → lookup w r text ≡ a → lookup_location w r text ≡ at → answer_from w r text ≡ answer_by at a
leads w r text at a is there = ap (λ l. answer_by l (lookup w r text)) there ∙ ap (answer_by at) is

-- ---- where the scope takes no part

-- a reference leads to the same by each scope, and to no dynamic anchor
pub record IsFree (w : World) (base text : List ℕ) : Type 0 where
  pub alike : (scope : List (List ℕ)) → answer_from w (from base scope) text ≡ answer w base text
  pub plain : dynamic_name text (answer w base text) ≡ None

pub none_failing : (fault : List ℕ) (o : Option (List ℕ)) → dynamic_in (Fails fault) o ≡ None
none_failing fault None = refl
none_failing fault (Some name) = refl

free_failing : (w : World) (base text : List ℕ) (f : Fault) → ((scope : List (List ℕ)) → lookup w (from base scope) text ≡ Err f) → IsFree w base text
free_failing w base text f is =
    let each = λ (scope : List (List ℕ)). fails w (from base scope) text f (is scope) in
    record {
      alike = λ scope. each scope ∙ sym (each []);
      plain = ap (λ a. dynamic_name text a) (each []) ∙ none_failing (fault_name f) (name_of (fragment_part text));
    }

free_leading : (w : World) (base text : List ℕ) (value : Data) (draft : Draft) (at : Option (ℕ × Spot)) (uri : List ℕ) (moved : List (List ℕ) → List (List ℕ))
    → ((scope : List (List ℕ)) → lookup w (from base scope) text ≡ Ok (found value draft uri (moved scope))) → ((scope : List (List ℕ)) → lookup_location w (from base scope) text ≡ at)
    → dynamic_name text (answer_by at (Ok (found value draft uri (moved [])))) ≡ None → IsFree w base text
free_leading w base text value draft at uri moved is there plain =
    let each = λ (scope : List (List ℕ)). leads w (from base scope) text at (Ok (found value draft uri (moved scope))) (is scope) (there scope) in
    record {
      alike = λ scope. each scope ∙ led_alike at value draft uri (moved scope) (moved []) ∙ sym (each []);
      plain = ap (λ a. dynamic_name text a) (each []) ∙ plain;
    }

-- ---- where it takes part

-- a reference leads to a dynamic anchor of a name in a resource
pub record IsDynamic (w : World) (base text name : List ℕ) : Type 0 where
  pub uri : List ℕ
  pub to : target base text ≡ Ok uri
  pub place : Place
  pub means : meant_place w uri ≡ Some place
  pub fragment : fragment_part text ≡ name
  pub is_name : name_of name ≡ Some name
  pub entry : Named
  pub names : anchor w uri name ≡ Ok entry
  pub kind : entry.kind ≡ Dynamic

pub data Use (w : World) (base text : List ℕ) : Type 0 where
  free : IsFree w base text → Use w base text
  dynamic : (name : List ℕ) → IsDynamic w base text name → Use w base text

-- what a name's fragment means
pub at_name : (w : World) (r : Resolver) (p : Place) (c : ℕ) (rest : List ℕ) → eqb c 47 ≡ false → at_fragment w r p (c ∷ rest) ≡ (anchor w r.base (c ∷ rest) >>= λ n. named_found w r n n.kind)
at_name w r p c rest is = rw is refl

pub at_name_spot : (w : World) (r : Resolver) (c : ℕ) (rest : List ℕ) → eqb c 47 ≡ false
    → fragment_spot w r (c ∷ rest) ≡ option_and_then (λ n. anchor_spot w (naming_uri w r n n.kind) (c ∷ rest)) (result_ok (anchor w r.base (c ∷ rest)))
at_name_spot w r c rest is = rw is refl

at_pointer : (w : World) (r : Resolver) (p : Place) (c : ℕ) (rest : List ℕ) → eqb c 47 ≡ true
    → at_fragment w r p (c ∷ rest) ≡ (pointed_value p.draft (c ∷ rest) r.base p.value rest >>= λ to. Ok (pointer_found r p.draft to))
at_pointer w r p c rest is = rw is refl

at_pointer_spot : (w : World) (r : Resolver) (c : ℕ) (rest : List ℕ) → eqb c 47 ≡ true → fragment_spot w r (c ∷ rest) ≡ pointer_spot w r.base (c ∷ rest) rest
at_pointer_spot w r c rest is = rw is refl

pub pointer_name : (c : ℕ) (rest : List ℕ) → eqb c 47 ≡ true → name_of (c ∷ rest) ≡ None
pointer_name c rest is = rw is refl

plain_name : (c : ℕ) (rest : List ℕ) → eqb c 47 ≡ false → name_of (c ∷ rest) ≡ Some (c ∷ rest)
plain_name c rest is = rw is refl

not_seen : (name : List ℕ) (a : Answer) → has_dynamic name a ≡ false → dynamic_in a (Some name) ≡ None
not_seen name a is = rw is refl

pub seen : (name : List ℕ) (a : Answer) → has_dynamic name a ≡ true → dynamic_in a (Some name) ≡ Some name
seen name a is = rw is refl

lookup_refused : (w : World) (r : Resolver) (text : List ℕ) (refusal : Refusal) → target r.base text ≡ Err refusal → lookup w r text ≡ Err (InvalidUri refusal)
unfolding lookup
lookup_refused w r text refusal is =
    ends (as_invalid_uri (target r.base text)) (λ uri. ok_or (meant_place w uri) (not_retrieved uri) >>= λ place. at_fragment w (moved_resolver r uri) place (fragment_part text)) (InvalidUri refusal) (ap as_invalid_uri is)

-- by what a name means under the URI
use_named : (w : World) (base text uri : List ℕ) (p : Place) (c : ℕ) (rest : List ℕ) → target base text ≡ Ok uri → meant_place w uri ≡ Some p → fragment_part text ≡ c ∷ rest → eqb c 47 ≡ false
    → (meaning : Result Named Fault) → anchor w uri (c ∷ rest) ≡ meaning → Use w base text
use_named w base text uri p c rest to means part is_name (Err f) names =
    free (free_failing w base text f (λ scope.
    let r = moved_resolver (from base scope) uri in
    lookup_present w (from base scope) text uri p to means ∙ ap (at_fragment w r p) part ∙ at_name w r p c rest is_name
    ∙ ends (anchor w uri (c ∷ rest)) (λ n. named_found w r n n.kind) f names))
use_named w base text uri p c rest to means part is_name (Ok n) names = by_kind n.kind refl
  where
    by_kind : (k : Kind) → n.kind ≡ k → Use w base text
    by_kind Plain kind =
        free (free_leading w base text n.place.value n.place.draft (anchor_spot w uri (c ∷ rest)) uri (λ scope. (moved_resolver (from base scope) uri).scope)
        (λ scope.
        let r = moved_resolver (from base scope) uri in
        lookup_present w (from base scope) text uri p to means ∙ ap (at_fragment w r p) part ∙ at_name w r p c rest is_name
        ∙ goes_on (anchor w uri (c ∷ rest)) (λ m. named_found w r m m.kind) n names ∙ plain_there w r n kind)
        (λ scope.
        let r = moved_resolver (from base scope) uri in
        located_at w (from base scope) text uri (c ∷ rest) to part ∙ at_name_spot w r c rest is_name
        ∙ ap (λ a. option_and_then (λ m. anchor_spot w (naming_uri w r m m.kind) (c ∷ rest)) (result_ok a)) names
        ∙ ap (λ u. anchor_spot w u (c ∷ rest)) (plainly w r n kind))
        (let a = answer_by (anchor_spot w uri (c ∷ rest)) (Ok (found n.place.value n.place.draft uri (moved_resolver (from base []) uri).scope)) in
        ap (λ f. dynamic_in a (name_of f)) part ∙ ap (dynamic_in a) (plain_name c rest is_name)
        ∙ not_seen (c ∷ rest) a (seen_kind w uri (c ∷ rest) n names ∙ ap is_dynamic kind)))
    by_kind Dynamic kind =
        dynamic (c ∷ rest) (record {
          uri = uri;
          to = to;
          place = p;
          means = means;
          fragment = part;
          is_name = plain_name c rest is_name;
          entry = n;
          names = names;
          kind = kind;
        })

-- by what a pointer leads to
use_pointer : (w : World) (base text uri : List ℕ) (p : Place) (c : ℕ) (rest : List ℕ) → target base text ≡ Ok uri → meant_place w uri ≡ Some p → fragment_part text ≡ c ∷ rest → eqb c 47 ≡ true
    → (led : Result (Data × Along) Fault) → pointed_value p.draft (c ∷ rest) uri p.value rest ≡ led → Use w base text
use_pointer w base text uri p c rest to means part is_pointer (Err f) led =
    free (free_failing w base text f (λ scope.
    let r = moved_resolver (from base scope) uri in
    lookup_present w (from base scope) text uri p to means ∙ ap (at_fragment w r p) part ∙ at_pointer w r p c rest is_pointer
    ∙ ends (pointed_value p.draft (c ∷ rest) uri p.value rest) (λ x. Ok (pointer_found r p.draft x)) f led))
use_pointer w base text uri p c rest to means part is_pointer (Ok (value, along)) led =
    free (free_leading w base text value p.draft (pointer_spot w uri (c ∷ rest) rest) along.base (λ scope. (moved_resolver (from base scope) uri).scope)
    (λ scope.
    let r = moved_resolver (from base scope) uri in
    lookup_present w (from base scope) text uri p to means ∙ ap (at_fragment w r p) part ∙ at_pointer w r p c rest is_pointer
    ∙ goes_on (pointed_value p.draft (c ∷ rest) uri p.value rest) (λ x. Ok (pointer_found r p.draft x)) (value, along) led)
    (λ scope. located_at w (from base scope) text uri (c ∷ rest) to part ∙ at_pointer_spot w (moved_resolver (from base scope) uri) c rest is_pointer)
    (let a = answer_by (pointer_spot w uri (c ∷ rest) rest) (Ok (found value p.draft along.base (moved_resolver (from base []) uri).scope)) in
    ap (λ f. dynamic_in a (name_of f)) part ∙ ap (dynamic_in a) (pointer_name c rest is_pointer)))

use_fragment : (w : World) (base text uri : List ℕ) (p : Place) (fragment : List ℕ) → target base text ≡ Ok uri → meant_place w uri ≡ Some p → fragment_part text ≡ fragment → Use w base text
use_fragment w base text uri p [] to means part =
    free (free_leading w base text p.value p.draft (uri_spot w uri) uri (λ scope. (moved_resolver (from base scope) uri).scope)
    (λ scope. lookup_present w (from base scope) text uri p to means ∙ ap (at_fragment w (moved_resolver (from base scope) uri) p) part)
    (λ scope. located_at w (from base scope) text uri [] to part)
    (let a = answer_by (uri_spot w uri) (Ok (found p.value p.draft uri (moved_resolver (from base []) uri).scope)) in ap (λ f. dynamic_in a (name_of f)) part))
use_fragment w base text uri p (c ∷ rest) to means part = by_slash (eqb c 47) refl
  where
    by_slash : (b : Bool) → eqb c 47 ≡ b → Use w base text
    by_slash true is = use_pointer w base text uri p c rest to means part is (pointed_value p.draft (c ∷ rest) uri p.value rest) refl
    by_slash false is = use_named w base text uri p c rest to means part is (anchor w uri (c ∷ rest)) refl

use_meant : (w : World) (base text uri : List ℕ) → target base text ≡ Ok uri → (o : Option Place) → meant_place w uri ≡ o → Use w base text
use_meant w base text uri to None means = free (free_failing w base text (not_retrieved uri) (λ scope. lookup_absent w (from base scope) text uri to means))
use_meant w base text uri to (Some p) means = use_fragment w base text uri p (fragment_part text) to means refl

use_target : (w : World) (base text : List ℕ) (t : Result (List ℕ) Refusal) → target base text ≡ t → Use w base text
use_target w base text (Err refusal) to = free (free_failing w base text (InvalidUri refusal) (λ scope. lookup_refused w (from base scope) text refusal to))
use_target w base text (Ok uri) to = use_meant w base text uri to (meant_place w uri) refl

-- the one or the other
pub use_of : (w : World) (base text : List ℕ) → Use w base text
use_of w base text = use_target w base text (target base text) refl
