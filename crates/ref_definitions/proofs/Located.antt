-- The look-up of a path's pointer text from a resource that the pointer and the keywords read alike.
use Rattle.std.proofs.Common.{◌≡◌, ℕ, ◌<◌, cond, List, [], ◌∷◌, ◌++◌, Some, Ok, Err, IsUtf8, sym, ap, subst, ◌∙◌, arith}
use Rattle.std.specs.Option.{ok_or}
use Rattle.std.specs.Str.{is_utf8}
use Rattle.std.proofs.lemmas.List.Elements.{All-tail}
use Rattle.std.proofs.lemmas.Str.{IsUtf8-past_char, is_utf8-from_IsUtf8, encode_ascii}
use Rattle.ref_paths.specs.Path.{Part}
use Rattle.ref_parts.specs.Pointer.{slash, part_text, pointer_text, tokens}
use Rattle.ref_parts.specs.Encoded.{encoded_text}
use Rattle.ref_parts.proofs.EncodedLaws.{decoded_is}
use Rattle.ref_parts.proofs.PathLaws.{tokens_of_path}
use Rattle.ref_draft.specs.Children.{AllAreThere, walked_children}
use Rattle.ref_definitions.specs.Results.{◌>>=◌}
use Rattle.ref_definitions.specs.World.{Document, Layer, World}
use Rattle.ref_definitions.specs.Places.{Place}
use Rattle.ref_definitions.specs.Resources.{meant_place}
use Rattle.ref_definitions.specs.Fault.{InvalidPercentEncoding, not_retrieved}
use Rattle.ref_definitions.specs.Bases.{Along}
use Rattle.ref_definitions.specs.Pointers.{walked_along}
use Rattle.ref_definitions.specs.Lookup.{Resolver, pointer_found, at_fragment, lookup, located_value}
use Rattle.ref_definitions.specs.Agreement.{ChildrenAreThere, IsAtOrBelow, IsReadAlike, IsPathOfTexts, LeadsTo}
use Rattle.ref_definitions.proofs.Alone.{means_alone, bears}
use Rattle.ref_definitions.proofs.Agreement.{start_accepted}
use Rattle.ref_definitions.proofs.Below.{Reaches, reach}
use Rattle.ref_definitions.proofs.AtOrBelow.{below_is_place}

-- the fragment of a path in a resource leads where its tokens do
in_resource : (world : World) (m : Resolver) (r q : Place) (path : List Part) (final : List ℕ) → IsPathOfTexts path
    → ((pointer : List ℕ) → Reaches r.draft pointer (record { base = m.base; since = [] }) r.value path q final)
    → at_fragment world m r (encoded_text (pointer_text path)) ≡ Ok (record { value = q.value; draft = r.draft; resolver = record m { base = final } })
in_resource world m r q [] final texts reached =
    let at = reached [] in
    ap (λ to. to >>= λ there. Ok (pointer_found m r.draft there)) at.is ∙ ap (λ b. Ok (record { value = q.value; draft = r.draft; resolver = record m { base = b } })) at.base
in_resource world m r q (part ∷ rest) final texts reached =
    let text = part_text part ++ pointer_text rest in
    let pointer = slash ∷ encoded_text text in
    let at = reached pointer in
    let start : Along = record { base = m.base; since = [] } in
    let utf8 : IsUtf8 text = IsUtf8-past_char (slash ∷ text) text slash texts.utf8 (ap (λ e. e ++ text) (sym (encode_ascii slash (omega arith)))) in
    let decoded = decoded_is text (All-tail (λ b. b < 256) slash text texts.bytes) in
    ap (λ t. cond (is_utf8 t) (walked_along r.draft pointer start r.value (tokens t)) (Err (InvalidPercentEncoding pointer)) >>= λ there. Ok (pointer_found m r.draft there)) decoded
    ∙ ap (λ b. cond b (walked_along r.draft pointer start r.value (tokens text)) (Err (InvalidPercentEncoding pointer)) >>= λ there. Ok (pointer_found m r.draft there)) (is_utf8-from_IsUtf8 text utf8)
    ∙ ap (λ ts. walked_along r.draft pointer start r.value ts >>= λ there. Ok (pointer_found m r.draft there)) (tokens_of_path part rest texts.fits)
    ∙ ap (λ to. to >>= λ there. Ok (pointer_found m r.draft there)) at.is
    ∙ ap (λ b. Ok (record { value = q.value; draft = r.draft; resolver = record m { base = b } })) at.base

looked_up : (world : World) (uri : List ℕ) (path : List Part) (r : Place) → meant_place world uri ≡ Some r
    → located_value world uri path ≡ at_fragment world (record { base = uri; scope = uri ∷ [] }) r (encoded_text (pointer_text path))
unfolding lookup
looked_up world uri path r is =
    ap (λ o. ok_or o (not_retrieved uri) >>= λ place. at_fragment world (record { base = uri; scope = uri ∷ [] }) place (encoded_text (pointer_text path))) is

pub leads_to : (layer : Layer) (parents : World) (d : Document) (r q : Place) (uri : List ℕ) (path : List Part)
    → ChildrenAreThere d → IsReadAlike layer d r uri → IsAtOrBelow q r → q.path ≡ r.path ++ path → IsPathOfTexts path → LeadsTo (layer ∷ parents) uri path q
leads_to layer parents d r q uri path are_there alike under is texts final base =
    let m : Resolver = record { base = uri; scope = uri ∷ [] } in
    let own = means_alone layer parents uri r (bears layer d r uri alike.document alike.place alike.resource alike.base) alike.alone in
    let are_at_paths : (x : Place) → IsAtOrBelow x r → AllAreThere x.value (walked_children r.draft x.value) =
    λ x over. subst (λ draft. AllAreThere x.value (walked_children draft x.value)) (alike.one_draft x over) (are_there x (below_is_place d x r alike.place over)) in
    looked_up (layer ∷ parents) uri path r own
    ∙ in_resource (layer ∷ parents) m r q path final texts
    (λ pointer. reach r.draft pointer q r under (record { drafts = alike.one_draft; are_there = are_at_paths; maps = alike.plain_maps }) (record { base = uri; since = [] }) alike.base (λ there. start_accepted r.draft r.value) path is texts.fits final base)
    ∙ ap (λ d. Ok (record { value = q.value; draft = d; resolver = record { base = final; scope = uri ∷ [] } })) (sym (alike.one_draft q under))
