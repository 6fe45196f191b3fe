-- What a visit adds, over plain values.
use Rattle.std.proofs.Common.{◌≡◌, ℕ, List, [], ◌++◌, Result, Ok, sym, ap, ◌∙◌, subst, append_assoc, bytes_eq}
use Rattle.std.specs.List.{AllZip, list_any}
use Rattle.std.specs.Option.{option_map_or}
use Rattle.std.specs.Result.{result_ok}
use Rattle.serde_json.specs.Data.{Data}
use Rattle.ref_uri.specs.Targets.{Refusal}
use Rattle.ref_uri.specs.Errors.{IsFaultOf}
use Rattle.ref_uri.specs.declared.error.UriFault.{UriFault}
use Rattle.ref_uri.specs.declared.error.UriFault.TheVariants.{Invalid, Memory}
use Rattle.ref_definitions.specs.World.{Layer}
use Rattle.ref_definitions.specs.Places.{Place}
use Rattle.ref_definitions.specs.Cached.{Pair, pairs_of_value}
use Rattle.ref_definitions.specs.Wants.{Want, Reference, MetaSchema, wants_of_text, refusals_of, reference_at, schema_at, wants_at, faults_at}
use Rattle.ref_index.specs.declared.found.Found.{Found}
use Rattle.ref_index.specs.inner.Found.{FoundLists, Holds, IsResourceOf, IsNameOf, IsPairOf}
use Rattle.ref_index.specs.Faults.{IsFirstFault}

-- ---- the same lists under other names

pub holds_same : (layer : Layer) (f : Found) (held other : FoundLists) → held.resources ≡ other.resources → held.names ≡ other.names → held.wants ≡ other.wants → held.identifiers ≡ other.identifiers → held.references ≡ other.references
    → Holds layer f held → Holds layer f other
holds_same layer f held other resources names wants identifiers references holds = record {
  by_uri = subst (AllZip (IsResourceOf layer f.entries.items) f.resources) resources holds.by_uri;
  by_name = subst (AllZip (IsNameOf layer f.entries.items) f.names) names holds.by_name;
  wanted = holds.wanted ∙ wants;
  of_identifiers = subst (AllZip IsPairOf f.identifiers) identifiers holds.of_identifiers;
  of_references = subst (AllZip IsPairOf f.references) references holds.of_references;
  known = λ uri. holds.known uri ∙ ap (list_any (λ (r : ℕ × (List ℕ × Place)). bytes_eq r.1.0 uri.value)) resources;
}

-- ---- the first fault of a place

pub first_of_base : (base : Result (List ℕ) Refusal) (value : Data) (fault : UriFault) → IsFaultOf base fault → IsFirstFault (faults_at base value) fault
first_of_base base value (Invalid error) (refusal, is, says) = (refusal, refusals_of (schema_at value), ap (λ b. faults_at b value) is, says)
first_of_base base value (Memory error) is = tt

pub first_of_reference : (base : Result (List ℕ) Refusal) (uri : List ℕ) (value : Data) (fault : UriFault) → base ≡ Ok uri → IsFirstFault (refusals_of (reference_at uri value)) fault → IsFirstFault (faults_at base value) fault
first_of_reference base uri value (Invalid error) based (refusal, more, is, says) =
    (refusal, more ++ refusals_of (schema_at value), ap (λ b. faults_at b value) based ∙ ap (λ l. l ++ refusals_of (schema_at value)) is, says)
first_of_reference base uri value (Memory error) based is = tt

-- ---- what a place wants, where its base is known

pub wants_where : (base : Result (List ℕ) Refusal) (uri : List ℕ) (value : Data) (ws : List Want) → base ≡ Ok uri
    → (ws ++ wants_of_text Reference (reference_at uri value)) ++ wants_of_text MetaSchema (schema_at value) ≡ ws ++ wants_at base value
wants_where base uri value ws based =
    append_assoc ws (wants_of_text Reference (reference_at uri value)) (wants_of_text MetaSchema (schema_at value)) ∙ ap (λ b. ws ++ wants_at b value) (sym based)

-- ---- what is resolved at a place, where its base is known

pub references_where : (base : Result (List ℕ) Refusal) (uri : List ℕ) (value : Data) (refs : List Pair) → base ≡ Ok uri
    → refs ++ pairs_of_value uri value ≡ refs ++ option_map_or (λ b. pairs_of_value b value) (result_ok base) []
references_where base uri value refs based = ap (λ b. refs ++ option_map_or (λ u. pairs_of_value u value) (result_ok b) []) (sym based)
