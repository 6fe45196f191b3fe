-- Where a member's key is refused, so is what the members declare.
use Rattle.std.proofs.Common.{◌≡◌, ℕ, List, Option, None, Some, codes, option_and_then, Result, Ok, Err, sym, ap, subst}
use Rattle.serde_json.specs.Data.{Data, Members, member}
use Rattle.serde_json.specs.Find.{get, as_object}
use Rattle.std.specs.Option.{option_map_or}
use Rattle.ref_draft.specs.Schema.{text_under}
use Rattle.ref_uri.specs.Targets.{Refusal}
use Rattle.ref_definitions.specs.Results.{◌>>=◌}
use Rattle.ref_definitions.specs.Fault.{Fault, InvalidUri, as_invalid_uri}
use Rattle.ref_vocabularies.specs.Vocabularies.{VocabularySet, from_text, with_member, collected_set, known_set, set_of_members, find_in}
use Rattle.ref_error.specs.declared.error.Error.{Error}
use Rattle.ref_error.specs.Errors.{IsFaultOf}
use Rattle.ref_error.proofs.Saying.{fault_as}

-- what goes on from a refused text is refused alike
pub refused_on : {A B : Type 0} (m : Result A Refusal) (f : A → Result B Refusal) (fault : Fault) → as_invalid_uri m ≡ Err fault → as_invalid_uri (m >>= f) ≡ Err fault
refused_on (Ok x) f fault is = cc
refused_on (Err refusal) f fault is = let same : InvalidUri refusal ≡ fault = cc in ap (λ f. Err f) same

-- where the next key is refused, so are the members
pub key_refused : (whole : Result VocabularySet Refusal) (s : VocabularySet) (key : List ℕ) (value : Data) (rest : Members) (e : Error)
    → whole ≡ collected_set s (member key value rest) → IsFaultOf (as_invalid_uri (from_text key)) e → IsFaultOf (as_invalid_uri whole) e
key_refused whole s key value rest e is fault =
    subst (λ w. IsFaultOf (as_invalid_uri w) e) (sym is)
    (fault_as (as_invalid_uri (from_text key)) (as_invalid_uri (collected_set s (member key value rest))) e (refused_on (from_text key) (λ v. collected_set (with_member s value v) rest)) fault)

-- the set of a meta-schema that is known by its identifier
pub find-known : (d : Data) (known : Option VocabularySet) → Some known ≡ option_and_then known_set (text_under (codes "$id") d) → find_in d ≡ Ok known
unfolding find_in
find-known d known is = ap (λ o. option_map_or (λ s. Ok s) o (set_of_members (option_and_then as_object (get (codes "$vocabulary") d)))) (sym is)

-- that of another
pub find-declared : (d : Data) → None ≡ option_and_then known_set (text_under (codes "$id") d) → find_in d ≡ set_of_members (option_and_then as_object (get (codes "$vocabulary") d))
unfolding find_in
find-declared d is = ap (λ o. option_map_or (λ s. Ok s) o (set_of_members (option_and_then as_object (get (codes "$vocabulary") d)))) (sym is)
