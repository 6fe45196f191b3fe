-- What look-ups give.
use Rattle.std.proofs.Common.{◌≡◌, ℕ, List, [], ◌∷◌, ◌++◌, Option, Result, Ok, Err, refl, sym, ap, ◌∙◌, subst}
use Rattle.serde_json.specs.Data.{Data, object, Members, no_members, put}
use Rattle.serde_json.specs.View.{view}
use Rattle.serde_json.specs.declared.value.Value.{Value}
use Rattle.ref_definitions.specs.Fault.{Fault}
use Rattle.ref_definitions.specs.Lookup.{Resolver, Found as WorldFound}
use Rattle.ref_index.specs.Spots.{Spot}
use Rattle.ref_json.specs.declared.stop.Stop.{Stop}
use Rattle.ref_json.specs.declared.stop.Stop.TheVariants.{Memory, Because}
use Rattle.ref_definitions.specs.World.{World, local_documents}
use Rattle.ref_bundle.specs.Needed.{Further}
use Rattle.ref_bundle.specs.Bundle.{bundle_with}
use Rattle.ref_further.specs.Further.{AreFurther}
use Rattle.ref_serve.specs.Listings.{bundled_result, IsBundled}
use Rattle.ref_calls.specs.Objects.{with_all, object_of}
use Rattle.ref_serve.specs.declared.place.Found.{Found}
use Rattle.ref_serve.specs.Results.{Then, Asked, IsFound, found_members, resolver_members}
use Rattle.ref_calls.specs.Outcome.{Answers, Gives}
use Rattle.ref_serve.specs.inner.Seen.{IsFoundBy}

with_all-append : (xs ys : List (List ℕ × Data)) (ms : Members) → with_all (xs ++ ys) ms ≡ with_all ys (with_all xs ms)
with_all-append [] ys ms = refl
with_all-append (x ∷ xs) ys ms = with_all-append xs ys (put x.0 x.1 ms)

-- an object whose members were put in two steps
pub in_two_steps : (xs ys : List (List ℕ × Data)) (first second third : Members) → first ≡ no_members → second ≡ with_all xs first → third ≡ with_all ys second
    → object third ≡ object_of (xs ++ ys)
in_two_steps xs ys first second third none one two =
    ap object (two ∙ ap (with_all ys) (one ∙ ap (with_all xs) none) ∙ sym (with_all-append xs ys no_members))

pub found_as : (asked : Asked) (at : Option (ℕ × Spot)) (answer : Result WorldFound Fault) (f : Found) (r : Resolver) (d : Data) → IsFoundBy asked.world at answer f r
    → d ≡ object_of (found_members asked f.location (view f.value.now) f.draft ++ resolver_members asked.kept r) → IsFound asked at answer (Ok d)
found_as asked at answer f r d (is, is_at_path, there) whole = subst (λ a. IsFound asked at a (Ok d)) (sym is) (f.location, there, is_at_path, whole)

pub gives_then : {A : Type 0} (read : Result A Data) (x : A) (may : A → Result Data Data → Type 0) (result : Result Value (Stop Value)) → read ≡ Ok x → Gives (may x) result → Gives (Then read may) result
gives_then read x may result is given = subst (λ r. Gives (Then r may) result) (sym is) given

pub then_ok : {A : Type 0} (read : Result A Data) (x : A) (may : A → Result Data Data → Type 0) (outcome : Result Data Data) → read ≡ Ok x → may x outcome → Then read may outcome
then_ok read x may outcome is given = subst (λ r. Then r may outcome) (sym is) given

-- ---- bundles

pub gives_bundled : (world : World) (document : ℕ) (further : Further) (result : Result Value (Stop Value)) → AreFurther (local_documents world) further → Answers view result (bundled_result (bundle_with world further document)) → Gives (IsBundled world document) result
unfolding IsBundled
gives_bundled world document further (Ok value) are is = (further, are, sym is)
gives_bundled world document further (Err Memory) are is = is
gives_bundled world document further (Err (Because error)) are is = (further, are, sym is)
