-- No reference of a registry's own places is unretrievable.
use Rattle.std.proofs.Common.{◌≡◌, ℕ, zero, suc, List, [], ◌∷◌, map, codes, Option, Some, None, Result, Ok, Err, ⊎_elim, refl, ap, sym, subst, ◌∙◌, arith}
use Rattle.std.specs.List.{All, AllZip, AllByRecursion, Contains}
use Rattle.std.proofs.lemmas.List.Elements.{All-from_recursion, Contains-append_cases}
use Rattle.ref_paths.specs.Path.{Part}
use Rattle.ref_draft.specs.Schema.{text_under}
use Rattle.ref_uri.specs.Targets.{Refusal}
use Rattle.ref_definitions.specs.World.{Document, Layer, World, local_documents}
use Rattle.ref_definitions.specs.Places.{Place, places}
use Rattle.ref_definitions.specs.Listing.{Listed, listed_place, listed_from, local_places}
use Rattle.ref_definitions.specs.Fault.{Fault, Unretrievable}
use Rattle.ref_definitions.specs.Lookup.{Resolver, Found, lookup}
use Rattle.ref_lint.specs.declared.entry.Dangling.{Dangling}
use Rattle.ref_lint.specs.Dangling.{DanglingReference, where_fault, dangling_from, dangling_at, dangling}
use Rattle.ref_lint.specs.Entries.{IsEntryOf, IsUnretrievable}
use Rattle.ref_lint.proofs.Saying.{says_another}
use Rattle.ref_definitions.proofs.Lists.{none_in_nothing, in_mapped, in_one_of}

-- what `Registry::references_are_retrieved` says of a world
abbrev pub AreRetrieved : World → Type 0
AreRetrieved world = (d : Document) (place : Place) (resolver : Resolver) (reference : List ℕ)
    → Contains (local_documents world) d → Contains (places d) place → place.base ≡ Ok resolver.base → text_under (codes "$ref") place.value ≡ Some reference
    → (uri source : List ℕ) → ¬ (lookup world resolver reference ≡ Err (Unretrievable uri source))

abbrev IsOther : DanglingReference → Type 0
IsOther r = (uri source : List ℕ) → ¬ (r.fault ≡ Unretrievable uri source)

by_answer : (number : ℕ) (path : List Part) (reference : List ℕ) (answer : Result Found Fault) → ((uri source : List ℕ) → ¬ (answer ≡ Err (Unretrievable uri source)))
    → (r : DanglingReference) → Contains (where_fault number path reference answer) r → IsOther r
by_answer number path reference (Ok found) other r there = absurd (none_in_nothing r there)
by_answer number path reference (Err fault) other r (zero, small, is) = λ uri source same. other uri source (ap (λ f. Err f) (ap (λ (x : DanglingReference). x.fault) is ∙ same))
by_answer number path reference (Err fault) other r (suc k, small, is) = absurd (omega (arith, small))

by_place : (world : World) (number : ℕ) (path : List Part) (base : Result (List ℕ) Refusal) (text : Option (List ℕ))
    → ((resolver : Resolver) (reference : List ℕ) → base ≡ Ok resolver.base → text ≡ Some reference → (uri source : List ℕ) → ¬ (lookup world resolver reference ≡ Err (Unretrievable uri source)))
    → (r : DanglingReference) → Contains (dangling_from world number path base text) r → IsOther r
by_place world number path (Ok base) (Some reference) law r =
    let resolver : Resolver = record { base = base; scope = [] } in by_answer number path reference (lookup world resolver reference) (law resolver reference refl refl) r
by_place world number path (Ok base) None law r = λ there. absurd (none_in_nothing r there)
by_place world number path (Err refusal) text law r = λ there. absurd (none_in_nothing r there)

-- a listed place is one of a document
of_documents : (number : ℕ) (ds : Layer) (l : Listed) → Contains (listed_from number ds) l
    → (d : Document) × (p : Place) × (at : ℕ) × Contains ds d × Contains (places d) p × (l ≡ listed_place at p)
of_documents number [] l there = absurd (none_in_nothing l there)
of_documents number (d ∷ ds) l there =
    ⊎_elim
    (λ here. let (p, among, same) = in_mapped (listed_place number) (places d) l here in (d, p, number, (0, omega arith, refl), among, sym same))
    (λ later. let (e, p, at, (k, small, is), among, same) = of_documents (suc number) ds l later in (e, p, at, (suc k, omega arith, is), among, same))
    (Contains-append_cases (map (listed_place number) (places d)) (listed_from (suc number) ds) l there)

of_listed : (world : World) → AreRetrieved world → (l : Listed) → Contains (local_places (local_documents world)) l → (r : DanglingReference) → Contains (dangling_at world l) r → IsOther r
of_listed world law l there =
    let (d, p, at, own, among, same) = of_documents 0 (local_documents world) l there in
    subst (λ l. (r : DanglingReference) → Contains (dangling_at world l) r → IsOther r) (sym same)
    (by_place world at p.path p.base (text_under (codes "$ref") p.value) (λ resolver reference. law d p resolver reference own among))

pub none_unretrievable : (world : World) → AreRetrieved world → (r : DanglingReference) → Contains (dangling world) r → (uri source : List ℕ) → ¬ (r.fault ≡ Unretrievable uri source)
none_unretrievable world law r there =
    let (l, listed, at) = in_one_of (dangling_at world) (local_places (local_documents world)) r there in of_listed world law l listed r at

entries_recursively : (entries : List Dangling) (rs : List DanglingReference) → AllZip IsEntryOf entries rs → ((r : DanglingReference) → Contains rs r → IsOther r)
    → AllByRecursion (λ entry. ¬ (IsUnretrievable entry.error)) entries
entries_recursively [] [] zip other = tt
entries_recursively [] (r ∷ rs) zip other = tt
entries_recursively (entry ∷ entries) [] zip other = absurd zip
entries_recursively (entry ∷ entries) (r ∷ rs) (is, zip) other = (
  says_another entry.error r.fault (other r (0, omega arith, refl)) is.3,
  entries_recursively entries rs zip (λ s (k, small, among). other s (suc k, omega arith, among)),
)

pub entries_retrieved : (world : World) (entries : List Dangling) → AreRetrieved world → AllZip IsEntryOf entries (dangling world) → All (λ entry. ¬ (IsUnretrievable entry.error)) entries
entries_retrieved world entries law zip =
    All-from_recursion (λ (entry : Dangling). ¬ (IsUnretrievable entry.error)) entries (entries_recursively entries (dangling world) zip (none_unretrievable world law))
