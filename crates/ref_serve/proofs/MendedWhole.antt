-- Documents that are mended, as a whole.
use Rattle.std.proofs.Common.{◌≡◌, ◌∙◌, ℕ, List, ◌++◌, map, flat_map, codes, Result, Ok, Err, refl, sym, ap, subst}
use Rattle.serde_json.specs.Data.{Data}
use Rattle.serde_json.specs.View.{view}
use Rattle.serde_json.specs.declared.value.Value.{Value}
use Rattle.ref_draft.specs.declared.draft.Draft.{Draft}
use Rattle.ref_definitions.specs.World.{World}
use Rattle.ref_definitions.specs.Results.{◌>>=◌}
use Rattle.ref_json.specs.declared.stop.Stop.{Stop}
use Rattle.ref_json.specs.declared.stop.Stop.TheVariants.{Memory, Because}
use Rattle.ref_calls.specs.Given.{given_of}
use Rattle.ref_calls.specs.Outcome.{Stops}
use Rattle.ref_findings.specs.Sources.{Source}
use Rattle.ref_findings.specs.Unmet.{unmet}
use Rattle.ref_serve.specs.declared.mending.InPlace as rust
use Rattle.ref_serve.specs.declared.mending.MendedDocuments as rust_mended
use Rattle.ref_serve.specs.Faults.{sources_under}
use Rattle.ref_serve.specs.Mending.{Mended, unmet_above, mended_each, mended_by, mended_above, objects_of, document_of, IsMendedWith, IsMended}
use Rattle.ref_serve.specs.inner.Mended.{tree_maybe, with_trees, AreGathered, GivesInPlace, mended_view, GivesMended}

-- ---- what is prepared in place of documents

abbrev made_of : World → Draft → List (List ℕ × Data) → List Source → Mended
made_of parents draft documents sources = mended_by documents (map (unmet_above parents) (unmet draft sources))

pub made_in_place : (parents : World) (draft : Draft) (documents : List (List ℕ × Data)) (sources : List Source) (p : rust.InPlace) → sources_under (codes "documents") documents ≡ Ok sources
    → with_trees documents (map tree_maybe p.trees.items) ≡ mended_each documents (map (unmet_above parents) (unmet draft sources)) → map view p.faults.items ≡ flat_map objects_of (map (unmet_above parents) (unmet draft sources))
    → GivesInPlace documents (mended_above parents draft documents) (Ok p)
made_in_place parents draft documents sources p is trees faults =
    (made_of parents draft documents sources, ap (λ r. r >>= λ ss. Ok (made_of parents draft documents ss)) is, trees, faults)

pub none_in_place : (parents : World) (draft : Draft) (documents : List (List ℕ × Data)) (stop : Stop Value) → Stops stop (sources_under (codes "documents") documents) → Stops stop (mended_above parents draft documents)
none_in_place parents draft documents Memory is = tt
none_in_place parents draft documents (Because value) is = ap (λ r. r >>= λ ss. Ok (made_of parents draft documents ss)) is

-- ---- the whole

as_mended : (draft : Draft) (limit : ℕ) (documents remote : List (List ℕ × Data)) (parents : World) (read : Result (List Source) Data) (gathered : List Source) (outcome : Result Mended Data) → AreGathered draft limit remote read gathered
    → outcome ≡ mended_above parents draft (documents ++ flat_map document_of gathered) → IsMendedWith draft limit documents remote parents read outcome
as_mended draft limit documents remote parents (Ok sources) gathered outcome are is = (gathered, are, is)
as_mended draft limit documents remote parents (Err error) gathered outcome are is = absurd are

abbrev of_both : List (List ℕ × Data) → List Data → Mended
of_both documents faults = record { documents = documents; faults = faults }

pub mended_wholly : (draft : Draft) (limit : ℕ) (documents remote all : List (List ℕ × Data)) (parents : World) (gathered : List Source) (p : rust.InPlace) (m : rust_mended.MendedDocuments)
    → AreGathered draft limit remote (sources_under (codes "documents") documents) gathered → all ≡ documents ++ flat_map document_of gathered → GivesInPlace all (mended_above parents draft all) (Ok p)
    → map given_of m.documents.items ≡ with_trees all (map tree_maybe p.trees.items) → m.faults ≡ p.faults → IsMended draft limit documents remote parents (Ok (mended_view m))
mended_wholly draft limit documents remote all parents gathered p m are whole (made, is, trees, faults) given told =
    as_mended draft limit documents remote parents (sources_under (codes "documents") documents) gathered (Ok (mended_view m)) are
    (ap (λ ds. Ok (of_both ds (map view m.faults.items))) (given ∙ trees) ∙ ap (λ fs. Ok (of_both made.documents fs)) (ap (λ list. map view list.items) told ∙ faults) ∙ sym is ∙ ap (mended_above parents draft) whole)

pub mended_nowhere : (draft : Draft) (limit : ℕ) (documents remote : List (List ℕ × Data)) (parents : World) (stop : Stop Value) → Stops stop (sources_under (codes "documents") documents)
    → GivesMended (IsMended draft limit documents remote parents) (Err stop)
mended_nowhere draft limit documents remote parents Memory is = tt
mended_nowhere draft limit documents remote parents (Because value) is = subst (λ read. IsMendedWith draft limit documents remote parents read (Err (view value))) (sym is) refl

pub mended_in_none : (draft : Draft) (limit : ℕ) (documents remote all : List (List ℕ × Data)) (parents : World) (gathered : List Source) (stop : Stop Value) → AreGathered draft limit remote (sources_under (codes "documents") documents) gathered
    → all ≡ documents ++ flat_map document_of gathered → Stops stop (mended_above parents draft all) → GivesMended (IsMended draft limit documents remote parents) (Err stop)
mended_in_none draft limit documents remote all parents gathered Memory are whole is = tt
mended_in_none draft limit documents remote all parents gathered (Because value) are whole is =
    as_mended draft limit documents remote parents (sources_under (codes "documents") documents) gathered (Err (view value)) are (sym is ∙ ap (mended_above parents draft) whole)
