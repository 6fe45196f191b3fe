-- Documents that are added and prepared.
use Rattle.std.proofs.Common.{◌≡◌, ℕ, List, [], ◌∷◌, ◌++◌, length, map, Some, Result, Ok, Err, IfOk, IfErr, refl, sym, ap, subst, ◌∙◌}
use Rattle.std.specs.Iterator.{Yields, Drains}
use Rattle.std.specs.Vec.Iter.{into_iter_items, into_iter_len, into_iter_steps}
use Rattle.std.specs.declared.vec.IntoIter.{IntoIter}
use Rattle.std.proofs.lemmas.Iterator.{items_from_drains}
use Rattle.std.proofs.lemmas.Iterator.Adapters.{YieldsList-from_vec}
use Rattle.std.proofs.lemmas.List.{map-id, map-append}
use Rattle.std.proofs.lemmas.Result.{IfOk-weaker, IfErr-weaker}
use Rattle.serde_json.specs.declared.value.Value.{Value}
use Rattle.ref_draft.specs.declared.draft.Draft.{Draft}
use Rattle.ref_uri.specs.Targets.{Refusal}
use Rattle.ref_definitions.specs.Results.{◌>>=◌}
use Rattle.ref_definitions.specs.World.{World}
use Rattle.ref_definitions.specs.Fault.{Fault, as_invalid_uri}
use Rattle.ref_definitions.specs.Preparing.{Given}
use Rattle.ref_definitions.specs.Pending.{Addition, Pending, with_addition, with_additions, given_of_builder}
use Rattle.ref_definitions.specs.Retrievers.{default_retriever, map_retriever}
use Rattle.ref_error.specs.declared.error.Error.{Error}
use Rattle.ref_error.specs.Errors.{IsFaultOf}
use Rattle.ref_error.specs.Retrieving.{trees_of}
use Rattle.ref_index.specs.Retrieval.{IsFaultyOutcome}
use Rattle.ref_index.proofs.Retrieving.{unless_memory}
use Rattle.referencing.specs.Builder.{Builder, new_builder, holding_pending, setting_draft, limited_to, retrieving_from, Adds}
use Rattle.referencing.specs.Prepared.{given_of, IsPreparedOf}
use Rattle.referencing.specs.MetaSchemas.{given_of_meta_schemas}
use Rattle.ref_registries.specs.Worlds.{IsWorld, IsErrorOf}
use Rattle.ref_registries.specs.inner.Holding.{Holds}
use Rattle.ref_registries.proofs.Faults.{unless_fault}

-- ---- what is added

vec_gave : {A Z : Type 0} (it : IntoIter A Z) (all xs : List A) → into_iter_items it ≡ all → into_iter_len it ≡ length all → Drains into_iter_steps it xs → xs ≡ all
vec_gave it all xs items len h =
    sym (map-id xs) ∙ items_from_drains xs (h.1.0, h.1.1, λ _. (h.0, h.1.2)) (YieldsList-from_vec all items len)

pub held : {A R Z : Type 0} (f : A → Addition) (parents : World) (old b : Builder R) (ds xs : List A) (it : IntoIter A Z) → old ≡ new_builder old.retriever parents [] → into_iter_items it ≡ ds → into_iter_len it ≡ length ds → Drains into_iter_steps it xs
    → Adds (with_additions old.pending (map f xs)) old b → Holds parents (with_additions [] (map f ds)) b
held f parents old b ds xs it new items len drains (pending, is, same) =
    let all : xs ≡ ds = vec_gave it ds xs items len drains in
    let none : old.pending ≡ [] = ap (λ x. x.pending) new in
    let retriever : b.retriever ≡ old.retriever = ap (λ x. x.retriever) same in (
      pending,
      ap (λ ys. with_additions [] (map f ys)) (sym all) ∙ ap (λ ps. with_additions ps (map f xs)) (sym none) ∙ is,
      same ∙ ap (holding_pending pending) new ∙ ap (λ r. new_builder r parents pending) (sym retriever),
    )

-- ---- what is refused

refused_first : (r : Result (List Pending) Refusal) (xs more : List Addition) (fault : Fault) → ((ps : List Pending) → as_invalid_uri (with_additions ps xs) ≡ Err fault → as_invalid_uri (with_additions ps (xs ++ more)) ≡ Err fault)
    → as_invalid_uri (r >>= λ next. with_additions next xs) ≡ Err fault → as_invalid_uri (r >>= λ next. with_additions next (xs ++ more)) ≡ Err fault
refused_first (Ok ps) xs more fault rest is = rest ps is
refused_first (Err refusal) xs more fault rest is = is

refused_with_more : (xs more : List Addition) (ps : List Pending) (fault : Fault) → as_invalid_uri (with_additions ps xs) ≡ Err fault → as_invalid_uri (with_additions ps (xs ++ more)) ≡ Err fault
refused_with_more [] more ps fault is = absurd (cc)
refused_with_more (x ∷ xs) more ps fault is = refused_first (with_addition ps x) xs more fault (λ next. refused_with_more xs more next fault) is

left_of : {A Z : Type 0} (xs : List A) (it rest : IntoIter A Z) → Yields into_iter_steps it xs rest → into_iter_items it ≡ xs ++ into_iter_items rest
left_of [] it rest yields = ap into_iter_items yields
left_of (x ∷ xs) it rest yields = yields.1.0 ∙ ap (λ ys. x ∷ ys) (left_of xs yields.0 rest yields.2)

pub refused : {A Z : Type 0} (f : A → Addition) (ds xs : List A) (ps : List Pending) (it rest : IntoIter A Z) (e : Error) → ps ≡ [] → into_iter_items it ≡ ds → Yields into_iter_steps it xs rest
    → IsFaultOf (as_invalid_uri (with_additions ps (map f xs))) e → IsErrorOf (λ answer. as_invalid_uri (with_additions [] (map f ds)) ≡ answer) e
refused f ds xs ps it rest e none items yields is =
    let more = map f (into_iter_items rest) in
    let all : map f ds ≡ map f xs ++ more = ap (map f) (sym items ∙ left_of xs it rest yields) ∙ map-append f xs (into_iter_items rest) in
    unless_memory e
    (λ said. (
      said.0,
      ap (λ added. as_invalid_uri (with_additions [] added)) all
          ∙ refused_with_more (map f xs) more [] said.0 (ap (λ qs. as_invalid_uri (with_additions qs (map f xs))) (sym none) ∙ said.1),
      said.2,
    ))
    (unless_fault (as_invalid_uri (with_additions ps (map f xs))) e is)

-- ---- what is prepared

-- preparing is given by a builder what is to be given for the documents that it holds: a world of these, or their fault
module _ {R : Type 0} (given : List Pending → Given) (parents : World) (documents : Result (List Pending) Refusal) (b : Builder R) (holds : Holds parents documents b) (prepared : Given) (same : prepared ≡ given holds.0) where
  pub world_prepared : (result : Result World Error) → IfOk result (IsPreparedOf prepared) → IfOk result (λ world. IsWorld given documents (Ok world))
  world_prepared result ready =
      IfOk-weaker result (IsPreparedOf prepared) _
      (λ world made.
      let (layer, outcome, clean, is) = subst (λ g. IsPreparedOf g world) same made in
      subst (λ p. IsWorld given p (Ok world)) (sym holds.1) (Ok layer, outcome, ap Ok is))
      ready

  pub world_refused : (result : Result World Error) → IfErr result (IsFaultyOutcome prepared) → IfErr result (IsErrorOf (IsWorld given documents))
  world_refused result refusal =
      IfErr-weaker result (IsFaultyOutcome prepared) _
      (λ e faulty.
      unless_memory e (λ said. (said.0, subst (λ p. IsWorld given p (Err said.0)) (sym holds.1) (Err said.0, said.1, refl), said.2)) (subst (λ g. IsFaultyOutcome g e) same faulty))
      refusal

-- ---- what is given

abbrev pub given_of_map : Builder (List (List ℕ × Value)) → Given
given_of_map b = given_of (map_retriever (trees_of b.retriever)) b

pub given_as : {R : Type 0} (m : List (List ℕ × Value)) (limit : ℕ) (draft : Draft) (parents : World) (pending : List Pending) (old : Builder R) (b : Builder (List (List ℕ × Value)))
    → old ≡ new_builder old.retriever parents pending → b ≡ setting_draft draft (limited_to limit (retrieving_from m old))
    → given_of_map b ≡ given_of_builder (map_retriever (trees_of m)) limit (Some draft) parents pending
given_as m limit draft parents pending old b new is =
    ap given_of_map (is ∙ ap (λ x. setting_draft draft (limited_to limit (retrieving_from m x))) new)

abbrev pub given_by_default : {R : Type 0} → Builder R → Given
given_by_default b = given_of default_retriever b

pub given_meta_schemas : {R : Type 0} (pending : List Pending) (b : Builder R) → b ≡ new_builder b.retriever [] pending → given_by_default b ≡ given_of_meta_schemas pending
given_meta_schemas pending b new = ap given_by_default new
