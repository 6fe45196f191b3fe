-- What `open` reads and answers.
use Rattle.std.proofs.Common.{◌≡◌, ℕ, ◌+◌, true, false, List, [], ◌∷◌, ◌++◌, map, append_assoc, codes, length, Option, Some, None, option_map, option_and_then, ok_or, unwrap_or, Result, Ok, Err, refl, sym, ap, subst, ◌∙◌}
use Rattle.std.proofs.lemmas.List.{length-append}
use Rattle.serde_json.specs.Data.{Data}
use Rattle.serde_json.specs.View.{view}
use Rattle.serde_json.specs.declared.value.Value.{Value}
use Rattle.ref_uri.specs.Targets.{Refusal}
use Rattle.ref_definitions.specs.World.{World}
use Rattle.ref_definitions.specs.Results.{◌>>=◌}
use Rattle.ref_definitions.specs.Fault.{Fault}
use Rattle.ref_definitions.specs.Pending.{Pending}
use Rattle.ref_error.specs.declared.error.Error.{Error}
use Rattle.ref_error.specs.declared.error.Error.TheVariants as error
use Rattle.ref_calls.specs.declared.fault.Wrong.TheVariants.{UnknownRegistry}
use Rattle.ref_json.specs.declared.stop.Stop.{Stop}
use Rattle.ref_json.specs.declared.stop.Stop.TheVariants.{Memory, Because}
use Rattle.ref_calls.specs.Calls.{number_in}
use Rattle.ref_calls.specs.Objects.{object_of, whole}
use Rattle.ref_calls.specs.Errors.{field_error, fault_error, with_field, IsStopOf}
use Rattle.ref_calls.specs.Outcome.{IsStop, IsChanged, Stops}
use Rattle.ref_serve.specs.declared.opening.Opened.{Opened}
use Rattle.ref_serve.specs.State.{OpenRegistry, Registries, open_at, numbered_registry, registry_in}
use Rattle.ref_calls.specs.Given.{given_of}
use Rattle.ref_serve.specs.declared.mending.MendedDocuments.{MendedDocuments}
use Rattle.ref_serve.specs.Mending.{Mended, IsMended}
use Rattle.ref_serve.specs.inner.Mended.{mended_view, GivesMended}
use Rattle.ref_serve.specs.declared.opening.Added.{Added}
use Rattle.ref_serve.specs.Opening.{Opening, Parent, AboveLayers, AboveMetaSchemas, above_registry, layers_in, opening_of, uri_given, opened_members, given_of_opening, Below, below_open, below_meta, Prepared, prepared_of, IsPrepared, IsPreparedAs, IsOpeningWorld, IsMetaWorld, IsOpenedFrom, IsOpenedAbove, IsOpenedBy, IsOpenedAs}
use Rattle.referencing.specs.MetaSchemas.{given_of_meta_schemas}
use Rattle.ref_registries.specs.Worlds.{pending_of, IsWorld, IsErrorOf}
use Rattle.ref_serve.specs.Answering.{IsOpened}
use Rattle.ref_serve.specs.inner.Openings.{layers_at, faults_members, IsWorldOr, IsMetaWorldOr, IsAddedOr, IsErrorFrom, GivesPrepared, GivesOpened}

-- ---- parents

numbered : (o : Option OpenRegistry) (number : ℕ) (e : Data) (r : ℕ × OpenRegistry) → ok_or (option_and_then (λ x. Some (number, x)) o) e ≡ Ok r → (o ≡ Some r.1) × (number ≡ r.0)
numbered None number e r is = absurd (cc)
numbered (Some o) number e r is = let same : (number, o) ≡ r = cc in (ap (λ x. Some x.1) same, ap (λ x. x.0) same)

number_found : (state : Registries) (field : List ℕ) (number : Result ℕ Data) (r : ℕ × OpenRegistry) → (number >>= λ n. numbered_registry state field n) ≡ Ok r → open_at state r.0 ≡ Some r.1
number_found state field (Ok n) r is =
    let both : (open_at state n ≡ Some r.1) × (n ≡ r.0) = numbered (open_at state n) n (field_error UnknownRegistry field) r is in
    subst (λ m. open_at state m ≡ Some r.1) both.1 both.0
number_found state field (Err e) r is = absurd (cc)

pub in_found : (state : Registries) (field : List ℕ) (value : Data) (r : ℕ × OpenRegistry) → registry_in state field value ≡ Ok r → open_at state r.0 ≡ Some r.1
in_found state field value r is = number_found state field (number_in field value) r is

pub layers_found : (state : Registries) (value : Data) (number : ℕ) (o : OpenRegistry) (numbers : List ℕ) → registry_in state (codes "parent") value ≡ Ok (number, o) → numbers ≡ number ∷ o.1 → layers_in state value ≡ Ok (layers_at state numbers)
layers_found state value number o numbers found list =
    let there : open_at state number ≡ Some o = in_found state (codes "parent") value (number, o) found in
    ap (λ x. x >>= λ r. Ok (above_registry r)) found
    ∙ ap (λ x. Ok (unwrap_or (option_map (λ r. r.0) x) [], number ∷ o.1)) (sym there)
    ∙ ap (λ ns. Ok (layers_at state ns)) (sym list)

-- ---- errors

-- what holds of a fault's error object, and of out of memory, holds of what an error stops with
of_error : {A : Type 0} (MayAnswer : Result A Fault → Type 0) (P : Stop Value → Type 0) → ((s : Stop Value) (fault : Fault) → MayAnswer (Err fault) → IsStop s (fault_error fault) → P s) → P Memory
    → (e : Error) (stop : Stop Value) → IsErrorOf MayAnswer e → IsStopOf e stop → P stop
of_error M P says_fault none (error.Unretrievable uri source) stop is says = says_fault stop is.0 is.1 (says is.0 is.2)
of_error M P says_fault none (error.PointerToNowhere pointer) stop is says = says_fault stop is.0 is.1 (says is.0 is.2)
of_error M P says_fault none (error.InvalidPercentEncoding pointer) stop is says = says_fault stop is.0 is.1 (says is.0 is.2)
of_error M P says_fault none (error.InvalidArrayIndex pointer index) stop is says = says_fault stop is.0 is.1 (says is.0 is.2)
of_error M P says_fault none (error.NoSuchAnchor anchor) stop is says = says_fault stop is.0 is.1 (says is.0 is.2)
of_error M P says_fault none (error.InvalidAnchor anchor) stop is says = says_fault stop is.0 is.1 (says is.0 is.2)
of_error M P says_fault none (error.InvalidUri uri) stop is says = says_fault stop is.0 is.1 (says is.0 is.2)
of_error M P says_fault none (error.UnknownSpecification specification) stop is says = says_fault stop is.0 is.1 (says is.0 is.2)
of_error M P says_fault none (error.CircularMetaschema uri) stop is says = says_fault stop is.0 is.1 (says is.0 is.2)
of_error M P says_fault none (error.RetrievalLimit uri limit) stop is says = says_fault stop is.0 is.1 (says is.0 is.2)
of_error M P says_fault none (error.Memory memory) stop is says = subst P (sym says) none

-- ---- worlds

with_fault : (o : Opening) (layers : OpenRegistry) (stop : Stop Value) (fault : Fault) → IsOpeningWorld o layers.0 (Err fault) → IsStop stop (fault_error fault) → IsWorldOr o layers (Err stop)
with_fault o layers Memory fault is says = tt
with_fault o layers (Because value) fault is says = (fault, is, says)

pub world_stopped : (o : Opening) (layers : OpenRegistry) (added : Result (List Pending) Refusal) (e : Error) (stop : Stop Value) → added ≡ pending_of o.documents
    → IsErrorOf (IsWorld (given_of_opening o layers.0) added) e → IsStopOf e stop → IsWorldOr o layers (Err stop)
world_stopped o layers added e stop same is says =
    of_error (IsOpeningWorld o layers.0) (λ s. IsWorldOr o layers (Err s)) (λ s fault. with_fault o layers s fault) tt e stop
    (subst (λ p. IsErrorOf (IsWorld (given_of_opening o layers.0) p) e) same is) says

with_meta_fault : (documents : List (List ℕ × Data)) (stop : Stop Value) (fault : Fault) → IsMetaWorld documents (Err fault) → IsStop stop (with_field (codes "parent") (fault_error fault)) → IsMetaWorldOr documents (Err stop)
with_meta_fault documents Memory fault is says = tt
with_meta_fault documents (Because value) fault is says = (fault, is, says)

changed_fault : (documents : List (List ℕ × Data)) (stop result : Stop Value) (fault : Fault) → IsMetaWorld documents (Err fault) → IsStop stop (fault_error fault) → IsChanged (with_field (codes "parent")) stop result → IsMetaWorldOr documents (Err result)
changed_fault documents Memory result fault is says change = subst (λ s. IsMetaWorldOr documents (Err s)) (sym change) tt
changed_fault documents (Because value) result fault is says change = with_meta_fault documents result fault is (subst (λ v. IsStop result (with_field (codes "parent") v)) says change)

pub meta_stopped : (documents : List (List ℕ × Data)) (added : Result (List Pending) Refusal) (e : Error) (stop result : Stop Value) → added ≡ pending_of documents
    → IsErrorOf (IsWorld given_of_meta_schemas added) e → IsStopOf e stop → IsChanged (with_field (codes "parent")) stop result → IsMetaWorldOr documents (Err result)
meta_stopped documents added e stop result same is says change =
    of_error (IsMetaWorld documents) (λ s. IsChanged (with_field (codes "parent")) s result → IsMetaWorldOr documents (Err result)) (λ s fault. changed_fault documents s result fault) (λ none. subst (λ s. IsMetaWorldOr documents (Err s)) (sym none) tt) e stop
    (subst (λ p. IsErrorOf (IsWorld given_of_meta_schemas p) e) same is) says change

-- ---- answers

-- an error of what is prepared, or of opening it, is that of the whole
error_from : (state : Registries) (o : Opening) (below : Below) (layers : OpenRegistry) (error : Data) (prepared : Result Prepared Data) → layers ≡ below.layers → IsErrorFrom layers error prepared → IsOpenedFrom o below state state prepared (Err error)
error_from state o below layers error (Ok p) is (fault, world, says) = (Err fault, subst (λ l. IsOpeningWorld p.opening l.0 (Err fault)) is world, (ap Err says, refl))
error_from state o below layers error (Err other) is says = (ap Err says, refl)

above_error : (state : Registries) (o : Opening) (below : Below) (layers : OpenRegistry) (value : Value) → layers ≡ below.layers → IsAddedOr o layers (Err (Because value)) → IsOpenedAbove o below state state (Err (view value))
above_error state o below layers value is (prepared, may, from) =
    (prepared, subst (λ l. IsPrepared o l.0 prepared) is may, error_from state o below layers (view value) prepared is from)

pub opened_none : (state : Registries) (o : Opening) (layers : OpenRegistry) (stop : Stop Value) → IsAddedOr o layers (Err stop) → GivesOpened (IsOpenedBy (AboveLayers layers) o state) state (Err stop)
opened_none state o layers Memory added = tt
opened_none state o layers (Because value) added = above_error state o (below_open state layers) layers value refl added

-- the registries with what was opened, and the result with its members
above_added : (state : Registries) (o : Opening) (below : Below) (layers : OpenRegistry) (added : Added) (next : Registries) (result : Data) → layers ≡ below.layers → IsAddedOr o layers (Ok added)
    → result ≡ object_of (opened_members (length below.registries) added.registry.0 (map uri_given (map (λ d. d.0) o.documents)) ++ (below.members ++ faults_members added.faults))
    → next ≡ below.registries ++ Some (added.registry, []) ∷ [] → IsOpenedAbove o below state next (Ok result)
above_added state o below layers added next result is (p, may, (world, numbers, members)) told all = (
  Ok p,
  subst (λ l. IsPrepared o l.0 (Ok p)) is may,
  (
    Ok added.registry.0,
    subst (λ l. IsOpeningWorld p.opening l.0 (Ok added.registry.0)) is world,
    (
      ap Ok (told ∙ ap (λ ms. object_of (opened_members (length below.registries) added.registry.0 (map uri_given (map (λ d. d.0) o.documents)) ++ (below.members ++ ms))) (sym members)),
      all ∙ ap (λ ns. below.registries ++ Some ((added.registry.0, ns), []) ∷ []) (numbers ∙ ap (λ l. l.1) is),
    ),
  ),
)

pub opened_one : (state : Registries) (o : Opening) (layers : OpenRegistry) (number : ℕ) (added : Added) (opened : Opened) (uris : List (Option (List ℕ))) → IsAddedOr o layers (Ok added) → number ≡ length state
    → uris ≡ map uri_given (map (λ d. d.0) o.documents) → view opened.result ≡ object_of (opened_members number added.registry.0 uris ++ faults_members added.faults) → opened.registries.items ≡ Some (added.registry, []) ∷ []
    → GivesOpened (IsOpenedBy (AboveLayers layers) o state) state (Ok opened)
opened_one state o layers number added opened uris is counted given told one =
    above_added state o (below_open state layers) layers added (state ++ opened.registries.items) (view opened.result) refl is
    (told ∙ ap (λ n. object_of (opened_members n added.registry.0 uris ++ faults_members added.faults)) counted
    ∙ ap (λ us. object_of (opened_members (length state) added.registry.0 us ++ faults_members added.faults)) given) (ap (λ rs. state ++ rs) one)

-- the layers of a registry of meta-schemas that gets the next number
pub meta_layers : (state : Registries) (number : ℕ) (parent : OpenRegistry) (world : World) (numbers : List ℕ) → number ≡ length state → parent.1 ≡ [] → world ≡ parent.0 → numbers ≡ number ∷ parent.1 → (world, numbers) ≡ (below_meta state parent.0).layers
meta_layers state number parent world numbers is none same list =
    ap (λ w. (w, numbers)) same ∙ ap (λ ns. (parent.0, ns)) (list ∙ ap (λ n. n ∷ parent.1) is ∙ ap (λ ns. length state ∷ ns) none)

pub no_meta : (state : Registries) (o : Opening) (documents : List (List ℕ × Data)) (stop : Stop Value) → IsMetaWorldOr documents (Err stop) → GivesOpened (IsOpenedBy (AboveMetaSchemas documents) o state) state (Err stop)
no_meta state o documents Memory world = tt
no_meta state o documents (Because value) (fault, world, says) = (Err fault, world, (ap Err says, refl))

pub opened_neither : (state : Registries) (o : Opening) (documents : List (List ℕ × Data)) (parent layers : OpenRegistry) (stop : Stop Value) → IsMetaWorldOr documents (Ok parent) → layers ≡ (below_meta state parent.0).layers → IsAddedOr o layers (Err stop)
    → GivesOpened (IsOpenedBy (AboveMetaSchemas documents) o state) state (Err stop)
opened_neither state o documents parent layers Memory meta is added = tt
opened_neither state o documents parent layers (Because value) meta is added =
    (Ok parent.0, meta.0, above_error state o (below_meta state parent.0) layers value is added)

pub opened_both : (state : Registries) (o : Opening) (documents : List (List ℕ × Data)) (parent layers : OpenRegistry) (number : ℕ) (added : Added) (opened : Opened) (uris : List (Option (List ℕ))) → IsMetaWorldOr documents (Ok parent)
    → layers ≡ (below_meta state parent.0).layers → IsAddedOr o layers (Ok added) → number ≡ length state → uris ≡ map uri_given (map (λ d. d.0) o.documents)
    → view opened.result ≡ object_of (opened_members (number + 1) added.registry.0 uris ++ (codes "parent", whole number) ∷ faults_members added.faults)
    → opened.registries.items ≡ Some (parent, []) ∷ Some (added.registry, []) ∷ [] → GivesOpened (IsOpenedBy (AboveMetaSchemas documents) o state) state (Ok opened)
opened_both state o documents parent layers number added opened uris meta is added_is counted given told both =
    let below = below_meta state parent.0 in
    let own : parent ≡ (parent.0, []) = ap (λ ns. (parent.0, ns)) meta.1 in
    let long : number + 1 ≡ length below.registries = ap (λ n. n + 1) counted ∙ sym (length-append state (Some ((parent.0, []), []) ∷ [])) in (
      Ok parent.0,
      meta.0,
      above_added state o below layers added (state ++ opened.registries.items) (view opened.result) is added_is
          (told ∙ ap (λ n. object_of (opened_members n added.registry.0 uris ++ (codes "parent", whole number) ∷ faults_members added.faults)) long
          ∙ ap (λ us. object_of (opened_members (length below.registries) added.registry.0 us ++ (codes "parent", whole number) ∷ faults_members added.faults)) given
          ∙ ap (λ n. object_of (opened_members (length below.registries) added.registry.0 (map uri_given (map (λ d. d.0) o.documents)) ++ (codes "parent", whole n) ∷ faults_members added.faults)) counted)
          (ap (λ rs. state ++ rs) (both ∙ ap (λ p. Some (p, []) ∷ Some (added.registry, []) ∷ []) own) ∙ sym (append_assoc state (Some ((parent.0, []), []) ∷ []) (Some (added.registry, []) ∷ []))),
    )

-- ---- what is prepared

pub prepared_strictly : (o : Opening) (parents : World) → o.keeps ≡ false → IsPrepared o parents (Ok (record { opening = o; members = [] }))
prepared_strictly o parents strict = subst (λ b. IsPreparedAs b o parents (Ok (record { opening = o; members = [] }))) (sym strict) refl

prepared_kept : (o : Opening) (parents : World) (m : Mended) → o.keeps ≡ true → IsMended o.draft o.limit o.documents o.remote parents (Ok m) → IsPrepared o parents (Ok (prepared_of o m))
prepared_kept o parents m kept is = subst (λ b. IsPreparedAs b o parents (Ok (prepared_of o m))) (sym kept) (Ok m, is, refl)

-- what is prepared of mended documents, for which nothing more is retrieved
pub prepared_seen : (o : Opening) (parents : World) (m : MendedDocuments) (remote : List (List ℕ × Data)) → o.keeps ≡ true → remote ≡ [] → GivesMended (IsMended o.draft o.limit o.documents o.remote parents) (Ok m)
    → IsPrepared o parents (Ok (record { opening = record o { documents = map given_of m.documents.items; remote = remote }; members = faults_members (Some m.faults) }))
prepared_seen o parents m remote kept none is =
    subst (λ r. IsPrepared o parents (Ok (record { opening = record o { documents = map given_of m.documents.items; remote = r }; members = faults_members (Some m.faults) }))) (sym none)
    (prepared_kept o parents (mended_view m) kept is)

unprepared : (o : Opening) (parents : World) (error : Data) → o.keeps ≡ true → IsMended o.draft o.limit o.documents o.remote parents (Err error) → IsPrepared o parents (Err error)
unprepared o parents error kept is = subst (λ b. IsPreparedAs b o parents (Err error)) (sym kept) (Err error, is, refl)

pub gives_unprepared : (o : Opening) (parents : World) (stop : Stop Value) → o.keeps ≡ true → GivesMended (IsMended o.draft o.limit o.documents o.remote parents) (Err stop) → GivesPrepared o parents (Err stop)
gives_unprepared o parents Memory kept is = tt
gives_unprepared o parents (Because value) kept is = unprepared o parents (view value) kept is

-- what is opened of what was prepared, unless memory ran out
pub added_from : (o : Opening) (layers : OpenRegistry) (p : Prepared) (added : Added) → IsPrepared o layers.0 (Ok p) → p.members ≡ faults_members added.faults → IsWorldOr p.opening layers (Ok added.registry)
    → IsAddedOr o layers (Ok added)
added_from o layers p added may members (world, numbers) = (p, may, (world, numbers, members))

pub added_none : (o : Opening) (layers : OpenRegistry) (p : Prepared) (stop : Stop Value) → IsPrepared o layers.0 (Ok p) → IsWorldOr p.opening layers (Err stop) → IsAddedOr o layers (Err stop)
added_none o layers p Memory may world = tt
added_none o layers p (Because value) may (fault, world, says) = (Ok p, may, (fault, world, says))

pub unadded : (o : Opening) (layers : OpenRegistry) (stop : Stop Value) → GivesPrepared o layers.0 (Err stop) → IsAddedOr o layers (Err stop)
unadded o layers Memory may = tt
unadded o layers (Because value) may = (Err (view value), may, refl)

-- ---- what is asked

pub gives_asked : (state : Registries) (d : Data) (p : Parent) (o : Opening) (result : Result Opened (Stop Value)) → opening_of state d ≡ Ok (p, o) → GivesOpened (IsOpenedBy p o state) state result → GivesOpened (IsOpened state d) state result
unfolding IsOpened
gives_asked state d p o (Ok opened) is given = subst (λ x. IsOpenedAs x state (state ++ opened.registries.items) (Ok (view opened.result))) (sym is) given
gives_asked state d p o (Err Memory) is given = tt
gives_asked state d p o (Err (Because value)) is given = subst (λ x. IsOpenedAs x state state (Err (view value))) (sym is) given

pub unread : (state : Registries) (d : Data) (stop : Stop Value) → Stops stop (opening_of state d) → GivesOpened (IsOpened state d) state (Err stop)
unfolding IsOpened
unread state d Memory is = tt
unread state d (Because value) is = subst (λ x. IsOpenedAs x state state (Err (view value))) (sym is) (refl, refl)
