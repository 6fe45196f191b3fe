-- What is prepared from documents without floats has none.
use Rattle.std.proofs.Common.{◌≡◌, ℕ, Bool, true, false, cond, List, [], ◌∷◌, map, Option, Some, None, IfSome, option_map, unwrap_or, bytes_eq, Result, Ok, Err, IfOk, subst, sym, refl}
use Rattle.std.specs.List.{AllByRecursion, list_any}
use Rattle.serde_json.specs.Data.{Data}
use Rattle.ref_draft.specs.declared.draft.Draft.{Draft}
use Rattle.ref_draft.specs.Schema.{trimmed_text}
use Rattle.ref_draft.proofs.Lists.{all_append, all_filter}
use Rattle.ref_uri.specs.Targets.{Refusal, uri_of}
use Rattle.ref_definitions.specs.World.{Layer, World, document}
use Rattle.ref_definitions.specs.Fault.{Fault}
use Rattle.ref_definitions.specs.Resources.{last_under}
use Rattle.ref_definitions.specs.Preparing.{Retriever, Given, IsRun, begun, retrieved, IsOutcome, faulty, limited, refused, ready}
use Rattle.ref_definitions.specs.Pending.{Addition, Pending, pending_of, with_pending, with_addition, with_additions, document_of, builder_draft, given_of_builder}
use Rattle.ref_definitions.specs.Retrievers.{map_retriever, default_retriever}
use Rattle.ref_report.specs.Request.{Document, Request}
use Rattle.ref_registries.specs.Worlds as worlds
use Rattle.ref_report.specs.Worlds.{AreParents, IsWorldAbove}
use Rattle.ref_report.specs.inner.Floats.{HoldsNoFloat, HoldNoFloats, RequestHoldsNoFloat, LayerHoldsNoFloat, WorldHoldsNoFloat}
use Rattle.ref_definitions.proofs.Options.{if_bound, if_any}
use Rattle.ref_definitions.proofs.Lists.{last_of_all}

-- ---- documents that are added

abbrev PendingHoldNoFloats : List Pending → Type 0
PendingHoldNoFloats ps = AllByRecursion (λ p. HoldsNoFloat p.tree) ps

exchanged : (uri : List ℕ) (p : Pending) (ps : List Pending) → HoldsNoFloat p.tree → PendingHoldNoFloats ps → PendingHoldNoFloats (map (λ e. cond (bytes_eq e.uri uri) p e) ps)
exchanged uri p [] h each = tt
exchanged uri p (e ∷ ps) h each = (either (bytes_eq e.uri uri), exchanged uri p ps h each.1)
  where
    either : (b : Bool) → HoldsNoFloat (cond b p e).tree
    either true = h
    either false = each.0

either_list : (b : Bool) (ps qs : List Pending) → PendingHoldNoFloats ps → PendingHoldNoFloats qs → PendingHoldNoFloats (cond b ps qs)
either_list true ps qs p q = p
either_list false ps qs p q = q

one_more : (ps : List Pending) (p : Pending) → PendingHoldNoFloats ps → HoldsNoFloat p.tree → PendingHoldNoFloats (with_pending ps p)
unfolding with_pending
one_more ps p each h =
    either_list (list_any (λ e. bytes_eq e.uri p.uri) ps) _ _ (exchanged p.uri p ps h each) (all_append (λ q. HoldsNoFloat q.tree) ps (p ∷ []) each (h, tt))

all_added : (ps : List Pending) (ds : List Document) → PendingHoldNoFloats ps → HoldNoFloats ds → IfOk (with_additions ps (map worlds.addition_of ds)) PendingHoldNoFloats
all_added ps [] each h = each
all_added ps (d ∷ ds) each h =
    let a : Addition = worlds.addition_of d in
    if_bound PendingHoldNoFloats PendingHoldNoFloats (with_addition ps a) (λ next. with_additions next (map worlds.addition_of ds))
    (if_bound (λ p. HoldsNoFloat p.tree) PendingHoldNoFloats (pending_of a) (λ p. Ok (with_pending ps p))
    (if_any (λ p. HoldsNoFloat p.tree) (uri_of (trimmed_text d.0)) (λ uri. Ok (record { uri = uri; tree = d.1; draft = None })) (λ uri. h.0))
    (λ p plain. one_more ps p each plain))
    (λ next plain. all_added next ds plain h.1)

as_documents : (draft : Draft) (ps : List Pending) → PendingHoldNoFloats ps → LayerHoldsNoFloat (map (document_of draft) ps)
as_documents draft [] each = tt
as_documents draft (p ∷ ps) each = (each.0, as_documents draft ps each.1)

-- ---- documents that are retrieved

abbrev pub AnswerHoldsNoFloat : Retriever → Type 0
AnswerHoldsNoFloat r = (uri : List ℕ) (tree : Data) → r.may_answer uri tree → HoldsNoFloat tree

run_without_floats : (given : Given) (n : ℕ) (layer : Layer) → AnswerHoldsNoFloat given.retriever → LayerHoldsNoFloat given.documents → IsRun given n layer → LayerHoldsNoFloat layer
run_without_floats given n layer answers h begun = h
run_without_floats given n layer answers h (retrieved m before want tree run step) =
    all_append (λ d. HoldsNoFloat d.tree) before (document given.draft want.uri tree ∷ []) (run_without_floats given m before answers h run) (answers want.uri tree step.answered, tt)

outcome_without_floats : (given : Given) (layer : Layer) (answer : Result Layer Fault) → answer ≡ Ok layer → AnswerHoldsNoFloat given.retriever → LayerHoldsNoFloat given.documents → IsOutcome given answer → LayerHoldsNoFloat layer
outcome_without_floats given layer answer is answers h (faulty refusal end) = absurd (cc)
outcome_without_floats given layer answer is answers h (limited want end) = absurd (cc)
outcome_without_floats given layer answer is answers h (refused want text end) = absurd (cc)
outcome_without_floats given layer answer is answers h (ready before end) =
    let same : before ≡ layer = cc in subst LayerHoldsNoFloat same (run_without_floats given end.count before answers h end.run)

map_answers : (pairs : List (List ℕ × Data)) → AllByRecursion (λ e. HoldsNoFloat e.1) pairs → AnswerHoldsNoFloat (map_retriever pairs)
map_answers pairs each uri tree is =
    found (last_under uri pairs) (last_of_all (λ e. HoldsNoFloat e.1) None _ tt (all_filter (λ e. HoldsNoFloat e.1) (λ e. bytes_eq e.0 uri) pairs each)) is
  where
    found : (o : Option (List ℕ × Data)) → IfSome o (λ e. HoldsNoFloat e.1) → option_map (λ e. e.1) o ≡ Some tree → HoldsNoFloat tree
    found None p same = absurd (cc)
    found (Some e) p same = let value : e.1 ≡ tree = cc in subst HoldsNoFloat value p

-- ---- worlds

world_by : (given : List Pending → Given) (parents world : World) (e : Result (List Pending) Refusal) → ((ps : List Pending) → AnswerHoldsNoFloat (given ps).retriever) → ((ps : List Pending) → (given ps).parents ≡ parents)
    → ((ps : List Pending) → PendingHoldNoFloats ps → LayerHoldsNoFloat (given ps).documents) → WorldHoldsNoFloat parents → IfOk e PendingHoldNoFloats → worlds.IsWorld given e (Ok world) → WorldHoldsNoFloat world
world_by given parents world (Err refusal) answers same layer above each is = absurd (cc)
world_by given parents world (Ok ps) answers same layer above each (Err fault, outcome, is) = absurd (cc)
world_by given parents world (Ok ps) answers same layer above each (Ok own, outcome, is) =
    let whole : own ∷ (given ps).parents ≡ world = cc in
    subst WorldHoldsNoFloat whole (outcome_without_floats (given ps) own (Ok own) refl (answers ps) (layer ps each) outcome, subst WorldHoldsNoFloat (sym (same ps)) above)

built : (retriever : Retriever) (limit : ℕ) (draft : Option Draft) (parents world : World) (ds : List Document) → AnswerHoldsNoFloat retriever → WorldHoldsNoFloat parents → HoldNoFloats ds
    → worlds.IsWorld (given_of_builder retriever limit draft parents) (worlds.pending_of ds) (Ok world) → WorldHoldsNoFloat world
built retriever limit draft parents world ds answers above each is =
    world_by (given_of_builder retriever limit draft parents) parents world (worlds.pending_of ds) (λ ps. answers) (λ ps. refl) (λ ps h. as_documents (builder_draft draft) ps h) above (all_added [] ds tt each) is

parents_without_floats : (meta : Option (List Document)) (parents : World) → HoldNoFloats (unwrap_or meta []) → AreParents meta (Ok parents) → WorldHoldsNoFloat parents
parents_without_floats None parents each is = let same : [] ≡ parents = cc in subst WorldHoldsNoFloat same tt
parents_without_floats (Some ds) parents each is = built default_retriever 10000 None [] parents ds (λ uri tree never. absurd never) tt each is

pub world_without_floats : (r : Request) (parents world : World) → RequestHoldsNoFloat r → AreParents r.meta (Ok parents) → IsWorldAbove r parents (Ok world) → WorldHoldsNoFloat world
world_without_floats r parents world h above is =
    built (map_retriever (unwrap_or r.remote [])) (unwrap_or r.limit 10000) r.draft parents world r.documents (map_answers (unwrap_or r.remote []) h.remote) (parents_without_floats r.meta parents h.meta above) h.documents is
