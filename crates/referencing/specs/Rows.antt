-- Worked rows of what the calls of a registry return, for texts that stand for any.
use Rattle.std.specs.Prelude.{◌≡◌, ℕ, true, codes, List, [], ◌∷◌, Option, Some, None, Ok, Err, String, string_bytes}
use Rattle.std.specs.declared.alloc.AllocError.{AllocError}
use Rattle.std.specs.declared.alloc.Global.{Global}
use Rattle.ref_draft.specs.declared.draft.Draft.TheVariants.{Draft7, Draft201909, Draft202012}
use Rattle.ref_uri.specs.Targets.{parse_refusal}
use Rattle.ref_uri.specs.declared.error.UriError.TheVariants.{Parse}
use Rattle.ref_uri.specs.declared.error.ParseError.TheVariants.{Syntax}
use Rattle.ref_definitions.specs.Fault as fault
use Rattle.ref_paths.specs.Path.{Part, Key, Index}
use Rattle.ref_definitions.specs.World.{World}
use Rattle.ref_definitions.specs.Places.{root}
use Rattle.ref_definitions.specs.Follow.{Followed}
use Rattle.ref_definitions.specs.Rows.{at, world, yes, empty, text, one, two, pair, refers_to_b, b_refers_to_c, c_is_true, given_alone, given_with, followed_to, look, found_value, resolver}
use Rattle.ref_error.specs.declared.error.Error.TheVariants.{PointerToNowhere, NoSuchAnchor, InvalidUri, RetrievalLimit, Memory}
use Rattle.ref_index.specs.Retrieval.{IsFaultyOutcome}
use Rattle.ref_index.specs.Spots.{Spot}
use Rattle.ref_resolver.specs.declared.resolver.Resolved.{Resolved}
use Rattle.ref_resolver.specs.Layered.{IsHeld}
use Rattle.ref_resolver.specs.Locations.{lookup_location, recursive_reference}
use Rattle.ref_resolver.specs.Resolving.{found_of}
use Rattle.referencing.specs.declared.answer.AnswerError.TheVariants as answer_error
use Rattle.referencing.specs.Prepared.{IsPrepared, ReferencesAreRetrieved, IsPreparedOf, AreComplete, LimitIsUsedUp}
use Rattle.referencing.specs.MetaSchemas.{IsMetaSchemaFault}
use Rattle.referencing.specs.Following.{IsStepFaultOf, ReachesStep}
use Rattle.referencing.specs.Listed.{AnswersPlace, Agrees}
use Rattle.referencing.specs.Builder.{Builder, holding_pending, Adds}
use Rattle.referencing.specs.Answering.{Answers, IsFailureOf}

-- which worlds and errors preparing may return
pub record PreparingRows : Type 0 where
  pub prepared : IsPreparedOf (given_alone (c_is_true ∷ [])) (world (c_is_true ∷ []))
  pub not_prepared : ¬ (IsPreparedOf (given_alone (c_is_true ∷ [])) (world []))
  pub limit : (uri : String Global) → string_bytes uri ≡ codes "http://a/b"
      → IsFaultyOutcome (given_with 0) (RetrievalLimit uri 0)
  pub no_fault : (uri : String Global)
      → ¬ (IsFaultyOutcome (given_alone (c_is_true ∷ [])) (RetrievalLimit uri 0))
  pub used_up : (uri : String Global) → string_bytes uri ≡ codes "http://a/b"
      → LimitIsUsedUp (given_with 0) (RetrievalLimit uri 0)
  pub not_used_up : (uri : String Global) → ¬ (LimitIsUsedUp (given_with 2) (RetrievalLimit uri 1))
  pub refused_uri_of_a_meta_schema : (u : String Global) → string_bytes u ≡ codes "a b"
      → IsMetaSchemaFault (Err (parse_refusal (codes "a b"))) (InvalidUri (Parse u true Syntax))
  pub no_other_fault_of_a_meta_schema : (p : String Global)
      → ¬ (IsMetaSchemaFault (Err (parse_refusal (codes "a b"))) (NoSuchAnchor p))
  pub adds : (b : Builder ℕ) → Adds (Ok []) b (holding_pending [] b)
  pub refusals_add_nothing : (b : Builder ℕ) → ¬ (Adds (Err (parse_refusal (codes "a b"))) b b)
  pub complete : AreComplete (given_alone (c_is_true ∷ []))
  pub not_complete : ¬ (AreComplete (given_alone (refers_to_b ∷ [])))
  pub nothing_open : IsPrepared (world (c_is_true ∷ []))
  pub a_want_open : ¬ (IsPrepared (world (refers_to_b ∷ [])))
  pub retrieved : ReferencesAreRetrieved (world (refers_to_b ∷ b_refers_to_c ∷ c_is_true ∷ []))
  pub not_retrieved : ¬ (ReferencesAreRetrieved (world (refers_to_b ∷ [])))

-- which pairs were resolved when documents were prepared
pub record HeldRows : Type 0 where
  pub held : IsHeld (world (refers_to_b ∷ [])) (codes "http://a/r") (codes "b")
  pub held_by_a_parent : IsHeld ((c_is_true ∷ []) ∷ world (refers_to_b ∷ []))
      (codes "http://a/r") (codes "b")
  pub not_held : ¬ (IsHeld (world (c_is_true ∷ [])) (codes "http://a/c") (codes "b"))

-- which errors following may return
pub record StepRows : Type 0 where
  pub second_step : (p : String Global) → string_bytes p ≡ codes "/a"
      → IsStepFaultOf (Err (1, fault.PointerToNowhere (codes "/a")))
      (record { step = 1; error = PointerToNowhere p })
  pub not_the_first : (p : String Global)
      → ¬ (IsStepFaultOf (Err (1, fault.PointerToNowhere (codes "/a")))
      (record { step = 0; error = PointerToNowhere p }))
  pub failed_step : (p : String Global) → string_bytes p ≡ codes "/x"
      → IsFailureOf (given_alone (c_is_true ∷ [])) (codes "http://a/c") (look "#/x" ∷ [])
      (answer_error.Follow (record { step = 0; error = PointerToNowhere p }))
  pub no_step : (p : String Global)
      → ¬ (IsFailureOf (given_alone (c_is_true ∷ [])) (codes "http://a/c") []
      (answer_error.Follow (record { step = 0; error = PointerToNowhere p })))
  pub failed_preparing : (uri : String Global) → string_bytes uri ≡ codes "http://a/b"
      → IsFailureOf (given_with 0) (codes "http://a/c") []
      (answer_error.Prepare (RetrievalLimit uri 0))
  pub no_failed_preparing : (uri : String Global)
      → ¬ (IsFailureOf (given_alone (c_is_true ∷ [])) (codes "http://a/c") []
      (answer_error.Prepare (RetrievalLimit uri 0)))
  pub no_memory_for_the_copy : (e : AllocError)
      → IsFailureOf (given_alone (c_is_true ∷ [])) (codes "http://a/c") (look "#" ∷ [])
      (answer_error.Memory e)
  pub no_copy_where_a_step_fails : (e : AllocError)
      → ¬ (IsFailureOf (given_alone (c_is_true ∷ [])) (codes "http://a/c") (look "#/x" ∷ [])
      (answer_error.Memory e))
  pub answered : Answers (given_alone (c_is_true ∷ [])) (codes "http://a/c") []
      (followed_to None (resolver "http://a/c" []))
  pub not_answered : (f : Followed)
      → ¬ (Answers (given_alone (c_is_true ∷ [])) (codes "http://a/c") (look "#/x" ∷ []) f)
  pub reached : ReachesStep (world (c_is_true ∷ [])) (codes "http://a/c")
      (look "#" ∷ look "#/x" ∷ []) 1
  pub not_reached : ¬ (ReachesStep (world (c_is_true ∷ [])) (codes "http://a/c")
      (look "#/x" ∷ look "#" ∷ []) 1)

-- which answers are a place's
pub record PlaceRows : Type 0 where
  pub of_the_place : (r : Resolved)
      → found_of r ≡ found_value yes Draft7 (resolver "http://a/r" (codes "http://a/r" ∷ []))
      → AnswersPlace (root (at Draft7 "http://a/r" yes)) (codes "http://a/r") (Ok r)
  pub of_another_value : (r : Resolved)
      → found_of r ≡ found_value empty Draft7 (resolver "http://a/r" (codes "http://a/r" ∷ []))
      → ¬ (AnswersPlace (root (at Draft7 "http://a/r" yes)) (codes "http://a/r") (Ok r))
  pub want_of_memory : (e : AllocError)
      → Agrees (at Draft7 "http://a/r" yes ∷ []) (codes "http://a/r") [] (Err (Memory e))
  pub no_other_error : (p : String Global)
      → ¬ (Agrees (at Draft7 "http://a/r" yes ∷ []) (codes "http://a/r") [] (Err (NoSuchAnchor p)))
  pub no_other_value : (r : Resolved)
      → found_of r ≡ found_value empty Draft7 (resolver "http://a/r" (codes "http://a/r" ∷ []))
      → ¬ (Agrees (at Draft7 "http://a/r" yes ∷ []) (codes "http://a/r") [] (Ok r))

-- where the values are that references lead to: two documents with equal values; two equal places of one document, one of
-- which is named; two documents with the same identifier and anchor; and a parent
abbrev pub equal_documents : World
equal_documents = world (at Draft202012 "http://a/r" yes ∷ at Draft202012 "http://a/s" yes ∷ [])

abbrev pub equal_places : World
equal_places =
    world (at Draft202012 "http://a/r" (one "$defs" (two "a" yes "b" yes)) ∷ [])

abbrev pub one_identifier : World
one_identifier =
    world
    (at Draft202012 "http://a/r" (two "$anchor" (text "x") "$id" (text "k"))
    ∷ at Draft202012 "http://a/s" (two "$anchor" (text "x") "$id" (text "k")) ∷ [])

-- two documents with one dynamic anchor; and two that are marked by `$recursiveAnchor`, beside one that isn't
abbrev pub dynamic_anchors : World
dynamic_anchors =
    world
    (at Draft202012 "http://a/r" (one "$dynamicAnchor" (text "x"))
    ∷ at Draft202012 "http://a/s" (one "$dynamicAnchor" (text "x")) ∷ [])

abbrev pub recursive_anchors : World
recursive_anchors =
    world
    (at Draft201909 "http://a/r" (one "$recursiveAnchor" yes)
    ∷ at Draft201909 "http://a/s" (one "$recursiveAnchor" yes)
    ∷ at Draft201909 "http://a/t" yes ∷ [])

-- a document with a list of two schemas, the second of which has an identifier
abbrev pub listed_places : World
listed_places =
    world (at Draft202012 "http://a/r" (one "allOf" (pair yes (one "$id" (text "k")))) ∷ [])

-- a path in the document with a number, of the layer with a number
abbrev pub spot : ℕ → ℕ → List Part → Option (ℕ × Spot)
spot layer document path = Some (layer, record { document = document; path = path })

pub record LocationRows : Type 0 where
  pub first_of_two : lookup_location equal_documents (resolver "http://a/r" []) (codes "#") ≡ spot 0 0 []
  pub second_of_two : lookup_location equal_documents (resolver "http://a/r" []) (codes "s") ≡ spot 0 1 []
  pub not_the_other : ¬ (lookup_location equal_documents (resolver "http://a/r" []) (codes "s")
      ≡ spot 0 0 [])
  pub by_pointer : lookup_location equal_places (resolver "http://a/r" []) (codes "#/$defs/b")
      ≡ spot 0 0 (Key (codes "$defs") ∷ Key (codes "b") ∷ [])
  pub last_identifier : lookup_location one_identifier (resolver "http://a/k" []) (codes "#") ≡ spot 0 1 []
  pub last_anchor : lookup_location one_identifier (resolver "http://a/k" []) (codes "#x") ≡ spot 0 1 []
  pub own_anchor : lookup_location one_identifier (resolver "http://a/r" []) (codes "#x") ≡ spot 0 0 []
  pub of_a_parent : lookup_location ((c_is_true ∷ []) ∷ equal_documents) (resolver "http://a/c" [])
      (codes "s") ≡ spot 1 1 []
  pub in_a_list : lookup_location listed_places (resolver "http://a/r" []) (codes "#/allOf/1")
      ≡ spot 0 0 (Key (codes "allOf") ∷ Index 1 ∷ [])
  pub identified_in_a_list : lookup_location listed_places (resolver "http://a/r" []) (codes "k")
      ≡ spot 0 0 (Key (codes "allOf") ∷ Index 1 ∷ [])
  pub outermost_of_the_scope : lookup_location dynamic_anchors
      (resolver "http://a/r" (codes "http://a/r" ∷ codes "http://a/s" ∷ [])) (codes "#x")
      ≡ spot 0 1 []
  pub not_the_base : ¬ (lookup_location dynamic_anchors
      (resolver "http://a/r" (codes "http://a/s" ∷ [])) (codes "#x")
      ≡ spot 0 0 [])
  pub without_a_scope : lookup_location dynamic_anchors (resolver "http://a/r" []) (codes "#x")
      ≡ spot 0 0 []
  pub nowhere : lookup_location equal_documents (resolver "http://a/r" []) (codes "t") ≡ None
  pub not_marked : recursive_reference equal_documents
      (resolver "http://a/r" (codes "http://a/s" ∷ [])) ≡ codes "#"
  pub last_marked : recursive_reference recursive_anchors
      (resolver "http://a/r" (codes "http://a/r" ∷ codes "http://a/s" ∷ [])) ≡ codes "http://a/s"
  pub up_to_one_not_marked : recursive_reference recursive_anchors
      (resolver "http://a/r" (codes "http://a/t" ∷ codes "http://a/s" ∷ [])) ≡ codes "#"
  pub base_not_marked : recursive_reference recursive_anchors
      (resolver "http://a/t" (codes "http://a/s" ∷ [])) ≡ codes "#"
  pub where_the_last_marked_is : lookup_location recursive_anchors
      (resolver "http://a/r" (codes "http://a/s" ∷ [])) (codes "http://a/s")
      ≡ spot 0 1 []
