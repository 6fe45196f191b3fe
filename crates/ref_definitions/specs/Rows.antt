-- Literal documents for rows that compute.
use Prim.Native.String.{String as Literal}
use Rattle.std.specs.Prelude.{ℕ, true, List, [], ◌∷◌, map, codes, Option, Some, None, option_map, Result, Ok, Err}
use Rattle.std.specs.List.{last_or}
use Rattle.serde_json.specs.Data.{Data, boolean, number, unsigned, string, array, object, no_items, item, no_members, member}
use Rattle.ref_paths.specs.Path.{Part, Key, Index}
use Rattle.ref_draft.specs.declared.draft.Draft.{Draft}
use Rattle.ref_draft.specs.declared.draft.Draft.TheVariants.{Draft202012}
use Rattle.ref_draft.specs.Anchors.{Kind}
use Rattle.ref_uri.specs.Targets.{Refusal}
use Rattle.ref_definitions.specs.Results.{◌>>=◌}
use Rattle.ref_definitions.specs.Fault.{Fault}
use Rattle.ref_definitions.specs.World.{Document, Layer, World, document}
use Rattle.ref_definitions.specs.Places.{Place, root, places}
use Rattle.ref_definitions.specs.Anchors.{Named}
use Rattle.ref_definitions.specs.Preparing.{Retriever, Given}
use Rattle.ref_definitions.specs.Retrievers.{default_retriever, map_retriever}
use Rattle.ref_definitions.specs.Pending.{Addition, Pending, documents_of}
use Rattle.ref_definitions.specs.Bases.{Along}
use Rattle.ref_definitions.specs.Lookup.{Resolver, Found, located_value}
use Rattle.ref_definitions.specs.Follow.{Step, Lookup, Followed, followed_steps}

abbrev pub yes : Data
yes = boolean true

abbrev pub text : Literal → Data
text t = string (codes t)

-- a whole number
abbrev pub whole_number : ℕ → Data
whole_number n = number (unsigned n)

abbrev pub empty : Data
empty = object no_members

abbrev pub one : Literal → Data → Data
one key d = object (member (codes key) d no_members)

-- an object of two members, the keys in byte order
abbrev pub two : Literal → Data → Literal → Data → Data
two key d other e = object (member (codes key) d (member (codes other) e no_members))

abbrev pub three : Literal → Data → Literal → Data → Literal → Data → Data
three key d other e third f =
    object (member (codes key) d (member (codes other) e (member (codes third) f no_members)))

-- an array of one element, of two
abbrev pub list : Data → Data
list d = array (item d no_items)

abbrev pub pair : Data → Data → Data
pair d e = array (item d (item e no_items))

-- a document of a draft under a URI
abbrev pub at : Draft → Literal → Data → Document
at draft uri tree = document draft (codes uri) tree

-- {"":4,"a":{"b":3},"a%zz":1,"l":[],"~/":5,"~2":2}
abbrev pub odd_keys : Document
odd_keys =
    at Draft202012 "http://a/r"
    (object
    (member [] (whole_number 4)
    (member (codes "a") (one "b" (whole_number 3))
    (member (codes "a%zz") (whole_number 1)
    (member (codes "l") (array no_items)
    (member (codes "~/") (whole_number 5)
    (member (codes "~2") (whole_number 2) no_members)))))))

-- properties with types, one of them an array of two elements
abbrev pub typed_properties : Data
typed_properties =
    two "properties"
    (two "bar"
    (two "items" (pair (one "type" (text "number")) (one "type" (text "boolean"))) "type"
    (text "array")) "foo" (one "type" (text "string"))) "type" (text "object")

-- a property with a type
abbrev pub typed_property : Data
typed_property = one "properties" (one "n" (one "type" (text "string")))

-- the anchor `foo` in a definition, beside an identifier
abbrev pub anchor_foo : Literal → Data
anchor_foo id = two "$defs" (one "p" (one "$anchor" (text "foo"))) "$id" (text id)

-- two definitions with one identifier
abbrev pub identified_twice : Data
identified_twice =
    one "$defs"
    (two "a" (two "$id" (text "http://a/k") "title" (text "1")) "b"
    (two "$id" (text "http://a/k") "title" (text "2")))

-- a definition within a definition: it, the outer one and the root have one dynamic anchor
abbrev pub dynamic_definitions : Data
dynamic_definitions =
    three "$defs"
    (one "foo"
    (three "$defs" (two "bar" yes "baz" (one "$dynamicAnchor" (text "fooAnchor"))) "$dynamicAnchor"
    (text "fooAnchor") "$id" (text "foo"))) "$dynamicAnchor" (text "fooAnchor") "$id"
    (text "http://example.com")

-- the same three, all marked by `$recursiveAnchor`
abbrev pub recursive_definitions : Data
recursive_definitions =
    three "$defs"
    (one "foo"
    (three "$defs"
    (two "bar" yes "baz" (two "$anchor" (text "fooAnchor") "$recursiveAnchor" yes)) "$id"
    (text "foo") "$recursiveAnchor" yes)) "$id" (text "http://example.com") "$recursiveAnchor" yes

-- a property whose identifier and reference mean no URI
abbrev pub refused_within : Data
refused_within = one "properties" (one "x" (two "$id" (text "a b") "$ref" (text "c d")))

-- keys that a pointer escapes, each in the value of the one before
abbrev pub escaped_keys : Data
escaped_keys = one "a/b%" (one "" (one "~" (whole_number 7)))

-- an identifier in a definition, and another one in its dependencies
abbrev pub identified_within : Data
identified_within =
    one "$defs"
    (one "a" (two "$id" (text "http://b/k/") "dependencies" (one "d" (one "$id" (text "m")))))

-- what is added: a value, or a resource of a draft
abbrev pub value_under : Literal → Data → Addition
value_under uri tree = record { text = codes uri; tree = tree; draft = None }

abbrev pub resource_under : Literal → Draft → Data → Addition
resource_under uri draft tree = record { text = codes uri; tree = tree; draft = Some draft }

-- a value that is pending under a URI, and the documents that pending ones become, where no draft was set
abbrev pub waiting_value : Literal → Data → Pending
waiting_value uri tree = record { uri = codes uri; tree = tree; draft = None }

abbrev pub layer_of : Result (List Pending) Refusal → Result Layer Refusal
layer_of ps = ps >>= λ pending. Ok (documents_of None pending)

-- a document that refers to `b`, one that `b` may be, and one without references
abbrev pub refers_to_b : Document
refers_to_b = at Draft202012 "http://a/r" (one "$ref" (text "b"))

abbrev pub b_refers_to_c : Document
b_refers_to_c = at Draft202012 "http://a/b" (one "$ref" (text "c"))

abbrev pub c_is_true : Document
c_is_true = at Draft202012 "http://a/c" yes

-- documents of 2020-12 with a retriever and a limit, and without a parent
abbrev pub given_documents : Retriever → ℕ → Layer → Given
given_documents retriever limit documents =
    record {
      retriever = retriever;
      limit = limit;
      draft = Draft202012;
      parents = [];
      documents = documents;
    }

-- a document that refers to `b`, and a retriever that has `b`, which refers to `c`
abbrev pub has_b : Retriever
has_b = map_retriever ((codes "http://a/b", one "$ref" (text "c")) ∷ [])

abbrev pub given_with : ℕ → Given
given_with limit = given_documents has_b limit (refers_to_b ∷ [])

-- the same, where the retriever has `c` too
abbrev pub has_b_and_c : Retriever
has_b_and_c =
    map_retriever ((codes "http://a/b", one "$ref" (text "c")) ∷ (codes "http://a/c", yes) ∷ [])

-- documents alone: nothing is retrieved
abbrev pub given_alone : Layer → Given
given_alone documents = given_documents default_retriever 10000 documents

-- a registry without a parent
abbrev pub world : List Document → World
world documents = documents ∷ []

-- of a single document
abbrev pub alone : Draft → Literal → Data → World
alone draft uri tree = world (at draft uri tree ∷ [])

-- a child with a document under its parent's URI
abbrev pub child_and_parent : World
child_and_parent =
    (at Draft202012 "http://a/m" (one "title" (text "child")) ∷ [])
    ∷ alone Draft202012 "http://a/m" (two "$anchor" (text "p") "title" (text "parent"))

-- what steps return: the value, the base and the scope, or the step that faults
pub data Answer : Type 0 where
  answer : Option Data → List ℕ → List (List ℕ) → Answer
  refusal : ℕ → Fault → Answer

-- the value found last, and where the next step starts from
abbrev pub followed_to : Option (Data × Draft) → Resolver → Followed
followed_to last r = record { last = last; resolver = r }

abbrev value_of : Option (Data × Draft) → Option Data
value_of None = None
value_of (Some found_value) = Some found_value.0

abbrev pub answer_of : Result Followed (ℕ × Fault) → Answer
answer_of (Ok f) = answer (value_of f.last) f.resolver.base f.resolver.scope
answer_of (Err (n, fault)) = refusal n fault

abbrev pub steps : World → Literal → List Step → Answer
steps w base list = answer_of (followed_steps w (codes base) list)

abbrev pub look : Literal → Step
look reference = Lookup (codes reference)

-- what one lookup returns from the root of a document that is alone
abbrev pub look_in : Draft → Literal → Data → Literal → Answer
look_in draft uri tree reference = steps (alone draft uri tree) uri (look reference ∷ [])

-- a value with its base, found by a step from another base
abbrev pub found_at : Data → Literal → Literal → Answer
found_at value base from = answer (Some value) (codes base) (codes from ∷ [])

-- three documents, `foo/` and `foo/bar` below the first, and steps through all of them before the last one
abbrev pub foo_and_bar : Draft → Data → Data → Data → World
foo_and_bar draft tree foo bar =
    world
    (at draft "http://example.com" tree ∷ at draft "http://example.com/foo/" foo
    ∷ at draft "http://example.com/foo/bar" bar ∷ [])

abbrev pub through_foo_and_bar : Draft → Data → Data → Data → Step → Answer
through_foo_and_bar draft tree foo bar last =
    steps (foo_and_bar draft tree foo bar) "http://example.com"
    (look "" ∷ look "foo/" ∷ look "bar" ∷ last ∷ [])

-- what they return where the last one leads back to the first document
abbrev pub back_at_the_first : Data → Answer
back_at_the_first value =
    answer (Some value) (codes "http://example.com")
    (codes "http://example.com/foo/" ∷ codes "http://example.com" ∷ codes "http://example.com" ∷ [])

-- a base along a path, with the parts since it last changed
abbrev pub along : Literal → List Part → Along
along base since = record { base = codes base; since = since }

-- a resolver at a base with a scope, and what is found from one
abbrev pub resolver : Literal → List (List ℕ) → Resolver
resolver base scope = record { base = codes base; scope = scope }

abbrev pub found_value : Data → Draft → Resolver → Found
found_value value draft r = record { value = value; draft = draft; resolver = r }

-- the same as an answer: a value, its draft and base, with one URI in the scope
abbrev pub value_at : Data → Draft → Literal → Literal → Result Found Fault
value_at value draft base from = Ok (found_value value draft (resolver base (codes from ∷ [])))

-- a name of the root of a document
abbrev pub name_at : Literal → Literal → Kind → Draft → Data → Named
name_at uri name kind draft tree =
    record { uri = codes uri; name = codes name; kind = kind; place = root (at draft uri tree) }

-- what is shown of places, and of what is under URIs and names
abbrev pub paths_and_bases : List Place → List (List Part × Result (List ℕ) Refusal)
paths_and_bases ps = map (λ p. (p.path, p.base)) ps

abbrev pub uris_and_paths : List (List ℕ × Place) → List (List ℕ × List Part)
uris_and_paths entries = map (λ e. (e.0, e.1.path)) entries

abbrev pub shown_name : Named → List ℕ × List ℕ × Kind × List Part
shown_name n = (n.uri, n.name, n.kind, n.place.path)

abbrev pub path_of : Option Place → Option (List Part)
path_of p = option_map (λ p. p.path) p

abbrev pub value_of_answer : Answer → Option Data
value_of_answer (answer value base scope) = value
value_of_answer (refusal n fault) = None

-- a schema within each kind of keyword that holds schemas before 2020-12, with an identifier under this keyword, and its path
abbrev pub nested_schema : Literal → Data
nested_schema id =
    one "not"
    (one "allOf"
    (list
    (one "properties"
    (one "p"
    (one "items"
    (list
    (one "dependencies"
    (one "d" (one "additionalItems" (one id (text "s")))))))))))

abbrev pub nested_path : List Part
nested_path =
    Key (codes "not") ∷ Key (codes "allOf") ∷ Index 0 ∷ Key (codes "properties") ∷ Key (codes "p")
    ∷ Key (codes "items") ∷ Index 0 ∷ Key (codes "dependencies") ∷ Key (codes "d")
    ∷ Key (codes "additionalItems") ∷ []

-- what the pointer of that path leads to
abbrev pub nested_value : Draft → Literal → Result Found Fault
nested_value draft id =
    located_value (alone draft "http://a/r" (nested_schema id)) (codes "http://a/r") nested_path

-- the same of 2020-12
abbrev pub nested_2020 : Data
nested_2020 =
    one "not"
    (one "prefixItems" (list (one "$defs" (one "p" (one "items" (one "$id" (text "s")))))))

abbrev pub nested_path_2020 : List Part
nested_path_2020 =
    Key (codes "not") ∷ Key (codes "prefixItems") ∷ Index 0 ∷ Key (codes "$defs") ∷ Key (codes "p")
    ∷ Key (codes "items") ∷ []

-- a schema with an identifier, a definition that has one, and a property, of Draft 4, of Drafts 6 and 7, and since 2019-09
abbrev pub identified_4 : Data
identified_4 =
    three "definitions" (one "a" (one "id" (text "s"))) "id" (text "r") "properties"
    (one "x" (one "items" empty))

abbrev pub identified_schema : Data
identified_schema =
    three "$id" (text "r") "definitions" (one "a" (one "$id" (text "s"))) "properties"
    (one "x" (one "items" empty))

abbrev pub identified_2020 : Data
identified_2020 =
    three "$defs" (one "a" (one "$id" (text "s"))) "$id" (text "r") "properties"
    (one "x" (one "items" empty))

-- two schemas with one identifier
abbrev pub equal_identifiers : Data
equal_identifiers = two "if" (one "$id" (text "k")) "then" (one "$id" (text "k"))

-- a place of 2020-12 under a keyword of a root, with the base around it and its own
abbrev pub place_below : Literal → Data → Literal → Literal → Place
place_below keyword value outer base =
    record {
      path = Key (codes keyword)
          ∷ [];
      value = value;
      draft = Draft202012;
      outer = codes outer;
      base = Ok (codes base);
    }

-- the last place of a document, with its path, base and draft
abbrev pub last_place : Document → Option (List Part × Result (List ℕ) Refusal × Draft)
last_place d = last_or None (map (λ p. (p.path, p.base, p.draft)) (places d))
