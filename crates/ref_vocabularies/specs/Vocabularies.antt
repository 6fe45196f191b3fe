-- Vocabularies of meta-schemas (2020-12 Core, 8.1.2; 2019-09 Core, 8.1.2).
use Rattle.std.specs.Prelude.{ℕ, ◌==◌, Bool, true, false, ◌&&◌, ◌||◌, List, [], ◌∷◌, ◌++◌, map, filter, codes, bytes_eq, Option, Some, None, Result, Ok, Err, if◌then◌else◌, option_and_then, is_some}
use Rattle.std.specs.List.{find, list_any, join_by}
use Rattle.std.specs.Option.{option_map_or}
use Rattle.std.specs.Int.{bit_at}
use Rattle.std.specs.Ordering.{nat_cmp, match_ordering}
use Rattle.std.specs.Cmp.Lexicographic.{slice_cmp, pointwise}
use Rattle.serde_json.specs.Data.{Data, Members, no_members, member}
use Rattle.serde_json.specs.Find.{get, as_object}
use Rattle.ref_draft.specs.declared.draft.Draft.{Draft}
use Rattle.ref_draft.specs.declared.draft.Draft.TheVariants.{Draft4, Draft6, Draft7, Draft201909, Draft202012, Unknown}
use Rattle.ref_draft.specs.Keywords.{is_unknown}
use Rattle.ref_draft.specs.Schema.{text_under, is_true, detect}
use Rattle.ref_uri.specs.Reference.{with_fragment}
use Rattle.ref_uri.specs.Targets.{Refusal, uri_of}
use Rattle.ref_definitions.specs.Results.{◌>>=◌}
use Rattle.ref_definitions.specs.World.{World}
use Rattle.ref_definitions.specs.Resources.{meant_place}

-- the known vocabularies
pub data Known : Type 0 where
  Core : Known
  Applicator : Known
  Unevaluated : Known
  Validation : Known
  Metadata : Known
  Format : Known
  FormatAnnotation : Known
  Content : Known
  FormatAssertion : Known

-- all of them, in order
abbrev pub all_known : List Known
all_known =
    Core ∷ Applicator ∷ Unevaluated ∷ Validation ∷ Metadata ∷ Format ∷ FormatAnnotation ∷ Content
    ∷ FormatAssertion ∷ []

-- the place of one in that order, which is its bit in a number
abbrev pub bit : Known → ℕ
bit Core = 0
bit Applicator = 1
bit Unevaluated = 2
bit Validation = 3
bit Metadata = 4
bit Format = 5
bit FormatAnnotation = 6
bit Content = 7
bit FormatAssertion = 8

-- the last part of its URI, which is its displayed name
abbrev pub name : Known → List ℕ
name Core = codes "core"
name Applicator = codes "applicator"
name Unevaluated = codes "unevaluated"
name Validation = codes "validation"
name Metadata = codes "meta-data"
name Format = codes "format"
name FormatAnnotation = codes "format-annotation"
name Content = codes "content"
name FormatAssertion = codes "format-assertion"

-- whether 2019-09 has it: these three came with 2020-12
abbrev pub is_in_2019 : Known → Bool
is_in_2019 Unevaluated = false
is_in_2019 FormatAnnotation = false
is_in_2019 FormatAssertion = false
is_in_2019 k = true

-- whether two are one
abbrev pub known_eq : Known → Known → Bool
known_eq j k = bit j == bit k

-- a known vocabulary, or another by its URI
pub data Vocabulary : Type 0 where
  Standard : Known → Vocabulary
  Custom : List ℕ → Vocabulary

-- whether two vocabularies are one
abbrev pub vocabulary_eq : Vocabulary → Vocabulary → Bool
vocabulary_eq (Standard j) (Standard k) = known_eq j k
vocabulary_eq (Standard k) (Custom uri) = false
vocabulary_eq (Custom uri) (Standard k) = false
vocabulary_eq (Custom uri) (Custom other) = bytes_eq uri other

-- whether a URI is that of a known vocabulary
abbrev pub is_uri_of : List ℕ → Known → Bool
is_uri_of uri k =
    bytes_eq uri (codes "https://json-schema.org/draft/2020-12/vocab/" ++ name k)
    || (is_in_2019 k
    && bytes_eq uri (codes "https://json-schema.org/draft/2019-09/vocab/" ++ name k))

-- the vocabulary that a text names
abbrev pub from_text : List ℕ → Result Vocabulary Refusal
from_text text =
    option_map_or (λ k. Ok (Standard k)) (find (is_uri_of text) all_known)
    (uri_of text >>= λ uri. Ok (Custom uri))

-- a set of vocabularies: the known ones in their order, and the URIs of the others in byte order, each once
pub record VocabularySet : Type 0 where
  pub standard : List Known
  pub customs : List (List ℕ)

-- whether two sets are one
abbrev pub set_eq : VocabularySet → VocabularySet → Bool
set_eq s t = pointwise known_eq s.standard t.standard && pointwise bytes_eq s.customs t.customs

-- whether a known vocabulary is one of a list, and whether a URI is
abbrev pub has_known : List Known → Known → Bool
has_known ks k = list_any (λ j. known_eq j k) ks

abbrev pub has_uri : List (List ℕ) → List ℕ → Bool
has_uri uris uri = list_any (λ u. bytes_eq u uri) uris

-- whether a vocabulary is in a set
abbrev pub contains : VocabularySet → Vocabulary → Bool
contains s (Standard k) = has_known s.standard k
contains s (Custom uri) = has_uri s.customs uri

-- a URI at its place among others in byte order
abbrev pub with_uri : List ℕ → List (List ℕ) → List (List ℕ)
with_uri uri [] = uri ∷ []
with_uri uri (other ∷ rest) =
    match_ordering (slice_cmp nat_cmp uri other) (uri ∷ other ∷ rest) (other ∷ rest)
    (other ∷ with_uri uri rest)

-- a set with one more vocabulary
abbrev pub with_vocabulary : VocabularySet → Vocabulary → VocabularySet
with_vocabulary s (Standard k) =
    record s { standard = filter (λ j. has_known s.standard j || known_eq k j) all_known }
with_vocabulary s (Custom uri) = record s { customs = with_uri uri s.customs }

-- the set of known vocabularies alone
abbrev pub of_known : List Known → VocabularySet
of_known ks = record { standard = ks; customs = [] }

-- those whose bits are set; higher bits mean nothing
abbrev pub of_bits : ℕ → VocabularySet
of_bits bits = of_known (filter (λ k. bit_at bits (bit k) == 1) all_known)

-- the vocabularies of the newest draft, without what asserts formats
abbrev pub set_of_2020 : VocabularySet
set_of_2020 =
    of_known
    (Core ∷ Applicator ∷ Unevaluated ∷ Validation ∷ Metadata ∷ FormatAnnotation ∷ Content ∷ [])

-- the sets of the drafts: those before 2019-09 have no vocabularies
abbrev pub default_set : Draft → VocabularySet
default_set Draft4 = of_known []
default_set Draft6 = of_known []
default_set Draft7 = of_known []
default_set Draft201909 = of_known (Core ∷ Applicator ∷ Validation ∷ Metadata ∷ Content ∷ [])
default_set Draft202012 = set_of_2020
default_set Unknown = set_of_2020

-- in quotes
abbrev pub quoted_text : List ℕ → List ℕ
quoted_text text = codes "\"" ++ text ++ codes "\""

-- a set as it is displayed: the known names, then the URIs of the others
abbrev pub set_text : VocabularySet → List ℕ
set_text s =
    codes "[" ++ join_by quoted_text (codes ", ") (map name s.standard ++ s.customs) ++ codes "]"

-- format-assertion is added by a member of `$vocabulary` in any case, any other where the member is true
abbrev pub is_format_assertion : Vocabulary → Bool
is_format_assertion (Standard k) = known_eq k FormatAssertion
is_format_assertion (Custom uri) = false

-- a set after one member
abbrev pub with_member : VocabularySet → Data → Vocabulary → VocabularySet
with_member s value v = if is_true value || is_format_assertion v then with_vocabulary s v else s

-- each key of `$vocabulary` is read, also where its value is false
abbrev pub collected_set : VocabularySet → Members → Result VocabularySet Refusal
collected_set s no_members = Ok s
collected_set s (member key value ms) =
    from_text key >>= λ v. collected_set (with_member s value v) ms

-- the meta-schemas that are known by their identifier, with their set, or none before 2019-09
abbrev pub known_set : List ℕ → Option (Option VocabularySet)
known_set id =
    if bytes_eq id (codes "https://json-schema.org/schema")
    || bytes_eq id (codes "https://json-schema.org/draft/2020-12/schema") then
    Some (Some (default_set Draft202012))
    else (if bytes_eq id (codes "https://json-schema.org/draft/2019-09/schema") then
    Some (Some (default_set Draft201909))
    else (if bytes_eq id (codes "https://json-schema.org/draft-07/schema")
    || bytes_eq id (codes "https://json-schema.org/draft-06/schema")
    || bytes_eq id (codes "https://json-schema.org/draft-04/schema") then
    Some None
    else None))

-- what the members of `$vocabulary` declare: none without such an object
abbrev pub set_of_members : Option Members → Result (Option VocabularySet) Refusal
set_of_members None = Ok None
set_of_members (Some ms) = collected_set (of_known []) ms >>= λ s. Ok (Some s)

-- the vocabularies that a meta-schema declares
unfoldable pub find_in : Data → Result (Option VocabularySet) Refusal
find_in value =
    option_map_or (λ s. Ok s) (option_and_then known_set (text_under (codes "$id") value))
    (set_of_members (option_and_then as_object (get (codes "$vocabulary") value)))

-- the set that a meta-schema declares, or the default of 2020-12
abbrev pub set_or_default : Result (Option VocabularySet) Refusal → VocabularySet
set_or_default (Ok (Some s)) = s
set_or_default (Ok None) = default_set Unknown
set_or_default (Err refusal) = default_set Unknown

-- that of the document under a URI, whose fragment takes no part
abbrev pub set_at : World → Result (List ℕ) Refusal → VocabularySet
set_at world (Ok uri) =
    option_map_or (λ p. set_or_default (find_in p.value))
    (meant_place world (with_fragment uri None)) (default_set Unknown)
set_at world (Err refusal) = default_set Unknown

-- the vocabularies of a schema of a draft: the draft's own, or those of the meta-schema that it names
unfoldable pub find_vocabularies : World → Draft → Data → VocabularySet
find_vocabularies world draft contents =
    if is_unknown (detect draft contents)
    then option_map_or (λ text. set_at world (uri_of text)) (text_under (codes "$schema") contents)
    (default_set Unknown)
    else default_set draft

-- the contents that a resolver asks for: an object with a key `$schema` itself, or else the value that the base means
abbrev pub dialect_contents : World → List ℕ → Data → Data
dialect_contents world base contents =
    if is_some (get (codes "$schema") contents) then contents
    else option_map_or (λ p. p.value) (meant_place world base) contents

-- the vocabularies of a schema at a resolver's base
abbrev pub find_vocabularies_at : World → List ℕ → Draft → Data → VocabularySet
find_vocabularies_at world base draft contents =
    find_vocabularies world draft (dialect_contents world base contents)
