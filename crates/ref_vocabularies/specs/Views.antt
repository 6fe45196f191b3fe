-- The definition's vocabulary that a value of the program is, and the order of URIs in a set.
use Rattle.std.specs.Prelude.{ℕ, List}
use Rattle.std.specs.Ordering.{nat_cmp}
use Rattle.std.specs.Cmp.Lexicographic.{slice_cmp}
use Rattle.std.specs.List.Sorted.{IsStrictlySortedBy}
use Rattle.ref_vocabularies.specs.Vocabularies as known
use Rattle.ref_vocabularies.specs.declared.vocabulary.Vocabulary.{Vocabulary}
use Rattle.ref_vocabularies.specs.declared.vocabulary.Vocabulary.TheVariants.{Core, Applicator, Unevaluated, Validation, Metadata, Format, FormatAnnotation, Content, FormatAssertion, Custom}

-- the vocabulary of a variant: this map is given here alone. The definition's `Custom` takes any text; in the program it is a
-- URI's, and the law `custom_vocabularies_are_uris` says that a text names no other
abbrev pub vocabulary_of : Vocabulary → known.Vocabulary
vocabulary_of Core = known.Standard known.Core
vocabulary_of Applicator = known.Standard known.Applicator
vocabulary_of Unevaluated = known.Standard known.Unevaluated
vocabulary_of Validation = known.Standard known.Validation
vocabulary_of Metadata = known.Standard known.Metadata
vocabulary_of Format = known.Standard known.Format
vocabulary_of FormatAnnotation = known.Standard known.FormatAnnotation
vocabulary_of Content = known.Standard known.Content
vocabulary_of FormatAssertion = known.Standard known.FormatAssertion
vocabulary_of (Custom uri) = known.Custom uri

-- in byte order, each once
abbrev pub AreInByteOrder : List (List ℕ) → Type 0
AreInByteOrder uris = IsStrictlySortedBy (slice_cmp nat_cmp) uris
