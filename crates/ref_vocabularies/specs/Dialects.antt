-- The vocabularies of a dialect in a world of documents.
use Rattle.std.specs.Option.{option_map_or}
use Rattle.ref_draft.specs.declared.draft.Draft.TheVariants.{Unknown}
use Rattle.ref_definitions.specs.World.{World}
use Rattle.ref_definitions.specs.Resources.{meant_place}
use Rattle.ref_vocabularies.specs.Vocabularies.{VocabularySet, find_in, set_or_default, default_set}
use Rattle.ref_vocabularies.specs.declared.dialect.Dialect.{Dialect}
use Rattle.ref_vocabularies.specs.declared.dialect.Dialect.TheVariants.{Known, MetaSchema}

-- those that are known, or those that the document under the URI declares
abbrev pub set_of_dialect : World → Dialect → VocabularySet
set_of_dialect world (Known set) = set
set_of_dialect world (MetaSchema uri) =
    option_map_or (λ p. set_or_default (find_in p.value)) (meant_place world uri)
    (default_set Unknown)
