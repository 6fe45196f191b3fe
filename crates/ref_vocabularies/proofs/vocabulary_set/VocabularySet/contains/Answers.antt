use Rattle.std.proofs.Common.{[]}
use Rattle.std.specs.Option.{option_map_or}
use Rattle.ref_vocabularies.proofs.Variants.{contains-bit}
use Rattle.ref_vocabularies.proofs.vocabulary_set.VocabularySet.contains.Goals as goal

pub returns-in_default : goal.returns-in_default
returns-in_default c = record {
  value =
      rw (← c.self.view_is)
      (contains-bit c.self.inside.known c.mask.result (option_map_or (λ uris. uris.items) c.self.inside.custom []) c.args.vocabulary.now c.in_default.not-Custom c.mask.ensures);
}
