use Rattle.std.proofs.Common.{◌≡◌, Ok, rules}
use Rattle.ref_vocabularies.specs.Vocabularies.{from_text}
use Rattle.ref_vocabularies.specs.Views.{vocabulary_of}
use Rattle.ref_error.proofs.Saying.{uri_meant}
use Rattle.ref_vocabularies.proofs.meta_schema.add_member.Goals as goal

pub returns-clause-ok : goal.returns-clause-ok
returns-clause-ok c =
    let named : from_text c.args.key.now ≡ Ok (vocabulary_of c.in_ok-vocabulary.vocabulary) = uri_meant (from_text c.args.key.now) (vocabulary_of c.in_ok-vocabulary.vocabulary) c.in_ok-vocabulary.ensures.gives in
    search rules
