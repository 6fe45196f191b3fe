use Rattle.std.proofs.Common.{◌∙◌}
use Rattle.ref_vocabularies.proofs.Sorted.{found-there}
use Rattle.ref_vocabularies.proofs.vocabulary_set.has_uri.Goals as goal

pub returns : goal.returns
returns c =
    c.is_ok.ensures.value
    ∙ found-there c.args.uri.now c.args.uris.now c.binary_search.result c.requires c.binary_search.ensures.bound c.binary_search.ensures.position
