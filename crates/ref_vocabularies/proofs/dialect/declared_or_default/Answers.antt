use Rattle.serde_json.specs.View.{view}
use Rattle.ref_vocabularies.specs.Vocabularies.{find_in}
use Rattle.ref_vocabularies.proofs.dialect.declared_or_default.Goals as goal

pub returns : goal.returns
returns c = record { value = rw c.in-Some.is (c.or_default.ensures.set (find_in (view c.in-Some.document.now)) c.find.ensures.gives) }
