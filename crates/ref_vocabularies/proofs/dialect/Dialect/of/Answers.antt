use Rattle.std.proofs.Common.{◌∙◌, sym, ap}
use Rattle.serde_json.specs.View.{view}
use Rattle.ref_draft.specs.Keywords.{is_unknown}
use Rattle.ref_draft.specs.Schema.{detect}
use Rattle.ref_vocabularies.specs.Vocabularies.{find_vocabularies}
use Rattle.ref_vocabularies.proofs.Drafts.{known_draft}
use Rattle.ref_vocabularies.proofs.dialect.Dialect.of.Goals as goal

pub returns-in_default : goal.returns-in_default
unfolding find_vocabularies
returns-in_default c = record {
  value = λ world.
      rw (known_draft (detect c.args.draft (view c.args.contents.now)) (λ e. c.in_default.not-Unknown (c.detect.ensures.value ∙ e)))
      (sym c.default_vocabularies.ensures.value);
}

pub returns-in-Unknown : goal.returns-in-Unknown
unfolding find_vocabularies
returns-in-Unknown c = record {
  value = λ world. rw (ap is_unknown (sym c.detect.ensures.value ∙ c.in-Unknown.is)) (c.custom.ensures world);
}
