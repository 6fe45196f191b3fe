use Rattle.ref_yaml.specs.Scalars as spec
use Rattle.ref_yaml.proofs.Texts.{no_text_of}
use Rattle.ref_yaml.proofs.text.text_of.Goals as goal

pub returns-in-Plain-clause-refused : goal.returns-in-Plain-clause-refused
returns-in-Plain-clause-refused c = no_text_of c.plain_of.result _ c.args.event.now _ (λ s is. is.plain c.in-Plain.is) c.plain_of.ensures.refused

pub returns-in-SingleQuoted-clause-refused : goal.returns-in-SingleQuoted-clause-refused
returns-in-SingleQuoted-clause-refused c = no_text_of c.single_of.result _ c.args.event.now _ (λ s is. rw c.saturating_sub-end.ensures (is.single c.in-SingleQuoted.is)) c.single_of.ensures.refused

pub returns-in-Literal-clause-refused : goal.returns-in-Literal-clause-refused
returns-in-Literal-clause-refused c = no_text_of c.literal_of.result _ c.args.event.now _ (λ s is. is.literal c.in-Literal.is) c.literal_of.ensures.refused

pub returns-in-Folded-clause-refused : goal.returns-in-Folded-clause-refused
returns-in-Folded-clause-refused c = no_text_of c.folded_of.result _ c.args.event.now _ (λ s is. is.folded c.in-Folded.is) c.folded_of.ensures.refused
