use Rattle.ref_definitions.specs.Fault.{as_invalid_uri}
use Rattle.ref_vocabularies.specs.Views.{vocabulary_of}
use Rattle.ref_vocabularies.specs.Vocabularies.{from_text}
use Rattle.ref_error.specs.Errors.{of_uri_fault}
use Rattle.ref_error.proofs.Saying.{gives_error}
use Rattle.ref_vocabularies.proofs.Texts.{text_refused}
use Rattle.ref_vocabularies.proofs.vocabulary.Vocabulary.from_text.Goals as goal

pub returns-in_err-from_str-in-None-clause-gives : goal.returns-in_err-from_str-in-None-clause-gives
returns-in_err-from_str-in-None-clause-gives c =
    let text = c.args.text.now in
    let fault = c.in_err-from_str-in-None.field-0.0 in
    gives_error vocabulary_of (as_invalid_uri (from_text text)) c.from_residual.result (of_uri_fault fault) c.from_residual.ensures.1
    (text_refused text fault c.in-None.ensures c.in_err-from_str-in-None.ensures.gives)
