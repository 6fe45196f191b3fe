use Rattle.std.proofs.Common.{ap}
use Rattle.serde_json.specs.View.{view}
use Rattle.ref_definitions.specs.Fault.{as_invalid_uri}
use Rattle.ref_vocabularies.proofs.Faults.{find-known, find-declared}
use Rattle.ref_vocabularies.proofs.meta_schema.find.Goals as goal

pub returns-in-Some : goal.returns-in-Some
returns-in-Some c = record { gives = ap as_invalid_uri (find-known (view c.args.document.now) c.in-Some.known c.in-Some.ensures) }

pub returns-in-None : goal.returns-in-None
returns-in-None c = record { gives = rw (find-declared (view c.args.document.now) c.in-None.ensures) c.declared.ensures.gives }
