use Rattle.std.proofs.Common.{subst}
use Rattle.ref_definitions.proofs.AtOrBelow.{place_has_base}
use Rattle.ref_definitions.specs.World.{local_documents}
use Rattle.referencing.specs.Prepared.{IsPrepared}
use Rattle.referencing.proofs.Retrieved.{retrieved_of}
use Rattle.referencing.proofs.registry.Registry.references_are_retrieved.Goals as goal

pub returns : goal.returns
returns c = let prepared = subst IsPrepared c.self.view_is c.self.invariant in record {
  no_fault = prepared.no_fault;
  no_want = prepared.no_want;
  law = retrieved_of c.args.self.now prepared;
  bases = λ d place. place_has_base (local_documents c.args.self.now) d place prepared.no_fault;
}
