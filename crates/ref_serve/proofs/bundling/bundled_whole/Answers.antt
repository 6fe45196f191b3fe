use Rattle.std.proofs.Common.{ap, sym, subst}
use Rattle.ref_definitions.specs.World.{local_documents}
use Rattle.ref_bundle.specs.Saying.{further_of}
use Rattle.ref_further.specs.Further.{AreFurther}
use Rattle.ref_serve.proofs.Giving.{gives_bundled}
use Rattle.ref_serve.proofs.bundling.bundled_whole.Goals as goal

pub returns : goal.returns
returns c =
    let world = c.args.registry.now in
    gives_bundled world c.args.document (further_of c.as_slice.result.now) c.bundled.result
    (subst (AreFurther (local_documents world)) (ap further_of (sym c.as_slice.ensures.value)) c.in_ok-further.ensures.value) c.bundled.ensures
