use Rattle.std.proofs.Common.{subst, sym}
use Rattle.ref_uri.specs.inner.Target.{components_of, LacksTriples}
use Rattle.ref_uri.proofs.Settled.{settled_form, settled_resolved}
use Rattle.ref_uri.proofs.reference.UriRef.is_settled.Goals as goal

pub is_settled-requires : goal.is_settled-requires
is_settled-requires c = subst LacksTriples (sym c.parts.ensures.all) c.requires

pub returns-clause-normal : goal.returns-clause-normal
returns-clause-normal c = λ yes. settled_form (components_of c.parts.result) c.args.self.now c.parts.ensures.all c.parts.ensures.hold (c.is_settled.ensures yes)

pub returns-clause-target : goal.returns-clause-target
returns-clause-target c = λ yes there base. settled_resolved (components_of c.parts.result) base c.args.self.now c.parts.ensures.all c.parts.ensures.hold (c.is_settled.ensures yes) there
