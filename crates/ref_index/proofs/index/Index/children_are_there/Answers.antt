use Rattle.std.proofs.Common.{subst}
use Rattle.std.specs.List.{Contains}
use Rattle.ref_definitions.specs.World.{Document}
use Rattle.ref_definitions.specs.Agreement.{ChildrenAreThere}
use Rattle.ref_index.proofs.index.Index.children_are_there.Goals as goal

pub returns : goal.returns
returns c = record { law = subst (λ layer. (d : Document) → Contains layer d → ChildrenAreThere d) c.self.view_is c.self.invariant.children }
