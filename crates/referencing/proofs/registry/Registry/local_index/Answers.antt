use Rattle.std.proofs.Common.{◌∙◌, ap, subst}
use Rattle.std.specs.List.{Contains}
use Rattle.ref_definitions.specs.World.{Document, local_documents}
use Rattle.ref_definitions.specs.Agreement.{ChildrenAreThere}
use Rattle.referencing.proofs.registry.Registry.local_index.Goals as goal

pub returns-clause-children : goal.returns-clause-children
returns-clause-children c = subst (λ layer. (d : Document) → Contains layer d → ChildrenAreThere d) (c.deref.ensures ∙ ap local_documents c.self.view_is) c.children_are_there.ensures.law
