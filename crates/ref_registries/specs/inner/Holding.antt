-- Builders of `referencing`, before their documents are prepared.
use Rattle.std.specs.Prelude.{◌≡◌, List, Result, Ok}
use Rattle.ref_uri.specs.Targets.{Refusal}
use Rattle.ref_definitions.specs.World.{World}
use Rattle.ref_definitions.specs.Pending.{Pending}
use Rattle.referencing.specs.Builder.{Builder, new_builder}

-- a new builder above parents, to which the documents were added
abbrev pub Holds : {R : Type 0} → World → Result (List Pending) Refusal → Builder R → Type 0
Holds parents documents b =
    (pending : List Pending) × (documents ≡ Ok pending)
    × (b ≡ new_builder b.retriever parents pending)
