-- References of the own places of a prepared world.
use Rattle.std.proofs.Common.{[], ◌∷◌, sym, subst, arith}
use Rattle.ref_definitions.specs.World.{World}
use Rattle.ref_definitions.specs.Preparing.{Given}
use Rattle.ref_definitions.proofs.References.{references_are_retrieved}
use Rattle.referencing.specs.Prepared.{IsPrepared, IsPreparedOf, ReferencesAreRetrieved}

pub retrieved_of : (world : World) → IsPrepared world → ReferencesAreRetrieved world
retrieved_of [] prepared d place resolver reference = λ there. absurd (let within = there.1 in omega (arith, within))
retrieved_of (layer ∷ parents) prepared d place resolver reference = references_are_retrieved layer parents d place resolver reference prepared.no_want

-- of a world that preparing may return
pub retrieved_in : (given : Given) (world : World) → IsPreparedOf given world → ReferencesAreRetrieved world
retrieved_in given world (layer, outcome, ready, is) =
    subst ReferencesAreRetrieved (sym is) (retrieved_of (layer ∷ given.parents) (record { no_fault = ready.no_fault; no_want = ready.no_want }))
