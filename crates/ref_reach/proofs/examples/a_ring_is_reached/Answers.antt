use Rattle.ref_reach.proofs.Ring.{ring_is, not_nothing, not_twice, not_the_beginning}
use Rattle.ref_reach.proofs.examples.a_ring_is_reached.Goals as goal

pub returns-clause-reached : goal.returns-clause-reached
returns-clause-reached c = ring_is

pub returns-clause-not_nothing : goal.returns-clause-not_nothing
returns-clause-not_nothing c = not_nothing

pub returns-clause-not_twice : goal.returns-clause-not_twice
returns-clause-not_twice c = not_twice

pub returns-clause-not_the_beginning : goal.returns-clause-not_the_beginning
returns-clause-not_the_beginning c = not_the_beginning
