use Rattle.std.proofs.Common.{map, rules}
use Rattle.ref_paths.specs.Segment.{part_of}
use Rattle.ref_definitions.specs.Lookup.{located_value}
use Rattle.ref_error.specs.Errors.{Gives}
use Rattle.ref_resolver.specs.Resolving.{found_of}
use Rattle.referencing.proofs.Agreeing.{leads_here, answers_place}
use Rattle.referencing.proofs.registry.Registry.locate.Goals as goal

pub returns-clause-agrees : goal.returns-clause-agrees
returns-clause-agrees c = λ d r q alike under is.
    let path = map part_of c.args.path.now in
    let answer = located_value c.args.self.now c.args.base.now path in
    let gives : Gives found_of answer c.lookup.result = search rules in
    answers_place answer q c.args.base.now c.lookup.result
    (leads_here c.args.self.now d r q c.args.base.now path c.local_index.ensures.children c.local_index.ensures.no_fault alike under is c.in_ok-reference.ensures.texts) gives
