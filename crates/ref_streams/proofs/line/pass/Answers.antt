use Rattle.std.proofs.Common.{take, sym}
use Rattle.ref_streams.proofs.Cutting.{found_feed, found_none, none_left}
use Rattle.ref_streams.proofs.line.pass.Goals as goal

pub returns-in-Some-clause-passed : goal.returns-in-Some-clause-passed
returns-in-Some-clause-passed c line keeps =
    let chunk = c.args.chunk.now in
    let rest = c.rest-rest.result.now in
    let found = found_feed chunk.bytes rest chunk.start chunk.end c.in-Some.count c.rest-rest.ensures.value chunk.within.0 c.in-Some.ensures in
    (take c.in-Some.count rest, (found.0, found.1), c.push.ensures.keeps line keeps)

pub returns-in-None-clause-passed : goal.returns-in-None-clause-passed
returns-in-None-clause-passed c line keeps =
    let chunk = c.args.chunk.now in
    let rest = c.rest-rest.result.now in
    (rest, (found_none rest c.in-None.ensures, sym c.rest-rest.ensures.value, none_left chunk.end chunk.bytes), c.push-in-None.ensures.keeps line keeps)
