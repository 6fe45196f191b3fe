use Rattle.std.proofs.Common.{map}
use Rattle.referencing.specs.Builder.{builder_of}
use Rattle.referencing.specs.Prepared.{given_of}
use Rattle.referencing.specs.Following.{step_of}
use Rattle.referencing.proofs.Failing.{answers, fails}
use Rattle.referencing.proofs.builder.RegistryBuilder.prepare_and_follow.Goals as goal

pub returns-in-Ok-clause-answer : goal.returns-in-Ok-clause-answer
returns-in-Ok-clause-answer g c =
    let b = builder_of c.args.self in
    answers (given_of (g.R.Retrieve.meaning b.retriever) b) c.in-Ok.registry c.args.base (map step_of c.args.steps.now) c.answer_over.result c.in-Ok.ensures.outcome c.answer_over.ensures.answer

pub returns-in-Ok-clause-fault : goal.returns-in-Ok-clause-fault
returns-in-Ok-clause-fault g c =
    let b = builder_of c.args.self in
    fails (given_of (g.R.Retrieve.meaning b.retriever) b) c.in-Ok.registry c.args.base (map step_of c.args.steps.now) c.answer_over.result c.in-Ok.ensures.outcome c.answer_over.ensures.fault
