use Rattle.std.proofs.Common.{[], length, refl, ap, ◌∙◌}
use Rattle.std.proofs.lemmas.Result.{IfOk-weaker, IfErr-weaker}
use Rattle.referencing.specs.Builder.{builder_of, new_builder}
use Rattle.ref_registries.proofs.Building.{held, refused}
use Rattle.ref_registries.proofs.registry.builder_of.Goals as goal

pub returns-in-Some-clause-ok : goal.returns-in-Some-clause-ok
returns-in-Some-clause-ok g c =
    let ds = c.args.documents.items in
    rw c.in-Some.is
    (IfOk-weaker c.extend.result _ _
    (λ b got. held _ c.in-Some.registry.now (new_builder (builder_of b).retriever c.in-Some.registry.now []) (builder_of b) ds got.1 got.0 refl got.2.0 (got.0.rest.ok.0 ∙ ap length got.2.0) got.3 got.4)
    c.extend.ensures.ok)

pub returns-in-Some-clause-fault : goal.returns-in-Some-clause-fault
returns-in-Some-clause-fault g c =
    let ds = c.args.documents.items in
    IfErr-weaker c.extend.result _ _
    (λ e got. refused _ ds got.1 [] got.0 got.3.0 e refl got.2.0 got.3.1 got.4)
    c.extend.ensures.fault

pub returns-in-None-clause-ok : goal.returns-in-None-clause-ok
returns-in-None-clause-ok g c =
    let ds = c.args.documents.items in
    rw c.in-None.is
    (IfOk-weaker c.extend-in-None.result _ _
    (λ b got. held _ [] (builder_of c.new.result) (builder_of b) ds got.1 got.0 c.new.ensures.value got.2.0 (got.0.rest.ok.0 ∙ ap length got.2.0) got.3 got.4)
    c.extend-in-None.ensures.ok)

pub returns-in-None-clause-fault : goal.returns-in-None-clause-fault
returns-in-None-clause-fault g c =
    let ds = c.args.documents.items in
    IfErr-weaker c.extend-in-None.result _ _
    (λ e got. refused _ ds got.1 (builder_of c.new.result).pending got.0 got.3.0 e (ap (λ b. b.pending) c.new.ensures.value) got.2.0 got.3.1 got.4)
    c.extend-in-None.ensures.fault
