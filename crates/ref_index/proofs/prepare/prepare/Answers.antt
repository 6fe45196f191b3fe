use Rattle.std.proofs.Common.{◌≡◌, ◌<◌, ◌∷◌, ◌++◌, [], map, sym, subst, Ok, Some, None, arith, rules}
use Rattle.std.specs.Prelude.{slice_get}
use Rattle.ref_definitions.specs.Fault.{RetrievalLimit}
use Rattle.ref_definitions.specs.Wants.{wants, faults}
use Rattle.ref_definitions.specs.Preparing.{IsOutcome, refusal_fault}
use Rattle.ref_index.specs.Document.{document_of}
use Rattle.ref_index.specs.inner.Found.{want_of}
use Rattle.ref_index.specs.Retrieval.{given_with, IsFaultyOutcome}
use Rattle.ref_index.proofs.Retrieving.{IsNext, at_first, at_first_fault, at_limit, at_refusal, at_fault, at_last, onward, unless_memory, of_first_fault}
use Rattle.ref_index.proofs.prepare.prepare.Goals as goal

pub returns-in_err-walked-clause-fault : goal.returns-in_err-walked-clause-fault
returns-in_err-walked-clause-fault g c =
    let is = given_with (g.R.Retrieve.meaning c.args.retriever.now) c.args.limit c.args.draft (map (λ p. p.now) c.args.parents.now) (map document_of c.args.documents.items) in
    let fault = of_first_fault is (faults (map document_of c.args.documents.items)) c.in_err-walked.field-0.0 c.in_err-walked.ensures.fault (at_first_fault is) in
    search rules

pub loop-want-init : goal.loop-want-init
loop-want-init g c =
    let is = given_with (g.R.Retrieve.meaning c.args.retriever.now) c.args.limit c.args.draft (map (λ p. p.now) c.args.parents.now) (map document_of c.args.documents.items) in
    let to : IsNext c.in_ok-walked.walked is.parents 0 c.first_open-next.result =
    record { faultless = c.first_open-next.ensures.faultless; within = c.first_open-next.ensures.within; met = c.first_open-next.ensures.met; open_there = c.first_open-next.ensures.open } in
    at_first is c.in_ok-walked.walked c.first_open-next.result c.in_ok-walked.ensures.value to

pub returns-then-count-limit-clause-fault : goal.returns-then-count-limit-clause-fault
returns-then-count-limit-clause-fault g c =
    let is = given_with (g.R.Retrieve.meaning c.args.retriever.now) c.args.limit c.args.draft (map (λ p. p.now) c.args.parents.now) (map document_of c.args.documents.items) in
    let w = want_of c.in-Some.want.now in
    let there : slice_get (wants c.loop-want.walked) c.loop-want.next ≡ Some w = search rules in
    let all : c.loop-want.count ≡ c.args.limit = search rules in
    unless_memory c.limit_reached.result (λ says. (RetrievalLimit w.uri c.args.limit, at_limit is c.loop-want.count c.loop-want.walked c.loop-want.next w c.loop-want.invariant there all, says)) c.limit_reached.ensures

pub returns-in_err-document-clause-fault : goal.returns-in_err-document-clause-fault
returns-in_err-document-clause-fault g c =
    let is = given_with (g.R.Retrieve.meaning c.args.retriever.now) c.args.limit c.args.draft (map (λ p. p.now) c.args.parents.now) (map document_of c.args.documents.items) in
    let w = want_of c.in-Some.want.now in
    let there : slice_get (wants c.loop-want.walked) c.loop-want.next ≡ Some w = search rules in
    let less : c.loop-want.count < c.args.limit = omega (arith, c.loop-want.invariant.most, c.if-count-limit.false) in
    let fault : IsFaultyOutcome is c.in_err-document.field-0.0 = unless_memory c.in_err-document.field-0.0 (λ refused. (refusal_fault w.cause w.uri refused.0, at_refusal is c.loop-want.count c.loop-want.walked c.loop-want.next w refused.0 c.loop-want.invariant there less refused.1, refused.2)) c.in_err-document.ensures.fault in
    search rules

pub returns-in_err-walked-2-clause-fault : goal.returns-in_err-walked-2-clause-fault
returns-in_err-walked-2-clause-fault g c =
    let is = given_with (g.R.Retrieve.meaning c.args.retriever.now) c.args.limit c.args.draft (map (λ p. p.now) c.args.parents.now) (map document_of c.args.documents.items) in
    let w = want_of c.in-Some.want.now in
    let there : slice_get (wants c.loop-want.walked) c.loop-want.next ≡ Some w = search rules in
    let less : c.loop-want.count < c.args.limit = omega (arith, c.loop-want.invariant.most, c.if-count-limit.false) in
    let d = document_of c.in_ok-document.document in
    let fault = of_first_fault is (faults (c.loop-want.walked ++ d ∷ [])) c.in_err-walked-2.field-0.0 c.in_err-walked-2.ensures.fault
    (λ refusal more first. at_fault is c.loop-want.count c.loop-want.walked c.loop-want.next w d refusal more c.loop-want.invariant there less c.in_ok-document.ensures.ok first) in
    search rules

pub loop-want-preserved : goal.loop-want-preserved
loop-want-preserved g c =
    let is = given_with (g.R.Retrieve.meaning c.args.retriever.now) c.args.limit c.args.draft (map (λ p. p.now) c.args.parents.now) (map document_of c.args.documents.items) in
    let w = want_of c.in-Some.want.now in
    let there : slice_get (wants c.loop-want.walked) c.loop-want.next ≡ Some w = search rules in
    let less : c.loop-want.count < c.args.limit = omega (arith, c.loop-want.invariant.most, c.if-count-limit.false) in
    let to : IsNext c.in_ok-walked-2.walked is.parents c.loop-want.next c.first_open-next-in-Some.result =
    record { faultless = c.first_open-next-in-Some.ensures.faultless; within = c.first_open-next-in-Some.ensures.within; met = c.first_open-next-in-Some.ensures.met; open_there = c.first_open-next-in-Some.ensures.open } in
    onward is c.loop-want.count c.loop-want.walked c.in_ok-walked-2.walked c.loop-want.next c.first_open-next-in-Some.result w (document_of c.in_ok-document.document) c.loop-want.invariant there less c.in_ok-document.ensures.ok c.in_ok-walked-2.ensures.value to

pub returns-clause-outcome : goal.returns-clause-outcome
returns-clause-outcome g c =
    let is = given_with (g.R.Retrieve.meaning c.args.retriever.now) c.args.limit c.args.draft (map (λ p. p.now) c.args.parents.now) (map document_of c.args.documents.items) in
    let none : slice_get (wants c.loop-want.walked) c.loop-want.next ≡ None = search rules in
    subst (λ l. IsOutcome is (Ok l)) (sym c.in_ok-into_index.ensures.value) (at_last is c.loop-want.count c.loop-want.walked c.loop-want.next c.loop-want.invariant none)
