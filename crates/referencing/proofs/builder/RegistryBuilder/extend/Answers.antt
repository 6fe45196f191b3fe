use Rattle.std.proofs.Common.{rules, subst, [], ◌∷◌, ◌++◌}
use Rattle.std.proofs.iter.Next.{Yields-more}
use Rattle.ref_definitions.specs.Fault.{as_invalid_uri}
use Rattle.ref_definitions.specs.Pending.{Addition, with_addition}
use Rattle.ref_error.specs.Errors.{IsFaultOf}
use Rattle.referencing.specs.Builder.{builder_of, addition, Adds}
use Rattle.referencing.proofs.Adding.{adds_more, refused_more, passed_on, same_addition}
use Rattle.referencing.proofs.builder.RegistryBuilder.extend.Goals as goal

pub returns-in_err-push-clause-fault : goal.returns-in_err-push-clause-fault
returns-in_err-push-clause-fault g c =
    let it = c.into_iter-uri-iterator.result in
    let xs = c.loop-uri.yielded in
    let x : g.row.U.Denot × g.row.T.Denot = (c.in-Some.uri, c.in-Some.resource) in
    let f : g.row.U.Denot × g.row.T.Denot → Addition = λ x. addition (g.U.AsStr.text x.0) (g.T.IntoRegistryResource.tree x.1) (g.T.IntoRegistryResource.given_draft x.1) in
    let more = Yields-more g.I.IntoIter.Iterator.next_gives it xs c.loop-uri.uri-iterator x c.next.new.self c.loop-uri.yielded_by c.in-Some.ensures.steps in
    let same = same_addition c.as_str.ensures c.into_pending.ensures.tree c.into_pending.ensures.draft in
    let old = builder_of c.args.self in
    let now = builder_of c.loop-uri.builder in
    let error = c.in_err-push.field-0.0 in
    let here = subst (λ a. IsFaultOf (as_invalid_uri (with_addition now.pending a)) error) same c.in_err-push.ensures.fault in
    passed_on c.from_residual.result error _ c.from_residual.ensures.1
    (it, xs ++ x ∷ [], c.into_iter-uri-iterator.ensures.into_iter_gives, (c.next.new.self, more), refused_more f old now xs x error c.loop-uri.invariant.2 here)

pub loop-uri-preserved : goal.loop-uri-preserved
loop-uri-preserved g c =
    let xs = c.loop-uri.yielded in
    let x : g.row.U.Denot × g.row.T.Denot = (c.in-Some.uri, c.in-Some.resource) in
    let f : g.row.U.Denot × g.row.T.Denot → Addition = λ x. addition (g.U.AsStr.text x.0) (g.T.IntoRegistryResource.tree x.1) (g.T.IntoRegistryResource.given_draft x.1) in
    let same = same_addition c.as_str.ensures c.into_pending.ensures.tree c.into_pending.ensures.draft in
    let old = builder_of c.args.self in
    let now = builder_of c.loop-uri.builder in
    let new = builder_of c.push.new.self in
    let here = subst (λ a. Adds (with_addition now.pending a) now new) same c.in_ok-push.ensures.ok in
    (search rules, search rules, adds_more f old now new xs x c.loop-uri.invariant.2 here)
