use Rattle.std.proofs.Common.{◌≡◌, None, subst, rules}
use Rattle.ref_index.specs.Entries.{IsFoundWhere}
use Rattle.ref_resolver.proofs.Locating.{meant_of}
use Rattle.ref_resolver.proofs.Spotting.{entry_told}
use Rattle.ref_resolver.proofs.located.place_of.Goals as goal

pub returns-in_err-entry-clause-place : goal.returns-in_err-entry-clause-place
returns-in_err-entry-clause-place c = λ found is.
    let none : found ≡ None = subst (λ o. IsFoundWhere c.args.index.now o found) c.in_err-entry.was is in
    search rules

pub returns-clause-place : goal.returns-clause-place
returns-clause-place c = λ found is.
    let (r, there, at) = subst (λ o. IsFoundWhere c.args.index.now o found) c.in_ok-entry.was is in
    meant_of c.args.index.now c.place_at.result found r there (c.place_at.ensures.place r.1 at)

pub returns-clause-entry : goal.returns-clause-entry
returns-clause-entry c = entry_told c.args.entry _ c.place_at.result c.in_ok-entry.was c.place_at.ensures.entry
