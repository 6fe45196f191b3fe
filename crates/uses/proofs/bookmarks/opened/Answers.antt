use Rattle.std.proofs.Common.{rules, ap}
use Rattle.uses.proofs.bookmarks.opened.Goals as goal

pub returns-in_err-locate-clause-memory : goal.returns-in_err-locate-clause-memory
returns-in_err-locate-clause-memory c d r q alike at_r path = search (c.in_err-locate.ensures.agrees d r q alike at_r path, rules)

pub returns-clause-place : goal.returns-clause-place
returns-clause-place c d r q alike at_r path =
    let at = c.in_ok-locate.ensures.agrees d r q alike at_r path in
    (search (ap (λ f. f.value) at.2, rules), search (ap (λ f. f.draft) at.2, rules), search (at.1, ap (λ f. f.resolver.base) at.2, rules))
