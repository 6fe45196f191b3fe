use Rattle.std.proofs.Common.{MatchOption, Some, ap, sym, subst, ◌∙◌}
use Rattle.ref_index.specs.Spots.{spot_of}
use Rattle.ref_resolver.specs.inner.Located.{IsLocatedIn}
use Rattle.ref_resolver.proofs.located.named_in.Goals as goal

pub returns-in_err-place : goal.returns-in_err-place
returns-in_err-place c =
    let (n, found, kind, is) = c.in_ok-found.ensures.value in
    absurd (subst (λ o. MatchOption o ⊥ (λ l. IsLocatedIn c.args.index.now l n.place)) c.in_err-place.was (c.place_at.ensures.place n.place is))

pub returns : goal.returns
returns c =
    let (n, found, kind, is) = c.in_ok-found.ensures.value in
    record {
      spot = c.in_ok-found.ensures.spot ∙ ap (λ e. Some (spot_of e)) (sym c.in_ok-place.ensures.entry);
      value = (n, found, (kind, subst (λ o. MatchOption o ⊥ (λ l. IsLocatedIn c.args.index.now l n.place)) c.in_ok-place.was (c.place_at.ensures.place n.place is)));
    }
