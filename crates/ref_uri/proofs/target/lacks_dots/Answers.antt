use Rattle.std.proofs.Common.{ℕ, List, subst}
use Rattle.std.proofs.lemmas.Bool.{not-true}
use Rattle.ref_uri.specs.DotSegments.{segments}
use Rattle.ref_uri.specs.inner.Removal.{AreNames}
use Rattle.ref_uri.proofs.Settled.{names_stay}
use Rattle.ref_uri.proofs.target.lacks_dots.Goals as goal

pub returns-in-Some : goal.returns-in-Some
returns-in-Some c = λ none there.
    names_stay c.args.path.now (subst (λ (t : List ℕ). AreNames (segments t)) c.as_bytes.ensures.value (c.may_hold_dots.ensures (not-true c.may_hold_dots.result none)))
