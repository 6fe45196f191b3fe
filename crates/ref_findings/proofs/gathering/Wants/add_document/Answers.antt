use Rattle.std.proofs.Common.{◌∷◌, []}
use Rattle.ref_index.proofs.Listing.{on_ok}
use Rattle.ref_findings.proofs.Retrieving.{grown_twice}
use Rattle.ref_findings.proofs.gathering.Wants.add_document.Goals as goal

pub returns : goal.returns
returns c =
    on_ok c.add_places.result (λ rest. grown_twice c.args.self.now c.meet.new.self c.add_places.new.self (c.args.uri.now ∷ []) [] _ _ c.in_ok-meet.ensures.grows rest) c.add_places.ensures
