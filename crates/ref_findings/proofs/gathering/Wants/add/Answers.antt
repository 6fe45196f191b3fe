use Rattle.ref_index.proofs.Listing.{on_ok}
use Rattle.ref_findings.proofs.Retrieving.{grown_by_place}
use Rattle.ref_findings.proofs.gathering.Wants.add.Goals as goal

pub returns : goal.returns
returns c =
    on_ok c.want-3.result
    (λ last. grown_by_place c.args.self.now c.meet_own.new.self c.want.new.self c.want-2.new.self c.want-3.new.self _ _ _ _ _ _ _ _ c.in_ok-meet_own.ensures c.in_ok-want.ensures c.in_ok-want-2.ensures last c.own_uri.ensures.value c.in_ok-referred.ensures
    c.in_ok-dynamic.ensures c.in_ok-dialect.ensures)
    c.want-3.ensures
