use Rattle.std.proofs.Common.{◌++◌, ◌∷◌}
use Rattle.ref_uri.proofs.PlainText.{removed_plain, plain_merged}
use Rattle.ref_uri.proofs.target.PathOf.without_dots.Goals as goal

pub returns-in-Kept-clause-text : goal.returns-in-Kept-clause-text
returns-in-Kept-clause-text c = absurd (rw c.in-Kept.is at c.requires)

pub returns-in-OfBase-clause-text : goal.returns-in-OfBase-clause-text
returns-in-OfBase-clause-text c = rw c.in-OfBase.is (removed_plain c.in-OfBase.path.now (rw c.in-OfBase.is at c.requires))

pub returns-in-Removed-clause-text : goal.returns-in-Removed-clause-text
returns-in-Removed-clause-text c = rw c.in-Removed.is (removed_plain c.in-Removed.path.now (rw c.in-Removed.is at c.requires))

pub returns-in-Merged-clause-text : goal.returns-in-Merged-clause-text
returns-in-Merged-clause-text c =
    let directory = c.in-Merged.directory.now in
    let path = c.in-Merged.path.now in
    let h = rw c.in-Merged.is at c.requires in
    rw c.in-Merged.is (removed_plain (directory ++ 47 ∷ path) (plain_merged directory path h.0 h.1))
