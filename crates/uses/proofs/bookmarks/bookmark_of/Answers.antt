use Rattle.std.proofs.Common.{rules}
use Rattle.referencing.specs.Segment.{part_of}
use Rattle.uses.proofs.Paths.{goes_on}
use Rattle.uses.proofs.bookmarks.bookmark_of.Goals as goal

pub returns-clause-path : goal.returns-clause-path
returns-clause-path c =
    search (goes_on part_of c.args.place.now.path.items c.args.resource.now.path.items c.in_ok-path.path.now, c.strip_prefix.ensures, c.in_ok-path.ensures, c.as_slice.ensures.value, c.as_slice-2.ensures.value, rules)
