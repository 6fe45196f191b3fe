use Rattle.ref_graphs.proofs.Searching.{search_start}
use Rattle.ref_graphs.proofs.reaching.search_of.Goals as goal

pub returns : goal.returns
returns c = λ steps.
    search_start c.args.count steps c.in_ok-vec.field-0.items c.reach.new.self.flags.items c.new.result.items c.reach.new.self.waiting.items
    (c.in_ok-vec.ensures.items_if_clones_equal (λ y h. h)) c.new.ensures.items c.in_ok-reach.ensures.flags c.in_ok-reach.ensures.waiting
