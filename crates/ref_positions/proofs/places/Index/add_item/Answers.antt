use Rattle.ref_positions.proofs.Indexes.{item_kept, get_more}
use Rattle.ref_positions.proofs.places.Index.add_item.Goals as goal

pub returns-clause-kept : goal.returns-clause-kept
returns-clause-kept c = item_kept c.args.self.now (record { members = c.push.new.self; items = c.insert.new.self }) c.args.place c.args.index (λ n m h. rw (c.in_ok-push.ensures.items) (get_more _ _ n m h)) c.in_ok-insert.ensures.updates.2
