use Rattle.ref_index.specs.Listing.{listed_of}
use Rattle.ref_serve.specs.inner.Seen.{asked_view}
use Rattle.ref_serve.proofs.Referring.{adds_under}
use Rattle.ref_serve.proofs.references.push_reference.Goals as goal

pub returns : goal.returns
returns c =
    adds_under (asked_view c.args.asked.now) (listed_of c.args.place.now) c.args.place.now.base.value c.args.keyword.now c.in-Some.text.now c.args.list.now.items c.push.new.self.items c.in_ok-object.object
    c.in-Some.ensures.value c.in_ok-object.ensures c.in_ok-push.ensures.items
