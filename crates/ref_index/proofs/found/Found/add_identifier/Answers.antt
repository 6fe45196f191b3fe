use Rattle.std.proofs.Common.{◌++◌, ◌∷◌, []}
use Rattle.ref_index.proofs.Holding.{pair_more, pairs_held}
use Rattle.ref_index.proofs.Listing.{on_ok}
use Rattle.ref_index.proofs.found.Found.add_identifier.Goals as goal

pub returns : goal.returns
returns c = record {
  added = λ layer held holds means. on_ok c.push_resolved.result
      (λ more. pairs_held layer c.args.self.now held c.push_resolved.new.resolved c.args.self.now.references (held.identifiers ++ (c.args.base.now, c.args.text.now) ∷ []) held.references holds
      (pair_more c.args.self.now.identifiers c.push_resolved.new.resolved held.identifiers (c.args.base.now, c.args.text.now) holds.of_identifiers more) holds.of_references)
      (c.push_resolved.ensures means);
}
