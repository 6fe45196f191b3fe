use Rattle.std.proofs.Common.{◌≡◌, ◌∙◌, ap, length, arith}
use Rattle.std.specs.Prelude.{slice_get}
use Rattle.ref_index.proofs.Layers.{at_length, resources_stay, names_stay}
use Rattle.ref_index.proofs.found.Found.add_entry.Goals as goal

pub returns-clause-added : goal.returns-clause-added
returns-clause-added c = λ layer held holds.
    let old = c.args.self.now in
    record {
      by_uri = rw c.in_ok-push.ensures.items (resources_stay layer old.entries.items c.args.entry old.resources held.resources holds.by_uri);
      by_name = rw c.in_ok-push.ensures.items (names_stay layer old.entries.items c.args.entry old.names held.names holds.by_name);
      wanted = holds.wanted;
      of_identifiers = holds.of_identifiers;
      of_references = holds.of_references;
      known = holds.known;
    }

pub returns-clause-entry : goal.returns-clause-entry
returns-clause-entry c =
    let number : c.len-number.result ≡ length c.args.self.now.entries.items = omega arith in
    ap (slice_get c.push.new.self.items) number ∙ ap (λ l. slice_get l (length c.args.self.now.entries.items)) c.in_ok-push.ensures.items ∙ at_length c.args.self.now.entries.items c.args.entry
