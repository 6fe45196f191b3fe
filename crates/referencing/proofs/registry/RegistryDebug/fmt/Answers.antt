use Rattle.std.proofs.Common.{◌≡◌, map, length, rules}
use Rattle.std.proofs.Output.{has_written_of_eq}
use Rattle.std.proofs.lemmas.List.{length-map}
use Rattle.referencing.proofs.Shown.{counts_shown}
use Rattle.referencing.proofs.registry.RegistryDebug.fmt.Goals as goal

pub returns : goal.returns
returns g c = record {
  writes = λ plain ok.
      let here : c.document_count-documents.result ≡ length c.self.inside.own.value = search rules in
      let above : c.len-parents.result ≡ length (map (λ p. p.now) c.self.inside.parents.items) = search (length-map, rules) in
      has_written_of_eq _ _ _ _ _ (counts_shown c.self.inside.own.value (map (λ p. p.now) c.self.inside.parents.items) c.args.self.now _ _ c.self.view_is here above) (c.write.ensures.writes plain ok);
}
