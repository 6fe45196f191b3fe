use Rattle.std.proofs.Common.{◌≡◌, ◌++◌, ◌∙◌, ap, map, subst, sym, refl, true, rules}
use Rattle.std.specs.List.{AllZip}
use Rattle.ref_parts.specs.Table.{with_value}
use Rattle.ref_definitions.specs.Cached.{identifier_pairs, reference_pairs, pairs}
use Rattle.ref_index.specs.Document.{document_of}
use Rattle.ref_index.specs.inner.NormalUris.{HaveNormalUris}
use Rattle.ref_index.specs.Spots.{numbered_resources, numbered_names}
use Rattle.ref_index.specs.inner.Found.{IsResourceOf, IsNameOf, IsPairOf}
use Rattle.ref_index.specs.inner.Index.{IsPairIn, numbered_uri}
use Rattle.ref_index.proofs.Holding.{zip_join}
use Rattle.ref_index.proofs.Looking.{zip_mapped}
use Rattle.ref_index.proofs.index.Index.new.Goals as goal

pub invariant_of-result : goal.invariant_of-result
invariant_of-result c =
    let layer = map document_of c.args.documents.items in
    let found = c.args.found in
    let held = c.requires.held.1 in
    let slice : c.as_slice.result.now ≡ c.args.documents.items = search rules in
    let normal = subst (λ ds. c.in_ok-is_normal.is_normal ≡ true → HaveNormalUris (map document_of ds)) slice c.in_ok-is_normal.ensures in
    let by_uri = c.in_ok-by_uri.by_uri in
    let joined = zip_join IsPairOf found.identifiers (identifier_pairs layer) found.references (reference_pairs layer) held.of_identifiers held.of_references in
    let entered = c.in_ok-by_pair.ensures.entered ∙ c.set_entries.ensures ∙ ap (map (with_value (numbered_uri by_uri))) c.in_ok-append.ensures.value in
    record {
      resource = subst (λ l. AllZip (IsResourceOf layer found.entries.items) l (numbered_resources layer)) (sym c.in_ok-by_uri.ensures.entered) held.by_uri;
      name = subst (λ l. AllZip (IsNameOf layer found.entries.items) l (numbered_names layer)) (sym c.in_ok-by_name.ensures.entered) held.by_name;
      pair = subst (λ l. AllZip (IsPairIn by_uri) l (pairs layer)) (sym entered)
          (zip_mapped IsPairOf (IsPairIn by_uri) (with_value (numbered_uri by_uri)) (λ e p is. (is.0, is.1, is.2, refl)) (found.identifiers ++ found.references) (pairs layer) joined);
      children = c.requires.children;
      normal = normal;
    }
