use Rattle.std.proofs.Common.{◌≡◌, ◌++◌, [], ◌∷◌, map, flat_map, filter, option_map, OnOk, subst, ap, ◌∙◌, append_assoc, rules}
use Rattle.ref_bundle.specs.inner.Seen.{numbered_document}
use Rattle.ref_bundle.specs.Saying.{seen_spot}
use Rattle.ref_bundle.specs.inner.Tables.{table_of, entry_under, is_other, borne_at}
use Rattle.ref_bundle.proofs.Bearing.{of_document}
use Rattle.ref_bundle.proofs.tables.push_own.Goals as goal

pub returns : goal.returns
returns c =
    let own = c.args.own.now in
    let e = numbered_document own in
    let t = is_other (option_map (λ t. table_of t.now) c.args.last) in
    let first : table_of c.push_other.new.entries ≡ table_of c.args.entries.now ++ map entry_under (filter t ((e.1.uri, (e.0, [])) ∷ [])) = search rules in
    let lent : c.as_slice.result.now ≡ own.places.items = search rules in
    let all =
    ap (λ l. l ++ flat_map (λ s. map entry_under (filter t (borne_at s))) (map seen_spot c.as_slice.result.now)) first
    ∙ append_assoc (table_of c.args.entries.now) _ _
    ∙ ap (λ l. table_of c.args.entries.now ++ l) (of_document t e (map seen_spot c.as_slice.result.now) (ap (map seen_spot) lent ∙ c.requires)) in
    subst (λ l. OnOk c.push_places.result (table_of c.push_places.new.entries ≡ l)) all c.push_places.ensures
