-- The tables of the URIs that places have.
use Rattle.std.specs.Prelude.{◌≡◌, ℕ, Bool, true, false, not, List, [], map, filter, Option, Some, None, option_map}
use Rattle.std.specs.Option.{option_map_or, option_to_list}
use Rattle.ref_paths.specs.Segment.{part_of}
use Rattle.ref_parts.specs.Table.{Entry, last_value}
use Rattle.ref_definitions.specs.World.{Layer}
use Rattle.ref_bundle.specs.Needed.{Site, sites_of_uris, Seen}
use Rattle.ref_bundle.specs.Bundle.{is_site}
use Rattle.ref_bundle.specs.inner.Seen.{own_uri_of}
use Rattle.ref_bundle.specs.declared.tables.Site as rust_site
use Rattle.ref_bundle.specs.declared.tables.Bearers as rust_bearers

-- a place
abbrev pub site_of : rust_site.Site → Site
site_of s = (s.document, map part_of s.path.items)

-- the entries of a table, or those that it is to be made from
abbrev pub table_of : List (Entry rust_site.Site) → List (Entry Site)
table_of es = map (λ e. (e.0, e.1, site_of e.2)) es

-- the entry of a URI
abbrev pub entry_under : List ℕ × Site → Entry Site
entry_under b = (b.0, [], b.1)

-- the URI that a place has by its own identifier, with the place
abbrev pub borne_at : Seen → List (List ℕ × Site)
borne_at s = option_to_list (option_map (λ uri. (uri, (s.document, s.path))) (own_uri_of s))

-- whether another place than this one is last under a URI in a table
abbrev pub is_other_in : List (Entry Site) → List ℕ → Site → Bool
is_other_in table uri site =
    not (option_map_or (λ s. is_site s site) (last_value uri [] table) false)

-- the same where there is a table
abbrev pub is_other : Option (List (Entry Site)) → List ℕ × Site → Bool
is_other None b = true
is_other (Some table) b = is_other_in table b.0 b.1

-- the tables of a layer: of all that its places have, and of those entries whose place isn't the last under their URI
pub record AreTables (layer : Layer) (b : rust_bearers.Bearers) : Type 0 where
  pub last : table_of b.last ≡ map entry_under (sites_of_uris layer)
  pub others : table_of b.others
      ≡ map entry_under
      (filter (is_other (Some (map entry_under (sites_of_uris layer)))) (sites_of_uris layer))
