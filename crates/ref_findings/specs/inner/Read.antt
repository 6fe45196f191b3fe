-- Which URIs and names the program's places have, and what it knows of sources as they are read.
use Rattle.std.specs.Prelude.{◌≡◌, ℕ, Bool, List, [], ◌∷◌, ◌++◌, map, flat_map, reverse, if◌then◌else◌}
use Rattle.ref_parts.specs.Table.{Entry}
use Rattle.ref_draft.specs.declared.draft.Draft.{Draft}
use Rattle.ref_findings.specs.declared.bearers.Bearers as rust
use Rattle.ref_findings.specs.Sources.{Source, sound_document}
use Rattle.ref_findings.specs.Bearers.{Site, uris_borne, names_borne}
use Rattle.ref_findings.specs.Findings.{Known, is_any_twice}
use Rattle.ref_findings.specs.inner.Seen.{site_of, known_among}

-- the tables are those of the places; those of the first that has a text were made from the last entry to the first
pub record AreBearers (b : rust.Bearers) : Type 0 where
  pub firsts : b.uris.firsts ≡ reverse (uris_borne (map site_of b.sites.items))
  pub lasts : b.uris.lasts ≡ uris_borne (map site_of b.sites.items)
  pub twice : b.uris.is_any_twice ≡ is_any_twice (uris_borne (map site_of b.sites.items))
  pub names : b.names ≡ reverse (names_borne (map site_of b.sites.items))

-- what is known of places, by sources as they are read
abbrev pub known_read : Draft → List Source → List Source → Bool → List (Entry ℕ) → List Site
    → Known
known_read draft read held twice unread sites =
    known_among (flat_map (sound_document draft) read ++ flat_map (sound_document draft) held)
    (if twice then map (sound_document draft) read else []) unread sites
