-- Literal places for rows: a root whose reference leads to a place, and that place, whose own reference leads back to it; and a schema with a relative identifier.
use Rattle.std.specs.Prelude.{false, true, [], ◌∷◌, codes}
use Rattle.ref_paths.specs.Path.{Key}
use Rattle.ref_draft.specs.declared.draft.Draft.TheVariants.{Draft7}
use Rattle.ref_draft.specs.Rows.{text, one}
use Rattle.ref_reach.specs.Places.{Place}
use Rattle.ref_reach.specs.Leading.{Leads}
use Rattle.ref_reach.specs.Schemas.{schema_reading}
use Rattle.ref_reach.specs.Reached.{Around}

abbrev pub begins : Place
begins =
    record {
      document = 0;
      path = [];
      value = one "$ref" (text "#/a");
      reading = schema_reading Draft7;
      base = codes "u:";
      is_identified = false;
    }

abbrev pub comes : Place
comes = record begins { path = Key (codes "a") ∷ [] }

abbrev pub ring : Around
ring = record { own = begins ∷ []; outcome = λ p r. Leads comes; is_own = λ p. false }

abbrev pub identified : Place
identified =
    record begins {
      value = one "$id" (text "sub/h");
      base = codes "u:/sub/h";
      is_identified = true;
    }
