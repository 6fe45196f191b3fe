use Rattle.std.proofs.Common.{codes, refl}
use Rattle.ref_vocabularies.proofs.Texts.{other_bytes}
use Rattle.ref_vocabularies.proofs.meta_schema.known_set.Goals as goal

pub returns-in_default : goal.returns-in_default
returns-in_default c =
    let id = c.args.id.now in
    rw (
      other_bytes id (codes "https://json-schema.org/schema") c.in_default.not-text,
      other_bytes id (codes "https://json-schema.org/draft/2020-12/schema") c.in_default.not-text-2,
      other_bytes id (codes "https://json-schema.org/draft/2019-09/schema") c.in_default.not-text-3,
      other_bytes id (codes "https://json-schema.org/draft-07/schema") c.in_default.not-text-4,
      other_bytes id (codes "https://json-schema.org/draft-06/schema") c.in_default.not-text-5,
      other_bytes id (codes "https://json-schema.org/draft-04/schema") c.in_default.not-text-6,
    ) refl
