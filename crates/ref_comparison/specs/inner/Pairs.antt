-- Two references, side by side.
use Rattle.std.specs.Prelude.{List, [], ◌∷◌, if◌then◌else◌, Option, Some, None}
use Rattle.ref_descriptions.specs.References.{Reference}
use Rattle.ref_reach.specs.Places.{Place}
use Rattle.ref_comparison.specs.Further.{Sides, What, OtherReferences, is_same_place, text_whats}

-- what differs between them
abbrev pub pair_whats : Sides → Place → Place → Reference → Reference → List What
pair_whats s p q r t =
    if is_same_place r t then text_whats s p q r r.text t.text else OtherReferences ∷ []

-- the same where there may be one of them alone, or none
abbrev pub whats_at : Sides → Place → Place → Option Reference → Option Reference → List What
whats_at s p q (Some r) (Some t) = pair_whats s p q r t
whats_at s p q (Some r) None = OtherReferences ∷ []
whats_at s p q None (Some t) = OtherReferences ∷ []
whats_at s p q None None = []
