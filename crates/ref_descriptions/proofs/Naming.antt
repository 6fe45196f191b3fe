-- The kinds whose fields have names of their own are three.
use Rattle.std.proofs.Common.{◌≡◌, ◌≢◌, ℕ, List, bytes_eq, Option, option_map, refl}
use Rattle.std.specs.List.{find}
use Rattle.ref_descriptions.specs.declared.version.Version.{Version}
use Rattle.ref_descriptions.specs.declared.kind.Kind.{Kind}
use Rattle.ref_descriptions.specs.declared.kind.Kind.TheVariants.{Root, Components, Paths, PathItem, Operation, Responses, Response, Parameter, Header, RequestBody, MediaType, Encoding, Example, Link, Callback, SecurityScheme, Schema}
use Rattle.ref_descriptions.specs.Fields.{fields, field_under}

pub by_table : (version : Version) (kind : Kind) (name : List ℕ) → (kind ≡ Paths → ⊥) → (kind ≡ Responses → ⊥) → (kind ≡ Callback → ⊥) → option_map (λ f. (f.holding, f.kind)) (find (λ f. bytes_eq name f.name) (fields version kind)) ≡ field_under version kind name
by_table version Paths name a b c = absurd (a refl)
by_table version Responses name a b c = absurd (b refl)
by_table version Callback name a b c = absurd (c refl)
by_table version Root name a b c = refl
by_table version Components name a b c = refl
by_table version PathItem name a b c = refl
by_table version Operation name a b c = refl
by_table version Response name a b c = refl
by_table version Parameter name a b c = refl
by_table version Header name a b c = refl
by_table version RequestBody name a b c = refl
by_table version MediaType name a b c = refl
by_table version Encoding name a b c = refl
by_table version Example name a b c = refl
by_table version Link name a b c = refl
by_table version SecurityScheme name a b c = refl
by_table version Schema name a b c = refl
