use Rattle.std.proofs.Common.{Some, ap}
use Rattle.std.specs.Option.{option_map_or}
use Rattle.ref_definitions.specs.Resources.{meant_place}
use Rattle.ref_definitions.specs.Anchors.{named_entry}
use Rattle.ref_definitions.proofs.laws.nearest_layer_decides.Goals as goal

pub returns : goal.returns
returns c = record {
  near = λ layer parents uri found place is. ap (λ o. option_map_or (λ e. Some e.1) o (meant_place parents uri)) is;
  near_name = λ layer parents uri name entry is. ap (λ o. option_map_or (λ e. Some e) o (named_entry parents uri name)) is;
  far_name = λ layer parents uri name is. ap (λ o. option_map_or (λ e. Some e) o (named_entry parents uri name)) is;
  far = λ layer parents uri is. ap (λ o. option_map_or (λ e. Some e.1) o (meant_place parents uri)) is;
}
