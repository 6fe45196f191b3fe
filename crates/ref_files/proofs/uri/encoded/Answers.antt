use Rattle.std.proofs.Common.{refl}
use Rattle.std.specs.Char.{is_ascii}
use Rattle.ref_files.specs.Uris.{is_kept}
use Rattle.percent_encoding.specs.AsciiSet.{should_percent_encode}
use Rattle.ref_files.proofs.Kept.{encodes_others, none_of, all_below, same, encodes, encodes_all}
use Rattle.ref_files.proofs.uri.encoded.Goals as goal

pub returns : goal.returns
unfolding all_below same encodes encodes_all should_percent_encode
returns c = record {
  value = encodes_others _ is_kept (λ b outside. none_of (is_ascii b) _ outside) refl;
}
