use Rattle.std.proofs.Common.{rules}
use Rattle.ref_files.specs.Uris.{is_kept}
use Rattle.ref_files.proofs.Kept.{encoded_is}
use Rattle.ref_files.proofs.uri.push_path.Goals as goal

pub returns : goal.returns
returns c =
    let is = encoded_is c.encoded.result is_kept c.encoded.ensures.value c.args.path.now in
    record { value = search rules }
