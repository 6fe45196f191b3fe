use Rattle.std.proofs.Common.{rules}
use Rattle.ref_files.specs.Uris.{is_kept_first}
use Rattle.ref_files.proofs.Kept.{encoded_is}
use Rattle.ref_files.proofs.uri.relative_uri.Goals as goal

pub returns : goal.returns
returns c =
    let is = encoded_is c.encoded_first.result is_kept_first c.encoded_first.ensures.value c.args.path.now in
    record { value = search rules }
