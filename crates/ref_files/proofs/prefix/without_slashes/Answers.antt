use Rattle.ref_files.proofs.Trim.{trimmed_is}
use Rattle.ref_files.proofs.prefix.without_slashes.Goals as goal

pub returns : goal.returns
returns c = record { value = trimmed_is c.args.text.now c.trim_end_matches.result.now c.trim_end_matches.ensures.matches }
