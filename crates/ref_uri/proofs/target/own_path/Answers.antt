use Rattle.std.proofs.Common.{rules}
use Rattle.ref_uri.proofs.target.own_path.Goals as goal

pub returns-in-None-clause-without_scheme : goal.returns-in-None-clause-without_scheme
returns-in-None-clause-without_scheme c = search rules
