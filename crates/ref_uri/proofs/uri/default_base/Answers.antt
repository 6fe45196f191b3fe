use Rattle.ref_uri.proofs.Meanings.{default_is_parsed}
use Rattle.ref_uri.proofs.uri.default_base.Goals as goal

pub from_parsed-requires : goal.from_parsed-requires
from_parsed-requires c = default_is_parsed
