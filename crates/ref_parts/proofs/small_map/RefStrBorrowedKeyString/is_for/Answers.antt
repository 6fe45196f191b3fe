use Rattle.std.proofs.Common.{bytes_eq, ap, ◌∙◌}
use Rattle.ref_parts.proofs.small_map.RefStrBorrowedKeyString.is_for.Goals as goal

pub returns : goal.returns
returns c = record { value = c.eq.ensures ∙ ap (bytes_eq c.args.self.now.now) c.as_str.ensures.value }
