use Rattle.std.proofs.Common.{◌*◌, ◌-◌, ◌^◌, ◌%◌, ap, ◌∙◌}
use Rattle.ref_parts.proofs.SlotLaws.{number_of_last}
use Rattle.ref_parts.proofs.table.last_bytes.Goals as goal

pub returns : goal.returns
returns c =
    ap (λ w. w * 2 ^ (8 * (7 - c.args.count)) % 18446744073709551616 * 256 % 18446744073709551616) c.from_be_bytes.ensures
    ∙ number_of_last c.args.eight.now c.args.count c.told-eight c.fits-eight c.requires
