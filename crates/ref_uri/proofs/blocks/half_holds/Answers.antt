use Rattle.std.proofs.Common.{eqb, sym, ◌∙◌, eq-eqb, w8, arith}
use Rattle.std.proofs.lemmas.Bool.{not-false, false≢true, eqb-true}
use Rattle.std.proofs.lemmas.Simd.{bitmask_splat, none_from_empty_mask, length-chunk}
use lib.Lanes.{chunk}
use Rattle.ref_uri.proofs.blocks.half_holds.Goals as goal

pub returns : goal.returns
returns c none =
    let v = chunk c.args.at 8 c.args.bytes.now in
    let long = length-chunk c.args.at 8 c.args.bytes.now c.requires in
    let empty = sym (bitmask_splat w8 eqb v 8 c.args.byte long (omega arith)) ∙ eqb-true _ 0 (not-false _ none) in
    λ k from to is.
    false≢true (sym (none_from_empty_mask (λ x. eqb x c.args.byte) c.args.bytes.now c.args.at 8 0 c.requires empty k from to) ∙ eq-eqb _ _ is)
