use Rattle.std.proofs.Common.{◌≡◌, ◌∷◌, IfOk, option_map, string_bytes, sym, subst, arith}
use Rattle.std.proofs.lemmas.Str.Pattern.{strip_prefix_char}
use Rattle.ref_bundle.specs.Bundle.{pointer_in}
use Rattle.ref_bundle.proofs.Keys.{no_pointer}
use Rattle.ref_bundle.proofs.fragment.pointer_in.Goals as goal

pub returns-in-Some : goal.returns-in-Some
returns-in-Some c =
    let is : c.args.fragment.now ≡ 47 ∷ c.in-Some.text.now = rw c.in-Some.is at (strip_prefix_char 47 c.args.fragment.now c.strip_prefix.result c.strip_prefix.ensures.cases (omega arith)) in
    subst (λ f. IfOk c.decoded.result (λ o. option_map string_bytes o ≡ pointer_in f)) (sym is) c.decoded.ensures

pub returns-in-None : goal.returns-in-None
returns-in-None c =
    let other = rw c.in-None.is at (strip_prefix_char 47 c.args.fragment.now c.strip_prefix.result c.strip_prefix.ensures.cases (omega arith)) in
    no_pointer c.args.fragment.now other
