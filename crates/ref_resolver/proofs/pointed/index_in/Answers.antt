use Rattle.std.proofs.Common.{sym, ap, ◌∙◌, ok_or}
use Rattle.ref_definitions.specs.Fault.{InvalidArrayIndex}
use Rattle.ref_definitions.specs.Pointers.{index_of}
use Rattle.ref_error.proofs.Saying.{says_of}
use Rattle.ref_resolver.proofs.pointed.index_in.Goals as goal

pub returns-in-None : goal.returns-in-None
returns-in-None c =
    let fault = InvalidArrayIndex c.args.pointer.now c.args.token.now in
    record { gives = says_of (ok_or (index_of c.args.token.now) fault) fault c.no_index.result (ap (λ o. ok_or o fault) (sym c.index_of.ensures ∙ c.in-None.is)) c.no_index.ensures }
