use Rattle.std.proofs.Common.{ap, ok_or, option_map}
use Rattle.serde_json.specs.View.{view}
use Rattle.ref_definitions.specs.Fault.{PointerToNowhere}
use Rattle.ref_error.proofs.Saying.{says_of}
use Rattle.ref_resolver.proofs.pointed.found.Goals as goal

pub returns-in-None : goal.returns-in-None
returns-in-None c =
    let fault = PointerToNowhere c.args.pointer.now in
    record { gives = says_of (ok_or (option_map (λ v. view v.now) c.args.value) fault) fault c.no_such_value.result (ap (λ o. ok_or (option_map (λ v. view v.now) o) fault) c.in-None.is) c.no_such_value.ensures }
