use Rattle.std.proofs.Common.{◌∙◌, ap, sym, Bool, if◌then◌else◌, []}
use Rattle.std.specs.List.{before_last}
use Rattle.ref_files.specs.Plain.{is_slash}
use Rattle.ref_files.proofs.LastSlash.{slash_split}
use Rattle.ref_files.proofs.path.folder_of.Goals as goal

pub returns-in-Some : goal.returns-in-Some
returns-in-Some c =
    let cut = rw c.in-Some.is at (slash_split c.args.path.now c.rsplit_once.result c.rsplit_once.ensures.cases) in
    record { value = cut.1 ∙ sym (ap (λ (b : Bool). (if b then before_last is_slash c.args.path.now else [])) cut.0) }

pub returns-in-None : goal.returns-in-None
returns-in-None c =
    let none = rw c.in-None.is at (slash_split c.args.path.now c.rsplit_once.result c.rsplit_once.ensures.cases) in
    record { value = sym (ap (λ (b : Bool). (if b then before_last is_slash c.args.path.now else [])) none) }
