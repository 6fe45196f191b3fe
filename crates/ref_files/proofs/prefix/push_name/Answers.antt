use Rattle.std.proofs.Common.{rules, ◌≡◌, ap, ◌∙◌, arith, string_bytes}
use Rattle.ref_files.specs.Plain.{ends_in_slash}
use Rattle.ref_files.proofs.prefix.push_name.Goals as goal

pub returns : goal.returns
returns c =
    let ends : c.ends_with.result ≡ ends_in_slash (string_bytes c.args.path.now) =
    c.ends_with.ensures.byte (omega arith) (omega arith) (λ w o h. h) ∙ ap ends_in_slash c.as_str.ensures.value in
    record { value = search rules }
