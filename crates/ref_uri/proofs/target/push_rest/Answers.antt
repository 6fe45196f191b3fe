use Rattle.std.proofs.Common.{◌≡◌, ◌++◌, ◌∙◌, length, option_copied, option_map, ap, sym, string_bytes}
use Rattle.ref_uri.specs.declared.written.Form.TheVariants.{Given}
use Rattle.ref_uri.proofs.TargetLemmas.{rest_kept, component_given}
use Rattle.ref_uri.proofs.target.push_rest.Goals as goal

pub returns-in_ok-push_str-in-Some-clause-text : goal.returns-in_ok-push_str-in-Some-clause-text
returns-in_ok-push_str-in-Some-clause-text c =
    let given : c.args.form ≡ Given = c.is_given.ensures c.if-is_given.true in
    let query = option_copied c.args.target.query in
    let fragment = option_copied c.args.target.fragment in
    let rest = c.requires.rest_test c.in-Some.rest.now (ap option_copied c.in-Some.is) in
    c.in_ok-push_str-in-Some.ensures.bytes
    ∙ ap (λ t. string_bytes c.args.buffer.now ++ t) (rest ∙ rest_kept query fragment _ _ (component_given c.args.form query given) (component_given c.args.form fragment given))

pub returns-in_ok-push_str-in-Some-clause-query : goal.returns-in_ok-push_str-in-Some-clause-query
returns-in_ok-push_str-in-Some-clause-query c =
    let given : c.args.form ≡ Given = c.is_given.ensures c.if-is_given.true in
    c.len_of.ensures ∙ ap (option_map length) (sym (component_given c.args.form (option_copied c.args.target.query) given))
