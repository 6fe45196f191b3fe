use Rattle.std.proofs.Common.{◌∙◌, ◌++◌, ap, sym}
use Rattle.ref_lsp.specs.Changes as spec
use Rattle.ref_lsp.proofs.Marks.{cut, with_mark, without_mark}
use Rattle.ref_lsp.proofs.texts.unmarked_json.Goals as goal

pub returns-in_ok-push_str-in-Some : goal.returns-in_ok-push_str-in-Some
returns-in_ok-push_str-in-Some c =
    let e = c.args.encoding in
    let found = rw c.in-Some.is at (cut c.as_str.result.now c.strip_prefix.result c.strip_prefix.ensures.cases) in
    c.in_ok-push_str-in-Some.ensures.bytes
    ∙ ap (λ l. l ++ c.in-Some.rest.now) (c.in_ok-read-in-Some.ensures.ok ∙ c.blanks.ensures)
    ∙ ap (λ l. spec.blanks e ++ l) found.1
    ∙ with_mark e c.as_str.result.now found.0
    ∙ ap (spec.unmarked_json e) c.as_str.ensures.value

pub returns-in-None : goal.returns-in-None
returns-in-None c =
    let e = c.args.encoding in
    let none = rw c.in-None.is at (cut c.as_str.result.now c.strip_prefix.result c.strip_prefix.ensures.cases) in
    sym c.as_str.ensures.value ∙ without_mark e c.as_str.result.now none ∙ ap (spec.unmarked_json e) c.as_str.ensures.value
