use Rattle.std.proofs.Common.{◌≡◌, ◌∙◌, ◌==◌, ap, sym, lit<, false, slice_index}
use Rattle.std.proofs.lemmas.Bool.Decides.{same_from_decides, Decides-eqb}
use Rattle.std.proofs.lemmas.Str.Pattern.{starts_char}
use Rattle.ref_files.specs.Plain.{path_in}
use Rattle.ref_files.proofs.Left.{path_from_folder}
use Rattle.ref_files.proofs.excluded.path_from.Goals as goal

pub returns : goal.returns
returns c =
    let path = c.args.path.now in
    let folder = c.args.folder.now in
    let relative : (slice_index path 0 == 47) ≡ false =
    sym (same_from_decides c.starts_with.result (slice_index path 0 == 47) (starts_char 47 path c.starts_with.result c.starts_with.ensures.cases (lit< tt) (lit< tt)) (Decides-eqb (slice_index path 0) 47)) ∙ c.if-starts_with.false in
    record {
      value = c.in_ok-push_name.ensures.value ∙ ap (λ f. path_in f path) c.in_ok-found.ensures.ok ∙ sym (path_from_folder folder path (sym c.is_empty.ensures ∙ c.if-is_empty.false) relative);
    }
