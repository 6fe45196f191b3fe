use Rattle.std.proofs.Common.{refl}
use Rattle.std.specs.Fmt.{digits}
use Rattle.ref_error.proofs.laws.text_rows.Goals as goal

pub returns : goal.returns
unfolding digits
returns c = record {
  rows = record {
    not_fetched = refl;
    no_document = refl;
    not_supported = refl;
    text = λ t is. is;
    source_of_memory = λ e. refl;
    unretrievable = λ uri is. rw is refl;
    unretrievable_for_memory = λ uri e is. rw is refl;
    pointer = λ p is. rw is refl;
    encoding = λ p is. rw is refl;
    index = λ p i is at. rw (is, at) refl;
    no_anchor = λ a is. rw is refl;
    bad_anchor = λ a is. rw is refl;
    uri = λ u is. rw is refl;
    specification = λ u is. rw is refl;
    circle = λ u is. rw is refl;
    limit = λ u is. rw is refl;
    memory = λ e. refl;
  };
}
