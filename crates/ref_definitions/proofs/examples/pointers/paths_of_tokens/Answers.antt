use Rattle.std.proofs.Common.{codes, refl, ap, true≢false, bytes_eq}
use Rattle.ref_definitions.proofs.OnLiterals.{world_on_literals}
use Rattle.serde_json.specs.Data.{Data}
use Rattle.ref_paths.specs.Path.{Key}
use Rattle.ref_definitions.specs.Reading.{IsReadAsPart}
use Rattle.ref_definitions.proofs.examples.pointers.paths_of_tokens.Goals as goal

-- a key isn't what another key's token is read as
different : (value : Data) → IsReadAsPart value (codes "a") (Key (codes "b")) → ⊥
different value reads = true≢false (ap (bytes_eq (codes "a")) reads.1)

pub returns : goal.returns
unfolding world_on_literals
returns c = record {
  no_tokens = tt;
  escaped_key = ((refl, refl), (_, refl, tt));
  element_of_a_member = ((refl, refl), (_, refl, ((refl, refl), (_, refl, tt))));
  no_key_of_an_array = λ reads. let object = reads.0.0 in cc;
  no_index_of_an_object = λ reads. let array = reads.0.0 in cc;
  nothing_there = λ reads. let there = reads.1.1 in cc;
  the_first_of_equal_identifiers = ((refl, refl), (_, refl, ((refl, refl), (_, refl, tt))));
  not_the_second = λ reads. different reads.1.0 reads.1.2.0;
}
