use Rattle.std.proofs.Common.{ap, map, rules}
use Rattle.ref_index.specs.inner.Found.{want_of}
use Rattle.ref_index.proofs.found.Found.new.Goals as goal

pub returns : goal.returns
returns c = record {
  empty = λ layer. record {
    by_uri = rw c.new-2.ensures.value tt;
    by_name = rw c.new-3.ensures.value tt;
    wanted = ap (map want_of) c.new-4.ensures.items;
    of_identifiers = rw c.new-5.ensures.value tt;
    of_references = rw c.new-6.ensures.value tt;
    known = λ uri. search rules;
  };
}
