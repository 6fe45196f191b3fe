use Rattle.std.proofs.Common.{◌≡◌, Ok, true, false, lit<, slice_index, sym, ap, ◌∙◌, rules}
use Rattle.std.proofs.lemmas.Str.Pattern.{strip_prefix_char}
use Rattle.ref_uri.specs.Targets.{target}
use Rattle.ref_uri.proofs.Hashes.{is_hash, not_in_front, fragment_part-behind}
use Rattle.ref_resolver.specs.Resolving.{resolver_of}
use Rattle.ref_resolver.specs.inner.Names.{is_name}
use Rattle.ref_resolver.proofs.resolver.Resolver.lookup.Goals as goal

pub elsewhere-requires : goal.elsewhere-requires
elsewhere-requires c =
    let text = c.args.reference.now in
    let front : is_hash (slice_index text 0) ≡ false = not_in_front text (rw c.in_default.is at (strip_prefix_char 35 text c.strip_prefix.result c.strip_prefix.ensures.cases (lit< tt))) in
    record { front = front }

pub returns-then-is_name-clause-gives : goal.returns-then-is_name-clause-gives
returns-then-is_name-clause-gives c =
    let text = c.args.reference.now in
    let name : is_name c.in-Some.fragment.now ≡ true = sym c.is_name.ensures ∙ c.if-is_name.true in
    let is = rw c.in-Some.is at (strip_prefix_char 35 text c.strip_prefix.result c.strip_prefix.ensures.cases (lit< tt)) in
    c.at_name.ensures.gives text (ap (target (resolver_of c.args.self.now).base) is) (sym (fragment_part-behind text c.in-Some.fragment.now is)) name

pub returns-clause-gives : goal.returns-clause-gives
returns-clause-gives c =
    let text = c.args.reference.now in
    let is = rw c.in-Some.is at (strip_prefix_char 35 text c.strip_prefix.result c.strip_prefix.ensures.cases (lit< tt)) in
    c.at_place.ensures.gives text (ap (target (resolver_of c.args.self.now).base) is) (sym (fragment_part-behind text c.in-Some.fragment.now is))
