use Rattle.std.proofs.Common.{◌≡◌, lit<, false, slice_index, rules}
use Rattle.std.proofs.lemmas.Str.Pattern.{strip_prefix_char}
use Rattle.ref_uri.proofs.Hashes.{is_hash, not_in_front, target-against}
use Rattle.ref_resolver.proofs.resolver.Resolver.target.Goals as goal

pub returns-in_err-uri-clause-gives : goal.returns-in_err-uri-clause-gives
returns-in_err-uri-clause-gives c =
    let text = c.args.reference.now in
    let base = c.args.self.now.base.value in
    let front : is_hash (slice_index text 0) ≡ false = not_in_front text (rw c.in_default.is at (strip_prefix_char 35 text c.strip_prefix.result c.strip_prefix.ensures.cases (lit< tt))) in
    let same = target-against base text front in
    let fault = rw c.parts.ensures.uri at c.in_err-uri.ensures.gives in
    search rules

pub returns-clause-gives : goal.returns-clause-gives
returns-clause-gives c =
    let text = c.args.reference.now in
    let base = c.args.self.now.base.value in
    let front : is_hash (slice_index text 0) ≡ false = not_in_front text (rw c.in_default.is at (strip_prefix_char 35 text c.strip_prefix.result c.strip_prefix.ensures.cases (lit< tt))) in
    let same = target-against base text front in
    let there = rw c.parts.ensures.uri at c.in_ok-uri.ensures.gives in
    search rules
