use Rattle.std.proofs.Common.{◌++◌, drop, get_or, length, string_bytes, ap, sym, ◌∙◌, arith, rules}
use Rattle.std.proofs.lemmas.Str.Pattern.{split_parts}
use Rattle.ref_uri.specs.Normal.{normal_encoded, normal_triple}
use Rattle.ref_uri.specs.inner.Written.{in_case}
use Rattle.ref_uri.proofs.NormalLemmas.{after_percent, normal_turn, normal_plain}
use Rattle.ref_uri.proofs.written.push_encoded.Goals as goal

pub bounds-digits-0 : goal.bounds-digits-0
bounds-digits-0 c =
    let cut = rw c.in-Some.is at (split_parts 37 c.runs.rest.now c.split_once.result c.split_once.ensures.cases (omega arith)) in
    let behind = after_percent c.runs.rest.now c.in-Some.run'.now c.in-Some.triple.now cut.0 c.runs.invariant.1 c.runs.invariant.2 in
    let enough = behind.digits.enough in
    omega (arith, ap length c.as_bytes-digits.ensures.value)

pub bounds-digits-1 : goal.bounds-digits-1
bounds-digits-1 c =
    let cut = rw c.in-Some.is at (split_parts 37 c.runs.rest.now c.split_once.result c.split_once.ensures.cases (omega arith)) in
    let behind = after_percent c.runs.rest.now c.in-Some.run'.now c.in-Some.triple.now cut.0 c.runs.invariant.1 c.runs.invariant.2 in
    let enough = behind.digits.enough in
    omega (arith, ap length c.as_bytes-digits.ensures.value)

pub push_triple-requires-clause-high : goal.push_triple-requires-clause-high
push_triple-requires-clause-high c =
    let cut = rw c.in-Some.is at (split_parts 37 c.runs.rest.now c.split_once.result c.split_once.ensures.cases (omega arith)) in
    let behind = after_percent c.runs.rest.now c.in-Some.run'.now c.in-Some.triple.now cut.0 c.runs.invariant.1 c.runs.invariant.2 in
    rw c.as_bytes-digits.ensures.value behind.digits.high

pub push_triple-requires-clause-low : goal.push_triple-requires-clause-low
push_triple-requires-clause-low c =
    let cut = rw c.in-Some.is at (split_parts 37 c.runs.rest.now c.split_once.result c.split_once.ensures.cases (omega arith)) in
    let behind = after_percent c.runs.rest.now c.in-Some.run'.now c.in-Some.triple.now cut.0 c.runs.invariant.1 c.runs.invariant.2 in
    rw c.as_bytes-digits.ensures.value behind.digits.low

pub tail-rest-requires-clause-ascii : goal.tail-rest-requires-clause-ascii
tail-rest-requires-clause-ascii c =
    let cut = rw c.in-Some.is at (split_parts 37 c.runs.rest.now c.split_once.result c.split_once.ensures.cases (omega arith)) in
    let behind = after_percent c.runs.rest.now c.in-Some.run'.now c.in-Some.triple.now cut.0 c.runs.invariant.1 c.runs.invariant.2 in
    behind.ascii

pub tail-rest-requires-clause-within : goal.tail-rest-requires-clause-within
tail-rest-requires-clause-within c =
    let cut = rw c.in-Some.is at (split_parts 37 c.runs.rest.now c.split_once.result c.split_once.ensures.cases (omega arith)) in
    let behind = after_percent c.runs.rest.now c.in-Some.run'.now c.in-Some.triple.now cut.0 c.runs.invariant.1 c.runs.invariant.2 in
    behind.digits.enough

pub runs-preserved : goal.runs-preserved
runs-preserved c =
    let cut = rw c.in-Some.is at (split_parts 37 c.runs.rest.now c.split_once.result c.split_once.ensures.cases (omega arith)) in
    let triple = c.in-Some.triple.now in
    let behind = after_percent c.runs.rest.now c.in-Some.run'.now triple cut.0 c.runs.invariant.1 c.runs.invariant.2 in
    let fold = in_case c.args.case in
    let turn = normal_turn fold (string_bytes c.runs.buffer) c.runs.rest.now c.in-Some.run'.now triple cut.0 cut.1 behind.digits in
    let digits = ap (λ d. string_bytes c.push_run.new.buffer ++ normal_triple fold (get_or d 0 0) (get_or d 1 0)) c.as_bytes-digits.ensures.value in
    let run = ap (λ b. b ++ normal_triple fold (get_or triple 0 0) (get_or triple 1 0)) c.in_ok-push_run.ensures in
    let left = ap (λ t. string_bytes c.push_triple.new.buffer ++ normal_encoded fold t) c.tail-rest.ensures.value in (
      left ∙ ap (λ b. b ++ normal_encoded fold (drop 2 triple)) (c.in_ok-push_triple.ensures ∙ digits ∙ run) ∙ turn ∙ c.runs.invariant.0,
      c.tail-rest.ensures.ascii,
      rw c.tail-rest.ensures.value behind.whole,
      c.tail-rest.utf8,
    )

pub returns : goal.returns
returns c =
    let none = rw c.in_default.is at (split_parts 37 c.runs.rest.now c.split_once.result c.split_once.ensures.cases (omega arith)) in
    let plain = ap (λ t. string_bytes c.runs.buffer ++ t) (sym (normal_plain (in_case c.args.case) c.runs.rest.now none)) ∙ c.runs.invariant.0 in
    rw (← plain) (search rules)
