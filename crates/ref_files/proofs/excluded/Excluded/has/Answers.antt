use Rattle.std.proofs.Common.{◌≡◌, ◌∙◌, ap, sym, subst, lit<, Bool, IfOk}
use Rattle.std.proofs.lemmas.Str.Pattern.{starts_char}
use Rattle.ref_patterns.specs.Patterns.{alternatives_of, any_matches}
use Rattle.ref_files.specs.Excluded.{is_below, leaves_out, matches_below}
use Rattle.ref_files.specs.Meant.{after}
use Rattle.ref_files.proofs.After.{after_none}
use Rattle.ref_files.proofs.Left.{after_cut, none_below, more_below}
use Rattle.ref_files.proofs.excluded.Excluded.has.Goals as goal

pub returns-then-is_empty : goal.returns-then-is_empty
returns-then-is_empty c =
    let path = c.args.path.now in
    let rest = c.in-Some.rest.now in
    let own = c.as_str.result.now in
    record {
      value = c.if-is_empty.true
          ∙ sym (ap (leaves_out path) c.in-Path.is ∙ ap (λ t. is_below (after t path)) (sym c.as_str.ensures.value) ∙ ap is_below (after_cut path own rest c.in-Some.ensures.cases) ∙ none_below rest (sym c.is_empty.ensures ∙ c.if-is_empty.true));
    }

pub returns-else-is_empty : goal.returns-else-is_empty
returns-else-is_empty c =
    let path = c.args.path.now in
    let rest = c.in-Some.rest.now in
    let own = c.as_str.result.now in
    record {
      value = more_below rest c.starts_with.result (sym c.is_empty.ensures ∙ c.if-is_empty.false) (starts_char 47 rest c.starts_with.result c.starts_with.ensures.cases (lit< tt) (lit< tt))
          ∙ sym (ap (leaves_out path) c.in-Path.is ∙ ap (λ t. is_below (after t path)) (sym c.as_str.ensures.value) ∙ ap is_below (after_cut path own rest c.in-Some.ensures.cases));
    }

pub returns-in-None : goal.returns-in-None
returns-in-None c =
    let path = c.args.path.now in
    let own = c.as_str.result.now in
    record {
      value = sym (ap (leaves_out path) c.in-Path.is ∙ ap (λ t. is_below (after t path)) (sym c.as_str.ensures.value) ∙ ap is_below (after_none own path c.in-None.ensures.cases));
    }

pub returns-in-Some-strip_prefix : goal.returns-in-Some-strip_prefix
returns-in-Some-strip_prefix c =
    let path = c.args.path.now in
    let rest = c.in-Some-strip_prefix.below.now in
    let own = c.as_str-in-Matched.result.now in
    let pattern = c.in-Matched.pattern in
    let is : any_matches (alternatives_of pattern) rest ≡ leaves_out path c.args.self.now.what =
    sym (ap (leaves_out path) c.in-Matched.is ∙ ap (λ t. matches_below pattern (after t path)) (sym c.as_str-in-Matched.ensures.value) ∙ ap (matches_below pattern) (after_cut path own rest c.in-Some-strip_prefix.ensures.cases)) in
    record { value = subst (λ (b : Bool). IfOk c.matches.result (λ found. found ≡ b)) is c.matches.ensures.value }

pub returns-in-None-strip_prefix : goal.returns-in-None-strip_prefix
returns-in-None-strip_prefix c =
    let path = c.args.path.now in
    let own = c.as_str-in-Matched.result.now in
    let pattern = c.in-Matched.pattern in
    record {
      value = sym (ap (leaves_out path) c.in-Matched.is ∙ ap (λ t. matches_below pattern (after t path)) (sym c.as_str-in-Matched.ensures.value) ∙ ap (matches_below pattern) (after_none own path c.in-None-strip_prefix.ensures.cases));
    }
