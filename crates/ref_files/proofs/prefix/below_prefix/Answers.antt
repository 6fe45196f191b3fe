use Rattle.std.proofs.Common.{◌≡◌, ◌++◌, ap, sym, ◌∙◌, option_map, Some, None, if◌then◌else◌, Bool, true, false, List, ℕ, drop, arith}
use Rattle.std.specs.List.{list_any}
use Rattle.std.proofs.lemmas.Str.Pattern.{strip_prefix_char}
use Rattle.ref_files.specs.Meant.{without_slashes, ends_path}
use Rattle.ref_files.proofs.After.{no_prefix, no_slash, has_path}
use Rattle.ref_files.proofs.prefix.below_prefix.Goals as goal

cut_is : (front uri rest : List ℕ) (n : ℕ) → uri ≡ front ++ drop n uri → rest ≡ drop n uri → (prefix : List ℕ) → front ≡ without_slashes prefix → uri ≡ without_slashes prefix ++ rest
cut_is front uri rest n cut is prefix same = cut ∙ ap (λ r. front ++ r) (sym is) ∙ ap (λ f. f ++ rest) same

alone_is : (path : List ℕ) (b : Bool) → b ≡ list_any ends_path path → (if b then None else Some path) ≡ (if list_any ends_path path then None else Some path)
alone_is path b is = ap (λ (t : Bool). if t then None else Some path) is

pub returns-in_err-rest : goal.returns-in_err-rest
returns-in_err-rest c =
    let other = rw c.without_slashes.ensures.value at c.in_err-rest.ensures.cases in
    record { value = ap (option_map (λ path. path.now)) c.from_residual.ensures ∙ sym (no_prefix c.args.prefix.now c.args.uri.now other) }

pub returns-in_err-path : goal.returns-in_err-path
returns-in_err-path c =
    let cut = c.in_ok-rest.ensures.cases in
    let rest = c.in_ok-rest.rest.now in
    let other = rw c.in_err-path.was at (strip_prefix_char 47 rest c.strip_prefix-2.result c.strip_prefix-2.ensures.cases (omega arith)) in
    record {
      value = ap (option_map (λ path. path.now)) c.from_residual-in_err-path.ensures
          ∙ sym (no_slash c.args.prefix.now c.args.uri.now rest (cut_is _ _ rest cut.0 cut.1.1 cut.2 c.args.prefix.now c.without_slashes.ensures.value) other);
    }

pub returns-then-has_query_or_fragment : goal.returns-then-has_query_or_fragment
returns-then-has_query_or_fragment c =
    let cut = c.in_ok-rest.ensures.cases in
    let rest = c.in_ok-rest.rest.now in
    let path = c.in_ok-path.path.now in
    let slash = rw c.in_ok-path.was at (strip_prefix_char 47 rest c.strip_prefix-2.result c.strip_prefix-2.ensures.cases (omega arith)) in
    let is = has_path c.args.prefix.now c.args.uri.now rest path (cut_is _ _ rest cut.0 cut.1.1 cut.2 c.args.prefix.now c.without_slashes.ensures.value) slash in
    record { value = alone_is path true (sym c.if-has_query_or_fragment.true ∙ c.has_query_or_fragment.ensures.value ∙ ap (list_any ends_path) c.as_bytes.ensures.value) ∙ sym is }

pub returns : goal.returns
returns c =
    let cut = c.in_ok-rest.ensures.cases in
    let rest = c.in_ok-rest.rest.now in
    let path = c.in_ok-path.path.now in
    let slash = rw c.in_ok-path.was at (strip_prefix_char 47 rest c.strip_prefix-2.result c.strip_prefix-2.ensures.cases (omega arith)) in
    let is = has_path c.args.prefix.now c.args.uri.now rest path (cut_is _ _ rest cut.0 cut.1.1 cut.2 c.args.prefix.now c.without_slashes.ensures.value) slash in
    record { value = alone_is path false (sym c.if-has_query_or_fragment.false ∙ c.has_query_or_fragment.ensures.value ∙ ap (list_any ends_path) c.as_bytes.ensures.value) ∙ sym is }
