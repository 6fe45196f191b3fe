use Rattle.std.proofs.Common.{◌≡◌, ℕ, ◌∙◌, sym, ap, subst, Some, None, option_map, option_copied, rules}
use Rattle.std.specs.Prelude.{slice_get}
use Rattle.ref_definitions.specs.Anchors.{Named, names, last_named}
use Rattle.ref_index.specs.inner.Index.{IsIndexOf}
use Rattle.ref_index.proofs.Spots.{last_name_is}
use Rattle.ref_index.proofs.Looking.{none_is_some, name_found, name_absent, got, describes, is_there_at}
use Rattle.ref_index.proofs.index.Index.named.Goals as goal

pub returns-in_err-named : goal.returns-in_err-named
returns-in_err-named c =
    let is = subst (λ l. IsIndexOf l c.self.inside.entries.items c.self.inside.by_uri c.self.inside.by_name c.self.inside.by_pair c.self.inside.is_normal) c.self.view_is c.self.invariant in
    let none : last_named c.args.uri.now c.args.name.now (names c.args.self.now) ≡ None =
    name_absent c.args.self.now c.self.inside.entries.items c.args.uri.now c.args.name.now c.self.inside.by_name is.name (sym c.find.ensures.value ∙ ap option_copied c.in_err-named.was) in
    search rules

pub returns-in_err-entry : goal.returns-in_err-entry
returns-in_err-entry c =
    let is = subst (λ l. IsIndexOf l c.self.inside.entries.items c.self.inside.by_uri c.self.inside.by_name c.self.inside.by_pair c.self.inside.is_normal) c.self.view_is c.self.invariant in
    let named = c.in_ok-named.named.now in
    let (n, last, kind, at) = name_found c.args.self.now c.self.inside.entries.items c.args.uri.now c.args.name.now c.self.inside.by_name named is.name (sym c.find.ensures.value ∙ ap option_copied c.in_ok-named.was) in
    let there : None ≡ slice_get c.self.inside.entries.items named.entry = sym (ap option_copied c.in_err-entry.was) ∙ got c.deref.result.now named.entry c.get.result c.get.ensures.lookup ∙ ap (λ l. slice_get l named.entry) c.deref.ensures.value in
    absurd (none_is_some at.0 (there ∙ at.1))

pub returns : goal.returns
returns c =
    let layer = c.args.self.now in
    let entries = c.self.inside.entries.items in
    let is = subst (λ l. IsIndexOf l entries c.self.inside.by_uri c.self.inside.by_name c.self.inside.by_pair c.self.inside.is_normal) c.self.view_is c.self.invariant in
    let named = c.in_ok-named.named.now in
    let (n, last, kind, at) = name_found layer entries c.args.uri.now c.args.name.now c.self.inside.by_name named is.name (sym c.find.ensures.value ∙ ap option_copied c.in_ok-named.was) in
    let entry = c.in_ok-entry.entry.now in
    let there : Some entry ≡ slice_get entries named.entry = sym (ap option_copied c.in_ok-entry.was) ∙ got c.deref.result.now named.entry c.get.result c.get.ensures.lookup ∙ ap (λ l. slice_get l named.entry) c.deref.ensures.value in
    let described = describes layer entries n.0 named.entry n.1.place entry at (sym there) in
    record {
      value = (n.1, last_name_is c.args.uri.now c.args.name.now layer ∙ ap (option_map (λ (x : ℕ × Named). x.1)) last, kind, described.0);
      spot = ap (option_map (λ (x : ℕ × Named). record { document = x.0; path = x.1.place.path })) last ∙ is_there_at layer n.0 n.1.place entry described.0 described.1;
    }
