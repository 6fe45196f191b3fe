use Rattle.std.proofs.Common.{◌≡◌, true, sym, subst, refl, ℕ, List, cond, Some, bytes_eq, is_some, append-nil, rules}
use Rattle.std.specs.HashMap.{get}
use Rattle.ref_findings.specs.inner.Wanted.{wanted_of}
use Rattle.ref_findings.proofs.Retrieving.{put_met, there_met}
use Rattle.ref_findings.proofs.gathering.Wants.meet.Goals as goal

pub returns-in_ok-insert : goal.returns-in_ok-insert
returns-in_ok-insert c =
    let before = get bytes_eq c.args.self.now.met in
    let after = get bytes_eq c.insert.new.self in
    let key : c.in_ok-clone.field-0 ≡ c.args.uri.now = search rules in
    record {
      grows = (
        λ uris are. put_met before after _ c.args.uri.now (subst (λ k. (q : List ℕ) → after q ≡ cond (bytes_eq k q) (Some _) (before q)) key c.in_ok-insert.ensures.updates.0) uris are,
        sym (append-nil (wanted_of c.args.self.now)),
        refl,
      );
      wanted = refl;
    }

pub returns-else-not-contains_key : goal.returns-else-not-contains_key
returns-else-not-contains_key c =
    let there : is_some (get bytes_eq c.args.self.now.met c.args.uri.now) ≡ true = search rules in
    record {
      grows = (
        λ uris are. there_met (get bytes_eq c.args.self.now.met) c.args.uri.now there uris are,
        sym (append-nil (wanted_of c.args.self.now)),
        refl,
      );
      wanted = refl;
    }
