use Rattle.std.proofs.Common.{◌≡◌, ℕ, List, [], ◌∷◌, map, length, string_bytes, ap, sym, ◌∙◌, subst, rules, true, false, None, Some, Option, option_map, option_copied, bytes_eq, ◌++◌}
use Rattle.std.specs.Borrow.{Bor}
use Rattle.std.specs.Prelude.{Vec}
use Rattle.std.specs.declared.alloc.Global.{Global}
use Rattle.std.specs.BTreeMap.{get_by_text}
use Rattle.std.specs.List.{list_any}
use Rattle.std.proofs.lemmas.List.{map-append}
use Rattle.serde_json.specs.Find.{get, get_member}
use Rattle.serde_json.specs.declared.value.Value.{Value}
use Rattle.serde_json.specs.View.{view, members_view}
use Rattle.ref_edits.specs.Changed as spec
use Rattle.ref_edits.proofs.Changing.{object_is, count_entries, kept_key, new_key}
use Rattle.ref_edits.proofs.trees.are_members.Goals as goal
use Rattle.ref_edits.proofs.trees.are_members.Goals.{in-Some-get+else-is_some+else-has_text+in_ok-push-in-Some-get, in-None-get}

pub loop-key-init : goal.loop-key-init
loop-key-init c =
    let ms = members_view c.in-Some-Some.members.now.entries in
    let ns = members_view c.in-Some-Some.now.now.entries in
    let before : view c.args.before.now ≡ _ = object_is (view c.args.before.now) ms c.in-Some-Some.ensures in
    let after : view c.args.after.now ≡ _ = object_is (view c.args.after.now) ns c.in-Some-Some.ensures' in
    let as_many : c.len.result ≡ c.len-2.result = search rules in
    let counts : spec.count ns ≡ spec.count ms =
    count_entries c.in-Some-Some.now.now.entries ∙ sym c.len-2.ensures.len ∙ sym as_many ∙ c.len.ensures.len ∙ sym (count_entries c.in-Some-Some.members.now.entries) in
    let left : c.into_iter-key-iterator.result ≡ c.in-Some-Some.members.now.entries = search rules in (
      ms,
      ns,
      before,
      after,
      counts,
      λ all below. (
        all,
        subst (λ keys. spec.AreBelow (spec.wanted_of c.args.wanted.now) c.args.pointer.now ms ns keys ms) (ap (map (λ (t : Bor (List ℕ)). t.now)) c.new-new_keys.ensures.items)
            (subst (λ es. spec.AreBelow (spec.wanted_of c.args.wanted.now) c.args.pointer.now ms ns (map (λ (t : Bor (List ℕ)). t.now) c.new-new_keys.result.items) (members_view es)) left below),
      ),
    )

pub loop-key-preserved : goal.loop-key-preserved
loop-key-preserved c =
    let w = spec.wanted_of c.args.wanted.now in
    let p = c.args.pointer.now in
    let (ms, ns, before, after, counts, above) = c.loop-key.invariant in
    let k = string_bytes c.in-Some.key.now in
    let keys = map (λ (t : Bor (List ℕ)). t.now) c.loop-key.new_keys.items in
    let rest = members_view c.next.new.self in
    let found = view c.in-Some-found.found.now in
    let q = spec.below_key p k in
    let text : c.as_str.result.now ≡ k = search rules in
    let pointer : string_bytes c.in_ok-below.below ≡ q = c.in_ok-below.ensures ∙ ap (spec.below_key p) text in
    let keyed = λ (x : List ℕ). option_map string_bytes (get_by_text c.args.wanted.now.keys x) in
    let asked : c.as_str-in-loop-key.result.now ≡ q = c.as_str-in-loop-key.ensures.value ∙ pointer in
    let looked : option_map string_bytes (option_copied c.get.result) ≡ w.key q = ap (option_map string_bytes) c.get.ensures.value ∙ ap keyed asked in
    let viewed = λ (o : Option (Bor Value)). option_map (λ v. view v.now) o in (
      ms,
      ns,
      before,
      after,
      counts,
      λ all below.
          let both = c.in_ok-push.ensures w all in
          let is_after : spec.IsAfter w q (view c.in-Some.member.now) found = subst (λ q. spec.IsAfter w q (view c.in-Some.member.now) found) pointer both.1 in
          let at : spec.IsAt ms ns keys k (w.key q) found × spec.AreBelow w p ms ns (spec.keys_with keys (w.key q)) rest = elim c.match-get.branch [
            | in-Some-get+else-is_some+else-has_text+in_ok-push-in-Some-get b ↦
                let key = string_bytes b.in-Some-get.new.now in
                let some : w.key q ≡ Some key = sym looked ∙ ap (λ g. option_map string_bytes (option_copied g)) b.in-Some-get.is in
                let text-1 : b.as_str-in-Some-get.result.now ≡ key = search rules in
                let text-2 : b.as_str-else-is_some.result.now ≡ key = search rules in
                let text-3 : b.as_str-in-Some-get-2.result.now ≡ key = search rules in
                let text-4 : b.as_str-in-Some-get-3.result.now ≡ key = search rules in
                let none : b.get-in-Some-get.result ≡ None = search rules in
                let no : b.has_text.result ≡ false = search rules in
                let listed : b.as_slice.result.now ≡ c.loop-key.new_keys.items = search rules in
                let absent : get_member key ms ≡ None = sym (ap (get key) before) ∙ ap (λ x. get x (view c.args.before.now)) (sym text-1) ∙ sym b.get-in-Some-get.ensures ∙ ap viewed none in
                let fresh : list_any (λ k. bytes_eq k key) keys ≡ false =
                ap (λ x. list_any (λ k. bytes_eq k x) keys) (sym text-2)
                ∙ ap (λ (l : List (Bor (List ℕ))). list_any (λ k. bytes_eq k b.as_str-else-is_some.result.now) (map (λ (t : Bor (List ℕ)). t.now) l)) (sym listed)
                ∙ sym b.has_text.ensures ∙ no in
                let free : spec.IsFree ms keys key = (absent, fresh) in
                let is_found : get_member key ns ≡ Some found =
                sym (ap (get key) after) ∙ ap (λ x. get x (view c.args.after.now)) (sym text-4) ∙ sym b.get-found.ensures ∙ ap viewed (sym b.found-is ∙ c.in-Some-found.is) in
                let new_keys : map (λ (t : Bor (List ℕ)). t.now) c.match-get.new_keys.items ≡ keys ++ key ∷ [] =
                ap (λ (v : Vec (Bor (List ℕ)) Global). map (λ (t : Bor (List ℕ)). t.now) v.items) b.new_keys-is
                ∙ ap (map (λ (t : Bor (List ℕ)). t.now)) b.in_ok-push-in-Some-get.ensures.items
                ∙ map-append (λ (t : Bor (List ℕ)). t.now) c.loop-key.new_keys.items _
                ∙ ap (λ (x : List ℕ). keys ++ x ∷ []) text-3 in
                new_key w p ms ns keys k (w.key q) found rest key some free is_found (subst (λ l. spec.AreBelow w p ms ns l rest) new_keys below)
            | in-None-get b ↦
                let none : w.key q ≡ None = sym looked ∙ ap (λ g. option_map string_bytes (option_copied g)) b.in-None-get.is in
                let text-1 : b.as_str-in-None-get.result.now ≡ k = search rules in
                let is_found : get_member k ns ≡ Some found =
                sym (ap (get k) after) ∙ ap (λ x. get x (view c.args.after.now)) (sym text-1) ∙ sym b.get-found-in-None-get.ensures ∙ ap viewed (sym b.found-is ∙ c.in-Some-found.is) in
                kept_key w p ms ns keys k (w.key q) found rest none is_found
                (subst (λ (v : Vec (Bor (List ℕ)) Global). spec.AreBelow w p ms ns (map (λ (t : Bor (List ℕ)). t.now) v.items) rest) b.new_keys-is below)
          ] in
          above both.0 (subst (λ es. spec.AreBelow w p ms ns keys (members_view es)) (sym c.in-Some.ensures.steps) (found, at.0, is_after, at.1)),
    )
