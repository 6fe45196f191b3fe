use Rattle.std.proofs.Common.{rules, arith, ◌≡◌, ◌+◌, ◌-◌, true, false, Some, None, Ok, map, drop, option_map, refl, sym, ap, subst, ◌∙◌}
use Rattle.serde_json.specs.View.{view}
use Rattle.referencing.specs.Views.{walked_child}
use Rattle.referencing.specs.Children.{walked_children}
use Rattle.referencing.specs.Fault.{as_invalid_uri}
use Rattle.referencing.specs.Lookup.{in_subresource}
use Rattle.referencing.specs.Errors.{IsFaultOf}
use Rattle.referencing.specs.Resolving.{resolver_of, world_of, found_of, world_found}
use Rattle.uses.specs.declared.validator.Verdict.TheVariants.{Valid}
use Rattle.uses.specs.Validating.{referred_from, is_valid, is_of_type, part_for, after_reference, at_child, at_children, validated_within}
use Rattle.uses.proofs.Validating.{meant, goes_on, stops, ends, too_deep, of_other_type, of_its_type, no_reference, nowhere, there, not_asked, asked, not_entered, one_more, none_left, past_reference}
use Rattle.uses.proofs.validator.+validated.Goals as goal
use Rattle.uses.proofs.validator.+validated.Goals.{in-Some+in_ok-target_result+else-not-is_valid, in_default}

pub returns-then-depth-eq0 : goal.returns-then-depth-eq0
returns-then-depth-eq0 t c =
    record { gives = too_deep (world_of c.args.resolver.now) c.args.depth (resolver_of c.args.resolver.now) c.args.draft (view c.args.schema.now) (view c.args.instance.now) (omega (arith, c.if-depth-eq0.true)) }

pub returns-then-not-is_of_type : goal.returns-then-not-is_of_type
returns-then-not-is_of_type t c =
    let other : is_of_type (view c.args.schema.now) (view c.args.instance.now) ≡ false = search rules in
    record { gives = of_other_type (world_of c.args.resolver.now) c.args.depth (resolver_of c.args.resolver.now) c.args.draft (view c.args.schema.now) (view c.args.instance.now) (omega (arith, c.if-depth-eq0.false)) other }

pub returns-in_err-found : goal.returns-in_err-found
returns-in_err-found t c =
    let w = world_of c.args.resolver.now in
    let n = c.args.depth in
    let r = resolver_of c.args.resolver.now in
    let d = c.args.draft in
    let s = view c.args.schema.now in
    let i = view c.args.instance.now in
    let e = c.in_err-found.field-0.0 in
    let its : is_of_type s i ≡ true = search rules in
    let (meaning, is, says) = c.in_err-found.ensures.fault in
    let refused = nowhere (validated_within w (n - 1)) i (referred_from w r s) meaning e is says in
    let ended = ends (after_reference (validated_within w (n - 1)) i (referred_from w r s)) (at_children (validated_within w (n - 1)) r i (walked_children d s)) e refused in
    let fault : IsFaultOf (validated_within w n r d s i) e = subst (λ a. IsFaultOf a e) (sym (of_its_type w n r d s i (omega (arith, c.if-depth-eq0.false)) its)) ended in
    search rules

pub returns-in_err-target_result : goal.returns-in_err-target_result
returns-in_err-target_result t c =
    let w = world_of c.args.resolver.now in
    let n = c.args.depth in
    let r = resolver_of c.args.resolver.now in
    let d = c.args.draft in
    let s = view c.args.schema.now in
    let i = view c.args.instance.now in
    let e = c.in_err-target_result.field-0.0 in
    let found = c.in-Some.found in
    let to = c.into_inner-there.result in
    let its : is_of_type s i ≡ true = search rules in
    let led : referred_from w r s ≡ Some (Ok (found_of found)) = sym c.in_ok-found.ensures.ok ∙ ap (option_map (λ f. Ok (found_of f))) c.in-Some.is in
    let world : world_found found ≡ w = rw c.in-Some.is at c.in_ok-found.ensures.world in
    let at = there w (world_of to.1) (n - 1) i (referred_from w r s) (found_of found) (resolver_of to.1) to.2 (view to.0.now) led (c.into_inner-there.ensures.world ∙ world) c.into_inner-there.ensures.resolver c.into_inner-there.ensures.draft c.into_inner-there.ensures.value in
    let refused : IsFaultOf (after_reference (validated_within w (n - 1)) i (referred_from w r s)) e = subst (λ a. IsFaultOf a e) (sym at) c.in_err-target_result.ensures.gives in
    let ended = ends (after_reference (validated_within w (n - 1)) i (referred_from w r s)) (at_children (validated_within w (n - 1)) r i (walked_children d s)) e refused in
    let fault : IsFaultOf (validated_within w n r d s i) e = subst (λ a. IsFaultOf a e) (sym (of_its_type w n r d s i (omega (arith, c.if-depth-eq0.false)) its)) ended in
    search rules

pub returns-then-not-is_valid : goal.returns-then-not-is_valid
returns-then-not-is_valid t c =
    let w = world_of c.args.resolver.now in
    let n = c.args.depth in
    let r = resolver_of c.args.resolver.now in
    let d = c.args.draft in
    let s = view c.args.schema.now in
    let i = view c.args.instance.now in
    let found = c.in-Some.found in
    let to = c.into_inner-there.result in
    let its : is_of_type s i ≡ true = search rules in
    let other : is_valid c.in_ok-target_result.target_result ≡ false = search rules in
    let led : referred_from w r s ≡ Some (Ok (found_of found)) = sym c.in_ok-found.ensures.ok ∙ ap (option_map (λ f. Ok (found_of f))) c.in-Some.is in
    let world : world_found found ≡ w = rw c.in-Some.is at c.in_ok-found.ensures.world in
    let at = there w (world_of to.1) (n - 1) i (referred_from w r s) (found_of found) (resolver_of to.1) to.2 (view to.0.now) led (c.into_inner-there.ensures.world ∙ world) c.into_inner-there.ensures.resolver c.into_inner-there.ensures.draft c.into_inner-there.ensures.value in
    record {
      gives = of_its_type w n r d s i (omega (arith, c.if-depth-eq0.false)) its
          ∙ stops (after_reference (validated_within w (n - 1)) i (referred_from w r s)) (at_children (validated_within w (n - 1)) r i (walked_children d s)) c.in_ok-target_result.target_result (at ∙ c.in_ok-target_result.ensures.gives) other;
    }

pub loop-child-init : goal.loop-child-init
loop-child-init t c =
    let w = world_of c.args.resolver.now in
    let n = c.args.depth in
    let r = resolver_of c.args.resolver.now in
    let d = c.args.draft in
    let s = view c.args.schema.now in
    let i = view c.args.instance.now in
    let items = c.deref-child-items.result.now in
    let its : is_of_type s i ≡ true = search rules in
    let are : walked_children d s ≡ map walked_child items = search rules in
    elim c.match-branch-2.branch [
      | in-Some+in_ok-target_result+else-not-is_valid b ↦
          let found = b.in-Some.found in
          let to = b.into_inner-there.result in
          let valid : is_valid b.in_ok-target_result.target_result ≡ true = search rules in
          let led : referred_from w r s ≡ Some (Ok (found_of found)) = sym c.in_ok-found.ensures.ok ∙ ap (option_map (λ f. Ok (found_of f))) b.in-Some.is in
          let world : world_found found ≡ w = rw b.in-Some.is at c.in_ok-found.ensures.world in
          let at = there w (world_of to.1) (n - 1) i (referred_from w r s) (found_of found) (resolver_of to.1) to.2 (view to.0.now) led (b.into_inner-there.ensures.world ∙ world) b.into_inner-there.ensures.resolver b.into_inner-there.ensures.draft b.into_inner-there.ensures.value in
          past_reference w n r d s i b.in_ok-target_result.target_result items (omega (arith, c.if-depth-eq0.false)) its (at ∙ b.in_ok-target_result.ensures.gives) valid are
      | in_default b ↦
          let none : referred_from w r s ≡ None = search rules in
          past_reference w n r d s i Valid items (omega (arith, c.if-depth-eq0.false)) its (no_reference (validated_within w (n - 1)) i (referred_from w r s) none) refl are
    ]

pub loop-child-preserved-in_default-part_for : goal.loop-child-preserved-in_default-part_for
loop-child-preserved-in_default-part_for t c =
    let next = validated_within (world_of c.args.resolver.now) (c.args.depth - 1) in
    let r = resolver_of c.args.resolver.now in
    let i = view c.args.instance.now in
    let items = c.deref-child-items.result.now in
    let k = c.loop-child.child-index in
    let child = c.child-item.result in
    let none : part_for (walked_child child).path i ≡ None = search rules in
    c.loop-child.invariant
    ∙ one_more next r i items k child c.loop-child-test.true c.child-item.is
    ∙ goes_on (at_child next r i (walked_child child)) (at_children next r i (map walked_child (drop (k + 1) items))) Valid (not_asked next r i (walked_child child) none) refl

pub returns-in_err-inner : goal.returns-in_err-inner
returns-in_err-inner t c =
    let next = validated_within (world_of c.args.resolver.now) (c.args.depth - 1) in
    let r = resolver_of c.args.resolver.now in
    let i = view c.args.instance.now in
    let items = c.deref-child-items.result.now in
    let k = c.loop-child.child-index in
    let child = c.child-item.result in
    let part = view c.in-Some-part_for.part.now in
    let e = c.in_err-inner.field-0.0 in
    let is : part_for (walked_child child).path i ≡ Some part = search rules in
    let refused : IsFaultOf (as_invalid_uri (in_subresource r (walked_child child).draft (walked_child child).value)) e = search rules in
    let ended = ends (at_child next r i (walked_child child)) (at_children next r i (map walked_child (drop (k + 1) items))) e (not_entered next r i part (walked_child child) e is refused) in
    let fault = subst (λ a. IsFaultOf a e) (sym (c.loop-child.invariant ∙ one_more next r i items k child c.loop-child-test.true c.child-item.is)) ended in
    search rules

pub returns-in_err-below : goal.returns-in_err-below
returns-in_err-below t c =
    let next = validated_within (world_of c.args.resolver.now) (c.args.depth - 1) in
    let r = resolver_of c.args.resolver.now in
    let i = view c.args.instance.now in
    let child = walked_child c.child-item.result in
    let e = c.in_err-below.field-0.0 in
    let is : part_for child.path i ≡ Some (view c.in-Some-part_for.part.now) = search rules in
    let given : as_invalid_uri (in_subresource r child.draft child.value) ≡ Ok (resolver_of c.in_ok-inner.inner) = search rules in
    let at = asked _ _ (c.args.depth - 1) _ _ _ _ child is (meant _ _ given) c.in_ok-inner.ensures.world in
    let refused : IsFaultOf (at_child next r i child) e = subst (λ a. IsFaultOf a e) (sym at) c.in_err-below.ensures.gives in
    let fault = subst (λ a. IsFaultOf a e) (sym (c.loop-child.invariant ∙ one_more _ _ _ _ c.loop-child.child-index c.child-item.result c.loop-child-test.true c.child-item.is)) (ends _ (at_children next r i (map walked_child (drop (c.loop-child.child-index + 1) c.deref-child-items.result.now))) e refused) in
    search rules

pub returns-then-not-is_valid-2 : goal.returns-then-not-is_valid-2
returns-then-not-is_valid-2 t c =
    let child = walked_child c.child-item.result in
    let is : part_for child.path (view c.args.instance.now) ≡ Some (view c.in-Some-part_for.part.now) = search rules in
    let given : as_invalid_uri (in_subresource (resolver_of c.args.resolver.now) child.draft child.value) ≡ Ok (resolver_of c.in_ok-inner.inner) = search rules in
    let other : is_valid c.in_ok-below.below ≡ false = search rules in
    let at = asked _ _ (c.args.depth - 1) _ _ _ _ child is (meant _ _ given) c.in_ok-inner.ensures.world in
    record {
      gives = c.loop-child.invariant
          ∙ one_more _ _ _ _ c.loop-child.child-index c.child-item.result c.loop-child-test.true c.child-item.is
          ∙ stops _ _ c.in_ok-below.below (at ∙ c.in_ok-below.ensures.gives) other;
    }

pub loop-child-preserved : goal.loop-child-preserved
loop-child-preserved t c =
    let child = walked_child c.child-item.result in
    let valid : is_valid c.in_ok-below.below ≡ true = search rules in
    let is : part_for child.path (view c.args.instance.now) ≡ Some (view c.in-Some-part_for.part.now) = search rules in
    let given : as_invalid_uri (in_subresource (resolver_of c.args.resolver.now) child.draft child.value) ≡ Ok (resolver_of c.in_ok-inner.inner) = search rules in
    let at = asked _ _ (c.args.depth - 1) _ _ _ _ child is (meant _ _ given) c.in_ok-inner.ensures.world in
    c.loop-child.invariant
    ∙ one_more _ _ _ _ c.loop-child.child-index c.child-item.result c.loop-child-test.true c.child-item.is
    ∙ goes_on _ _ c.in_ok-below.below (at ∙ c.in_ok-below.ensures.gives) valid

pub returns : goal.returns
returns t c =
    let next = validated_within (world_of c.args.resolver.now) (c.args.depth - 1) in
    record { gives = c.loop-child.invariant ∙ none_left next (resolver_of c.args.resolver.now) (view c.args.instance.now) c.deref-child-items.result.now c.loop-child.child-index (omega arith) }
