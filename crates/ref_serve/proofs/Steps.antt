-- Steps that are read, and followed one after another.
use Rattle.std.proofs.Common.{◌≡◌, ℕ, suc, ◌+◌, ◌<◌, ◌≤◌, add-one, true, List, [], ◌∷◌, ◌++◌, map, drop, length, get_or, Option, Some, None, option_map, IfSome, Result, Ok, Err, IfOk, IfErr, refl, sym, ap, ◌∙◌, subst}
use Rattle.std.specs.Prelude.{option_and_then}
use Rattle.std.specs.Result.{result_ok}
use Rattle.std.proofs.lemmas.List.{map-append, drop_all, drop_more}
use Rattle.std.specs.declared.alloc.AllocError.{AllocError}
use Rattle.serde_json.specs.Data.{Data}
use Rattle.serde_json.specs.View.{view, items_view}
use Rattle.serde_json.specs.declared.value.Value.{Value}
use Rattle.ref_draft.specs.declared.draft.Draft.{Draft}
use Rattle.ref_definitions.specs.Results.{◌>>=◌}
use Rattle.ref_definitions.specs.World.{World}
use Rattle.ref_definitions.specs.Fault.{Fault, as_invalid_uri}
use Rattle.ref_definitions.specs.Lookup.{Resolver, Found as WorldFound, in_subresource}
use Rattle.ref_definitions.specs.Follow as world
use Rattle.ref_error.specs.declared.error.Error.{Error}
use Rattle.ref_error.specs.declared.error.Error.TheVariants as error
use Rattle.ref_error.specs.Errors.{IsFaultOf, SaysFault, is_memory, Gives as GivesMeaning}
use Rattle.ref_index.specs.Spots.{Spot}
use Rattle.ref_resolver.specs.Locations.{IsValueAt, location_view}
use Rattle.ref_resolver.proofs.Faults.{fault_ends}
use Rattle.referencing.specs.declared.steps.Step.{Step}
use Rattle.referencing.specs.Following.{step_of, SaysStepFault}
use Rattle.ref_json.specs.declared.stop.Stop.{Stop}
use Rattle.ref_json.specs.declared.stop.Stop.TheVariants.{Memory, Because}
use Rattle.ref_calls.specs.Objects.{object_of}
use Rattle.ref_calls.specs.Calls.{each_item}
use Rattle.ref_calls.proofs.Further.{in_front, in_front_push, first_read}
use Rattle.ref_serve.specs.declared.place.Found.{Found}
use Rattle.ref_serve.specs.declared.following.Followed.{Followed}
use Rattle.ref_serve.specs.Results.{Asked, found_members, resolver_members}
use Rattle.ref_calls.specs.Outcome.{Gives}
use Rattle.ref_serve.specs.Following.{step_in, step_members, step_place, place_after, IsFollowed, IsFollowedTo}
use Rattle.ref_serve.specs.inner.Seen.{IsFoundBy}
use Rattle.ref_serve.specs.inner.Steps.{followed_view, IsLookedUpTo, IsStepError}

-- ---- what is read

-- one step more is read
pub steps_next : (draft : Draft) (n : ℕ) (done : List Step) (s : Step) (item : Value) (rest : List Value) → step_in draft n (view item) ≡ Ok (step_of s)
    → in_front (map step_of (done ++ s ∷ [])) (each_item (step_in draft) (n + 1) (items_view rest)) ≡ in_front (map step_of done) (each_item (step_in draft) n (items_view (item ∷ rest)))
steps_next draft n done s item rest read =
    let f = step_in draft in
    let left = each_item f (suc n) (items_view rest) in
    ap (λ k. in_front (map step_of (done ++ s ∷ [])) (each_item f k (items_view rest))) (add-one n)
    ∙ ap (λ xs. in_front xs left) (map-append step_of done (s ∷ [])) ∙ in_front_push (map step_of done) (step_of s) left
    ∙ ap (in_front (map step_of done)) (sym (first_read (step_of s) left) ∙ ap (λ r. r >>= λ x. left >>= λ xs. Ok (x ∷ xs)) (sym read))

-- ---- one step

-- what is looked up is where the step leads
pub looked_up_to : (answer : Result WorldFound Fault) (f : world.Followed) → IsLookedUpTo answer f → (answer >>= λ found. Ok (world.after_lookup found)) ≡ Ok f
looked_up_to answer f (found, is, same) = ap (λ a. a >>= λ x. Ok (world.after_lookup x)) is ∙ ap Ok (sym same)

pub look_up_stops : {X : Type 0} (result : Result X Error) (answer : Result WorldFound Fault) → IfErr result (IsFaultOf answer) → IfErr result (IsFaultOf (answer >>= λ found. Ok (world.after_lookup found)))
look_up_stops (Ok x) answer is = tt
look_up_stops (Err e) answer is = fault_ends answer (λ found. Ok (world.after_lookup found)) e is

-- both
pub gives_looked_up : (result : Result Followed Error) (answer : Result WorldFound Fault) → IfOk result (λ f. IsLookedUpTo answer (followed_view f)) → IfErr result (IsFaultOf answer)
    → GivesMeaning followed_view (answer >>= λ found. Ok (world.after_lookup found)) result
gives_looked_up (Ok f) answer ok fault = looked_up_to answer (followed_view f) ok
gives_looked_up (Err e) answer ok fault = fault_ends answer (λ found. Ok (world.after_lookup found)) e fault

pub entered : (w : World) (f : world.Followed) (draft : Draft) (value : Data) (r : Resolver) → as_invalid_uri (in_subresource f.resolver draft value) ≡ Ok r → world.after_step w f (world.Enter draft value) ≡ Ok (record { last = f.last; resolver = r })
entered w f draft value r at = rw at refl

-- ---- the place of what was found last

-- after one step more
pub place_next : (w : World) (n : ℕ) (at : Option (ℕ × Spot)) (f g : world.Followed) (steps : List Step) (s : Step) → n < length steps → s ≡ get_or steps n s → world.after_step w f (step_of s) ≡ Ok g
    → place_after w at f (map step_of (drop n steps)) ≡ place_after w (step_place w f.resolver at (step_of s)) g (map step_of (drop (n + 1) steps))
place_next w n at f g steps s within here is =
    ap (λ xs. place_after w at f (map step_of xs)) (drop_more steps n s within ∙ ap (λ x. x ∷ drop (n + 1) steps) (sym here))
    ∙ ap (λ a. option_and_then (λ h. place_after w (step_place w f.resolver at (step_of s)) h (map step_of (drop (n + 1) steps))) (result_ok a)) is

-- without a step more
pub place_end : (w : World) (n : ℕ) (at : Option (ℕ × Spot)) (f : world.Followed) (steps : List Step) → length steps ≤ n → place_after w at f (map step_of (drop n steps)) ≡ at
place_end w n at f steps all = ap (λ xs. place_after w at f (map step_of xs)) (drop_all n steps all)

-- ---- the error of a step

pub step_error_is : (whole : Result world.Followed (ℕ × Fault)) (n : ℕ) (e : Error) (value : Value) → SaysStepFault whole n e → (is_memory e ≡ true → ⊥)
    → ((fault : Fault) → SaysFault e fault → view value ≡ object_of (step_members n fault)) → IsStepError whole (Because value)
step_error_is whole n (error.Unretrievable uri source) value (fault, is, says) never gives = (n, fault, is, gives fault says)
step_error_is whole n (error.PointerToNowhere pointer) value (fault, is, says) never gives = (n, fault, is, gives fault says)
step_error_is whole n (error.InvalidPercentEncoding pointer) value (fault, is, says) never gives = (n, fault, is, gives fault says)
step_error_is whole n (error.InvalidArrayIndex pointer index) value (fault, is, says) never gives = (n, fault, is, gives fault says)
step_error_is whole n (error.NoSuchAnchor anchor) value (fault, is, says) never gives = (n, fault, is, gives fault says)
step_error_is whole n (error.InvalidAnchor anchor) value (fault, is, says) never gives = (n, fault, is, gives fault says)
step_error_is whole n (error.InvalidUri uri) value (fault, is, says) never gives = (n, fault, is, gives fault says)
step_error_is whole n (error.UnknownSpecification specification) value (fault, is, says) never gives = (n, fault, is, gives fault says)
step_error_is whole n (error.CircularMetaschema uri) value (fault, is, says) never gives = (n, fault, is, gives fault says)
step_error_is whole n (error.RetrievalLimit uri limit) value (fault, is, says) never gives = (n, fault, is, gives fault says)
step_error_is whole n (error.Memory memory) value said never gives = absurd (never refl)

-- ---- the whole

pub found_to : (w : World) (at : Option (ℕ × Spot)) (answer : Result WorldFound Fault) (x : Found) (r : Resolver) (f : world.Followed) → IsFoundBy w at answer x r
    → f ≡ record { last = Some (view x.value.now, x.draft); resolver = r } → IsLookedUpTo answer f
found_to w at answer x r f (is, is_at_path, there) same = (record { value = view x.value.now; draft = x.draft; resolver = r }, is, same)

pub result_stopped : (asked : Asked) (at : Option (ℕ × Spot)) (answer : Result world.Followed (ℕ × Fault)) (stop : Stop Value) → IsStepError answer stop → Gives (IsFollowed asked at answer) (Err stop)
result_stopped asked at answer Memory is = tt
result_stopped asked at answer (Because value) (n, fault, is, says) = subst (λ a. IsFollowed asked at a (Err (view value))) (sym is) says

pub result_found : (asked : Asked) (at here : Option (ℕ × Spot)) (answer : Result world.Followed (ℕ × Fault)) (f : world.Followed) (d : Data) → at ≡ here → answer ≡ Ok f → IsFollowedTo asked here f.last f.resolver d
    → IsFollowed asked at answer (Ok d)
result_found asked at here answer f d there is given = subst (λ p. IsFollowed asked p answer (Ok d)) (sym there) (subst (λ a. IsFollowed asked here a (Ok d)) (sym is) given)

pub object_at : (asked : Asked) (last : Option Found) (x : Found) (r : Resolver) (result : Result Value AllocError) → last ≡ Some x → IfSome last (λ y. IsValueAt asked.world y.location (view y.value.now))
    → IfOk result (λ d. view d ≡ object_of (found_members asked x.location (view x.value.now) x.draft ++ resolver_members asked.kept r))
    → IfOk result (λ d. IsFollowedTo asked (option_map (λ y. location_view y.location) last) (option_map (λ y. (view y.value.now, y.draft)) last) r (view d))
object_at asked last x r (Ok d) is placed given =
    subst (λ o. IsFollowedTo asked (option_map (λ y. location_view y.location) o) (option_map (λ y. (view y.value.now, y.draft)) o) r (view d)) (sym is)
    (x.location, refl, subst (λ o. IfSome o (λ y. IsValueAt asked.world y.location (view y.value.now))) is placed, given)
object_at asked last x r (Err e) is placed given = tt

pub object_without : (asked : Asked) (last : Option Found) (r : Resolver) (result : Result Value AllocError) → last ≡ None → IfOk result (λ d. view d ≡ object_of (resolver_members asked.kept r))
    → IfOk result (λ d. IsFollowedTo asked (option_map (λ y. location_view y.location) last) (option_map (λ y. (view y.value.now, y.draft)) last) r (view d))
object_without asked last r (Ok d) is given = subst (λ o. IsFollowedTo asked (option_map (λ y. location_view y.location) o) (option_map (λ y. (view y.value.now, y.draft)) o) r (view d)) (sym is) given
object_without asked last r (Err e) is given = tt
