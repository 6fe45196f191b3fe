-- Steps that are followed one by one.
use Rattle.std.proofs.Common.{◌≡◌, ℕ, zero, suc, arith, ◌+◌, ◌<◌, ◌≤◌, List, [], ◌∷◌, ◌++◌, length, map, take, drop, get_or, None, Result, Ok, Err, refl, sym, ap, ◌∙◌, add-one}
use Rattle.std.proofs.Math.Seq.{drop-cons}
use Rattle.ref_definitions.specs.Results.{◌>>=◌}
use Rattle.ref_definitions.specs.World.{World}
use Rattle.ref_definitions.specs.Fault.{Fault}
use Rattle.ref_definitions.specs.Lookup.{Resolver}
use Rattle.ref_definitions.specs.Follow as world
use Rattle.ref_definitions.specs.Follow.{Followed, after_step, numbered_fault, followed_from, followed_steps}
use Rattle.ref_error.specs.declared.error.Error.{Error}
use Rattle.ref_error.specs.declared.error.Error.TheVariants as error
use Rattle.ref_error.specs.Errors.{IsFaultOf}
use Rattle.referencing.specs.declared.steps.Step.{Step}
use Rattle.referencing.specs.Following.{step_of, SaysStepFault, ReachesStep}

-- what is left of a list of which an item was read
drop_read : {X : Type 0} (xs : List X) (i : ℕ) (x : X) → i < length xs → x ≡ get_or xs i x → drop i xs ≡ x ∷ drop (i + 1) xs
drop_read xs i x h e =
    let cut : drop i xs ≡ get_or xs i x ∷ drop (i + 1) xs = rw (add-one, drop-cons xs i x) in
    cut ∙ ap (λ y. y ∷ drop (i + 1) xs) (sym e)

one_step : (w : World) (n : ℕ) (f : Followed) (steps : List Step) (s : Step) → n < length steps → s ≡ get_or steps n s
    → followed_from w n f (map step_of (drop n steps)) ≡ (numbered_fault n (after_step w f (step_of s)) >>= λ g. followed_from w (n + 1) g (map step_of (drop (n + 1) steps)))
one_step w n f steps s h e = ap (λ xs. followed_from w n f (map step_of xs)) (drop_read steps n s h e)

-- a step that is followed
pub followed_next : (w : World) (n : ℕ) (f g : Followed) (steps : List Step) (s : Step) → n < length steps → s ≡ get_or steps n s → after_step w f (step_of s) ≡ Ok g
    → followed_from w n f (map step_of (drop n steps)) ≡ followed_from w (n + 1) g (map step_of (drop (n + 1) steps))
followed_next w n f g steps s h e is =
    one_step w n f steps s h e ∙ ap (λ r. numbered_fault n r >>= λ g. followed_from w (n + 1) g (map step_of (drop (n + 1) steps))) is

stops_at : (w : World) (n : ℕ) (f : Followed) (steps : List Step) (s : Step) (fault : Fault) → n < length steps → s ≡ get_or steps n s → after_step w f (step_of s) ≡ Err fault
    → followed_from w n f (map step_of (drop n steps)) ≡ Err (n, fault)
stops_at w n f steps s fault h e is =
    one_step w n f steps s h e ∙ ap (λ r. numbered_fault n r >>= λ g. followed_from w (n + 1) g (map step_of (drop (n + 1) steps))) is

-- an error of a step, with its number
numbered_as : (step : Result Followed Fault) (whole : Result Followed (ℕ × Fault)) (n : ℕ) (e : Error) → ((fault : Fault) → step ≡ Err fault → whole ≡ Err (n, fault)) → IsFaultOf step e → SaysStepFault whole n e
numbered_as step whole n (error.Unretrievable uri source) then (fault, is, says) = (fault, then fault is, says)
numbered_as step whole n (error.PointerToNowhere pointer) then (fault, is, says) = (fault, then fault is, says)
numbered_as step whole n (error.InvalidPercentEncoding pointer) then (fault, is, says) = (fault, then fault is, says)
numbered_as step whole n (error.InvalidArrayIndex pointer index) then (fault, is, says) = (fault, then fault is, says)
numbered_as step whole n (error.NoSuchAnchor anchor) then (fault, is, says) = (fault, then fault is, says)
numbered_as step whole n (error.InvalidAnchor anchor) then (fault, is, says) = (fault, then fault is, says)
numbered_as step whole n (error.InvalidUri uri) then (fault, is, says) = (fault, then fault is, says)
numbered_as step whole n (error.UnknownSpecification specification) then (fault, is, says) = (fault, then fault is, says)
numbered_as step whole n (error.CircularMetaschema uri) then (fault, is, says) = (fault, then fault is, says)
numbered_as step whole n (error.RetrievalLimit uri limit) then (fault, is, says) = (fault, then fault is, says)
numbered_as step whole n (error.Memory memory) then is = tt

-- a step that stops
pub followed_stop : (w : World) (n : ℕ) (f : Followed) (steps : List Step) (s : Step) (e : Error) (whole : Result Followed (ℕ × Fault)) → n < length steps → s ≡ get_or steps n s
    → whole ≡ followed_from w n f (map step_of (drop n steps)) → IsFaultOf (after_step w f (step_of s)) e → SaysStepFault whole n e
followed_stop w n f steps s e whole h at same = numbered_as (after_step w f (step_of s)) whole n e (λ fault is. same ∙ stops_at w n f steps s fault h at is)

drop_end : (steps : List Step) (n : ℕ) → length steps ≤ n → drop n steps ≡ []
drop_end [] zero h = refl
drop_end [] (suc n) h = refl
drop_end (s ∷ ss) zero h = absurd (omega arith)
drop_end (s ∷ ss) (suc n) h = drop_end ss n (omega arith)

-- no step is left
pub followed_end : (w : World) (n : ℕ) (f : Followed) (steps : List Step) → length steps ≤ n → followed_from w n f (map step_of (drop n steps)) ≡ Ok f
followed_end w n f steps h = ap (λ xs. followed_from w n f (map step_of xs)) (drop_end steps n h)

-- before the first step
pub followed_start : (w : World) (base : List ℕ) (r : Resolver) (steps : List Step) → r ≡ record { base = base; scope = [] }
    → followed_steps w base (map step_of steps) ≡ followed_from w 0 (record { last = None; resolver = r }) (map step_of (drop 0 steps))
unfolding followed_steps
followed_start w base r steps is = sym (ap (λ r. followed_from w 0 (record { last = None; resolver = r }) (map step_of steps)) is)

-- ---- the steps before one

after : (r : Result Followed (ℕ × Fault)) (n : ℕ) (h : Followed) (s : world.Step) (w : World) (g : Followed) → r ≡ Ok g → after_step w g s ≡ Ok h → (r >>= λ x. numbered_fault n (after_step w x s)) ≡ Ok h
after r n h s w g before is = ap (λ x. x >>= λ y. numbered_fault n (after_step w y s)) before ∙ ap (numbered_fault n) is

only : {E A : Type 0} (r : Result A E) → (r >>= λ x. Ok x) ≡ r
only (Ok x) = refl
only (Err e) = refl

moved_in : (r : Result Followed (ℕ × Fault)) (f : Followed → Result Followed (ℕ × Fault)) (g h : Followed → Result Followed (ℕ × Fault)) → ((x : Followed) → f x ≡ (g x >>= h)) → (r >>= f) ≡ ((r >>= g) >>= h)
moved_in (Ok x) f g h same = same x
moved_in (Err e) f g h same = refl

pushed : (w : World) (n : ℕ) (f : Followed) (steps : List world.Step) (s : world.Step)
    → followed_from w n f (steps ++ s ∷ []) ≡ (followed_from w n f steps >>= λ g. numbered_fault (n + length steps) (after_step w g s))
pushed w n f [] s = only (numbered_fault n (after_step w f s)) ∙ ap (λ k. numbered_fault k (after_step w f s)) (omega arith)
pushed w n f (t ∷ ts) s =
    moved_in (numbered_fault n (after_step w f t)) (λ g. followed_from w (n + 1) g (ts ++ s ∷ [])) (λ g. followed_from w (n + 1) g ts) (λ g. numbered_fault (n + length (t ∷ ts)) (after_step w g s))
    (λ x. pushed w (n + 1) x ts s ∙ ap (λ k. followed_from w (n + 1) x ts >>= λ g. numbered_fault k (after_step w g s)) (omega arith))

-- no step is taken yet
pub started : (w : World) (base : List ℕ) (r : Resolver) (steps : List world.Step) → r ≡ record { base = base; scope = [] } → followed_steps w base (take 0 steps) ≡ Ok (record { last = None; resolver = r })
unfolding followed_steps
started w base r steps is = ap (λ x. Ok (record { last = None; resolver = x })) (sym is)

pub nowhere_yet : (w : World) (base : List ℕ) (steps : List world.Step) → ReachesStep w base steps 0
unfolding followed_steps
nowhere_yet w base steps = (record { last = None; resolver = record { base = base; scope = [] } }, refl)

take_read : (steps : List Step) (n : ℕ) (s : Step) → n < length steps → s ≡ get_or steps n s → take (suc n) (map step_of steps) ≡ take n (map step_of steps) ++ step_of s ∷ []
take_read [] n s h e = absurd (omega (arith, h))
take_read (t ∷ ts) zero s h e = ap (λ x. step_of x ∷ []) (sym e)
take_read (t ∷ ts) (suc n) s h e = ap (λ xs. step_of t ∷ xs) (take_read ts n s (omega (arith, h)) e)

-- one step more is taken
pub reached_next : (w : World) (base : List ℕ) (n : ℕ) (f g : Followed) (steps : List Step) (s : Step) → n < length steps → s ≡ get_or steps n s
    → followed_steps w base (take n (map step_of steps)) ≡ Ok f → after_step w f (step_of s) ≡ Ok g → followed_steps w base (take (n + 1) (map step_of steps)) ≡ Ok g
unfolding followed_steps
reached_next w base n f g steps s h e before is =
    let start : Followed = record { last = None; resolver = record { base = base; scope = [] } } in
    let taken = take n (map step_of steps) in
    ap (λ k. followed_from w 0 start (take k (map step_of steps))) (add-one n) ∙ ap (λ xs. followed_from w 0 start xs) (take_read steps n s h e) ∙ pushed w 0 start taken (step_of s)
    ∙ after (followed_from w 0 start taken) (0 + length taken) g (step_of s) w f before is
