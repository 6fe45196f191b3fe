-- Lists of questions that are looked up one after another.
use Rattle.std.proofs.Common.{◌≡◌, ℕ, suc, List, [], ◌∷◌, ◌++◌, Result, Ok, Err, IfOk, codes, refl, sym, ap, ◌∙◌, subst, append_assoc, append-nil}
use Rattle.std.specs.declared.alloc.AllocError.{AllocError}
use Rattle.serde_json.specs.Data.{Data, item, Items}
use Rattle.ref_definitions.specs.Results.{◌>>=◌}
use Rattle.ref_calls.specs.Objects.{list_of, object_of}
use Rattle.serde_json.specs.View.{view}
use Rattle.serde_json.specs.declared.value.Value.{Value}
use Rattle.ref_json.specs.declared.stop.Stop.{Stop}
use Rattle.ref_json.specs.declared.stop.Stop.TheVariants.{Memory, Because}
use Rattle.ref_calls.specs.Calls.{each_item}
use Rattle.ref_calls.specs.Errors.{at_index, with_index}
use Rattle.ref_calls.specs.Outcome.{IsChanged}
use Rattle.ref_calls.proofs.Further.{in_front}
use Rattle.ref_serve.specs.Results.{Start, Then, Question, IsLookedUp, IsListed, AreListed, IsList, question_in}
use Rattle.ref_calls.specs.Outcome.{Gives}
use Rattle.ref_serve.specs.inner.Giving.{IsListedAs}

-- what is listed so far, before the questions that are left to read
abbrev pub IsSoFar : List Data → Result (List Question) Data → Result (List Question) Data → Type 0
IsSoFar ds left all = (done : List Question) × AreListed done ds × (in_front done left ≡ all)

-- a question before others
abbrev before_left : Result Question Data → Result (List Question) Data → Result (List Question) Data
before_left read left = do
  question ← read
  more ← left
  Ok (question ∷ more)

front_of_one_more : (done : List Question) (q : Question) (left : Result (List Question) Data) → in_front (done ++ q ∷ []) left ≡ in_front done (before_left (Ok q) left)
front_of_one_more done q (Ok more) = ap Ok (append_assoc done (q ∷ []) more)
front_of_one_more done q (Err e) = refl

listed_one_more : (done : List Question) (ds : List Data) (q : Question) (d : Data) → AreListed done ds → IsListed q d
    → AreListed (done ++ q ∷ []) (ds ++ d ∷ [])
listed_one_more [] [] q d are is = (is, tt)
listed_one_more [] (e ∷ ds) q d are is = absurd are
listed_one_more (t ∷ done) [] q d are is = absurd are
listed_one_more (t ∷ done) (e ∷ ds) q d are is = (are.0, listed_one_more done ds q d are.1 is)

is_ok : Result Data Data → Type 0
is_ok (Ok d) = Unit {0}
is_ok (Err e) = ⊥

next_by : (read : Result Question Data) (left all : Result (List Question) Data) (ds : List Data) (d : Data)
    → IsSoFar ds (before_left read left) all → Then read IsListedAs (Ok d) → IsSoFar (ds ++ d ∷ []) left all
unfolding is_ok
next_by (Ok q) left all ds d (done, are, is) listed =
    (done ++ q ∷ [], listed_one_more done ds q d are listed, front_of_one_more done q left ∙ is)
next_by (Err error) left all ds d so_far listed = absurd (subst is_ok listed tt)

pub next_listed : (s : Start) (all : Result (List Question) Data) (ds : List Data) (one : Data) (rest : Items) (d : Data) (n : ℕ)
    → IsSoFar ds (each_item (question_in s) n (item one rest)) all → Then (question_in s n one) IsListedAs (Ok d) → IsSoFar (ds ++ d ∷ []) (each_item (question_in s) (suc n) rest) all
next_listed s all ds one rest d n so_far listed = next_by (question_in s n one) (each_item (question_in s) (suc n) rest) all ds d so_far listed

stopped_by : (read : Result Question Data) (left all : Result (List Question) Data) (ds : List Data) (error : Data)
    → IsSoFar ds (before_left read left) all → Then read IsListedAs (Err error) → Then all IsList (Err error)
stopped_by (Ok q) left all ds error so_far listed = absurd listed
stopped_by (Err e) left all ds error (done, are, is) listed = subst (λ a. Then a IsList (Err error)) is listed

pub list_stopped : (s : Start) (all : Result (List Question) Data) (ds : List Data) (one : Data) (rest : Items) (error : Data) (n : ℕ)
    → IsSoFar ds (each_item (question_in s) n (item one rest)) all → Then (question_in s n one) IsListedAs (Err error) → Then all IsList (Err error)
list_stopped s all ds one rest error n so_far listed = stopped_by (question_in s n one) (each_item (question_in s) (suc n) rest) all ds error so_far listed

pub list_stops : (s : Start) (all : Result (List Question) Data) (ds : List Data) (one : Data) (rest : Items) (n : ℕ) (stop : Stop Value)
    → IsSoFar ds (each_item (question_in s) n (item one rest)) all → Gives (Then (question_in s n one) IsListedAs) (Err stop) → Gives (Then all IsList) (Err stop)
list_stops s all ds one rest n Memory so_far listed = tt
list_stops s all ds one rest n (Because value) so_far listed = list_stopped s all ds one rest (view value) n so_far listed

pub all_listed : (all : Result (List Question) Data) (ds : List Data) → IsSoFar ds (Ok []) all → Then all IsList (Ok (list_of ds))
all_listed all ds (done, are, is) =
    subst (λ a. Then a IsList (Ok (list_of ds))) (ap Ok (sym (append-nil done)) ∙ is) (ds, are, refl)

-- ---- what asks nothing, with its number

pub found_at_index : (read : Result Question Data) (n : ℕ) (d : Data) → Then read IsListedAs (Ok d) → Then (at_index n read) IsListedAs (Ok d)
found_at_index (Ok q) n d is = is
found_at_index (Err e) n d is = absurd (cc)

stopped_as : (read : Result Question Data) (n : ℕ) (value v : Value) → Then read IsListedAs (Err (view value)) → view v ≡ with_index n (view value) → Then (at_index n read) IsListedAs (Err (view v))
stopped_as (Ok q) n value v is says = absurd is
stopped_as (Err e) n value v is says = ap Err says ∙ ap (λ r. at_index n r) is

pub stopped_at_index : (read : Result Question Data) (n : ℕ) (stop result : Stop Value) → Gives (Then read IsListedAs) (Err stop) → IsChanged (with_index n) stop result
    → Gives (Then (at_index n read) IsListedAs) (Err result)
stopped_at_index read n Memory result is changed = subst (λ s. Gives (Then (at_index n read) IsListedAs) (Err s)) (sym changed) tt
stopped_at_index read n (Because value) Memory is changed = tt
stopped_at_index read n (Because value) (Because v) is says = stopped_as read n value v is says

-- ---- an object with an error

pub listed_error : (q : Question) (e : Data) (result : Result Value AllocError) → IsLookedUp q.0.asked q.0.resolver q.1 (Err e) → IfOk result (λ d. view d ≡ object_of ((codes "error", e) ∷ [])) → IfOk result (λ d. IsListed q (view d))
listed_error q e (Ok d) is says = (Err e, is, says)
listed_error q e (Err x) is says = tt
