-- Moves that are read one after another.
use Rattle.std.proofs.Common.{◌≡◌, ℕ, suc, List, [], ◌∷◌, ◌++◌, Result, Ok, Err, refl, sym, ap, ◌∙◌}
use Rattle.serde_json.specs.Data.{Data, item, Items}
use Rattle.serde_json.specs.View.{view}
use Rattle.serde_json.specs.declared.value.Value.{Value}
use Rattle.ref_definitions.specs.Results.{◌>>=◌}
use Rattle.ref_json.specs.declared.stop.Stop.{Stop}
use Rattle.ref_json.specs.declared.stop.Stop.TheVariants.{Memory, Because}
use Rattle.ref_calls.specs.Calls.{each_item}
use Rattle.ref_calls.specs.Outcome.{Stops}
use Rattle.ref_calls.proofs.Further.{in_front, in_front_push, first_read}
use Rattle.ref_changes.specs.Moves.{Move}
use Rattle.ref_serve.specs.Comparisons.{move_in}

pub front_none : (left : Result (List Move) Data) → in_front [] left ≡ left
front_none (Ok ys) = refl
front_none (Err e) = refl

-- a move before others
abbrev before : Result (List Move) Data → Result Move Data → Result (List Move) Data
before left read = read >>= λ x. left >>= λ xs. Ok (x ∷ xs)

pub one_more : (done : List Move) (one : Move) (d : Data) (rest : Items) (n : ℕ) → move_in n d ≡ Ok one → in_front (done ++ one ∷ []) (each_item move_in (suc n) rest) ≡ in_front done (each_item move_in n (item d rest))
one_more done one d rest n is =
    let left = each_item move_in (suc n) rest in
    in_front_push done one left ∙ ap (in_front done) (sym (first_read one left)) ∙ ap (λ r. in_front done (before left r)) (sym is)

-- the first that is none is the error of all
pub stopped : (done : List Move) (d : Data) (rest : Items) (n : ℕ) (all : Result (List Move) Data) (stop : Stop Value)
    → in_front done (each_item move_in n (item d rest)) ≡ all → Stops stop (move_in n d) → Stops stop all
stopped done d rest n all Memory is stops = tt
stopped done d rest n all (Because f) is stops = sym is ∙ ap (λ r. in_front done (before (each_item move_in (suc n) rest) r)) stops
