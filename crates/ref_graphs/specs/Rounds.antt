-- References that come back to where they began.
use Rattle.std.specs.Prelude.{◌≡◌, ℕ, ◌+◌, ◌<◌, ◌⊎◌, List, [], ◌∷◌, ◌++◌, length, All, Bool, true, false, not, ◌&&◌, ◌==◌, nat_lt, slice_get}
use Rattle.std.specs.List.{list_all, list_any, sum_by}
use Rattle.std.specs.Option.{option_map_or}

-- A reference: the places from which the same value comes to it, and the place that it leads to
pub record Lead : Type 0 where
  pub fronts : List ℕ
  pub to : ℕ

-- whether the same value comes to a reference from a place, where that and what it leads to are two of so many
abbrev pub comes : ℕ → Lead → ℕ → Bool
comes count lead p =
    nat_lt p count && (nat_lt lead.to count && list_any (λ f. f == p) lead.fronts)

-- whether references, by their numbers, lead from a place to another one, each from where the one before it led
abbrev pub leads_on : ℕ → List Lead → ℕ → List ℕ → ℕ → Bool
leads_on count leads from [] to = from == to
leads_on count leads from (n ∷ ns) to =
    option_map_or (λ l. comes count l from && leads_on count leads l.to ns to) (slice_get leads n) false

-- References, of which there is one at least, lead from a place back to it
abbrev pub IsRound : ℕ → List Lead → List ℕ → Type 0
IsRound count leads ns = (p : ℕ) × (leads_on count leads p ns p ≡ true) × (0 < length ns)

-- A round that is told: the reference that closes it, how many it has, and these, that one last, or none, where there would be too many
pub record Round : Type 0 where
  pub closing : ℕ
  pub size : ℕ
  pub leads : List ℕ

-- its references come back
abbrev pub IsClosed : ℕ → List Lead → Round → Type 0
IsClosed count leads r =
    (ns : List ℕ) × IsRound count leads (ns ++ r.closing ∷ []) × (length ns + 1 ≡ r.size)
    × ((r.leads ≡ []) ⊎ (r.leads ≡ ns ++ r.closing ∷ []))

-- Each of these rounds is so
abbrev pub AreClosed : ℕ → List Lead → List Round → Type 0
AreClosed count leads rounds = All (IsClosed count leads) rounds

-- whether a reference closes none of them
abbrev pub is_other : List Round → ℕ → Bool
is_other rounds n = not (list_any (λ r. r.closing == n) rounds)

-- Without the references that close them there is none
abbrev pub AreAll : ℕ → List Lead → List Round → Type 0
AreAll count leads rounds =
    (ns : List ℕ) → list_all (is_other rounds) ns ≡ true → IsRound count leads ns → ⊥

-- Where the references of one aren't told, all of them have more together than this
abbrev pub AreShown : List Round → Type 0
AreShown rounds = All (λ r. r.leads ≡ [] → 65536 < sum_by (λ q. q.size) rounds) rounds
