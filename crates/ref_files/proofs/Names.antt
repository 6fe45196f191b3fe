-- The names of a path, one segment at a time.
use Rattle.std.proofs.Common.{◌≡◌, ◌≢◌, ℕ, ◌<◌, false, ne_eqb, List, [], ◌∷◌, ◌++◌, length, get_or, map, All, refl, ap, ◌∙◌}
use Rattle.std.proofs.lemmas.List.Elements.{All-from_get_or, All-append, All-nil, All-cons, All-head, All-tail}
use Rattle.std.proofs.lemmas.List.Splits.{slice_split_none, slice_split_at}
use lib.Dec.{eqb}
use Rattle.percent_encoding.specs.Percent.{percent_decode}
use Rattle.ref_files.specs.Meant.{IsName, AreNames, decoded_segments}

abbrev pub NoSlash : List ℕ → Type 0
NoSlash bs = (i : ℕ) → i < length bs → get_or bs i 0 ≢ 47

pub plain_bytes : (bs : List ℕ) → NoSlash bs → All (λ b. eqb b 47 ≡ false) bs
plain_bytes bs none = All-from_get_or (λ b. eqb b 47 ≡ false) bs 0 (λ i within. ne_eqb _ 47 (none i within))

-- before a slash the first segment ends
pub segments_turn : (rest segment more : List ℕ) → rest ≡ segment ++ (47 ∷ more) → NoSlash segment → decoded_segments rest ≡ percent_decode segment ∷ decoded_segments more
segments_turn rest segment more cut none =
    ap decoded_segments cut ∙ ap (map percent_decode) (slice_split_at (λ b. eqb b 47) segment 47 more (plain_bytes segment none) refl)

-- without one there is one segment
pub segments_last : (rest : List ℕ) → NoSlash rest → decoded_segments rest ≡ percent_decode rest ∷ []
segments_last rest none = ap (map percent_decode) (slice_split_none (λ b. eqb b 47) rest (plain_bytes rest none))

pub later_names : (front names : List (List ℕ)) → AreNames (front ++ names) → AreNames names
later_names [] names h = h
later_names (n ∷ front) names h = later_names front names (All-tail IsName n (front ++ names) h)

pub name_at : (front : List (List ℕ)) (name : List ℕ) (names : List (List ℕ)) → AreNames (front ++ name ∷ names) → IsName name
name_at front name names h = All-head IsName name names (later_names front (name ∷ names) h)

pub one_more : (front : List (List ℕ)) (name : List ℕ) → AreNames front → IsName name → AreNames (front ++ name ∷ [])
one_more front name all is = All-append IsName front (name ∷ []) all (All-cons IsName name [] is (All-nil IsName))
