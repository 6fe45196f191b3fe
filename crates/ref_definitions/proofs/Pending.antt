-- Pending documents are under URIs that differ.
use Rattle.std.proofs.Common.{◌≡◌, ℕ, Bool, true, false, cond, ◌||◌, List, [], ◌∷◌, ◌++◌, map, Result, Ok, Err, bytes_eq, refl, sym, subst, ap, ◌∙◌, true≢false, arith}
use Rattle.std.specs.List.{All, AllPairs, list_any}
use Rattle.std.proofs.lemmas.List.{map-append}
use Rattle.std.proofs.lemmas.List.Elements.{All-nil, All-cons}
use Rattle.std.proofs.lemmas.List.Quantifiers.{all_pairs_push}
use Rattle.std.proofs.lemmas.Slice.Eq.{bytes_eq-Decides}
use Rattle.ref_uri.specs.Targets.{Refusal}
use Rattle.ref_definitions.specs.Results.{◌>>=◌}
use Rattle.ref_definitions.specs.Pending.{Addition, Pending, pending_of, with_pending, with_additions}

abbrev uris : List Pending → List (List ℕ)
uris ps = map (λ p. p.uri) ps

abbrev Differ : List Pending → Type 0
Differ ps = AllPairs (λ u v. ¬ (u ≡ v)) (uris ps)

-- one that takes the place of another is under its URI
replaced : (p e : Pending) (b : Bool) → bytes_eq e.uri p.uri ≡ b → (cond b p e).uri ≡ e.uri
replaced p e true is = sym ((bytes_eq-Decides e.uri p.uri).0 is)
replaced p e false is = refl

uris_stay : (p : Pending) (ps : List Pending) → uris (map (λ e. cond (bytes_eq e.uri p.uri) p e) ps) ≡ uris ps
uris_stay p [] = refl
uris_stay p (e ∷ ps) =
    ap (λ u. u ∷ uris (map (λ e. cond (bytes_eq e.uri p.uri) p e) ps)) (replaced p e (bytes_eq e.uri p.uri) refl)
    ∙ ap (λ us. e.uri ∷ us) (uris_stay p ps)

absent_step : (p e : Pending) (us : List (List ℕ)) (b rest : Bool) → bytes_eq e.uri p.uri ≡ b → (b || rest) ≡ false
    → (rest ≡ false → All (λ u. ¬ (u ≡ p.uri)) us) → All (λ u. ¬ (u ≡ p.uri)) (e.uri ∷ us)
absent_step p e us true rest is none later = absurd (true≢false none)
absent_step p e us false rest is none later =
    All-cons (λ u. ¬ (u ≡ p.uri)) e.uri us (λ same. true≢false (sym ((bytes_eq-Decides e.uri p.uri).1 same) ∙ is)) (later none)

absent : (p : Pending) (ps : List Pending) → list_any (λ e. bytes_eq e.uri p.uri) ps ≡ false → All (λ u. ¬ (u ≡ p.uri)) (uris ps)
absent p [] none = All-nil _
absent p (e ∷ ps) none = absent_step p e (uris ps) (bytes_eq e.uri p.uri) (list_any (λ e. bytes_eq e.uri p.uri) ps) refl none (absent p ps)

put_differ : (ps : List Pending) (p : Pending) (b : Bool) → list_any (λ e. bytes_eq e.uri p.uri) ps ≡ b → Differ ps
    → Differ (cond b (map (λ e. cond (bytes_eq e.uri p.uri) p e) ps) (ps ++ p ∷ []))
put_differ ps p true is differ = subst (AllPairs (λ u v. ¬ (u ≡ v))) (sym (uris_stay p ps)) differ
put_differ ps p false is differ =
    subst (AllPairs (λ u v. ¬ (u ≡ v))) (sym (map-append (λ (q : Pending). q.uri) ps (p ∷ [])))
    (all_pairs_push (λ u v. ¬ (u ≡ v)) (uris ps) p.uri differ (absent p ps is))

with_differ : (ps : List Pending) (p : Pending) → Differ ps → Differ (with_pending ps p)
unfolding with_pending
with_differ ps p differ = put_differ ps p (list_any (λ e. bytes_eq e.uri p.uri) ps) refl differ

after_one : (ps qs : List Pending) (more : List Addition) (r : Result Pending Refusal) → Differ ps
    → ((next : List Pending) → Differ next → with_additions next more ≡ Ok qs → Differ qs)
    → ((r >>= λ p. Ok (with_pending ps p)) >>= λ next. with_additions next more) ≡ Ok qs → Differ qs
after_one ps qs more (Ok p) differ later is = later (with_pending ps p) (with_differ ps p differ) is
after_one ps qs more (Err refusal) differ later is = absurd (cc)

extended_differ : (additions : List Addition) (ps qs : List Pending) → Differ ps → with_additions ps additions ≡ Ok qs → Differ qs
extended_differ [] ps qs differ is = let same : ps ≡ qs = cc in subst Differ same differ
extended_differ (a ∷ more) ps qs differ is =
    after_one ps qs more (pending_of a) differ (λ next apart then. extended_differ more next qs apart then) is

pub pending_differ : (additions : List Addition) (ps : List Pending) → with_additions [] additions ≡ Ok ps → AllPairs (λ u v. ¬ (u ≡ v)) (map (λ p. p.uri) ps)
pending_differ additions ps is = extended_differ additions [] ps (λ i j d less within. absurd (omega arith)) is
