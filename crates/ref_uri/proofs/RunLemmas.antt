-- Runs of characters that pass a test, by blocks.
use Rattle.std.proofs.Common.{◌≡◌, ◌⊎◌, ℕ, ◌+◌, ◌-◌, ◌<◌, ◌≤◌, Bool, true, false, List, [], ◌∷◌, length, take, drop, get_or, get_or-take, get_or-drop, length-drop, eqb, refl, sym, ap, ◌∙◌, subst, arith, inl, inr}
use Rattle.std.specs.List.{prefix_len}
use Rattle.std.proofs.lemmas.Bool.{cases_lt, false_from_ne_true, false≢true, eqb-true, or_from}
use Rattle.std.proofs.lemmas.List.{length-take-le}
use Rattle.std.proofs.lemmas.List.Sums.{prefix_len_is, prefix_len_passes, prefix_len_stops, prefix_len-le-length}
use Rattle.std.proofs.Math.Seq.{take-add}
use Rattle.ref_uri.specs.Characters.{is_encoded}
use Rattle.ref_uri.specs.inner.Scans.{begins_with_triple, begins_encoded}
use Rattle.ref_uri.specs.inner.Class.{allows}
use Rattle.ref_uri.specs.declared.characters.Class.{Class}
use Rattle.ref_uri.proofs.EncodedLemmas.{disallows_percent, encoded-append}
use Rattle.ref_uri.proofs.ScanLemmas.{plain_encoded, run_passes}

-- each element below n passes
abbrev pub PassBelow : (ℕ → Bool) → List ℕ → ℕ → Type 0
PassBelow p xs n = (k : ℕ) → k < n → p (get_or xs k 0) ≡ true

-- the part of a list
part_at : (xs : List ℕ) (at n k : ℕ) → k < n → get_or (take n (drop at xs)) k 0 ≡ get_or xs (at + k) 0
part_at xs at n k lt = get_or-take n (drop at xs) k 0 lt ∙ get_or-drop at xs k 0

part_long : (xs : List ℕ) (at n : ℕ) → at + n ≤ length xs → length (take n (drop at xs)) ≡ n
part_long xs at n room = length-take-le n (drop at xs) (omega (arith, length-drop at xs))

-- what passes in front, and the run in the part after it
pub run_on : (p : ℕ → Bool) (xs : List ℕ) (at n len : ℕ) → at + n ≤ length xs → PassBelow p xs at → len ≡ prefix_len p (take n (drop at xs)) → PassBelow p xs (at + len)
run_on p xs at n len room below is k lt =
    elim (cases_lt k at) [
      | inl front ↦ below k front
      | inr behind ↦
          let few : len ≤ n = omega (arith, is, prefix_len-le-length p (take n (drop at xs)), part_long xs at n room) in
          let back : at + (k - at) ≡ k = omega arith in
          subst (λ (j : ℕ). p (get_or xs j 0) ≡ true) back
          (subst (λ (c : ℕ). p c ≡ true) (part_at xs at n (k - at) (omega arith)) (prefix_len_passes p (take n (drop at xs)) (k - at) 0 (omega (arith, is))))
    ]

-- it is the run where it stops in the part, or the part goes to the end
pub run_is : (p : ℕ → Bool) (xs : List ℕ) (at n len : ℕ) → at + n ≤ length xs → PassBelow p xs at → len ≡ prefix_len p (take n (drop at xs)) → ((len < n) ⊎ (length xs ≤ at + n)) → prefix_len p xs ≡ at + len
run_is p xs at n len room below is last =
    let few : len ≤ n = omega (arith, is, prefix_len-le-length p (take n (drop at xs)), part_long xs at n room) in
    prefix_len_is p xs (at + len) 0 (omega arith) (run_on p xs at n len room below is) (λ more. stop (inside more))
  where
    inside : at + len < length xs → len < n
    inside more = elim last [ inl less ↦ less | inr all ↦ omega arith ]

    stop : len < n → p (get_or xs (at + len) 0) ≡ false
    stop less =
        subst (λ (c : ℕ). p c ≡ false) (ap (λ k. get_or (take n (drop at xs)) k 0) (sym is) ∙ part_at xs at n len less)
        (prefix_len_stops p (take n (drop at xs)) 0 (omega (arith, is, part_long xs at n room)))

-- a class holds no `%` as it is
plain : (class : Class) (c : ℕ) → allows class c ≡ true → eqb c 37 ≡ false
plain class c is = false_from_ne_true (eqb c 37) (λ percent. false≢true (sym (disallows_percent class) ∙ ap (allows class) (sym (eqb-true c 37 percent)) ∙ is))

-- A text of the class, and the run after it.
pub record RunAfter (class : Class) (text : List ℕ) (end : ℕ) : Type 0 where
  pub within : end ≤ length text
  pub encoded : is_encoded (allows class) (take end text) ≡ true
  pub stops : end < length text → allows class (get_or text end 0) ≡ false

pub run_after : (class : Class) (text : List ℕ) (i n : ℕ) → i ≤ length text → is_encoded (allows class) (take i text) ≡ true → n ≡ prefix_len (allows class) (drop i text) → RunAfter class text (i + n)
run_after class text i n within encoded is =
    let run = drop i text in
    let long = prefix_len-le-length (allows class) run in
    let more : is_encoded (allows class) (take n run) ≡ true =
    subst (λ (k : ℕ). is_encoded (allows class) (take k run) ≡ true) (sym is) (plain_encoded (allows class) (allows class) (λ c k. k) (plain class) (take (prefix_len (allows class) run) run) (run_passes (allows class) run)) in
    record {
      within = omega (arith, is, long, length-drop i text);
      encoded = subst (λ (t : List ℕ). is_encoded (allows class) t ≡ true) (sym (take-add i n text)) (encoded-append (allows class) (take i text) (take n run) encoded more);
      stops = λ lt.
          subst (λ (c : ℕ). allows class c ≡ false) (ap (λ k. get_or run k 0) (sym is) ∙ get_or-drop i text n 0) (prefix_len_stops (allows class) run 0 (omega (arith, is, lt, length-drop i text)));
    }

-- where no character that is allowed comes first, and no triple
pub none_begins : (p : ℕ → Bool) (text : List ℕ) → (0 < length text → p (get_or text 0 0) ≡ false) → begins_with_triple text ≡ false → begins_encoded p text ≡ false
none_begins p [] stops none = refl
none_begins p (c ∷ text) stops none = or_from (p c) (begins_with_triple (c ∷ text)) (stops (omega arith)) none
