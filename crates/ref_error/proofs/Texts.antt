-- The texts of faults with two parts in them, as they are written from the front.
use Rattle.std.proofs.Common.{◌≡◌, ℕ, List, ◌++◌, codes, decimal, append_assoc}
use Rattle.ref_definitions.specs.Fault.{Unretrievable, InvalidArrayIndex, RetrievalLimit, fault_text}

abbrev failed : List ℕ
failed = codes "' is not present in a registry and retrieving it failed: "

pub unretrievable : (uri source : List ℕ) → codes "Resource '" ++ (uri ++ (failed ++ source)) ≡ fault_text (Unretrievable uri source)
unretrievable uri source = simp append_assoc

abbrev inside : List ℕ
inside = codes "' in pointer '"

pub invalid_index : (pointer index : List ℕ) → codes "Failed to parse array index '" ++ (index ++ (inside ++ (pointer ++ codes "'"))) ≡ fault_text (InvalidArrayIndex pointer index)
invalid_index pointer index = simp append_assoc

abbrev before : List ℕ
before = codes " documents reached before '"

pub limit_reached : (uri : List ℕ) (limit : ℕ) → codes "Retrieval limit of " ++ (decimal limit ++ (before ++ (uri ++ codes "'"))) ≡ fault_text (RetrievalLimit uri limit)
limit_reached uri limit = simp append_assoc
