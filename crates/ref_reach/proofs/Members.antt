-- The members of an object, and its keys.
use Rattle.std.proofs.Common.{◌≡◌, ◌∙◌, List, ℕ, Some, ap, sym, is_eq, nat_cmp, Equal}
use Rattle.std.specs.Cmp.Lexicographic.{slice_cmp}
use Rattle.std.proofs.lemmas.Map.Text.{is_eq-slice_cmp}
use Rattle.std.proofs.lemmas.Slice.Eq.{bytes_eq-Decides}
use Rattle.serde_json.specs.Data.{Data, null, boolean, number, string, array, object, Members}
use Rattle.serde_json.specs.Find.{get, get_member, as_object}

-- a member is found in the object's members
pub held : (k : List ℕ) (d : Data) (ms : Members) → Some ms ≡ as_object d → get_member k ms ≡ get k d
held k null ms is = absurd (cc)
held k (boolean b) ms is = absurd (cc)
held k (number n) ms is = absurd (cc)
held k (string s) ms is = absurd (cc)
held k (array ds) ms is = absurd (cc)
held k (object ns) ms is = let same : ms ≡ ns = cc in ap (get_member k) same

-- texts of one rank are one text
pub same_key : (k l : List ℕ) → slice_cmp nat_cmp k l ≡ Equal → l ≡ k
same_key k l is = sym ((bytes_eq-Decides k l).0 (sym (is_eq-slice_cmp k l) ∙ ap is_eq is))
