-- Numbers that are reached from a root, while they are gone through.
use Rattle.std.specs.Prelude.{◌≡◌, ℕ, ◌+◌, ◌<◌, Bool, true, false, List, [], ◌∷◌, ◌++◌, take, length, slice_get, slice_set, if◌then◌else◌, Option, Some, None}
use Rattle.std.specs.Option.{unwrap_or}
use Rattle.ref_definitions.specs.World.{Layer}
use Rattle.ref_bundle.specs.Needed.{Further, is_among, numbers_of_needed}
use Rattle.ref_bundle.specs.declared.reach.Reached.{Reached}

-- marks by number, and the numbers that are marked, in the order in which they were
pub record State : Type 0 where
  pub marks : List Bool
  pub queue : List ℕ

-- the program's
abbrev pub state : Reached → State
state r = record { marks = r.marks.items; queue = r.queue.items }

-- whether a number is marked
abbrev pub is_marked : List Bool → ℕ → Bool
is_marked marks n = unwrap_or (slice_get marks n) false

-- marked are the documents that a bundle of a root needs
abbrev pub AreMarked : Layer → Further → ℕ → List Bool → Type 0
AreMarked layer further root marks =
    (n : ℕ) → is_marked marks n ≡ is_among (numbers_of_needed layer further root) n

-- with a number marked and queued, where it has a mark that isn't set
abbrev pub added_where : Option Bool → State → ℕ → State
added_where (Some false) s n =
    record { marks = slice_set s.marks n true; queue = s.queue ++ n ∷ [] }
added_where (Some true) s n = s
added_where None s n = s

abbrev pub added_document : State → ℕ → State
added_document s n = added_where (slice_get s.marks n) s n

-- with these numbers
abbrev pub all_added : State → List ℕ → State
all_added s [] = s
all_added s (n ∷ ns) = all_added (added_document s n) ns

-- the list of a number
abbrev pub list_at : List (List ℕ) → ℕ → List ℕ
list_at lists n = unwrap_or (slice_get lists n) []

-- a test that holds of all that the lists of numbers have of which it holds
abbrev pub IsClosed : List (List ℕ) → (ℕ → Bool) → Type 0
IsClosed lists test =
    (n m : ℕ) → test n ≡ true → is_among (list_at lists n) m ≡ true → m < length lists
    → test m ≡ true

-- it holds of the root
abbrev pub HasRoot : List (List ℕ) → ℕ → (ℕ → Bool) → Type 0
HasRoot lists root test = root < length lists → test root ≡ true

-- marked are the numbers that are reached from a root: the root, and those in the lists of marked numbers, and no others
pub record IsReach (lists : List (List ℕ)) (root : ℕ) (marks : List Bool) : Type 0 where
  pub start : HasRoot lists root (is_marked marks)
  pub closed : IsClosed lists (is_marked marks)
  pub least : (test : ℕ → Bool) → HasRoot lists root test → IsClosed lists test → (n : ℕ)
      → is_marked marks n ≡ true → test n ≡ true

-- how many marks are set
abbrev pub count : List Bool → ℕ
count [] = 0
count (m ∷ ms) = if m then count ms + 1 else count ms

-- the lists of the numbers before a place of the queue were gone through
pub record IsRun (lists : List (List ℕ)) (root head : ℕ) (s : State) : Type 0 where
  pub long : length s.marks ≡ length lists
  pub queued : (n : ℕ) → is_among s.queue n ≡ is_marked s.marks n
  pub counted : count s.marks ≡ length s.queue
  pub start : HasRoot lists root (is_marked s.marks)
  pub closed : (n m : ℕ) → is_among (take head s.queue) n ≡ true
      → is_among (list_at lists n) m ≡ true → m < length lists → is_marked s.marks m ≡ true
  pub least : (test : ℕ → Bool) → HasRoot lists root test → IsClosed lists test → (n : ℕ)
      → is_marked s.marks n ≡ true → test n ≡ true
