-- Trees whose objects have each key once, as a value of `serde_json` has.
use Rattle.std.specs.Prelude.{◌≡◌, None, ⊤}
use Rattle.serde_json.specs.Data.{Data, null, boolean, number, string, array, object, Items, no_items, item, Members, no_members, member}
use Rattle.serde_json.specs.Find.{get_member}

-- no two members have one key: none after a member has its key
abbrev pub KeysDiffer : Members → Type 0
KeysDiffer no_members = ⊤
KeysDiffer (member key d ms) = (get_member key ms ≡ None) × KeysDiffer ms

-- each object of a tree has each key once
abbrev mutual
  pub HasUniqueKeys : Data → Type 0
  HasUniqueKeys null = ⊤
  HasUniqueKeys (boolean b) = ⊤
  HasUniqueKeys (number n) = ⊤
  HasUniqueKeys (string s) = ⊤
  HasUniqueKeys (array ds) = ItemsHaveUniqueKeys ds
  HasUniqueKeys (object ms) = KeysDiffer ms × MembersHaveUniqueKeys ms

  pub ItemsHaveUniqueKeys : Items → Type 0
  ItemsHaveUniqueKeys no_items = ⊤
  ItemsHaveUniqueKeys (item d ds) = HasUniqueKeys d × ItemsHaveUniqueKeys ds

  pub MembersHaveUniqueKeys : Members → Type 0
  MembersHaveUniqueKeys no_members = ⊤
  MembersHaveUniqueKeys (member key d ms) = HasUniqueKeys d × MembersHaveUniqueKeys ms
