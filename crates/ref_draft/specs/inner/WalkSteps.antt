-- That a child is at its path, step by step.
use Rattle.std.specs.Prelude.{◌≡◌, Some, ⊤}
use Rattle.serde_json.specs.Data.{Data, null, boolean, number, string, array, object, Members, no_members, member}
use Rattle.serde_json.specs.Find.{get_member}
use Rattle.ref_draft.specs.declared.spec.Holding.{Holding}
use Rattle.ref_draft.specs.declared.spec.Holding.TheVariants.{Whole, WholeObject, Elements, Members as EachMember, ElementsOrWhole, ObjectMembers, Nothing}

-- each member is the one that is found under its key
abbrev pub AreFoundIn : Members → Members → Type 0
AreFoundIn all no_members = ⊤
AreFoundIn all (member key d ms) = (get_member key all ≡ Some d) × AreFoundIn all ms

-- an object finds each of its members under its key
abbrev pub FindsMembers : Data → Type 0
FindsMembers null = ⊤
FindsMembers (boolean b) = ⊤
FindsMembers (number n) = ⊤
FindsMembers (string s) = ⊤
FindsMembers (array ds) = ⊤
FindsMembers (object ms) = AreFoundIn ms ms

-- where a keyword holds the members of its value as schemas, the value finds each of them under its key
abbrev pub FindsMembersWhere : Holding → Data → Type 0
FindsMembersWhere Whole value = ⊤
FindsMembersWhere WholeObject value = ⊤
FindsMembersWhere Elements value = ⊤
FindsMembersWhere EachMember value = FindsMembers value
FindsMembersWhere ElementsOrWhole value = ⊤
FindsMembersWhere ObjectMembers value = FindsMembers value
FindsMembersWhere Nothing value = ⊤

-- the members of an object
abbrev pub members_in : Data → Members
members_in null = no_members
members_in (boolean b) = no_members
members_in (number n) = no_members
members_in (string s) = no_members
members_in (array ds) = no_members
members_in (object ms) = ms
