-- What contracts see of the crate's types.
use Rattle.serde_json.specs.View.{view}
use Rattle.ref_rules.specs.declared.slip.Place as rust_place
use Rattle.ref_rules.specs.declared.slip.Slip as rust_slip
use Rattle.ref_rules.specs.declared.ends.End as rust_end
use Rattle.ref_rules.specs.declared.spots.Spot as rust_spot
use Rattle.ref_rules.specs.declared.members.Member as rust_member
use Rattle.ref_rules.specs.declared.members.Repeat as rust_repeat
use Rattle.ref_rules.specs.declared.cases.Alike as rust_alike
use Rattle.ref_rules.specs.declared.cases.Name as rust_name
use Rattle.std.specs.Prelude.{ℕ, List, string_bytes, is_none}
use Rattle.ref_rules.specs.Slips.{Place, Slip}
use Rattle.ref_rules.specs.Ends.{End}
use Rattle.ref_rules.specs.Members.{Member, Repeat}
use Rattle.ref_rules.specs.Cases.{Alike}

-- a place
abbrev pub place_of : rust_place.Place → Place
place_of p = record { is_root = p.is_root; draft = p.draft; value = view p.value.now }

-- a spot as a place: one that no keyword leads to is a root
abbrev pub spot_of : rust_spot.Spot → Place
spot_of s = record { is_root = is_none s.keyword; draft = s.draft; value = view s.value.now }

-- what is told of one
abbrev pub slip_of : rust_slip.Slip → Slip
slip_of s = record { place = s.place; keyword = s.keyword.now; problem = s.problem }

-- what a reference leads to
abbrev pub end_of : rust_end.End → End
end_of e = record { draft = e.draft; value = view e.value.now }

-- a member of a text
abbrev pub member_of : rust_member.Member → Member
member_of m = record { object = m.object; name = string_bytes m.name.now }

-- a name
abbrev pub name_of : rust_name.Name → List ℕ
name_of n = string_bytes n.text.now

-- one that comes again
abbrev pub repeat_of : rust_repeat.Repeat → Repeat
repeat_of r = record { number = r.number; first = r.first }

-- a text that is wanted, and one that is there
abbrev pub alike_of : rust_alike.Alike → Alike
alike_of a = record { wanted = a.wanted; there = a.there }
