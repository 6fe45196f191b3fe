-- What contracts see of the crate's types.
use Rattle.std.specs.Prelude.{ℕ, List, map, string_bytes, option_map, Some}
use Rattle.serde_json.specs.View.{view}
use Rattle.ref_paths.specs.Segment.{part_of}
use Rattle.ref_parts.specs.Table.{Entry}
use Rattle.ref_index.specs.declared.places.Place as rust_place
use Rattle.ref_resolver.specs.Locations.{location_view}
use Rattle.ref_changes.specs.declared.moves.Address as rust_address
use Rattle.ref_changes.specs.declared.moves.Move as rust_move
use Rattle.ref_changes.specs.declared.moves.Image as rust_image
use Rattle.ref_changes.specs.declared.answer.Led as rust_led
use Rattle.ref_changes.specs.declared.answer.Answer as rust_answer
use Rattle.ref_changes.specs.declared.answer.Answer.TheVariants as answers
use Rattle.ref_changes.specs.declared.kept.Change as rust_change
use Rattle.ref_changes.specs.declared.difference.Leading as rust_leading
use Rattle.ref_changes.specs.declared.difference.What as rust_what
use Rattle.ref_changes.specs.declared.difference.What.TheVariants as whats
use Rattle.ref_changes.specs.declared.difference.Difference as rust_difference
use Rattle.ref_changes.specs.declared.kept.Texts as rust_texts
use Rattle.ref_changes.specs.Moves.{Address, Move, Moves}
use Rattle.ref_changes.specs.Answers.{Led, Answer, Leads, Fails, Change, Texts}
use Rattle.ref_changes.specs.Sites.{Site}
use Rattle.ref_changes.specs.Changes.{Leading, What, NoPlace, OtherDraft, OtherBase, OtherMark, OtherAnchors, OtherText, OtherReference, OtherName, Difference}

-- an address, and a move
abbrev pub address_view : rust_address.Address → Address
address_view a = record { document = a.document; pointer = a.pointer.now }

abbrev pub move_of : rust_move.Move → Move
move_of m = record { from = address_view m.from; to = address_view m.to }

-- where a value is after
abbrev pub image_view : rust_image.Image → Address
image_view i = record { document = i.document; pointer = string_bytes i.pointer }

-- what a table of moves has
abbrev pub moves_in : List (Entry rust_address.Address) → Moves
moves_in entries = map (λ e. (e.0, e.1, address_view e.2)) entries

-- what a reference leads to
abbrev pub led_of : rust_led.Led → Led
led_of l =
    record {
      at = Some (location_view l.location);
      value = view l.value.now;
      draft = l.draft;
      base = option_map (λ u. u.value) l.base;
    }

abbrev pub answer_of : rust_answer.Answer → Answer
answer_of (answers.Leads led) = Leads (led_of led)
answer_of (answers.Fails fault) = Fails fault.now

-- two registries, and what moves
abbrev pub change_of : rust_change.Change → Change
change_of c =
    record { moves = moves_in c.moves.now; before = c.before.now; after = c.after.now }

-- a place
abbrev pub site_of_place : rust_place.Place → Site
site_of_place p =
    record {
      document = p.document;
      path = map part_of p.path.items;
      value = view p.value.now;
      draft = p.draft;
      base = p.base.value;
    }

-- what differs
abbrev pub leading_of : rust_leading.Leading → Leading
leading_of l =
    record {
      texts = record { text = string_bytes l.before; now = string_bytes l.after };
      led = option_map location_view l.led;
      leads = option_map location_view l.leads;
    }

abbrev pub what_of : rust_what.What → What
what_of whats.NoPlace = NoPlace
what_of whats.OtherDraft = OtherDraft
what_of whats.OtherBase = OtherBase
what_of whats.OtherMark = OtherMark
what_of whats.OtherAnchors = OtherAnchors
what_of (whats.OtherText keyword) = OtherText keyword.now
what_of (whats.OtherReference keyword leading) = OtherReference keyword.now (leading_of leading)
what_of (whats.OtherName leading) = OtherName (leading_of leading)

abbrev pub difference_of : rust_difference.Difference → Difference
difference_of d = record { site = site_of_place d.place; what = what_of d.what }

-- a text before, and the one in its place
abbrev pub texts_of : rust_texts.Texts → Texts
texts_of t = record { text = t.before.now; now = t.after.now }
