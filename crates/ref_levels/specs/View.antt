-- What is seen of the levels of the program.
use Rattle.std.specs.Prelude.{List, map, string_bytes, Vec}
use Rattle.std.specs.declared.alloc.Global.{Global}
use Rattle.ref_files.specs.declared.excluded.Excluded.{Excluded}
use Rattle.ref_messages.specs.declared.levels.Chosen as rust
use Rattle.ref_messages.specs.Levels.{Chosen}
use Rattle.ref_messages.specs.Views.{chosen_of}
use Rattle.ref_levels.specs.declared.levels.Levels.{Levels}
use Rattle.ref_levels.specs.declared.levels.FileLevels.{FileLevels}
use Rattle.ref_levels.specs.Levels.{FileChoices, Choices}

abbrev pub choices_seen : Vec rust.Chosen Global → List Chosen
choices_seen v = map chosen_of v.items

abbrev pub file_choices : FileLevels → FileChoices
file_choices f =
    record {
      texts = map string_bytes f.texts.items;
      files = map (λ (e : Excluded). e.what) f.files.list.items;
      choices = choices_seen f.choices;
    }

-- what is set
abbrev pub set_by : Levels → Choices
set_by l =
    record {
      first = choices_seen l.first;
      overrides = map file_choices l.overrides.items;
      last = choices_seen l.last;
    }
