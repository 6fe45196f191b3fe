-- What is seen of a configuration of the program, and of what is wrong with one.
use Rattle.std.specs.Prelude.{ℕ, List, [], ◌∷◌, map, codes, String, string_bytes, Vec, option_map}
use Rattle.std.specs.declared.alloc.Global.{Global}
use Rattle.ref_configuration.specs.declared.configuration.Configuration as rust
use Rattle.ref_configuration.specs.declared.configuration.Level.{Level}
use Rattle.ref_configuration.specs.declared.configuration.Override.{Override}
use Rattle.ref_configuration.specs.declared.fault.Section.{Section}
use Rattle.ref_configuration.specs.declared.fault.Section.TheVariants as section
use Rattle.ref_configuration.specs.declared.fault.At.{At}
use Rattle.ref_configuration.specs.declared.fault.Fault as rust_fault
use Rattle.ref_configuration.specs.Members.{Where, Fault, FileRules, at_keys, fault_at}
use Rattle.ref_configuration.specs.declared.table.Lists as rust_lists
use Rattle.ref_configuration.specs.declared.table.Flags as rust_flags
use Rattle.ref_configuration.specs.declared.table.Texts as rust_texts
use Rattle.ref_configuration.specs.declared.table.Tables as rust_tables
use Rattle.ref_configuration.specs.Settings.{Settings, Lists, Flags, Texts, Tables}

-- the texts of a list
abbrev pub texts : Vec (String Global) Global → List (List ℕ)
texts v = map string_bytes v.items

abbrev pub pair : String Global × String Global → List ℕ × List ℕ
pair p = (string_bytes p.0, string_bytes p.1)

abbrev pub rule_level : Level → List ℕ × List ℕ
rule_level l = (string_bytes l.rule, string_bytes l.level)

abbrev pub file_rules : Override → FileRules
file_rules o = record { files = texts o.files; rules = map rule_level o.rules.items }

-- what its parts say
abbrev pub lists : rust_lists.Lists → Lists
lists l = record { paths = texts l.paths; beside = texts l.with; exclude = texts l.exclude }

abbrev pub flags : rust_flags.Flags → Flags
flags f =
    record {
      has_gitignore = f.has_gitignore;
      has_yaml = f.has_yaml;
      max_warnings = f.max_warnings;
    }

abbrev pub named_texts : rust_texts.Texts → Texts
named_texts t =
    record {
      base = option_map string_bytes t.base;
      draft = option_map string_bytes t.draft;
      level = option_map string_bytes t.level;
    }

abbrev pub tables : rust_tables.Tables → Tables
tables t =
    record {
      maps = map pair t.maps.items;
      rules = map rule_level t.rules.items;
      overrides = map file_rules t.overrides.items;
    }

-- what a configuration says
abbrev pub settings : rust.Configuration → Settings
settings c =
    record {
      lists = record {
        paths = texts c.paths;
        beside = texts c.with;
        exclude = texts c.exclude;
      };
      flags = record {
        has_gitignore = c.has_gitignore;
        has_yaml = c.has_yaml;
        max_warnings = c.max_warnings;
      };
      texts = record {
        base = option_map string_bytes c.base;
        draft = option_map string_bytes c.draft;
        level = option_map string_bytes c.level;
      };
      tables = record {
        maps = map pair c.maps.items;
        rules = map rule_level c.rules.items;
        overrides = map file_rules c.overrides.items;
      };
    }

-- the keys that lead to a table
abbrev pub keys_of : Section → List (List ℕ)
keys_of section.Whole = []
keys_of section.Map = codes "map" ∷ []
keys_of section.Rules = codes "rules" ∷ []
keys_of section.Override = codes "override" ∷ []
keys_of section.OverrideRules = codes "override" ∷ codes "rules" ∷ []

abbrev pub where_of : At → Where
where_of a = at_keys (keys_of a.section) a.item

-- what is wrong
abbrev pub fault : rust_fault.Fault → Fault
fault f = fault_at (where_of f.at) (string_bytes f.name) (string_bytes f.text)
