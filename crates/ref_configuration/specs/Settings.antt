-- Which configuration a table of TOML is, and what is told first where it is none: a name that there isn't, and then what is
-- wrong with a member, in the order below.
use Rattle.std.specs.Prelude.{ℕ, List, [], Bool, true, false, codes, Option, None, Result, Ok}
use Rattle.toml.specs.Data.{Members, get_member}
use Rattle.ref_configuration.specs.Results.{◌>>=◌}
use Rattle.ref_configuration.specs.Names.{top_names, draft_names, level_names}
use Rattle.ref_configuration.specs.Members.{Fault, FileRules, whole, in_rules, or_missing, if_there, with_names, texts_in, flag_in, number_in, text_in, name_in, maps_in, rules_in, overrides_in}

-- paths: those that are asked about, those that references may lead into, and those that are left out
pub record Lists : Type 0 where
  pub paths : List (List ℕ)
  pub beside : List (List ℕ)
  pub exclude : List (List ℕ)

pub record Flags : Type 0 where
  pub has_gitignore : Bool
  pub has_yaml : Bool
  pub max_warnings : Option ℕ

pub record Texts : Type 0 where
  pub base : Option (List ℕ)
  pub draft : Option (List ℕ)
  pub level : Option (List ℕ)

-- prefixes of URIs with folders, rules with levels, and rules in some files
pub record Tables : Type 0 where
  pub maps : List (List ℕ × List ℕ)
  pub rules : List (List ℕ × List ℕ)
  pub overrides : List FileRules

-- what a configuration says
pub record Settings : Type 0 where
  pub lists : Lists
  pub flags : Flags
  pub texts : Texts
  pub tables : Tables

abbrev pub lists_of : Members → Result Lists Fault
lists_of t = do
  paths ← or_missing [] (texts_in whole (codes "paths")) (get_member (codes "paths") t)
  beside ← or_missing [] (texts_in whole (codes "with")) (get_member (codes "with") t)
  exclude ← or_missing [] (texts_in whole (codes "exclude")) (get_member (codes "exclude") t)
  Ok (record { paths = paths; beside = beside; exclude = exclude })

abbrev pub flags_of : Members → Result Flags Fault
flags_of t = do
  gitignore ← or_missing true (flag_in (codes "gitignore")) (get_member (codes "gitignore") t)
  yaml ← or_missing false (flag_in (codes "yaml")) (get_member (codes "yaml") t)
  most ← if_there (number_in (codes "max-warnings")) (get_member (codes "max-warnings") t)
  Ok (record { has_gitignore = gitignore; has_yaml = yaml; max_warnings = most })

abbrev pub named_texts_of : Members → Result Texts Fault
named_texts_of t = do
  base ← if_there (text_in (codes "base")) (get_member (codes "base") t)
  draft ← if_there (name_in draft_names (codes "draft")) (get_member (codes "draft") t)
  level ← if_there (name_in level_names (codes "level")) (get_member (codes "level") t)
  Ok (record { base = base; draft = draft; level = level })

abbrev pub tables_of : Members → Result Tables Fault
tables_of t = do
  maps ← or_missing [] maps_in (get_member (codes "map") t)
  rules ← or_missing [] (rules_in whole in_rules) (get_member (codes "rules") t)
  overrides ← or_missing [] overrides_in (get_member (codes "override") t)
  Ok (record { maps = maps; rules = rules; overrides = overrides })

-- the configuration that a table is
abbrev pub settings_of : Members → Result Settings Fault
settings_of t = do
  known ← with_names top_names whole t
  lists ← lists_of known
  flags ← flags_of known
  texts ← named_texts_of known
  tables ← tables_of known
  Ok (record { lists = lists; flags = flags; texts = texts; tables = tables })

-- one that says nothing
abbrev pub nothing : Settings
nothing =
    record {
      lists = record { paths = []; beside = []; exclude = [] };
      flags = record { has_gitignore = true; has_yaml = false; max_warnings = None };
      texts = record { base = None; draft = None; level = None };
      tables = record { maps = []; rules = []; overrides = [] };
    }
