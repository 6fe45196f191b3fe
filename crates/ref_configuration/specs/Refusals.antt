-- What a text means as a configuration, and where and why it means none.
use Rattle.std.specs.Prelude.{◌≡◌, ◌≤◌, ℕ, List, length, codes, true, Option, Some, None, option_map, Result, Ok, Err, nat_eq, string_bytes}
use Rattle.std.specs.List.{starts_with}
use Rattle.toml.specs.Parse.{parse_document}
use Rattle.ref_configuration.specs.declared.configuration.Refusal.{Refusal}
use Rattle.ref_configuration.specs.declared.configuration.Refusal.TheVariants.{At, Memory}
use Rattle.ref_configuration.specs.Members.{Fault}
use Rattle.ref_configuration.specs.Settings.{Settings, settings_of}
use Rattle.ref_configuration.specs.Lines.{place_at}
use Rattle.ref_configuration.specs.Places.{place_of}

-- the configuration that a text is, or what is wrong with it; nothing where the text is no TOML
abbrev pub meant : List ℕ → Option (Result Settings Fault)
meant text = option_map settings_of (parse_document text)

-- some place of the text is told, and that it is no TOML
pub record IsNoToml (text : List ℕ) (line column : ℕ) (said : List ℕ) : Type 0 where
  pub offset : ℕ
  pub within : offset ≤ length text
  pub place : (line, column) ≡ place_at text offset
  pub begins : starts_with nat_eq said (codes "Not TOML: ") ≡ true

-- what is wrong is told, and where it is in the text
pub record IsFault (text : List ℕ) (line column : ℕ) (said : List ℕ) (fault : Fault) : Type 0 where
  pub place : (line, column) ≡ place_of fault.place.above fault.place.item fault.name text
  pub words : said ≡ fault.text

abbrev pub IsTold : List ℕ → ℕ → ℕ → List ℕ → Option (Result Settings Fault) → Type 0
IsTold text line column said None = IsNoToml text line column said
IsTold text line column said (Some (Ok settings)) = ⊥
IsTold text line column said (Some (Err fault)) = IsFault text line column said fault

-- a text is refused so, unless memory ran out: it is no TOML, or a table that is no configuration
abbrev pub IsRefusal : List ℕ → Refusal → Type 0
IsRefusal text Memory = Unit {0}
IsRefusal text (At line column said) = IsTold text line column (string_bytes said) (meant text)
