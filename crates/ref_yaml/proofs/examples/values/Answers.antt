use Rattle.ref_yaml.proofs.Derivations.{quoted_scalar, quoted_value, listed_value, named_value, no_value, quoted_read, named_read}
use Rattle.ref_yaml.proofs.examples.values.Goals as goal

pub returns-clause-scalar : goal.returns-clause-scalar
returns-clause-scalar c = quoted_scalar

pub returns-clause-value : goal.returns-clause-value
returns-clause-value c = quoted_value

pub returns-clause-items : goal.returns-clause-items
returns-clause-items c = listed_value

pub returns-clause-members : goal.returns-clause-members
returns-clause-members c = named_value

pub returns-clause-same_key : goal.returns-clause-same_key
returns-clause-same_key c = no_value

pub returns-clause-read : goal.returns-clause-read
returns-clause-read c = quoted_read

pub returns-clause-read_object : goal.returns-clause-read_object
returns-clause-read_object c = named_read
