-- Calls whose texts of YAML are read first.
use Rattle.std.proofs.Common.{◌≡◌, Result, Ok, Err, refl, sym}
use Rattle.serde_json.specs.Data.{Data}
use Rattle.serde_json.specs.View.{view}
use Rattle.serde_json.specs.declared.value.Value.{Value}
use Rattle.ref_json.specs.declared.stop.Stop.{Stop}
use Rattle.ref_json.specs.declared.stop.Stop.TheVariants.{Memory, Because}
use Rattle.ref_calls.specs.Outcome.{Answers, Gives}
use Rattle.ref_calls.specs.Yaml.{HasValues, IsCallRead}
use Rattle.ref_serve.specs.declared.opening.Opened.{Opened}
use Rattle.ref_serve.specs.State.{Registries}
use Rattle.ref_serve.specs.Faults.{faults_result}
use Rattle.ref_serve.specs.Answering.{IsOpened, IsOpening, IsFaults}
use Rattle.ref_serve.specs.inner.Openings.{GivesOpened}

pub opened_read : (state : Registries) (d e : Data) (result : Result Opened (Stop Value)) → HasValues d e → GivesOpened (IsOpened state e) state result → GivesOpened (IsOpening state d) state result
unfolding IsOpening
opened_read state d e (Ok opened) values given = (Ok e, values, given)
opened_read state d e (Err Memory) values given = tt
opened_read state d e (Err (Because value)) values given = (Ok e, values, given)

pub unopened : (state : Registries) (d : Data) (stop : Stop Value) → Gives (IsCallRead d) (Err stop) → GivesOpened (IsOpening state d) state (Err stop)
unfolding IsOpening
unopened state d Memory given = tt
unopened state d (Because value) given = (Err (view value), given, (refl, refl))

pub faults_read : (d e : Data) (result : Result Value (Stop Value)) → HasValues d e → Answers view result (faults_result e) → Gives (IsFaults d) result
unfolding IsFaults
faults_read d e (Ok value) values is = (Ok e, values, sym is)
faults_read d e (Err Memory) values is = tt
faults_read d e (Err (Because value)) values is = (Ok e, values, sym is)

pub no_faults_read : (d : Data) (stop : Stop Value) → Gives (IsCallRead d) (Err stop) → Gives (IsFaults d) (Err stop)
unfolding IsFaults
no_faults_read d Memory given = tt
no_faults_read d (Because value) given = (Err (view value), given, refl)
