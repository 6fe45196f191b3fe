use Rattle.serde_json.specs.View.{view}
use Rattle.ref_serve.proofs.TextsRead.{faults_read, no_faults_read}
use Rattle.ref_serve.proofs.faults.faults_call.Goals as goal

pub returns-in-Ok : goal.returns-in-Ok
returns-in-Ok c = faults_read (view c.args.tree) (view c.in-Ok.read) c.faults.result c.in-Ok.ensures c.faults.ensures

pub returns-in-Err : goal.returns-in-Err
returns-in-Err c = no_faults_read (view c.args.tree) c.in-Err.stop c.in-Err.ensures
