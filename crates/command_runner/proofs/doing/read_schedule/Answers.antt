use Rattle.sqlite.specs.Held.{state}
use Rattle.director.proofs.GivenLemmas.{fault_given}
use Rattle.command_runner.proofs.doing.read_schedule.Goals as goal

pub returns-in-Ok : goal.returns-in-Ok
returns-in-Ok g c = record {
  schedule = (c.runs.ensures.kept, (let s = rw c.full.ensures at c.in-Ok.ensures.schedule in s));
  fault = tt;
  given = λ clean. tt;
  kept = c.in-Ok.ensures.looks.kept;
  crash = c.in-Ok.ensures.looks.crash;
}

pub returns-in-Err : goal.returns-in-Err
returns-in-Err g c = record {
  schedule = tt;
  fault = (c.in-Err.fault, c.from.ensures, (let f = rw c.full.ensures at c.in-Err.ensures.fault in f));
  given = λ clean. fault_given (state g.S.Store c.args.store.now) (state g.S.Store c.load.new.self) c.in-Err.fault c.from.result (c.in-Err.ensures.given clean) c.from.ensures;
  kept = c.in-Err.ensures.looks.kept;
  crash = c.in-Err.ensures.looks.crash;
}
