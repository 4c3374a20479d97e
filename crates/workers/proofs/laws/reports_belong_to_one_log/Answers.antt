use Rattle.workers.proofs.Owners.{owned}
use Rattle.workers.proofs.laws.reports_belong_to_one_log.Goals as goal

pub returns : goal.returns
returns g c = λ ends heard told once k e below. owned ends heard told once k e below
