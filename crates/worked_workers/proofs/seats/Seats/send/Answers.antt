use Rattle.worked_workers.proofs.seats.Seats.send.Goals as goal

pub invariant_of-self : goal.invariant_of-self
invariant_of-self g c =
    let were = c.args.self.now.all in record {
      all = (c.send.ensures.pass, were.1, c.send.ensures.workers _ were.2);
    }
