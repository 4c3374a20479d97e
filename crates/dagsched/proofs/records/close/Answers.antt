use Rattle.std.proofs.Common.{inl, inr, refl}
use Rattle.dagsched.proofs.records.close.Goals as goal

pub returns-in-Ok : goal.returns-in-Ok
returns-in-Ok g c = inl (c.in-Ok._files, c.in-Ok.ensures.copied, refl)

pub returns-in-Err : goal.returns-in-Err
returns-in-Err g c = inr (c.in-Err.store, c.in-Err.ensures.err.0, search)
