use Rattle.std.proofs.Common.{◌≡◌, map, take}
use Rattle.meta_store.specs.Upgraded as spec
use Rattle.meta_store.proofs.upgrading.second_metas.Given as goal

-- the rows so far were made
abbrev pub invariant-loop-meta : goal.invariant-loop-meta
invariant-loop-meta l = l.made.items ≡ map spec.second (take l.meta-index l.metas)
