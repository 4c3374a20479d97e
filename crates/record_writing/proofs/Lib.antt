pub mod LackedLemmas
pub mod SearchLemmas
pub mod SortLemmas
pub mod AmongLemmas
pub mod BeforeLemmas
pub mod NamedLemmas
pub mod PremiseLemmas
pub mod InsertLemmas
pub mod CollectLemmas
pub mod FitLemmas
pub mod PoolLemmas
pub mod WholeLemmas
pub mod KeptLemmas
pub mod TouchedLemmas
pub mod KeyLemmas
pub mod TaskLemmas
mod GraphKeyLemmas
mod RunKeyLemmas
pub use Rattle.record_rules.proofs as record_rules
