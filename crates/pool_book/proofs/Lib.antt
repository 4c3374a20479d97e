pub mod PoolLemmas
pub mod RankLemmas
pub mod LawLemmas
