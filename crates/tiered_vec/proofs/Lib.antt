pub mod PlaceLemmas
pub mod CarryLemmas
pub mod RoomLemmas
