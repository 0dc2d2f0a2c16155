pub mod ByMeaning
pub mod EveryOf
pub mod KeyedLaws
pub mod LinkLaws
pub mod Meaning
pub mod RisingLaws
pub mod SideLaws
pub mod SiftLaws
pub mod UpFromLaws
mod Values
