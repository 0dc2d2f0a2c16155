mod FirstLaws
pub mod LinkedLaws
mod MovingLaws
mod NormalLaws
mod RingLaws
mod Scanning
mod SideLaws
pub mod VertexLaws
pub mod WorkLaws
