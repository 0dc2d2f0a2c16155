mod CheckLaws
pub mod CountLaws
mod RayLaws
mod RowLaws
pub mod SomeLaws
mod TriangleLaws
mod TurnLaws
