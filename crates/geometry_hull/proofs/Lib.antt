pub mod HullLaws
