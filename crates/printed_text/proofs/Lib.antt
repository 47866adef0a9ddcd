mod Examples
pub mod HexLaws
