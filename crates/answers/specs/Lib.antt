pub mod Answer
pub mod Compare
pub mod Figures
pub mod Exact
pub mod ExactFigures
