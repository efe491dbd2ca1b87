-- Lemmas of the halves of a page.
pub mod HalfPages
