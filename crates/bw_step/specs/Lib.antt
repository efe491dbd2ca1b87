pub mod Stages
pub mod Proposals
pub mod ProposalView
pub mod Steps
pub mod Tellings
pub mod Trails
pub mod Texts
pub mod Actions
