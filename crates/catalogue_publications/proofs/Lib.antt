pub mod PublicationLineLemmas
pub mod PublicationParts
pub mod PublicationRead
pub mod PublicationText
pub mod PublicationValid
pub mod PublicationValues
pub mod PublicationWrite
