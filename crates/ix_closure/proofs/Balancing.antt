-- Each event keeps a state balanced.
pub mod BankSound
pub mod EventBalance
pub mod EventBanks
pub mod Opening
pub mod RecordedFacts
