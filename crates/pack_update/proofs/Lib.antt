pub mod Steps
pub mod Loops
pub mod FileAnswers
mod OneRule
mod OnePrivateKey
mod OnePublicKey
mod OneAnswer
