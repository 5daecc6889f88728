-- Demand 3: the exact book of document 01, and how far the desk may be from it.
pub mod Entry
pub mod Book
pub mod Agreement
pub mod Actions
pub mod TextCalls
pub mod WrittenCalls
pub mod TextLetters
pub mod Claim
pub mod Soundness
pub mod CaseS
pub mod TwoLogics
pub mod Chords
pub mod FarTone
pub mod FirstMuted
pub mod Unplayable
pub mod Placeholders
pub mod LetterRows
