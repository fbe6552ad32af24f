mod Cuts
mod Digits
mod Ends
mod Pieces
mod Verbs
