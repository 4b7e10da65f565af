mod Pieces
mod Opcodes
mod OneRow
mod Back
mod Same
