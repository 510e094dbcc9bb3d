mod OneOrder
mod Ran
