mod Names
mod Firsts
mod Lowests
mod Rounds
mod Joins
