-- Lists of calls on a pile, as C makes them; the stores of a call; how far the word of a pile that has passed lies from other numbers.
pub mod Moves
pub mod Stores
pub mod Words
