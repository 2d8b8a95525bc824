-- Words over two ordered letters (contract 3.7 to 3.10): letters and order, Lyndon words and factors, Christoffel words by remainders and
-- by counts; then what the searches return.
pub mod Word
pub mod Lyndon
pub mod Christoffel
pub mod Counted
pub mod parts
