-- Laws of the tests below a bound, of a list's members and of two lists; functions with one value replaced; prefixes of lists; integers:
-- sizes, order, differences of naturals, sums and products; weighted means; weights of lists without repeats.
pub mod BelowLaws
pub mod SearchLaws
pub mod EachLaws
pub mod PutLaws
pub mod Same
pub mod Prefix
pub mod Sizes
pub mod IntegerOrder
pub mod Differences
pub mod IntegerRing
pub mod Mean
pub mod Weights
