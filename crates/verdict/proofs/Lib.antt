-- The specimens; the laws of a verdict, one for each branch; its number; what it says about the hull and the cells, about the same block
-- drawn
-- differently, and about convex blocks; the published rule.
pub mod Computes
pub mod Specimens
pub mod Chain
pub mod VerdictLaws
pub mod Numbers
pub mod Cells
pub mod Drawn
pub mod Convex
pub mod BackSteps
pub mod Rule
pub mod RuleSpecimens
