-- Numbers that are not refused, and cells as floats; the error bound of computed side values; edges on the chart; what such
-- a bound decides; agreement with exactly inside; replies; cell centres; outlines; the walk; two kinds of hull; specimens.
pub mod Numbers
pub mod Side
pub mod Edges
pub mod Apart
pub mod Agreement
pub mod Named
pub mod Centre
pub mod Outlines
pub mod Walks
pub mod Hulls
pub mod Specimens
