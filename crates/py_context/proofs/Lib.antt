pub mod ExpressionPlaces
pub mod StatementPlaces
