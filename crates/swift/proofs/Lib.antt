-- What sorting does to an order.
pub mod Orders
