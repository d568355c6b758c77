pub mod OpenTickets
