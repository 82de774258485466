pub mod bdt_fdt
pub mod routes
pub mod priority
