pub mod bdt_fdt_lemmas
pub mod routes_lemmas
pub mod priority_lemmas
