mod StartupLemmas
pub mod AppendLemmas
pub mod rule_changes_lemmas
pub mod metrics_lemmas
