pub mod BatchLemmas
pub mod CertificateLemmas
pub mod RefusalLemmas
pub mod RowLemmas
pub mod SolveLemmas
pub mod TablingLemmas
