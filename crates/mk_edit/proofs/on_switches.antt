-- Lemmas. Lines that become comments, and comments that become assignments again.
pub mod SwitchPlans
