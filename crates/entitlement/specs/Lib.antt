pub mod Entitlement
