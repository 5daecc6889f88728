-- What the contracts of `sitedesk` cite.
pub mod Serving
