-- SPDX-License-Identifier: Apache-2.0
-- Each call on a table that agrees with a ledger: its answer is the ledger's, and table and ledger agree after it. Assumes nothing.
pub mod Tokens
pub mod Lookup
pub mod Remove
pub mod Expected
pub mod Access
pub mod Reclaim
pub mod Resize
