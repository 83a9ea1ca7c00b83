-- SPDX-License-Identifier: Apache-2.0
-- The relation between a table and a ledger, what each change of the ledger is beside a change of one slot, and what the claim asks of the
-- two. Assumes nothing.
pub mod Orderly
pub mod Placed
pub mod Agree
pub mod Steps
pub mod Counts
pub mod Places
pub mod Holds
