-- SPDX-License-Identifier: Apache-2.0
-- The lists of the ledger: its keys and its tokens. Assumes nothing.
pub mod Lists
pub mod Apart
pub mod Slots
pub mod Tokens
pub mod Changes
