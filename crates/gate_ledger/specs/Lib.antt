-- SPDX-License-Identifier: Apache-2.0
pub mod Calls
pub mod Ledger
pub mod Claim
pub mod Valid
pub mod Conservation
pub mod Opened
pub mod Cheats
