-- SPDX-License-Identifier: Apache-2.0
-- Lists of calls that meet the premises, by computation: the theorem is not empty, and it shuts out other answers. Assumes nothing.
pub mod Premises
pub mod Words
pub mod Hits
pub mod Sizes
pub mod Carried
pub mod Accounts
pub mod Limits
pub mod Ends
pub mod Theorem
