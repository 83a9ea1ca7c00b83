-- SPDX-License-Identifier: Apache-2.0
pub mod Orderly
pub mod Refusals
pub mod Shown
pub mod Places
